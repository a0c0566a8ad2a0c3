use Rattle.std.proofs.Common.{◌==◌, refl, arith}
use Rattle.timing_rules.proofs.NoBlock.{none_there}
use Rattle.timing_rules.proofs.spans.after_write.Goals as goal

pub returns : goal.returns
returns c = λ write. record {
  bus = refl;
  floor = let e = c.max.ensures in omega (arith, e);
  act = refl;
  rd = refl;
  wr = refl;
  act_group = λ g. none_there (0 == g);
  rd_group = λ g. none_there (0 == g);
  wr_group = λ g. none_there (0 == g);
  act_bank = λ b. refl;
  column = λ b. refl;
  pre = λ b. refl;
  closed = λ b. refl;
}
