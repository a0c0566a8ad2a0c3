use Rattle.std.proofs.Common.{◌==◌, refl, arith}
use Rattle.timing_rules.proofs.NoBlock.{none_there}
use Rattle.timing_rules.proofs.spans.after_all.Goals as goal

pub returns-clause-refresh : goal.returns-clause-refresh
returns-clause-refresh c = λ t is. record {
  bus = refl;
  floor = let some = c.requires in omega (arith, some, is);
  act = refl;
  rd = refl;
  wr = refl;
  act_group = λ g. none_there (0 == g);
  rd_group = λ g. none_there (0 == g);
  wr_group = λ g. none_there (0 == g);
  act_bank = λ b. refl;
  column = λ b. refl;
  pre = λ b. refl;
  closed = λ b. refl;
}

pub returns-clause-management : goal.returns-clause-management
returns-clause-management c = λ t is. record {
  bus = refl;
  floor = let some = c.requires in omega (arith, some, is);
  act = refl;
  rd = refl;
  wr = refl;
  act_group = λ g. none_there (0 == g);
  rd_group = λ g. none_there (0 == g);
  wr_group = λ g. none_there (0 == g);
  act_bank = λ b. refl;
  column = λ b. refl;
  pre = λ b. refl;
  closed = λ b. refl;
}

pub returns-clause-scrub : goal.returns-clause-scrub
returns-clause-scrub c = λ t is. record {
  bus = refl;
  floor = let some = c.requires in omega (arith, some, is);
  act = refl;
  rd = refl;
  wr = refl;
  act_group = λ g. none_there (0 == g);
  rd_group = λ g. none_there (0 == g);
  wr_group = λ g. none_there (0 == g);
  act_bank = λ b. refl;
  column = λ b. refl;
  pre = λ b. refl;
  closed = λ b. refl;
}
