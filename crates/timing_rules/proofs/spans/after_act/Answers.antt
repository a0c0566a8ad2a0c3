use Rattle.std.proofs.Common.{◌==◌, refl}
use Rattle.command_words.specs.Command.{bank_number}
use Rattle.timing_rules.proofs.NoBlock.{none_there}
use Rattle.timing_rules.proofs.spans.after_act.Goals as goal

pub returns : goal.returns
returns c = λ bank row. record {
  bus = refl;
  floor = refl;
  act = refl;
  rd = refl;
  wr = refl;
  act_group = λ g. refl;
  rd_group = λ g. none_there (bank.group == g);
  wr_group = λ g. none_there (bank.group == g);
  act_bank = λ b. refl;
  column = λ b. refl;
  pre = λ b. refl;
  closed = λ b. none_there (bank_number bank == b);
}
