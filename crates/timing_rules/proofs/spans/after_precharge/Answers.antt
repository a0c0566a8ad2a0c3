use Rattle.std.proofs.Common.{◌==◌, refl}
use Rattle.command_words.specs.Command.{bank_number, is_at}
use Rattle.timing_rules.proofs.NoBlock.{none_there}
use Rattle.timing_rules.proofs.spans.after_precharge.Goals as goal

pub returns-clause-bank : goal.returns-clause-bank
returns-clause-bank c = λ bank. record {
  bus = refl;
  floor = refl;
  act = refl;
  rd = refl;
  wr = refl;
  act_group = λ g. none_there (bank.group == g);
  rd_group = λ g. none_there (bank.group == g);
  wr_group = λ g. none_there (bank.group == g);
  act_bank = λ b. refl;
  column = λ b. none_there (bank_number bank == b);
  pre = λ b. none_there (bank_number bank == b);
  closed = λ b. refl;
}

pub returns-clause-address : goal.returns-clause-address
returns-clause-address c = λ address. record {
  bus = refl;
  floor = refl;
  act = refl;
  rd = refl;
  wr = refl;
  act_group = λ g. none_there (0 == g);
  rd_group = λ g. none_there (0 == g);
  wr_group = λ g. none_there (0 == g);
  act_bank = λ b. refl;
  column = λ b. none_there (is_at address b);
  pre = λ b. none_there (is_at address b);
  closed = λ b. refl;
}

pub returns-clause-all : goal.returns-clause-all
returns-clause-all c = record {
  bus = refl;
  floor = refl;
  act = refl;
  rd = refl;
  wr = refl;
  act_group = λ g. none_there (0 == g);
  rd_group = λ g. none_there (0 == g);
  wr_group = λ g. none_there (0 == g);
  act_bank = λ b. refl;
  column = λ b. refl;
  pre = λ b. refl;
  closed = λ b. refl;
}
