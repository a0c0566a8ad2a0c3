use Rattle.std.proofs.Common.{◌==◌, if◌then◌else◌, refl, ap}
use Rattle.command_words.specs.Command.{is_at}
use Rattle.timing_rules.proofs.NoBlock.{none_there}
use Rattle.timing_rules.proofs.spans.after_same.Goals as goal

pub returns-clause-refresh : goal.returns-clause-refresh
returns-clause-refresh c = λ t address is. record {
  bus = refl;
  floor = refl;
  act = refl;
  rd = refl;
  wr = refl;
  act_group = λ g. none_there (0 == g);
  rd_group = λ g. none_there (0 == g);
  wr_group = λ g. none_there (0 == g);
  act_bank = λ b. ap (λ n. if is_at address b then n else 0) is;
  column = λ b. ap (λ n. if is_at address b then n else 0) is;
  pre = λ b. ap (λ n. if is_at address b then n else 0) is;
  closed = λ b. ap (λ n. if is_at address b then n else 0) is;
}

pub returns-clause-management : goal.returns-clause-management
returns-clause-management c = λ t address is. record {
  bus = refl;
  floor = refl;
  act = refl;
  rd = refl;
  wr = refl;
  act_group = λ g. none_there (0 == g);
  rd_group = λ g. none_there (0 == g);
  wr_group = λ g. none_there (0 == g);
  act_bank = λ b. ap (λ n. if is_at address b then n else 0) is;
  column = λ b. ap (λ n. if is_at address b then n else 0) is;
  pre = λ b. ap (λ n. if is_at address b then n else 0) is;
  closed = λ b. ap (λ n. if is_at address b then n else 0) is;
}
