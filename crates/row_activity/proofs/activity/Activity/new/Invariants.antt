use Rattle.std.proofs.Common.{◌≡◌, ◌<◌, ℕ, [], length}
use Rattle.row_activity.specs.Standing.{BankFor, bank_at}
use Rattle.row_activity.proofs.activity.Activity.new.Given as goal

abbrev pub invariant-loop : goal.invariant-loop
invariant-loop l = record {
  long : length l.banks.items ≡ l.counter;
  fresh : (b : ℕ) → b < l.counter → BankFor (bank_at l.banks.items b) l.header b [];
}
