use Rattle.std.proofs.Common.{◌≡◌, ◌<◌, ◌≤◌, ◌∷◌, ℕ, length}
use Rattle.bank_state.specs.Standing.{StandsFor as BanksFor}
use Rattle.speed_bin.specs.Log.{Log}
use Rattle.speed_bin.specs.declared.header.Header.{Header}
use Rattle.row_activity.specs.Counted.{MayCount}
use Rattle.row_activity.specs.Standing.{StandsFor, BankFor, bank_at}
use Rattle.row_activity.proofs.activity.Activity.follow.Given as goal

abbrev pub invariant-loop-number : goal.invariant-loop-number
invariant-loop-number l = record {
  alert : l.self.alert ≡ l.initial.self.alert;
  peak : l.self.peak ≡ l.initial.self.peak;
  long : length l.self.banks.items ≡ 32;
  done : (h : Header) (log : Log) → StandsFor l.initial.self h log → BanksFor l.open_rows log → MayCount h l.clock l.command log → h.settings ≡ l.thresholds → (b : ℕ) → b < l.number → BankFor (bank_at l.self.banks.items b) h b (record { clock = l.clock; command = l.command } ∷ log);
  left : (b : ℕ) → l.number ≤ b → bank_at l.self.banks.items b ≡ bank_at l.initial.self.banks.items b;
}
