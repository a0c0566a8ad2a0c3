use Rattle.std.proofs.Common.{◌≡◌, ◌<◌, ℕ, false}
use Rattle.bank_state.specs.Standing.{StandsFor as BanksFor}
use Rattle.command_words.specs.Kinds.{effect}
use Rattle.speed_bin.specs.Alert.{closes}
use Rattle.speed_bin.specs.Log.{Log, open_at}
use Rattle.row_activity.proofs.activity.closes_some.Given as goal

abbrev pub invariant-loop-number : goal.invariant-loop-number
invariant-loop-number l = (log : Log) → BanksFor l.open_rows log → (b : ℕ) → b < l.number → closes (effect b l.command) (open_at b log) ≡ false
