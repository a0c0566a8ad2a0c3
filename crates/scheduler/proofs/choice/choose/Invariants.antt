use Rattle.std.proofs.Common.{◌≡◌, ℕ, ◌<◌, None, true, IfNone, IfSome}
use Rattle.speed_bin.specs.Log.{Log}
use Rattle.speed_bin.specs.declared.header.Header.{Header}
use Rattle.requests.specs.Queue.{in_bank}
use Rattle.scheduler.specs.Ledger.{StandsFor}
use Rattle.scheduler.specs.Board.{first_at}
use Rattle.scheduler.specs.Choice.{IsBestBelow, is_asked}
use Rattle.scheduler.proofs.choice.choose.Given as goal

abbrev pub invariant-loop-number : goal.invariant-loop-number
invariant-loop-number l = record {
  none : IfNone l.best ((b : ℕ) → b < l.number → is_asked l.asked b ≡ true → first_at (in_bank b) l.queue ≡ None);
  some : IfSome l.best (λ candidate. (h : Header) (log : Log) → StandsFor l.ledger h log → IsBestBelow l.number h l.queue log l.ledger.from l.asked candidate);
}
