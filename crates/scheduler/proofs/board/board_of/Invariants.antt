use Rattle.std.proofs.Common.{◌≡◌, ℕ, ◌<◌, take, slice_get, Some}
use Rattle.command_words.specs.Command.{bank_number}
use Rattle.speed_bin.specs.Log.{Log, open_at}
use Rattle.speed_bin.specs.declared.header.Header.{Header}
use Rattle.scheduler.specs.Ledger.{StandsFor}
use Rattle.requests.specs.Queue.{in_bank, hits}
use Rattle.requests.specs.declared.waiting.Waiting.{Waiting}
use Rattle.scheduler.specs.Board.{kept, first_at}
use Rattle.scheduler.proofs.board.board_of.Given as goal

abbrev pub invariant-loop-at : goal.invariant-loop-at
invariant-loop-at l = record {
  oldest : (b : ℕ) → b < 32 → kept l.board.oldest b ≡ first_at (in_bank b) (take l.at l.queue);
  hit : (h : Header) (log : Log) → StandsFor l.ledger h log → (b : ℕ) → b < 32 → kept l.board.hit b ≡ first_at (hits b (open_at b log)) (take l.at l.queue);
  banks : (i : ℕ) (w : Waiting) → i < l.at → slice_get l.queue i ≡ Some w → bank_number w.place.bank < 32;
}
