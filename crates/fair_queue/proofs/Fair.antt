-- A merge is fair to its ports.
use Rattle.std.proofs.Common.{◌≡◌, ◌∙◌, ℕ, zero, suc, List, [], ◌++◌, refl, ap, arith}
use Rattle.ddr_text.specs.Opening.{parts_of}
use Rattle.fair_queue.specs.Arrivals.{input_of}
use Rattle.fair_queue.specs.Machine.{empty, queue_of}
use Rattle.fair_queue.specs.Turns.{arrived_of, IsFair, IsReady}
use Rattle.fair_queue.proofs.Alternating.{takes-turns}
use Rattle.fair_queue.proofs.Order.{order}
use Rattle.fair_queue.proofs.Rounds.{input-inside}

-- at first
pub ready : (bytes : List ℕ) → IsReady empty (input_of bytes).lines
ready bytes = record { four = refl; turn = omega arith; inside = input-inside 1 (parts_of bytes) }

none-queued-first : (port : ℕ) → queue_of empty port ≡ []
none-queued-first zero = refl
none-queued-first (suc zero) = refl
none-queued-first (suc (suc zero)) = refl
none-queued-first (suc (suc (suc zero))) = refl
none-queued-first (suc (suc (suc (suc port)))) = refl

pub fair : (bytes : List ℕ) → IsFair (input_of bytes).lines
fair bytes = record {
  order = λ port low. order empty (input_of bytes).lines port (ready bytes) low ∙ ap (λ q. q ++ arrived_of port (input_of bytes).lines) (none-queued-first port);
  turns = λ before between last first other. takes-turns empty (input_of bytes).lines before between last first other (ready bytes);
}
