-- What a merge does for each port.
use Rattle.std.specs.Prelude.{ℕ, suc, ◌≡◌, ◌≤◌, ◌<◌, ◌==◌, ◌++◌, ⊤, false, if◌then◌else◌, List, [], ◌∷◌, length}
use Rattle.fair_queue.specs.Arrivals.{Arrival, AreInside}
use Rattle.fair_queue.specs.Machine.{Queued, Round, all_rounds, empty, is_empty, queue_of}

-- the rests that are admitted of a port, in their order
abbrev pub admitted_of : ℕ → List Round → List (List ℕ)
admitted_of port [] = []
admitted_of port (round ∷ rounds) = if round.port == port then round.rest ∷ admitted_of port rounds else admitted_of port rounds

-- the rests of its lines
abbrev pub arrived_of : ℕ → List Arrival → List (List ℕ)
arrived_of port [] = []
arrived_of port (arrival ∷ arrivals) = if arrival.port == port then arrival.rest ∷ arrived_of port arrivals else arrived_of port arrivals

-- how often a port is admitted
abbrev pub times : ℕ → List Round → ℕ
times port [] = 0
times port (round ∷ rounds) = if round.port == port then suc (times port rounds) else times port rounds

-- each of the rounds leaves the port out, although its queue is not empty
abbrev pub LeavesOut : ℕ → List Round → Type 0
LeavesOut port [] = ⊤
LeavesOut port (round ∷ rounds) = ((round.port == port) ≡ false) × (is_empty (queue_of round.from port) ≡ false) × LeavesOut port rounds

-- four queues
pub record IsReady (queued : Queued) (arrivals : List Arrival) : Type 0 where
  pub four : length queued.queues ≡ 4
  pub turn : queued.turn < 4
  pub inside : AreInside arrivals

-- Each port's rests are admitted in their order, each once. While the queue of a port is not empty between two of its
-- admissions, each other port is admitted at most once between them.
pub record IsFair (arrivals : List Arrival) : Type 0 where
  pub order : (port : ℕ) → port < 4 → admitted_of port (all_rounds empty arrivals) ≡ arrived_of port arrivals
  pub turns : (before between after : List Round) (first : Round) (other : ℕ) → all_rounds empty arrivals ≡ before ++ first ∷ (between ++ after)
      → LeavesOut first.port between → times other between ≤ 1
