-- Four queues, one a port, which are filled in the order of the input and emptied in turn.
use Rattle.std.specs.Prelude.{ℕ, zero, suc, ◌+◌, ◌%◌, nat_lt, Bool, true, false, if◌then◌else◌, Option, Some, None, List, [], ◌∷◌, ◌++◌, drop, length, slice_index_or, slice_set}
use Rattle.fair_queue.specs.Arrivals.{Arrival}

-- the rests of each port that are not admitted yet, the oldest first, and the port at which the search for the next one begins
pub record Queued : Type 0 where
  pub queues : List (List (List ℕ))
  pub turn : ℕ

abbrev pub empty : Queued
empty = record { queues = [] ∷ [] ∷ [] ∷ [] ∷ []; turn = 0 }

abbrev pub queue_of : Queued → ℕ → List (List ℕ)
queue_of queued port = slice_index_or queued.queues port []

-- a queue has at most sixteen rests
abbrev pub has_room : Queued → ℕ → Bool
has_room queued port = nat_lt (length (queue_of queued port)) 16

-- ---- Filling

abbrev pub pushed : Queued → Arrival → Queued
pushed queued arrival = record { queues = slice_set queued.queues arrival.port (queue_of queued arrival.port ++ arrival.rest ∷ []); turn = queued.turn }

pub record Filled : Type 0 where
  pub queued : Queued
  pub left : List Arrival

-- each next line joins the queue of its port, as long as there is one and its queue is not full
abbrev pub filled : Queued → List Arrival → Filled
filled queued [] = record { queued = queued; left = [] }
filled queued (arrival ∷ arrivals) = if has_room queued arrival.port then filled (pushed queued arrival) arrivals else record { queued = queued; left = arrival ∷ arrivals }

-- ---- Admitting

abbrev pub after : ℕ → ℕ
after port = (port + 1) % 4

abbrev pub is_empty : List (List ℕ) → Bool
is_empty [] = true
is_empty (rest ∷ rests) = false

-- of so many ports in cyclic order from this one on, the first whose queue is not empty
abbrev pub first_of : Queued → ℕ → ℕ → Option ℕ
first_of queued zero port = None
first_of queued (suc count) port = if is_empty (queue_of queued port) then first_of queued count (after port) else Some port

-- the port whose first rest is admitted next
abbrev pub next_port : Queued → Option ℕ
next_port queued = first_of queued 4 queued.turn

abbrev pub first_rest : List (List ℕ) → List ℕ
first_rest [] = []
first_rest (rest ∷ rests) = rest

abbrev pub without_first : Queued → ℕ → Queued
without_first queued port = record { queues = slice_set queued.queues port (drop 1 (queue_of queued port)); turn = after port }

-- ---- Rounds

-- one admission: the port, its rest, and the queues from which it was taken
pub record Round : Type 0 where
  pub port : ℕ
  pub rest : List ℕ
  pub from : Queued

abbrev pub round_of : Queued → ℕ → Round
round_of queued port = record { port = port; rest = first_rest (queue_of queued port); from = queued }

abbrev pub admitted : Queued → Option ℕ → (Queued → List Round) → List Round
admitted queued None go_on = []
admitted queued (Some port) go_on = round_of queued port ∷ go_on (without_first queued port)

-- so many rounds: before each the queues are filled
abbrev pub rounds : ℕ → Queued → List Arrival → List Round
rounds zero queued arrivals = []
rounds (suc count) queued arrivals =
    admitted (filled queued arrivals).queued (next_port (filled queued arrivals).queued) (λ later. rounds count later (filled queued arrivals).left)

-- how many rests there are
abbrev pub total : List (List (List ℕ)) → ℕ
total [] = 0
total (queue ∷ queues) = length queue + total queues

abbrev pub in_queues : Queued → ℕ
in_queues queued = total queued.queues

abbrev pub size : Queued → List Arrival → ℕ
size queued arrivals = in_queues queued + length arrivals

-- all rounds: there is one for each rest
unfoldable pub all_rounds : Queued → List Arrival → List Round
all_rounds queued arrivals = rounds (size queued arrivals) queued arrivals
