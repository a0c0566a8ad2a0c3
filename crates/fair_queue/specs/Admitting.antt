-- What is admitted of a queue.
use Rattle.std.specs.Prelude.{ℕ, ◌≡◌, ◌≢◌, Option, Some, None, List, []}
use Rattle.fair_queue.specs.Machine.{Queued, first_rest, next_port, queue_of, without_first}

-- the first rest, where there is one
abbrev pub Admits : List (List ℕ) → Option (List ℕ) → Type 0
Admits rests None = rests ≡ []
Admits rests (Some rest) = (rests ≢ []) × (rest ≡ first_rest rests)

-- the first rest of the next port, where there is one
abbrev pub AdmitsIf : Queued → Queued → Option ℕ → Option (List ℕ) → Type 0
AdmitsIf old new None result = (new ≡ old) × (result ≡ None)
AdmitsIf old new (Some port) result = (new ≡ without_first old port) × (result ≡ Some (first_rest (queue_of old port)))

abbrev pub IsAdmitted : Queued → Queued → Option (List ℕ) → Type 0
IsAdmitted old new result = AdmitsIf old new (next_port old) result
