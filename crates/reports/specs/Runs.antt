-- What a run did, step by step, and what it serves of the requests that it was offered. The newest step stands first.
use Rattle.std.specs.Prelude.{ℕ, ◌≡◌, ◌==◌, ◌||◌, Bool, false, if◌then◌else◌, Option, Some, None, List, [], ◌∷◌, ◌++◌, reverse, take, filter, not}
use Rattle.speed_bin.specs.Log.{Issued, Log}
use Rattle.device_core.specs.Stored.{also}
use Rattle.ddr_text.specs.declared.lines.TraceLine.{TraceLine}
use Rattle.reports.specs.Requests.{Request, requests, on, flips}

-- a command that was issued, and the request that it serves: there is one exactly where it is an RD or WR
pub record Served : Type 0 where
  pub issued : Issued
  pub request : Option Request

-- a step issues a command, or turns the stored bit that the F line with this number names
pub data Step : Type 0 where
  Issues : Served → Step
  Flips : ℕ → Step

abbrev pub Run : Type 0
Run = List Step

-- its commands at their clocks
abbrev pub log_of : Run → Log
log_of [] = []
log_of (Issues s ∷ run) = s.issued ∷ log_of run
log_of (Flips number ∷ run) = log_of run

-- the requests that it serves
abbrev pub served : Run → List Request
served [] = []
served (Issues s ∷ run) = also s.request (served run)
served (Flips number ∷ run) = served run

-- the F lines that it carried out
abbrev pub flipped : Run → List ℕ
flipped [] = []
flipped (Issues s ∷ run) = flipped run
flipped (Flips number ∷ run) = number ∷ flipped run

-- whether the request with this number is among these
abbrev pub has : ℕ → List Request → Bool
has number [] = false
has number (r ∷ rs) = (r.number == number) || has number rs

-- whether the run serves the request with this number
abbrev pub is_served : ℕ → Run → Bool
is_served number run = has number (served run)

-- those of the requests that it does not serve
abbrev pub unserved : List Request → Run → List Request
unserved rs run = filter (λ r. not (is_served r.number run)) rs

-- For each line the run served the first of the offered requests, in order, and these ones wait, in order.
abbrev pub Serves : List Request → Run → List Request → Type 0
Serves offered run waiting = (line : ℕ) → reverse (on line (served run)) ++ on line waiting ≡ on line offered

-- The request is an offered one, and of its line the run has served those before it and no others.
pub record IsNext (offered : List Request) (run : Run) (r : Request) : Type 0 where
  pub earlier : List Request
  pub later : List Request
  pub is_offered : offered ≡ earlier ++ r ∷ later
  pub in_order : reverse (on r.line (served run)) ≡ on r.line earlier

-- The run is through the first n lines of the trace: it serves exactly their requests, and carried out exactly their F
-- lines.
pub record IsThrough (trace : List TraceLine) (n : ℕ) (run : Run) : Type 0 where
  pub serves : Serves (requests (take n trace)) run []
  pub flips : reverse (flipped run) ≡ flips (take n trace)

-- ---- Before which request none is unserved

-- those of the requests, from the first on, with which and before which none is unserved
abbrev pub ready : List Request → Run → List Request
ready [] run = []
ready (r ∷ rs) run = if is_served r.number run then r ∷ ready rs run else []

-- the others: those from the first unserved one on
abbrev pub held : List Request → Run → List Request
held [] run = []
held (r ∷ rs) run = if is_served r.number run then held rs run else r ∷ rs
