-- Which requests wait. A controller's log stands newest first, as the log of its commands does; requests stand in the
-- order in which they were offered, under the numbers 1, 2, 3 and so on.
use Rattle.std.specs.Prelude.{ℕ, ◌+◌, ◌-◌, ◌<◌, ◌==◌, ◌≡◌, ◌⊎◌, Bool, false, not, ◌&&◌, ◌||◌, Option, Some, None, List, [], ◌∷◌, length, map, filter, if◌then◌else◌, ⊤}
use Rattle.command_words.specs.Command.{bank_number}
use Rattle.command_words.specs.Geometry.{Shape, lines_of}
use Rattle.command_words.specs.Place.{place_of}
use Rattle.speed_bin.specs.Log.{Issued, Log}
use Rattle.speed_bin.specs.declared.header.Header.{Header}
use Rattle.requests.specs.declared.request.Request.{Request}
use Rattle.requests.specs.declared.waiting.Waiting.{Waiting}
use Rattle.speed_bin.specs.Header.{shape_of}
use Rattle.speed_bin.specs.Counters.{is_row}

-- ---- The log with its numbers

-- a place of the log, and the number of the request that it serves, if it serves one
pub record Step : Type 0 where
  pub issued : Issued
  pub id : Option ℕ

-- the log of the commands: the places without their numbers
abbrev pub places : List Step → Log
places log = map (λ step. step.issued) log

abbrev pub is_number : ℕ → Option ℕ → Bool
is_number n None = false
is_number n (Some id) = id == n

-- some place of the log serves the request with this number
abbrev pub is_served : ℕ → List Step → Bool
is_served n [] = false
is_served n (step ∷ log) = is_number n step.id || is_served n log

-- ---- The requests with their numbers and places

-- each requested line is one of the header's
abbrev pub AreInside : Header → List Request → Type 0
AreInside h [] = ⊤
AreInside h (request ∷ requests) = (request.line < lines_of (shape_of h)) × AreInside h requests

-- the request under this number, with the place of its line
abbrev pub waiting_as : Shape → ℕ → Request → Waiting
waiting_as g n request = record { id = n; request = request; place = place_of request.line g }

-- the requests under the numbers from n on
abbrev pub numbered : Header → ℕ → List Request → List Waiting
numbered h n [] = []
numbered h n (request ∷ requests) = waiting_as (shape_of h) n request ∷ numbered h (n + 1) requests

-- the offered requests that no place serves, the oldest first
abbrev pub waiting : Header → List Request → List Step → List Waiting
waiting h offered log = filter (λ w. not (is_served w.id log)) (numbered h 1 offered)

-- no place serves a number that was not offered
abbrev pub AreKnown : List Request → List Step → Type 0
AreKnown offered log = (n : ℕ) → length offered < n → is_served n log ≡ false

-- ---- The bounds of the queue

-- how many requests stand from the oldest waiting one to the newest offered one, of so many offered
abbrev pub span : ℕ → List Waiting → ℕ
span offered [] = 0
span offered (w ∷ ws) = offered + 1 - w.id

-- no more can be offered: 32 wait, or 64 stand from the oldest waiting one to the newest offered one
abbrev pub IsFull : ℕ → List Waiting → Type 0
IsFull offered ws = (length ws ≡ 32) ⊎ (span offered ws ≡ 64)

-- ---- The oldest of some

abbrev pub in_bank : ℕ → Waiting → Bool
in_bank b w = bank_number w.place.bank == b

-- the request lies in the bank and in its open row; nothing hits a closed bank
abbrev pub hits : ℕ → Option ℕ → Waiting → Bool
hits b open_row w = in_bank b w && is_row open_row w.place.row

-- the request is for this line
abbrev pub is_of_line : ℕ → Waiting → Bool
is_of_line line w = w.request.line == line

-- the first of the list that passes the test
abbrev pub oldest : (Waiting → Bool) → List Waiting → Option Waiting
oldest test [] = None
oldest test (w ∷ ws) = if test w then Some w else oldest test ws
