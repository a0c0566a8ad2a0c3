-- Where in a queue the first request stands that passes a test, and what a board says of it.
use Rattle.std.specs.Prelude.{ℕ, suc, ◌<◌, ◌≡◌, Bool, true, false, Option, Some, None, List, [], ◌∷◌, if◌then◌else◌, slice_index_or, slice_get}
use Rattle.command_words.specs.Command.{bank_number}
use Rattle.speed_bin.specs.Log.{Log, open_at}
use Rattle.requests.specs.Queue.{in_bank, hits}
use Rattle.requests.specs.declared.waiting.Waiting.{Waiting}
use Rattle.scheduler.specs.declared.board.Board.{Board}

-- the entry of a bank
abbrev pub kept : List (Option ℕ) → ℕ → Option ℕ
kept xs b = slice_index_or xs b None

-- what was there before, or else this index if the test holds
abbrev pub or_at : Option ℕ → Bool → ℕ → Option ℕ
or_at (Some before) test at = Some before
or_at None true at = Some at
or_at None false at = None

abbrev pub first_from : ℕ → (Waiting → Bool) → List Waiting → Option ℕ
first_from n test [] = None
first_from n test (w ∷ ws) = if test w then Some n else first_from (suc n) test ws

-- the index of the first request that passes the test
abbrev pub first_at : (Waiting → Bool) → List Waiting → Option ℕ
first_at test ws = first_from 0 test ws

-- the board has each bank's oldest request, and its oldest one in the open row
pub record IsBoardOf (board : Board) (ws : List Waiting) (log : Log) : Type 0 where
  pub oldest : (b : ℕ) → b < 32 → kept board.oldest b ≡ first_at (in_bank b) ws
  pub hit : (b : ℕ) → b < 32 → kept board.hit b ≡ first_at (hits b (open_at b log)) ws
  pub banks : (i : ℕ) (w : Waiting) → slice_get ws i ≡ Some w → bank_number w.place.bank < 32
