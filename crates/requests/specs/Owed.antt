-- Owed banks: from an ACT to the first column.
use Rattle.std.specs.Prelude.{ℕ, zero, suc, ◌<◌, ◌≡◌, Bool, true, false, ◌&&◌, ◌||◌, if◌then◌else◌, Some, List, [], ◌∷◌}
use Rattle.command_words.specs.Command.{covers}
use Rattle.command_words.specs.declared.command.Command.{Command}
use Rattle.command_words.specs.Kinds.{Effect, Opens, Closes, Manages, Refreshes, Leaves, effect, is_rd, is_wr}
use Rattle.speed_bin.specs.Log.{Log, open_at}
use Rattle.requests.specs.declared.waiting.Waiting.{Waiting}
use Rattle.requests.specs.Queue.{hits, oldest}

-- RD or WR
abbrev pub is_column : Command → Bool
is_column c = is_rd c || is_wr c

abbrev pub owed_after : Effect → Bool → Bool → Bool
owed_after (Opens row) column before = true
owed_after Closes column before = false
owed_after Manages column before = before
owed_after Refreshes column before = before
owed_after Leaves column before = if column then false else before

-- the bank is open, and no column of it stands after its ACT
abbrev pub owed : ℕ → Log → Bool
owed b [] = false
owed b (place ∷ log) = owed_after (effect b place.command) (is_column place.command && covers place.command b) (owed b log)

unfoldable pub count_below : ℕ → (ℕ → Bool) → ℕ
count_below zero test = 0
count_below (suc n) test = if test n then suc (count_below n test) else count_below n test

-- how many banks are owed
unfoldable pub owed_count : Log → ℕ
owed_count log = count_below 32 (λ b. owed b log)

-- the bank is open, and a request waits that hits its row
pub record Promise (b : ℕ) (ws : List Waiting) (log : Log) : Type 0 where
  pub row : ℕ
  pub is_open : open_at b log ≡ Some row
  pub request : Waiting
  pub waits : oldest (hits b (Some row)) ws ≡ Some request

-- that holds of each owed bank
abbrev pub Promised : List Waiting → Log → Type 0
Promised ws log = (b : ℕ) → b < 32 → owed b log ≡ true → Promise b ws log

-- the command closes no owed bank
abbrev pub SparesOwed : Command → Log → Type 0
SparesOwed command log = (b : ℕ) → b < 32 → effect b command ≡ Closes → owed b log ≡ false
