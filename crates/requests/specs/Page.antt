-- What keeps the open page: when a closed bank may be opened again.
use Rattle.std.specs.Prelude.{ℕ, ◌<◌, ◌≡◌, ◌≢◌, ◌⊎◌, Bool, true, false, Some, None, List}
use Rattle.command_words.specs.Kinds.{Effect, Opens, Closes, Manages, Refreshes, Leaves}
use Rattle.speed_bin.specs.Log.{Log, open_at}
use Rattle.speed_bin.specs.Page.{last_row}
use Rattle.requests.specs.declared.waiting.Waiting.{Waiting}
use Rattle.requests.specs.Queue.{in_bank, oldest}

-- the effect of a REF or RFM, or a scrub: after it the bank's last row may be opened again
abbrev pub is_managing : Effect → Bool → Bool
is_managing (Opens row) scrub = false
is_managing Closes scrub = false
is_managing Manages scrub = true
is_managing Refreshes scrub = true
is_managing Leaves scrub = scrub

-- the oldest waiting request of the bank is of another row
pub record Another (b row : ℕ) (ws : List Waiting) : Type 0 where
  pub request : Waiting
  pub oldest_of : oldest (in_bank b) ws ≡ Some request
  pub differs : request.place.row ≢ row

-- an open bank's row is its last one; a closed bank is excused, or its oldest request is of another row than its last.
-- Excused is a bank whose next ACT comes after a REF, RFM or ECS that covers it, or never.
pub record IsPaged (excused : ℕ → Bool) (ws : List Waiting) (log : Log) : Type 0 where
  pub open_last : (b row : ℕ) → b < 32 → open_at b log ≡ Some row → last_row b log ≡ Some row
  pub another : (b row : ℕ) → b < 32 → open_at b log ≡ None → last_row b log ≡ Some row → (excused b ≡ true) ⊎ Another b row ws

-- who was excused stays so
abbrev pub Excuses : (ℕ → Bool) → (ℕ → Bool) → Type 0
Excuses excused later = (b : ℕ) → b < 32 → excused b ≡ true → later b ≡ true
