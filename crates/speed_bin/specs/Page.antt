-- Open page: a row stays open until another one of its bank is wanted, so none is opened again without need.
use Rattle.std.specs.Prelude.{ℕ, Bool, true, false, not, ◌&&◌, ◌==◌, if◌then◌else◌, [], ◌∷◌, Option, Some, None}
use Rattle.speed_bin.specs.Below.{all_below}
use Rattle.command_words.specs.Kinds.{Effect, Opens, Closes, Manages, Refreshes, Leaves, effect, is_scrub}
use Rattle.speed_bin.specs.Log.{Log}

-- what a command with this effect, which may be an ECS, leaves of the row that the bank's last ACT opened
abbrev pub last_row_after : Effect → Bool → Option ℕ → Option ℕ
last_row_after (Opens row) scrub before = Some row
last_row_after Manages scrub before = None
last_row_after Refreshes scrub before = None
last_row_after Closes scrub before = before
last_row_after Leaves scrub before = if scrub then None else before

-- the row that the bank's last ACT opened, unless a REF, RFM or ECS that covers the bank stands after it
abbrev pub last_row : ℕ → Log → Option ℕ
last_row b [] = None
last_row b (place ∷ log) = last_row_after (effect b place.command) (is_scrub place.command) (last_row b log)

-- the effect opens that row
abbrev pub reopens : Effect → Option ℕ → Bool
reopens (Opens row) (Some last) = row == last
reopens _ _ = false

-- no ACT opens the row that the last ACT of its bank opened, unless a REF, RFM or ECS that covers the bank stands between
abbrev pub keeps_page : Log → Bool
keeps_page [] = true
keeps_page (place ∷ log) = keeps_page log && all_below 32 (λ b. not (reopens (effect b place.command) (last_row b log)))
