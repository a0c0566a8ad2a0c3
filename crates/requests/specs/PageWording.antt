-- Open page as it is said in words, over the places of a log. The newest place stands first.
use Rattle.std.specs.Prelude.{ℕ, ◌<◌, ◌≡◌, ◌⊎◌, true, [], ◌∷◌, ◌++◌, ⊤}
use Rattle.command_words.specs.Kinds.{Opens, effect, is_scrub}
use Rattle.speed_bin.specs.Log.{Issued, Log}
use Rattle.requests.specs.Page.{is_managing}

-- no ACT of the bank is among these places
abbrev pub NoneOpens : ℕ → Log → Type 0
NoneOpens b [] = ⊤
NoneOpens b (place ∷ log) = ((row : ℕ) → effect b place.command ≡ Opens row → ⊥) × NoneOpens b log

-- a REF, RFM or ECS that covers the bank is among these places
abbrev pub SomeManages : ℕ → Log → Type 0
SomeManages b [] = ⊥
SomeManages b (place ∷ log) = (is_managing (effect b place.command) (is_scrub place.command) ≡ true) ⊎ SomeManages b log

-- where two ACTs of one bank open the same row, and no ACT of that bank stands between them, a REF, RFM or ECS that covers
-- the bank stands between them
abbrev pub IsOpenPage : Log → Type 0
IsOpenPage log = (b row : ℕ) → b < 32 → (newer between older : Log) (second first : Issued) → log ≡ newer ++ (second ∷ (between ++ (first ∷ older)))
    → effect b second.command ≡ Opens row → effect b first.command ≡ Opens row → NoneOpens b between → SomeManages b between
