-- Tame lines as they are said in words, over the changes of the stored words. The newest change stands first.
use Rattle.std.specs.Prelude.{ℕ, ◌≡◌, ◌≢◌, ◌⊎◌, List, [], ◌∷◌, ◌++◌, ⊤}
use Rattle.error_scrub.specs.Changes.{Change, wrote, turns, scrubs}

-- the line was not written among these changes
abbrev pub NoneWrites : ℕ → List Change → Type 0
NoneWrites line [] = ⊤
NoneWrites line (wrote at bytes ∷ changes) = (line ≢ at) × NoneWrites line changes
NoneWrites line (turns at of bit ∷ changes) = NoneWrites line changes
NoneWrites line (scrubs at ∷ changes) = NoneWrites line changes

-- the line was scrubbed among these changes
abbrev pub SomeScrubs : ℕ → List Change → Type 0
SomeScrubs line [] = ⊥
SomeScrubs line (wrote at bytes ∷ changes) = SomeScrubs line changes
SomeScrubs line (turns at of bit ∷ changes) = SomeScrubs line changes
SomeScrubs line (scrubs at ∷ changes) = (line ≡ at) ⊎ SomeScrubs line changes

-- Where two bits of the line and the device were turned after the last write of the line, or with no write of it since the
-- start, a scrub rewrote the line between them. So from that write on at most one was turned between two neighbouring rewrites,
-- and at most one after the last.
abbrev pub IsTameInWords : List Change → ℕ → ℕ → Type 0
IsTameInWords changes line device = (newer between older : List Change) (second first : ℕ)
    → changes ≡ newer ++ (turns line device second ∷ (between ++ (turns line device first ∷ older)))
    → NoneWrites line newer → NoneWrites line between → SomeScrubs line between
