-- Stored words, and their readings, are those of the list of changes.
use Rattle.std.proofs.Common.{◌≡◌, ◌∙◌, ℕ, ◌+◌, refl, ap, subst, arith, List, ◌∷◌, length}
use Rattle.command_words.specs.Geometry.{Shape}
use Rattle.error_scrub.specs.declared.cells.Cells.{Cells}
use Rattle.error_scrub.specs.Cells.{cells_shape, line_read, scrubbed, ChangesLine}
use Rattle.error_scrub.specs.Changes.{Change, scrubs, StandsFor as CellsFor}
use Rattle.error_scrub.specs.Scrubbing.{Step as Visit, Tally, words_at, line_after, StandsFor as ScrubFor}
use Rattle.device_core.specs.Stored.{reading, words_after}
use Rattle.device_core.specs.Store.{StandsFor}
use Rattle.device_core.specs.declared.store.Store.{Store}

pub read_line : (cells : Cells) (changes : List Change) (line : ℕ) → CellsFor cells changes → line_read cells line ≡ reading changes line
unfolding CellsFor line_read reading
read_line cells changes line s =
    rw (s.words line 0 (omega arith), s.words line 1 (omega arith), s.words line 2 (omega arith), s.words line 3 (omega arith)) refl

words_same : (cells : Cells) (changes : List Change) (line : ℕ) → CellsFor cells changes → words_at cells line ≡ words_after changes line
unfolding CellsFor
words_same cells changes line s =
    rw (s.words line 0 (omega arith), s.words line 1 (omega arith), s.words line 2 (omega arith), s.words line 3 (omega arith)) refl

abbrev pub Scrubs : Type 0
Scrubs = (old new : Cells) (line : ℕ) (log : List Change) → ChangesLine old new line (scrubbed old line) → CellsFor old log → CellsFor new (scrubs line ∷ log)

-- one visit later
pub visited : (law : Scrubs) (old : Store) (cells : Cells) (scrub : Tally) (g : Shape) (changes : List Change) (visits : List Visit)
    → StandsFor old g changes visits
    → ChangesLine old.cells cells (line_after old.scrub.shape old.scrub.steps) (scrubbed old.cells (line_after old.scrub.shape old.scrub.steps))
    → cells_shape cells ≡ cells_shape old.cells
    → ((log : List Visit) → ScrubFor old.scrub log → ScrubFor scrub (words_at old.cells (line_after old.scrub.shape old.scrub.steps) ∷ log))
    → scrub.steps ≡ old.scrub.steps + 1
    → scrub.shape ≡ old.scrub.shape
    → StandsFor (record { cells = cells; scrub = scrub }) g (scrubs (line_after g (length visits)) ∷ changes) (words_after changes (line_after g (length visits)) ∷ visits)
unfolding StandsFor
visited law old cells scrub g changes visits s changed same stands steps shape = record {
  shape = same ∙ s.shape;
  scrub_shape = shape ∙ s.scrub_shape;
  cells = subst (λ (line : ℕ). CellsFor cells (scrubs line ∷ changes)) at (law old.cells cells _ changes changed s.cells);
  scrub = subst (λ (visit : Visit). ScrubFor scrub (visit ∷ visits)) found (stands visits s.scrub);
  steps = let many = s.steps in omega arith;
}
  where
    at : line_after old.scrub.shape old.scrub.steps ≡ line_after g (length visits)
    at = let a = s.scrub_shape in let b = s.steps in rw (a, b) refl

    found : words_at old.cells (line_after old.scrub.shape old.scrub.steps) ≡ words_after changes (line_after g (length visits))
    found = words_same old.cells changes _ s.cells ∙ ap (λ (line : ℕ). words_after changes line) at
