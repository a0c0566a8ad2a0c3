-- What the stored lines and their scrub say of a list of changes.
use Rattle.std.specs.Prelude.{◌≡◌, List, length}
use Rattle.command_words.specs.Geometry.{Shape}
use Rattle.error_scrub.specs.Cells.{cells_shape, IsUnchanged as CellsUnchanged}
use Rattle.error_scrub.specs.Changes.{Change, StandsFor as CellsFor}
use Rattle.error_scrub.specs.Scrubbing.{Step as Visit, StandsFor as ScrubFor}
use Rattle.device_core.specs.declared.store.Store.{Store}

-- the cells stand for the changes, and the scrub for its visits, both of one shape
pub record Keeps (store : Store) (g : Shape) (changes : List Change) (visits : List Visit) : Type 0 where
  pub shape : cells_shape store.cells ≡ g
  pub scrub_shape : store.scrub.shape ≡ g
  pub cells : CellsFor store.cells changes
  pub scrub : ScrubFor store.scrub visits
  pub steps : store.scrub.steps ≡ length visits

unfoldable pub StandsFor : Store → Shape → List Change → List Visit → Type 0
StandsFor store g changes visits = Keeps store g changes visits

-- each stored word stays, and so does the scrub
pub record IsUnchanged (old new : Store) : Type 0 where
  pub cells : CellsUnchanged old.cells new.cells
  pub scrub : new.scrub ≡ old.scrub
