use Rattle.std.proofs.Common.{◌≡◌, ◌+◌}
use Rattle.error_scrub.specs.Cells.{cells_shape}
use Rattle.error_scrub.proofs.tests.scrub_on.Given as goal

abbrev pub invariant-loop : goal.invariant-loop
invariant-loop l = record {
  shape : l.scrub.shape ≡ l.initial.scrub.shape;
  cells : cells_shape l.cells ≡ cells_shape l.initial.cells;
  steps : l.scrub.steps ≡ l.initial.scrub.steps + l.counter;
}
