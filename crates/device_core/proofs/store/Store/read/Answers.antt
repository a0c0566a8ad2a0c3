use Rattle.std.proofs.Common.{◌∙◌, ap}
use Rattle.command_words.specs.Geometry.{Shape}
use Rattle.command_words.specs.Place.{line_of}
use Rattle.error_scrub.specs.Cells.{line_read}
use Rattle.device_core.specs.Store.{StandsFor}
use Rattle.device_core.proofs.StoreLemmas.{read_line}
use Rattle.device_core.proofs.store.Store.read.Goals as goal

pub returns : goal.returns
unfolding StandsFor
returns c = λ g changes visits stands.
    c.read.ensures
    ∙ ap (λ (shape : Shape). line_read c.args.self.now.cells (line_of c.args.place shape)) stands.shape
    ∙ read_line c.args.self.now.cells changes (line_of c.args.place g) stands.cells
