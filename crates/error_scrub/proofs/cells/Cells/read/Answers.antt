use Rattle.std.proofs.Common.{ℕ, ◌∙◌, ap}
use Rattle.error_scrub.specs.Cells.{cells_shape, line_read}
use Rattle.error_scrub.proofs.LineBytes.{read_none}
use Rattle.error_scrub.proofs.ZeroWords.{line_is}
use Rattle.error_scrub.proofs.cells.Cells.read.Goals as goal

pub returns-in-Some : goal.returns-in-Some
unfolding cells_shape
returns-in-Some c =
    c.read_stored.ensures ∙ line_is c.args.self.now c.get-line.result _ c.in-Some.ensures.value
    ∙ ap (λ (line : ℕ). line_read c.args.self.now line) (c.get-line.ensures.number ∙ c.unmap.ensures.line)

pub returns-in-None : goal.returns-in-None
unfolding cells_shape
returns-in-None c =
    read_none ∙ line_is c.args.self.now c.get-line.result _ c.in-None.ensures.value
    ∙ ap (λ (line : ℕ). line_read c.args.self.now line) (c.get-line.ensures.number ∙ c.unmap.ensures.line)
