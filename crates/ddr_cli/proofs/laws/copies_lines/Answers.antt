use Rattle.speed_bin.specs.Header.{shape_of}
use Rattle.ddr_text.specs.declared.report_reader.Stage.TheVariants.{Body}
use Rattle.ddr_cli.proofs.Copied.{copied-bytes}
use Rattle.ddr_cli.proofs.laws.copies_lines.Goals as goal

pub returns : goal.returns
returns c = λ bytes heading h rest w. copied-bytes c.report_lines.ensures (shape_of h) Body rest w.fine
