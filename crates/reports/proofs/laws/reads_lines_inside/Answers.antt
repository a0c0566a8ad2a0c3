use Rattle.reports.proofs.Inside.{reads-inside}
use Rattle.reports.proofs.laws.reads_lines_inside.Goals as goal

pub returns : goal.returns
returns c = record { inside = reads-inside c.trace_grammar.ensures c.hex_gives_bytes.ensures.either }
