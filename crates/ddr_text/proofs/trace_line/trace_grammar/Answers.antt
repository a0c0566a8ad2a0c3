use Rattle.ddr_text.proofs.TraceLaws.{trace_grammar as law}
use Rattle.ddr_text.proofs.trace_line.trace_grammar.Goals as goal

pub returns : goal.returns
returns c = law
