use Rattle.std.proofs.Common.{◌≡◌}
use Rattle.ddr_io.specs.declared.line_reader.Line.TheVariants.{Text}
use Rattle.ddr_text.proofs.report_reader_tests.end_of.Given as goal

abbrev pub invariant-loop : goal.invariant-loop
invariant-loop l = l.report.reader.last ≡ Text
