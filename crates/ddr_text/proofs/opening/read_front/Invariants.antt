use Rattle.std.proofs.Common.{◌≡◌, ◌≤◌, ◌-◌, length}
use Rattle.std.specs.Io.KnownBytes.{Consumes}
use Rattle.ddr_io.specs.Line.{next_bytes}
use Rattle.ddr_io.specs.declared.line_reader.Line.TheVariants.{Text}
use Rattle.ddr_text.proofs.OpeningLines.{Continues, GoesBefore}
use Rattle.ddr_text.proofs.opening.read_front.Given as goal

-- the text of the whole is that of what is left, behind the text so far
abbrev pub invariant-loop-reader : goal.invariant-loop-reader
invariant-loop-reader g l = record {
  taken : Consumes (next_bytes l.initial.reader.held (g.S.Source.left l.initial.source)) (next_bytes l.reader.held (g.S.Source.left l.source)) l.text;
  continues : Continues (next_bytes l.initial.reader.held (g.S.Source.left l.initial.source)) l.text (next_bytes l.reader.held (g.S.Source.left l.source));
  before : GoesBefore l.text;
  few : length l.text ≤ 65536;
  going_on : l.reader.last ≡ Text;
  counted : g.S.Source.faults l.source ≡ g.S.Source.faults l.initial.source;
}

abbrev pub decreases-loop-reader : goal.decreases-loop-reader
decreases-loop-reader g l = 65536 - length l.text
