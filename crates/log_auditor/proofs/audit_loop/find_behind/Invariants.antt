use Rattle.std.proofs.Common.{◌≡◌, ◌+◌, ◌-◌, List}
use Rattle.ddr_io.specs.Line.{next_bytes}
use Rattle.ddr_text.specs.declared.lines.ReportLine.{ReportLine}
use Rattle.log_auditor.specs.AuditSoFar.{Reads}
use Rattle.ddr_text.specs.ReportReading.{most_lines}
use Rattle.log_auditor.proofs.audit_loop.find_behind.Given as goal

abbrev pub invariant-loop-line : goal.invariant-loop-line
invariant-loop-line g l = record {
  read : (lines : List ReportLine) × Reads l.header (next_bytes l.fn.reader.held (g.S.Source.left l.fn.source)) l.finding l.auditor l.lines (next_bytes l.lines.reader.held (g.S.Source.left l.source)) lines;
  kept : g.S.Source.faults l.source ≡ g.S.Source.faults l.fn.source;
}

abbrev pub decreases-loop-line : goal.decreases-loop-line
decreases-loop-line g l = most_lines + 1 - l.lines.number
