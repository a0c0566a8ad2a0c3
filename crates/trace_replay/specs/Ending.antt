-- The lines that end a report.
use Rattle.std.specs.Prelude.{ℕ, Option, Some, None, List, [], ◌∷◌, ◌++◌}
use Rattle.ddr_text.specs.declared.lines.ReportLine.{ReportLine}
use Rattle.ddr_text.specs.declared.lines.ReportLine.TheVariants.{End as EndLine, Refused as RefusedLine}
use Rattle.reports.specs.Stats.{stat_lines}
use Rattle.trace_replay.specs.Counts.{with_peak}
use Rattle.trace_replay.specs.declared.ending.Ending.{Ending}
use Rattle.trace_replay.specs.declared.replay_state.Ahead.{Ahead}
use Rattle.trace_replay.specs.declared.replay_state.Ahead.TheVariants.{Unknown, NextLine, Passes, End, Refused}

-- the reason of the line that was refused, where one was
abbrev pub reason_in : Ahead → Option ℕ
reason_in Unknown = None
reason_in (NextLine line) = None
reason_in (Passes clocks) = None
reason_in End = None
reason_in (Refused reason) = Some reason

-- the X line of a refusal: the number of the line that was refused, and the reason
abbrev pub refused_line : Option (ℕ × ℕ) → List ReportLine
refused_line None = []
refused_line (Some refusal) = RefusedLine refusal.0 refusal.1 ∷ []

-- the S lines, the E line, and the X line where a line was refused
abbrev pub end_lines : Ending → List ReportLine
end_lines it = stat_lines (with_peak it.counts it.peak) it.scrub ++ EndLine it.clock ∷ refused_line it.refusal
