-- How a line of a report is written again.
use Rattle.std.specs.Prelude.{ℕ, List}
use Rattle.ddr_text.specs.Spelling.{spelled}
use Rattle.ddr_text.specs.declared.lines.ReportLine.{ReportLine}
use Rattle.ddr_cli.specs.Shown.{shown_line}
use Rattle.ddr_cli.specs.declared.writing.Wording.{Wording}
use Rattle.ddr_cli.specs.declared.writing.Wording.TheVariants.{Shown, Spelled}

-- in readable form, or as it is spelled
abbrev pub written_as : Wording → ReportLine → List ℕ
written_as Shown = shown_line
written_as Spelled = spelled
