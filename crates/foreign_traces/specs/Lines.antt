-- The lines of a report and of a job that are made of a trace.
use Rattle.std.specs.Prelude.{ℕ, ◌≡◌, ◌+◌, ◌<◌, ◌^◌, true, ◌++◌, List, [], ◌∷◌, length, ⊤}
use Rattle.std.specs.List.{flat_map}
use Rattle.std.specs.Io.KnownBytes.{Appends}
use Rattle.std.specs.declared.option.Option.{Option}
use Rattle.command_words.specs.Command.{IsInRange}
use Rattle.command_words.specs.Geometry.{Shape, lines_of}
use Rattle.command_words.specs.declared.command.Command.{Command}
use Rattle.ddr_text.specs.AcceptedReport.{IsReportLine}
use Rattle.ddr_text.specs.ReportGrammar.{has_place}
use Rattle.ddr_text.specs.Spelling.{spelled}
use Rattle.ddr_text.specs.declared.lines.ReportLine.{ReportLine}
use Rattle.ddr_text.specs.declared.lines.TraceLine.{TraceLine}
use Rattle.ddr_text.specs.declared.lines.TraceLine.TheVariants.{Read, Write, Flip, Idle}
use Rattle.made_jobs.specs.TraceText.{spelled_line}
use Rattle.foreign_traces.specs.declared.command_trace.Entry.{Entry}
use Rattle.foreign_traces.specs.declared.command_trace.Entry.TheVariants.{Issued, Lacking, Nothing}
use Rattle.foreign_traces.specs.declared.report_of.Placed.{Placed}
use Rattle.foreign_traces.specs.declared.report_of.Placed.TheVariants.{At, Out, Refused}

-- the parts of a command are in range, and a subchannel of this shape has the place that it names
abbrev pub IsCommandOf : Shape → Command → Type 0
IsCommandOf g command = IsInRange command × (has_place g command ≡ true)

-- what a line of a trace says, where it says a command, is one of this shape
abbrev pub IsEntryOf : Shape → Entry → Type 0
IsEntryOf g (Issued clock command) = IsCommandOf g command
IsEntryOf g (Lacking lacking) = ⊤
IsEntryOf g Nothing = ⊤

-- a command that has its place in a report is one of this shape, and its clock leaves room for the end
abbrev pub IsPlaced : Shape → Placed → Type 0
IsPlaced g (At placed) = (placed.clock + 262144 < 2 ^ 48) × IsCommandOf g placed.command
IsPlaced g Out = ⊤
IsPlaced g (Refused fault) = ⊤

-- each is a line of a report of this shape
abbrev pub AreReportLines : Shape → List ReportLine → Type 0
AreReportLines g [] = ⊤
AreReportLines g (line ∷ lines) = IsReportLine g line × AreReportLines g lines

-- this text was written, and behind it lines of a report of this shape
pub record IsReport (g : Shape) (text : List ℕ) (before after : Option (List ℕ)) : Type 0 where
  pub lines : List ReportLine
  pub are_lines : AreReportLines g lines
  pub written : Appends before after (text ++ flat_map spelled lines)

-- a read or a write of a line of this shape
abbrev pub IsRequest : Shape → TraceLine → Type 0
IsRequest g (Read line) = line < lines_of g
IsRequest g (Write line bytes) = line < lines_of g
IsRequest g (Flip line device bit) = ⊥
IsRequest g (Idle clocks) = ⊥

-- each is one
abbrev pub AreRequests : Shape → List TraceLine → Type 0
AreRequests g [] = ⊤
AreRequests g (line ∷ lines) = IsRequest g line × AreRequests g lines

-- this text was written, and behind it so many reads and writes of lines of this shape
pub record IsJob (g : Shape) (text : List ℕ) (count : ℕ) (before after : Option (List ℕ)) : Type 0 where
  pub lines : List TraceLine
  pub are_requests : AreRequests g lines
  pub many : length lines ≡ count
  pub written : Appends before after (text ++ flat_map spelled_line lines)
