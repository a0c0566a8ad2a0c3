-- How far an audit has come: the lines that it has read, and what it found in them.
use Rattle.std.specs.Prelude.{ℕ, suc, ◌≡◌, ⊤, false, List, length, Some, None}
use Rattle.std.specs.declared.option.Option.{Option}
use Rattle.ddr_io.specs.Sink.{AppendsPrefix}
use Rattle.ddr_io.specs.declared.line_reader.Line.TheVariants.{Text as TextAnswer}
use Rattle.ddr_io.specs.declared.status.Status.{Status}
use Rattle.ddr_io.specs.declared.status.Status.TheVariants as status
use Rattle.ddr_text.specs.Outcome.{ReadsAll}
use Rattle.ddr_text.specs.declared.lines.ReportLine.{ReportLine}
use Rattle.speed_bin.specs.declared.header.Header.{Header}
use Rattle.std.specs.Io.KnownBytes.{Appends}
use Rattle.log_auditor.specs.Auditing.{StandsFor}
use Rattle.speed_bin.specs.Header.{shape_of}
use Rattle.log_auditor.specs.Findings.{breach_of, end_of, fine_or, found_behind, log_of, finding_text, status_of}
use Rattle.ddr_text.specs.ReportReading.{LeftOf, Place, is_whole, lines_behind}
use Rattle.log_auditor.specs.declared.auditor.Auditor.{Auditor}
use Rattle.log_auditor.specs.declared.finding.Finding.{Finding}
use Rattle.log_auditor.specs.declared.finding.Finding.TheVariants.{Fine, Broken, Refused}
use Rattle.ddr_text.specs.declared.report_reader.Stage.{Stage}

-- The auditor took these lines, behind which a line with this number may stand at this stage, and found this. It took no
-- more of them once it found a rule broken.
pub record Audited (h : Header) (stage : Stage) (number : ℕ) (finding : Finding) (auditor : Auditor) (lines : List ReportLine) : Type 0 where
  pub numbered : number ≡ suc (length lines)
  pub going_on : is_whole stage ≡ false → end_of lines ≡ None
  pub found : finding ≡ fine_or (breach_of h lines)
  pub stands : finding ≡ Fine → is_whole stage ≡ false → StandsFor auditor h (log_of lines)

-- these lines were read behind the opening, and audited
pub record Reads (h : Header) (start : Option (List ℕ)) (finding : Finding) (auditor : Auditor) (it : Place) (left : Option (List ℕ)) (lines : List ReportLine) : Type 0 where
  pub audited : Audited h it.stage it.number finding auditor lines
  pub behind : LeftOf (lines_behind (shape_of h)) start lines it left
  pub shape : it.shape ≡ shape_of h
  pub last : it.reader.last ≡ TextAnswer

-- what is found behind an opening
abbrev pub FindsBehind : Header → Option (List ℕ) → Finding → Type 0
FindsBehind h None finding = ⊤
FindsBehind h (Some bytes) finding = found_behind h (lines_behind (shape_of h) bytes) ≡ finding

-- nothing is left, unless a line is refused
abbrev pub ReadsAllOf : Option (List ℕ) → Option (List ℕ) → Finding → Type 0
ReadsAllOf old new Fine = ReadsAll old new
ReadsAllOf old new (Broken line rule) = ReadsAll old new
ReadsAllOf old new (Refused line reason) = ⊤

-- ---- The answer

-- the line of a finding was written, or a prefix of it
abbrev pub IsWritten : Status → Finding → Option (List ℕ) → Option (List ℕ) → Type 0
IsWritten status.WriteFault finding before after = AppendsPrefix before after (finding_text finding)
IsWritten status.OutOfMemory finding before after = AppendsPrefix before after (finding_text finding)
IsWritten answer finding before after = (answer ≡ status_of finding) × Appends before after (finding_text finding)
