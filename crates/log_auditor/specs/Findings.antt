-- What an audit finds in the bytes of a report, and what it writes.
use Rattle.std.specs.Prelude.{ℕ, suc, ◌≡◌, ◌-◌, ⊤, Bool, true, false, if◌then◌else◌, List, [], ◌∷◌, ◌++◌, codes, reverse, slice_index, Some, None}
use Rattle.std.specs.declared.option.Option.{Option}
use Rattle.std.specs.Io.KnownBytes.{Appends}
use Rattle.ddr_io.specs.Sink.{AppendsPrefix}
use Rattle.ddr_io.specs.declared.status.Status.{Status}
use Rattle.ddr_io.specs.declared.status.Status.TheVariants as status
use Rattle.ddr_text.specs.Io.{Io}
use Rattle.ddr_text.specs.Opening.{Opens, Accepts, Refuses, opening_of, parts_of}
use Rattle.ddr_text.specs.Outcome.{ReadsAll}
use Rattle.ddr_text.specs.ReportParts.{Refusal, places_of}
use Rattle.ddr_text.specs.Spelling.{spaced, spelled}
use Rattle.ddr_text.specs.declared.lines.ReportLine.{ReportLine}
use Rattle.ddr_text.specs.declared.lines.ReportLine.TheVariants.{Issued, Value, Flip, Stat, End, Refused as RefusedLine}
use Rattle.speed_bin.specs.Log.{Log}
use Rattle.speed_bin.specs.Rules.{verdict, verdict_at_end}
use Rattle.speed_bin.specs.declared.header.Header.{Header}
use Rattle.speed_bin.specs.Header.{shape_of}
use Rattle.ddr_text.specs.ReportReading.{Lines, lines_in}
use Rattle.log_auditor.specs.declared.finding.Finding.{Finding}
use Rattle.log_auditor.specs.declared.finding.Finding.TheVariants.{Fine, Broken, Refused}
use Rattle.ddr_text.specs.declared.report_reader.Stage.TheVariants.{Body}

-- ---- The verdict on lines

-- the log of the C lines, newest first
abbrev pub log_of : List ReportLine → Log
log_of lines = reverse (places_of lines)

-- the clock of the E line
abbrev pub end_of : List ReportLine → Option ℕ
end_of [] = None
end_of (End clock ∷ lines) = Some clock
end_of (Issued clock command ∷ lines) = end_of lines
end_of (Value number line bytes state ∷ lines) = end_of lines
end_of (Flip clock line device bit ∷ lines) = end_of lines
end_of (Stat name number ∷ lines) = end_of lines
end_of (RefusedLine line reason ∷ lines) = end_of lines

abbrev pub is_place : ReportLine → Bool
is_place (Issued clock command) = true
is_place (End clock) = true
is_place (Value number line bytes state) = false
is_place (Flip clock line device bit) = false
is_place (Stat name number) = false
is_place (RefusedLine line reason) = false

-- the numbers of the C lines and the E line, which are the places of the log and its end, where the first line has this
-- number
abbrev pub numbers_from : ℕ → List ReportLine → List ℕ
numbers_from number [] = []
numbers_from number (line ∷ lines) = if is_place line then number ∷ numbers_from (suc number) lines else numbers_from (suc number) lines

-- the first place of the log at which a rule fails, and the least rule there; the E line, if there is one, is a place too
abbrev pub breach_at : Header → Option ℕ → Log → Option (ℕ × ℕ)
breach_at h None log = verdict h log
breach_at h (Some clock) log = verdict_at_end h clock log

-- the line of a place, in place of the place
abbrev pub on_line : List ℕ → Option (ℕ × ℕ) → Option (ℕ × ℕ)
on_line numbers None = None
on_line numbers (Some breach) = Some (slice_index numbers (breach.0 - 1), breach.1)

-- the number of the first line at which a rule fails, and the least rule there
abbrev pub breach_of : Header → List ReportLine → Option (ℕ × ℕ)
breach_of h lines = on_line (numbers_from 1 lines) (breach_at h (end_of lines) (log_of lines))

-- ---- Findings

abbrev pub fine_or : Option (ℕ × ℕ) → Finding
fine_or None = Fine
fine_or (Some breach) = Broken breach.0 (record { 0 = breach.1 })

abbrev pub is_fine : Finding → Bool
is_fine Fine = true
is_fine (Broken line rule) = false
is_fine (Refused line reason) = false

-- a line that is refused comes before a rule that is broken, wherever it stands
abbrev pub refused_or : Option Refusal → Finding → Finding
refused_or None finding = finding
refused_or (Some refusal) finding = Refused refusal.line refusal.reason

abbrev pub found_behind : Header → Lines → Finding
found_behind h found = refused_or found.refusal (fine_or (breach_of h found.lines))

abbrev pub found_in : Opens → Finding
found_in (Accepts h text rest) = found_behind h (lines_in (shape_of h) Body 1 (parts_of rest))
found_in (Refuses reason) = Refused 0 reason

-- what is found in the bytes of a report
abbrev pub finding_of : List ℕ → Finding
finding_of bytes = found_in (opening_of bytes)

-- ---- What is written

-- the line that says that this rule is broken at the line with this number, the first one at which any is
unfoldable pub broken_text : ℕ → ℕ → List ℕ
broken_text line rule = codes "A broken" ++ spaced line ++ spaced rule ++ codes "\n"

-- the one line of a finding
unfoldable pub finding_text : Finding → List ℕ
finding_text Fine = codes "A ok\n"
finding_text (Broken line rule) = broken_text line rule.0
finding_text (Refused line reason) = spelled (RefusedLine line reason)

abbrev pub status_of : Finding → Status
status_of Fine = status.Ok
status_of (Broken line rule) = status.Broken
status_of (Refused line reason) = status.Refused

-- the finding is that of the bytes, where they are known
abbrev pub Finds : Option (List ℕ) → Finding → Type 0
Finds None finding = ⊤
Finds (Some bytes) finding = finding_of bytes ≡ finding

-- the finding was written
abbrev pub Writes : Status → Option (List ℕ) → Option (List ℕ) → Option (List ℕ) → Type 0
Writes answer bytes before after = (finding : Finding) × Finds bytes finding × (answer ≡ status_of finding) × Appends before after (finding_text finding)

-- a prefix of it was written
abbrev pub BeginsToWrite : Option (List ℕ) → Option (List ℕ) → Option (List ℕ) → Type 0
BeginsToWrite bytes before after = (finding : Finding) × Finds bytes finding × AppendsPrefix before after (finding_text finding)

-- What an audit answers, by the bytes that its source had and has left, and those that its sink got. A report without a
-- line to refuse was read to its end.
abbrev pub Answers : Status → Io → Type 0
Answers status.Ok io = Writes status.Ok io.had io.written_before io.written_after × ReadsAll io.had io.left
Answers status.Broken io = Writes status.Broken io.had io.written_before io.written_after × ReadsAll io.had io.left
Answers status.Refused io = Writes status.Refused io.had io.written_before io.written_after
Answers status.ReadFault io = BeginsToWrite io.had io.written_before io.written_after
Answers status.WriteFault io = BeginsToWrite io.had io.written_before io.written_after
Answers status.OutOfMemory io = BeginsToWrite io.had io.written_before io.written_after
Answers status.Usage io = ⊥
