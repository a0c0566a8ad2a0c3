-- What holds of every script that is run, whoever made it.
use Rattle.std.specs.Prelude.{ℕ, ◌≡◌, ◌≢◌, ◌≤◌, ◌+◌, ⊤, Option, Some, None, List, [], ◌∷◌, ◌++◌, Result, Ok, Err}
use Rattle.ddr_io.specs.declared.status.Status.{Status}
use Rattle.ddr_io.specs.declared.status.Status.TheVariants as status
use Rattle.ddr_text.specs.ReportParts.{Refusal}
use Rattle.ddr_text.specs.declared.lines.ReportLine.{ReportLine}
use Rattle.ddr_text.specs.declared.lines.ReportLine.TheVariants.{Issued as IssuedLine, Value, Flip as FlipLine, Stat, End as EndLine, Refused}
use Rattle.device_core.specs.Steps.{Step, log_of}
use Rattle.device_core.specs.Stored.{changes_of, reading}
use Rattle.error_scrub.specs.Reading.{IsGood}
use Rattle.error_scrub.specs.Tame.{AreGiven, IsTame, last_written}
use Rattle.speed_bin.specs.Counts.{peak}
use Rattle.speed_bin.specs.Header.{bound}
use Rattle.speed_bin.specs.Log.{Log}
use Rattle.speed_bin.specs.Rules.{broken, broken_at_end, verdict_at_end}
use Rattle.speed_bin.specs.declared.header.Header.{Header}
use Rattle.device_exec.specs.Executed.{execution, four_devices, script_lines}
use Rattle.device_exec.specs.Scripts.{Answered, Devices, answer_lines, placed}
use Rattle.device_exec.specs.declared.script_line.ScriptLine.{ScriptLine}
use Rattle.device_exec.specs.declared.script_line.ScriptLine.TheVariants.{Issued, Bytes, Flip, End}

-- ---- Reads

-- where a line took few turned bits since its last write, its reading has the bytes of that write, or zeros, and is not lost
pub record IsRight (h : Header) (read : Answered) : Type 0 where
  pub bytes : IsTame (changes_of h read.steps) read.line → (reading (changes_of h read.steps) read.line).bytes ≡ last_written (changes_of h read.steps) read.line
  pub state : IsTame (changes_of h read.steps) read.line → IsGood (reading (changes_of h read.steps) read.line).state

abbrev pub AreRight : Header → List Answered → Type 0
AreRight h [] = ⊤
AreRight h (read ∷ reads) = IsRight h read × AreRight h reads

-- the D lines among these lines
abbrev pub data_in : List ReportLine → List ReportLine
data_in [] = []
data_in (Value number line bytes state ∷ lines) = Value number line bytes state ∷ data_in lines
data_in (IssuedLine clock command ∷ lines) = data_in lines
data_in (FlipLine clock line device bit ∷ lines) = data_in lines
data_in (Stat name number ∷ lines) = data_in lines
data_in (EndLine clock ∷ lines) = data_in lines
data_in (Refused line reason ∷ lines) = data_in lines

-- the counts of these devices have no D line among them
abbrev pub CountNoReads : Devices → Type 0
CountNoReads d = (h : Header) (steps : List Step) → data_in (d.counts h steps) ≡ []

-- each RD has its D line, in their order
abbrev pub ShowsReads : Devices → Header → List ℕ → Type 0
ShowsReads d h rest = data_in (execution d h rest).lines ≡ answer_lines d h (execution d h rest).reads

-- before each of these reads the devices were given 64 bytes with each WR, and bits of codewords were turned alone
abbrev pub AreAnswered : Header → List Answered → Type 0
AreAnswered h [] = ⊤
AreAnswered h (read ∷ reads) = AreGiven (changes_of h read.steps) × AreAnswered h reads

-- each RD has its D line, in their order, and each D line is right
pub record ReadsWell (h : Header) (rest : List ℕ) : Type 0 where
  pub shown : ShowsReads four_devices h rest
  pub right : AreRight h (execution four_devices h rest).reads

-- ---- The bound

-- no row has more activations since its last mitigation than the bound
abbrev pub IsWithinBound : Header → List ℕ → Type 0
IsWithinBound h rest = peak h (log_of (execution four_devices h rest).steps) ≤ bound h

-- ---- Rules

-- the log of the C lines, behind a log
abbrev pub log_behind : Log → List ScriptLine → Log
log_behind log [] = log
log_behind log (Issued clock command ∷ lines) = log_behind (placed clock command ∷ log) lines
log_behind log (Bytes bytes ∷ lines) = log_behind log lines
log_behind log (Flip line device bit ∷ lines) = log_behind log lines
log_behind log (End clock ∷ lines) = log_behind log lines

-- the rule that this line breaks, or else what comes of the lines behind it
abbrev pub or_later : Option ℕ → ℕ → Option (ℕ × ℕ) → Option (ℕ × ℕ)
or_later (Some rule) number later = Some (number, rule)
or_later None number later = later

-- the first of these lines at which a rule fails, by its number, and the least rule there; the first line has this number
abbrev pub breach_in : Header → Log → ℕ → List ScriptLine → Option (ℕ × ℕ)
breach_in h log number [] = None
breach_in h log number (Issued clock command ∷ lines) = or_later (broken h clock command log) number (breach_in h (placed clock command ∷ log) (number + 1) lines)
breach_in h log number (Bytes bytes ∷ lines) = breach_in h log (number + 1) lines
breach_in h log number (Flip line device bit ∷ lines) = breach_in h log (number + 1) lines
breach_in h log number (End clock ∷ lines) = or_later (broken_at_end h clock log) number (breach_in h log (number + 1) lines)

-- a broken rule comes before a refusal behind it
abbrev pub status_by : Option (ℕ × ℕ) → Result ℕ Refusal → Status
status_by (Some breach) ending = status.Broken
status_by None (Err refusal) = status.Refused
status_by None (Ok clock) = status.Ok

-- every line is accepted, the last one is an E line with this clock, and the log of the C lines breaks no rule up to there
abbrev pub IsFlawless : Devices → Header → List ℕ → ℕ → Type 0
IsFlawless d h rest clock = ((script_lines d.count h rest).ending ≡ Ok clock) × (verdict_at_end h clock (log_behind [] (script_lines d.count h rest).lines) ≡ None)

-- neither a line nor a rule is named
abbrev pub IsUnblamed : Status → Type 0
IsUnblamed answer = (answer ≢ status.Refused) × (answer ≢ status.Broken)

-- The lines are judged in their order, by the rules alone: the first one that is refused, or at which a rule fails, ends the
-- script. Where there is none, the whole log breaks no rule, the end included; and only where that is so is the status Ok.
pub record JudgesInOrder (d : Devices) (h : Header) (rest : List ℕ) : Type 0 where
  pub breach : (execution d h rest).breach ≡ breach_in h [] 1 (script_lines d.count h rest).lines
  pub status_is : (execution d h rest).status ≡ status_by (execution d h rest).breach (script_lines d.count h rest).ending
  pub flawless : (clock : ℕ) → (execution d h rest).status ≡ status.Ok → (script_lines d.count h rest).ending ≡ Ok clock → IsFlawless d h rest clock
  pub ok : (clock : ℕ) → IsFlawless d h rest clock → (execution d h rest).status ≡ status.Ok
