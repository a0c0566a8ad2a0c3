-- What a script does, line by line: what the devices are given, what is written, and what ends it.
use Rattle.std.specs.Prelude.{ℕ, ◌+◌, if◌then◌else◌, Option, Some, None, List, [], ◌∷◌, ◌++◌, Result, Ok, Err}
use Rattle.std.specs.List.{flat_map}
use Rattle.command_words.specs.Kinds.{is_wr}
use Rattle.command_words.specs.Place.{place_of}
use Rattle.command_words.specs.declared.command.Command.{Command}
use Rattle.command_words.specs.declared.command.Command.TheVariants.{Rd}
use Rattle.ddr_io.specs.declared.status.Status.{Status}
use Rattle.ddr_io.specs.declared.status.Status.TheVariants as status
use Rattle.ddr_text.specs.ReportParts.{Refusal}
use Rattle.ddr_text.specs.Spelling.{spelled}
use Rattle.ddr_text.specs.declared.lines.ReportLine.{ReportLine}
use Rattle.ddr_text.specs.declared.lines.ReportLine.TheVariants.{Issued as IssuedLine, Value as ValueLine, Flip as FlipLine, End as EndLine, Refused as RefusedLine}
use Rattle.device_core.specs.Standing.{with_command}
use Rattle.device_core.specs.Steps.{Step, Flips, log_of}
use Rattle.device_core.specs.Stored.{line_at}
use Rattle.error_scrub.specs.declared.cells.LineRead.{LineRead}
use Rattle.speed_bin.specs.Header.{shape_of}
use Rattle.speed_bin.specs.Log.{Issued as Place, Log}
use Rattle.speed_bin.specs.Rules.{broken, broken_at_end}
use Rattle.speed_bin.specs.declared.header.Header.{Header}
use Rattle.log_auditor.specs.Findings.{broken_text}
use Rattle.ddr_text.specs.Outcome.{Outcome}
use Rattle.device_exec.specs.Reading.{Lines}
use Rattle.device_exec.specs.declared.script_line.ScriptLine.{ScriptLine}
use Rattle.device_exec.specs.declared.script_line.ScriptLine.TheVariants.{Issued, Bytes, Flip, End}
use Rattle.device_exec.specs.declared.script_reader.Stage.{Stage}
use Rattle.device_exec.specs.declared.script_reader.Stage.TheVariants as stage

-- ---- The devices

-- how many devices there are, what a reading of a line finds after some steps, and the lines before the E line
pub record Devices : Type 0 where
  pub count : ℕ
  pub reading : Header → List Step → ℕ → LineRead
  pub counts : Header → List Step → List ReportLine

-- ---- How far a script is

-- what may come next: any line but a B line, the bytes of a WR, or nothing behind the end at this clock
pub data Phase : Type 0 where
  Ready : Phase
  Waits : Place → Phase
  Ended : ℕ → Phase

-- the stage of a reader there
abbrev pub stage_of : Phase → Stage
stage_of Ready = stage.Body
stage_of (Waits place) = stage.Awaits
stage_of (Ended clock) = stage.Ended clock

-- what the devices were given so far, what may come next, and the number of the next line
pub record Script : Type 0 where
  pub steps : List Step
  pub phase : Phase
  pub number : ℕ

abbrev pub begun : Script
begun = record { steps = []; phase = Ready; number = 1 }

abbrev pub next : Script → List Step → Phase → Script
next script steps phase = record { steps = steps; phase = phase; number = script.number + 1 }

-- ---- One line

-- a read that was answered: the number of its C line, its line, and what the devices were given before
pub record Answered : Type 0 where
  pub number : ℕ
  pub line : ℕ
  pub steps : List Step

-- a line goes on to the next, with what it writes and reads; or it breaks this rule
pub data Effect : Type 0 where
  Moves : List ReportLine → List Answered → Script → Effect
  Breaks : ℕ → Effect

abbrev pub placed : ℕ → Command → Place
placed clock command = record { clock = clock; command = command }

-- the clock of the last command, and 0 before the first
abbrev pub last_clock : Log → ℕ
last_clock [] = 0
last_clock (place ∷ log) = place.clock

-- an RD is answered
abbrev pub reads_of : Header → Script → Command → List Answered
reads_of h script (Rd bank column) = record { number = script.number; line = line_at h bank column (log_of script.steps); steps = script.steps } ∷ []
reads_of h script _ = []

-- the D line of a read
abbrev pub answer_line : Devices → Header → Answered → ReportLine
answer_line d h read = ValueLine read.number read.line (d.reading h read.steps read.line).bytes (d.reading h read.steps read.line).state

abbrev pub answer_lines : Devices → Header → List Answered → List ReportLine
answer_lines d h [] = []
answer_lines d h (read ∷ reads) = answer_line d h read ∷ answer_lines d h reads

-- a command that breaks no rule: a WR waits for its bytes, any other is given at once
abbrev pub given : Devices → Header → Script → ℕ → Command → Effect
given d h script clock command =
    if is_wr command
    then Moves (IssuedLine clock command ∷ []) [] (next script script.steps (Waits (placed clock command)))
    else Moves (IssuedLine clock command ∷ answer_lines d h (reads_of h script command)) (reads_of h script command)
    (next script (with_command clock command None script.steps) Ready)

abbrev pub unless_broken : Option ℕ → Effect → Effect
unless_broken (Some rule) effect = Breaks rule
unless_broken None effect = effect

-- the WR that waits is given with its bytes
abbrev pub written : Phase → List ℕ → List Step → List Step
written (Waits place) bytes steps = with_command place.clock place.command (Some bytes) steps
written Ready bytes steps = steps
written (Ended clock) bytes steps = steps

-- what a line does
abbrev pub acted : Devices → Header → Script → ScriptLine → Effect
acted d h script (Issued clock command) = unless_broken (broken h clock command (log_of script.steps)) (given d h script clock command)
acted d h script (Bytes bytes) = Moves [] [] (next script (written script.phase bytes script.steps) Ready)
acted d h script (Flip line device bit) =
    Moves (FlipLine (last_clock (log_of script.steps)) line device bit ∷ []) [] (next script (Flips (place_of line (shape_of h)) device bit ∷ script.steps) Ready)
acted d h script (End clock) = unless_broken (broken_at_end h clock (log_of script.steps)) (Moves [] [] (next script script.steps (Ended clock)))

-- ---- All lines

-- what comes of a script: the lines that are written, the rule that a line breaks with the number of that line, the status, the
-- reads that were answered, and what the devices were given in all
pub record Execution : Type 0 where
  pub lines : List ReportLine
  pub breach : Option (ℕ × ℕ)
  pub status : Status
  pub reads : List Answered
  pub steps : List Step

-- these lines and reads in front
abbrev pub behind : List ReportLine → List Answered → Execution → Execution
behind lines reads rest = record { lines = lines ++ rest.lines; breach = rest.breach; status = rest.status; reads = reads ++ rest.reads; steps = rest.steps }

-- the script is read to this end: the counts and the E line are written, or the X line
abbrev pub ended : Devices → Header → Script → Result ℕ Refusal → Execution
ended d h script (Ok clock) = record { lines = d.counts h script.steps ++ EndLine clock ∷ []; breach = None; status = status.Ok; reads = []; steps = script.steps }
ended d h script (Err refusal) = record { lines = RefusedLine refusal.line refusal.reason ∷ []; breach = None; status = status.Refused; reads = []; steps = script.steps }

-- a rule is broken
abbrev pub broken_off : Script → ℕ → Execution
broken_off script rule = record { lines = []; breach = Some (script.number, rule); status = status.Broken; reads = []; steps = script.steps }

abbrev pub followed : Script → Effect → (Script → Execution) → Execution
followed script (Moves lines reads later) go_on = behind lines reads (go_on later)
followed script (Breaks rule) go_on = broken_off script rule

-- what comes of these lines of a script that is so far, and of how it ends behind them
abbrev pub run_from : Devices → Header → Script → List ScriptLine → Result ℕ Refusal → Execution
run_from d h script [] ending = ended d h script ending
run_from d h script (line ∷ lines) ending = followed script (acted d h script line) (λ later. run_from d h later lines ending)

-- the same of the lines as they were read
abbrev pub ran : Devices → Header → Script → Lines → Execution
ran d h script found = run_from d h script found.lines found.ending

-- ---- What is written

abbrev pub breach_text : Option (ℕ × ℕ) → List ℕ
breach_text None = []
breach_text (Some breach) = broken_text breach.0 breach.1

-- the lines, and behind them the verdict where a rule is broken
abbrev pub text_of : Execution → List ℕ
text_of it = flat_map spelled it.lines ++ breach_text it.breach

abbrev pub outcome_of : List ℕ → Execution → Outcome
outcome_of front it = record { text = front ++ text_of it; status = it.status }
