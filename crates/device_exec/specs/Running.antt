-- How far a run of a script has come: what was read and written, and for what the device stands.
use Rattle.std.specs.Prelude.{ℕ, ◌≡◌, ⊤, List, [], ◌∷◌, Some, None, Result, Ok, Err}
use Rattle.std.specs.declared.option.Option.{Option}
use Rattle.std.specs.Io.KnownBytes.{Appends}
use Rattle.std.specs.List.{flat_map}
use Rattle.ddr_io.specs.Sink.{AppendsPrefix}
use Rattle.ddr_io.specs.declared.line_reader.Line.TheVariants.{Text as TextAnswer}
use Rattle.ddr_io.specs.declared.status.Status.{Status}
use Rattle.ddr_io.specs.declared.status.Status.TheVariants as status
use Rattle.ddr_text.specs.Spelling.{spelled}
use Rattle.ddr_text.specs.declared.lines.ReportLine.{ReportLine}
use Rattle.ddr_text.specs.declared.lines.ReportLine.TheVariants.{Value as ValueLine}
use Rattle.log_auditor.specs.declared.verdict.Rule.{Rule}
use Rattle.speed_bin.specs.Header.{shape_of}
use Rattle.speed_bin.specs.declared.header.Header.{Header}
use Rattle.device_exec.specs.Executed.{execution, four_devices}
use Rattle.ddr_text.specs.Outcome.{Outcome}
use Rattle.device_exec.specs.Reading.{Place, lines_left, stage_after}
use Rattle.device_exec.specs.ScriptGrammar.{IsScriptLine}
use Rattle.device_exec.specs.Scripts.{Answered, Effect, Moves, Breaks, Script, behind, outcome_of, ran, stage_of}
use Rattle.device_exec.specs.Standing.{StandsFor}
use Rattle.device_exec.specs.declared.checked_device.Answer.{Answer}
use Rattle.device_exec.specs.declared.checked_device.CheckedDevice.{CheckedDevice}
use Rattle.device_exec.specs.declared.script_line.ScriptLine.{ScriptLine}
use Rattle.device_exec.specs.declared.script_reader.Stage.{Stage}
use Rattle.ddr_text.specs.declared.stop.Stop.{Stop}

-- ---- One line

-- the D line of an answer, with this number
abbrev pub data_lines : ℕ → Option Answer → List ReportLine
data_lines number None = []
data_lines number (Some answer) = ValueLine number answer.line answer.read.bytes answer.read.state ∷ []

-- the checked device stands for the script so far, whose next line has this number, and this line may stand there
pub record IsAt (device : CheckedDevice) (h : Header) (script : Script) (number : ℕ) (line : ScriptLine) : Type 0 where
  pub stands : StandsFor device h script.steps script.phase
  pub numbered : number ≡ script.number
  pub inside : IsScriptLine (shape_of h) 4 line
  pub place : (after : Stage) × (stage_after (stage_of script.phase) line ≡ Some after)

abbrev pub MayAct : CheckedDevice → ℕ → ScriptLine → Type 0
MayAct device number line = (h : Header) × (script : Script) × IsAt device h script number line

-- what was done of the effect of a line: all of it, or it was found to break a rule; or a prefix of its lines was written
abbrev pub Acts : Result (Option Rule) Stop → Effect → Header → CheckedDevice → Option (List ℕ) → Option (List ℕ) → Type 0
Acts (Ok None) (Moves lines reads next) h new before after = StandsFor new h next.steps next.phase × Appends before after (flat_map spelled lines)
Acts (Ok None) (Breaks rule) h new before after = ⊥
Acts (Ok (Some rule)) (Moves lines reads next) h new before after = ⊥
Acts (Ok (Some rule)) (Breaks number) h new before after = (number ≡ rule.0) × (after ≡ before)
Acts (Err stop) (Moves lines reads next) h new before after = AppendsPrefix before after (flat_map spelled lines)
Acts (Err stop) (Breaks rule) h new before after = ⊥

-- a piece that was written, or cut off, breaks no rule
abbrev pub gone_on : Result Unit Stop → Result (Option Rule) Stop
gone_on (Ok done) = Ok None
gone_on (Err stop) = Err stop

-- ---- All lines

-- what comes of the bytes at first is these lines and reads, and then what comes of those that are left
abbrev pub ContinuesAs : Header → Option (List ℕ) → List ReportLine → List Answered → Script → Place → Option (List ℕ) → Type 0
ContinuesAs h None lines reads script it left = ⊤
ContinuesAs h (Some bytes) lines reads script it None = ⊥
ContinuesAs h (Some bytes) lines reads script it (Some left) = execution four_devices h bytes ≡ behind lines reads (ran four_devices h script (lines_left it left))

-- some lines were read and carried out, and what they show was written
pub record RunsSoFar (h : Header) (start : Option (List ℕ)) (it : Place) (left : Option (List ℕ)) (device : CheckedDevice) (before after : Option (List ℕ)) : Type 0 where
  pub script : Script
  pub lines : List ReportLine
  pub reads : List Answered
  pub continued : ContinuesAs h start lines reads script it left
  pub stands : StandsFor device h script.steps script.phase
  pub stage : it.stage ≡ stage_of script.phase
  pub numbered : it.number ≡ script.number
  pub shape : it.shape ≡ shape_of h
  pub devices : it.devices ≡ 4
  pub written : Appends before after (flat_map spelled lines)
  pub last : it.reader.last ≡ TextAnswer

-- ---- Endings

-- a last piece was written whole, which has this status; or a prefix of it
abbrev pub Closes : Status → Status → List ℕ → Option (List ℕ) → Option (List ℕ) → Type 0
Closes whole status.Ok text before after = (whole ≡ status.Ok) × Appends before after text
Closes whole status.Refused text before after = (whole ≡ status.Refused) × Appends before after text
Closes whole status.Broken text before after = (whole ≡ status.Broken) × Appends before after text
Closes whole status.WriteFault text before after = AppendsPrefix before after text
Closes whole status.OutOfMemory text before after = AppendsPrefix before after text
Closes whole status.ReadFault text before after = ⊥
Closes whole status.Usage text before after = ⊥

-- that is what comes of the lines in these bytes, behind an opening
abbrev pub IsRunBehind : Header → Option (List ℕ) → Outcome → Type 0
IsRunBehind h None it = ⊤
IsRunBehind h (Some bytes) it = outcome_of [] (execution four_devices h bytes) ≡ it

-- the same with the text of the opening
abbrev pub IsOpened : Header → List ℕ → Option (List ℕ) → Outcome → Type 0
IsOpened h text None it = ⊤
IsOpened h text (Some bytes) it = outcome_of text (execution four_devices h bytes) ≡ it
