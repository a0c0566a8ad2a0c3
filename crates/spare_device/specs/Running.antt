-- How far a run of a script has come: what was read and written, and for what the device stands.
use Rattle.std.specs.Prelude.{ℕ, ◌≡◌, ⊤, List, [], ◌∷◌, Some, None, Result, Ok, Err}
use Rattle.std.specs.declared.option.Option.{Option}
use Rattle.std.specs.Io.KnownBytes.{Appends}
use Rattle.std.specs.List.{flat_map}
use Rattle.ddr_io.specs.Sink.{AppendsPrefix}
use Rattle.ddr_io.specs.declared.line_reader.Line.TheVariants.{Text as TextAnswer}
use Rattle.ddr_text.specs.Spelling.{spelled}
use Rattle.ddr_text.specs.declared.lines.ReportLine.{ReportLine}
use Rattle.log_auditor.specs.declared.verdict.Rule.{Rule}
use Rattle.speed_bin.specs.Header.{shape_of}
use Rattle.speed_bin.specs.declared.header.Header.{Header}
use Rattle.device_exec.specs.Executed.{execution}
use Rattle.spare_device.specs.Spared.{five_devices}
use Rattle.ddr_text.specs.Outcome.{Outcome}
use Rattle.device_exec.specs.Reading.{Place, lines_left, stage_after}
use Rattle.device_exec.specs.ScriptGrammar.{IsScriptLine}
use Rattle.device_exec.specs.Scripts.{Answered, Phase, Effect, Moves, Breaks, Script, behind, outcome_of, ran, stage_of}
use Rattle.device_exec.specs.Standing.{StandsFor}
use Rattle.device_core.specs.Steps.{Step}
use Rattle.device_core.specs.Stored.{changes_of}
use Rattle.error_scrub.specs.Tame.{AreGiven}
use Rattle.device_exec.specs.declared.checked_device.Answer.{Answer}
use Rattle.spare_device.specs.StandIn.{restored, stood_steps}
use Rattle.device_exec.specs.declared.checked_device.CheckedDevice.{CheckedDevice}
use Rattle.device_exec.specs.declared.script_line.ScriptLine.{ScriptLine}
use Rattle.device_exec.specs.declared.script_reader.Stage.{Stage}
use Rattle.ddr_text.specs.declared.stop.Stop.{Stop}

-- ---- One line

-- what an RD shows, of what the live devices answered
abbrev pub answer_in : ℕ → Option Answer → Option Answer
answer_in dead (Some answer) = Some (record { line = answer.line; read = restored dead answer.read })
answer_in dead None = None

-- The checked device, in which the spare stands in the place of the dead device, stands for the steps that the five were given.
pub record SpareFor (dead : ℕ) (device : CheckedDevice) (h : Header) (steps : List Step) (phase : Phase) : Type 0 where
  pub stands : StandsFor device h (stood_steps dead steps) phase
  pub given : AreGiven (changes_of h steps)

-- the checked device stands for the script so far, whose next line has this number, and this line may stand there
pub record IsAt (dead : ℕ) (device : CheckedDevice) (h : Header) (script : Script) (number : ℕ) (line : ScriptLine) : Type 0 where
  pub stands : SpareFor dead device h script.steps script.phase
  pub numbered : number ≡ script.number
  pub inside : IsScriptLine (shape_of h) 5 line
  pub place : (after : Stage) × (stage_after (stage_of script.phase) line ≡ Some after)

abbrev pub MayAct : (dead : ℕ) → CheckedDevice → ℕ → ScriptLine → Type 0
MayAct dead device number line = (h : Header) × (script : Script) × IsAt dead device h script number line

-- what was done of the effect of a line: all of it, or it was found to break a rule; or a prefix of its lines was written
abbrev pub Acts : (dead : ℕ) → Result (Option Rule) Stop → Effect → Header → CheckedDevice → Option (List ℕ) → Option (List ℕ) → Type 0
Acts dead (Ok None) (Moves lines reads next) h new before after = SpareFor dead new h next.steps next.phase × Appends before after (flat_map spelled lines)
Acts dead (Ok None) (Breaks rule) h new before after = ⊥
Acts dead (Ok (Some rule)) (Moves lines reads next) h new before after = ⊥
Acts dead (Ok (Some rule)) (Breaks number) h new before after = (number ≡ rule.0) × (after ≡ before)
Acts dead (Err stop) (Moves lines reads next) h new before after = AppendsPrefix before after (flat_map spelled lines)
Acts dead (Err stop) (Breaks rule) h new before after = ⊥

-- ---- All lines

-- what comes of the bytes at first is these lines and reads, and then what comes of those that are left
abbrev pub ContinuesAs : (dead : ℕ) → Header → Option (List ℕ) → List ReportLine → List Answered → Script → Place → Option (List ℕ) → Type 0
ContinuesAs dead h None lines reads script it left = ⊤
ContinuesAs dead h (Some bytes) lines reads script it None = ⊥
ContinuesAs dead h (Some bytes) lines reads script it (Some left) = execution (five_devices dead) h bytes ≡ behind lines reads (ran (five_devices dead) h script (lines_left it left))

-- some lines were read and carried out, and what they show was written
pub record RunsSoFar (dead : ℕ) (h : Header) (start : Option (List ℕ)) (it : Place) (left : Option (List ℕ)) (device : CheckedDevice) (before after : Option (List ℕ)) : Type 0 where
  pub script : Script
  pub lines : List ReportLine
  pub reads : List Answered
  pub continued : ContinuesAs dead h start lines reads script it left
  pub stands : SpareFor dead device h script.steps script.phase
  pub stage : it.stage ≡ stage_of script.phase
  pub numbered : it.number ≡ script.number
  pub shape : it.shape ≡ shape_of h
  pub devices : it.devices ≡ 5
  pub written : Appends before after (flat_map spelled lines)
  pub last : it.reader.last ≡ TextAnswer

-- ---- Endings

-- that is what comes of the lines in these bytes, behind an opening
abbrev pub IsRunBehind : (dead : ℕ) → Header → Option (List ℕ) → Outcome → Type 0
IsRunBehind dead h None it = ⊤
IsRunBehind dead h (Some bytes) it = outcome_of [] (execution (five_devices dead) h bytes) ≡ it

-- the same with the text of the opening
abbrev pub IsOpened : (dead : ℕ) → Header → List ℕ → Option (List ℕ) → Outcome → Type 0
IsOpened dead h text None it = ⊤
IsOpened dead h text (Some bytes) it = outcome_of text (execution (five_devices dead) h bytes) ≡ it
