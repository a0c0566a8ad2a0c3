-- What was done of one line of a script.
use Rattle.std.proofs.Common.{◌≡◌, ◌∙◌, ℕ, ◌+◌, Bool, true, false, if◌then◌else◌, Option, Some, None, List, [], ◌∷◌, ◌++◌, refl, sym, ap, subst, append-nil, Result, Ok, Err, OnOk, IfErr}
use Rattle.std.specs.Io.KnownBytes.{Appends}
use Rattle.std.specs.List.{flat_map}
use Rattle.std.proofs.KnownBytes.{Appends-nil}
use Rattle.command_words.specs.Geometry.{Shape}
use Rattle.command_words.specs.Kinds.{is_wr}
use Rattle.command_words.specs.Place.{place_of}
use Rattle.command_words.specs.declared.command.Command.{Command}
use Rattle.command_words.specs.declared.command.Command.TheVariants.{Act, Rd, Wr, PrePb, PreSb, PreAb, RefAb, RefSb, RfmAb, RfmSb, Mrw, Ecs, Nop}
use Rattle.ddr_io.specs.Sink.{AppendsPrefix}
use Rattle.ddr_text.specs.Spelling.{spelled}
use Rattle.ddr_text.specs.declared.lines.ReportLine.{ReportLine}
use Rattle.ddr_text.specs.declared.lines.ReportLine.TheVariants.{Issued as IssuedLine, Flip as FlipLine}
use Rattle.device_core.specs.Standing.{with_command}
use Rattle.device_core.specs.Steps.{Step, Flips, log_of}
use Rattle.log_auditor.specs.declared.verdict.Rule.{Rule}
use Rattle.speed_bin.specs.Header.{shape_of}
use Rattle.speed_bin.specs.Log.{Issued as Place}
use Rattle.speed_bin.specs.Rules.{broken, broken_at_end}
use Rattle.speed_bin.specs.declared.header.Header.{Header}
use Rattle.device_exec.specs.Executed.{four_devices}
use Rattle.device_exec.specs.Reading.{stage_after}
use Rattle.device_exec.specs.Running.{Acts, IsAt, MayAct, data_lines, gone_on}
use Rattle.device_exec.specs.ScriptGrammar.{IsScriptLine}
use Rattle.device_exec.specs.Scripts.{Answered, Devices, Effect, Moves, Breaks, Phase, Ready, Waits, Ended, Script, acted, answer_lines, given, last_clock, next, placed, reads_of, stage_of, unless_broken, written}
use Rattle.device_exec.specs.Standing.{Commands, Ends, StandsFor, answered, geometry_of}
use Rattle.device_exec.specs.declared.checked_device.Answer.{Answer}
use Rattle.device_exec.specs.declared.checked_device.Checked.TheVariants as checked
use Rattle.device_exec.specs.declared.checked_device.CheckedDevice.{CheckedDevice}
use Rattle.device_exec.specs.declared.script_line.ScriptLine.{ScriptLine}
use Rattle.device_exec.specs.declared.script_line.ScriptLine.TheVariants.{Issued, Bytes, Flip, End}
use Rattle.device_exec.specs.declared.script_reader.Stage.{Stage}
use Rattle.device_exec.specs.declared.script_reader.Stage.TheVariants as stage
use Rattle.ddr_text.specs.declared.stop.Stop.{Stop}
use Rattle.ddr_text.proofs.Prefixes.{no-prefix}

-- ---- Where a line may stand

pub ready_command : (phase : Phase) (clock : ℕ) (command : Command) (after : Stage) → stage_after (stage_of phase) (Issued clock command) ≡ Some after → phase ≡ Ready
ready_command Ready clock command after e = refl
ready_command (Waits place) clock command after e = absurd cc
ready_command (Ended at) clock command after e = absurd cc

pub waits_bytes : (phase : Phase) (bytes : List ℕ) (after : Stage) → stage_after (stage_of phase) (Bytes bytes) ≡ Some after → (place : Place) × (phase ≡ Waits place)
waits_bytes Ready bytes after e = absurd cc
waits_bytes (Waits place) bytes after e = (place, refl)
waits_bytes (Ended at) bytes after e = absurd cc

pub ready_flip : (phase : Phase) (line device bit : ℕ) (after : Stage) → stage_after (stage_of phase) (Flip line device bit) ≡ Some after → phase ≡ Ready
ready_flip Ready line device bit after e = refl
ready_flip (Waits place) line device bit after e = absurd cc
ready_flip (Ended at) line device bit after e = absurd cc

pub ready_end : (phase : Phase) (clock : ℕ) (after : Stage) → stage_after (stage_of phase) (End clock) ≡ Some after → phase ≡ Ready
ready_end Ready clock after e = refl
ready_end (Waits place) clock after e = absurd cc
ready_end (Ended at) clock after e = absurd cc

-- ---- Commands

-- the D line of an RD, and of no other command
pub answers_shown : (h : Header) (script : Script) (command : Command) → data_lines script.number (answered h command script.steps) ≡ answer_lines four_devices h (reads_of h script command)
answers_shown h script (Act bank row) = refl
answers_shown h script (Rd bank column) = refl
answers_shown h script (Wr bank column) = refl
answers_shown h script (PrePb bank) = refl
answers_shown h script (PreSb address) = refl
answers_shown h script PreAb = refl
answers_shown h script RefAb = refl
answers_shown h script (RefSb address) = refl
answers_shown h script RfmAb = refl
answers_shown h script (RfmSb address) = refl
answers_shown h script (Mrw write) = refl
answers_shown h script Ecs = refl
answers_shown h script Nop = refl

pub acts_breaks : (h : Header) (script : Script) (clock : ℕ) (command : Command) (rule : Rule) (new : CheckedDevice) (before : Option (List ℕ)) → broken h clock command (log_of script.steps) ≡ Some rule.0
    → Acts (Ok (Some rule)) (acted four_devices h script (Issued clock command)) h new before before
acts_breaks h script clock command rule new before e =
    subst (λ (o : Option ℕ). Acts (Ok (Some rule)) (unless_broken o (given four_devices h script clock command)) h new before before) (sym e) (refl, refl)

-- lines that were written, or cut off
acts_lines : (r : Result Unit Stop) (lines : List ReportLine) (reads : List Answered) (later : Script) (h : Header) (new : CheckedDevice) (before after : Option (List ℕ)) → StandsFor new h later.steps later.phase
    → OnOk r (Appends before after (flat_map spelled lines)) → IfErr r (λ stop. AppendsPrefix before after (flat_map spelled lines)) → Acts (gone_on r) (Moves lines reads later) h new before after
acts_lines (Ok done) lines reads later h new before after stands whole cut = (stands, whole)
acts_lines (Err stop) lines reads later h new before after stands whole cut = cut

waiting_effect : (h : Header) (script : Script) (clock : ℕ) (command : Command) → broken h clock command (log_of script.steps) ≡ None → is_wr command ≡ true
    → acted four_devices h script (Issued clock command) ≡ Moves (IssuedLine clock command ∷ []) [] (next script script.steps (Waits (placed clock command)))
waiting_effect h script clock command none is =
    ap (λ (o : Option ℕ). unless_broken o (given four_devices h script clock command)) none
    ∙ ap (λ (b : Bool). if b then Moves (IssuedLine clock command ∷ []) [] (next script script.steps (Waits (placed clock command)))
    else Moves (IssuedLine clock command ∷ answer_lines four_devices h (reads_of h script command)) (reads_of h script command) (next script (with_command clock command None script.steps) Ready)) is

done_effect : (h : Header) (script : Script) (clock : ℕ) (command : Command) → broken h clock command (log_of script.steps) ≡ None → is_wr command ≡ false
    → acted four_devices h script (Issued clock command) ≡ Moves (IssuedLine clock command ∷ answer_lines four_devices h (reads_of h script command)) (reads_of h script command) (next script (with_command clock command None script.steps) Ready)
done_effect h script clock command none is =
    ap (λ (o : Option ℕ). unless_broken o (given four_devices h script clock command)) none
    ∙ ap (λ (b : Bool). if b then Moves (IssuedLine clock command ∷ []) [] (next script script.steps (Waits (placed clock command)))
    else Moves (IssuedLine clock command ∷ answer_lines four_devices h (reads_of h script command)) (reads_of h script command) (next script (with_command clock command None script.steps) Ready)) is

pub acts_waits : (r : Result Unit Stop) (h : Header) (script : Script) (clock : ℕ) (command : Command) (new : CheckedDevice) (before after : Option (List ℕ)) → Commands checked.Awaits new h clock command script.steps
    → OnOk r (Appends before after (flat_map spelled (IssuedLine clock command ∷ []))) → IfErr r (λ stop. AppendsPrefix before after (flat_map spelled (IssuedLine clock command ∷ [])))
    → Acts (gone_on r) (acted four_devices h script (Issued clock command)) h new before after
acts_waits r h script clock command new before after came whole cut =
    subst (λ (e : Effect). Acts (gone_on r) e h new before after) (sym (waiting_effect h script clock command came.0 came.1))
    (acts_lines r (IssuedLine clock command ∷ []) [] (next script script.steps (Waits (placed clock command))) h new before after came.2 whole cut)

pub acts_done : (r : Result Unit Stop) (h : Header) (script : Script) (number clock : ℕ) (command : Command) (answer : Option Answer) (new : CheckedDevice) (before after : Option (List ℕ)) → number ≡ script.number → Commands (checked.Done answer) new h clock command script.steps
    → OnOk r (Appends before after (flat_map spelled (IssuedLine clock command ∷ data_lines number answer))) → IfErr r (λ stop. AppendsPrefix before after (flat_map spelled (IssuedLine clock command ∷ data_lines number answer)))
    → Acts (gone_on r) (acted four_devices h script (Issued clock command)) h new before after
acts_done r h script number clock command answer new before after numbered came whole cut =
    let lines : data_lines number answer ≡ answer_lines four_devices h (reads_of h script command)
    = ap (λ (n : ℕ). data_lines n answer) numbered ∙ ap (data_lines script.number) came.3 ∙ answers_shown h script command in
    subst (λ (e : Effect). Acts (gone_on r) e h new before after) (sym (done_effect h script clock command came.0 came.1))
    (acts_lines r (IssuedLine clock command ∷ answer_lines four_devices h (reads_of h script command)) (reads_of h script command) (next script (with_command clock command None script.steps) Ready) h new before after came.2
    (subst (λ (l : List ReportLine). OnOk r (Appends before after (flat_map spelled (IssuedLine clock command ∷ l)))) lines whole)
    (subst (λ (l : List ReportLine). IfErr r (λ stop. AppendsPrefix before after (flat_map spelled (IssuedLine clock command ∷ l)))) lines cut))

-- ---- Bytes, bits, the end

pub acts_bytes : (h : Header) (script : Script) (bytes : List ℕ) (place : Place) (new : CheckedDevice) (before : Option (List ℕ)) → script.phase ≡ Waits place → StandsFor new h (with_command place.clock place.command (Some bytes) script.steps) Ready
    → Acts (Ok None) (acted four_devices h script (Bytes bytes)) h new before before
acts_bytes h script bytes place new before is stands =
    (subst (λ (p : Phase). StandsFor new h (written p bytes script.steps) Ready) (sym is) stands, Appends-nil before)

pub acts_no_bytes : (h : Header) (script : Script) (bytes : List ℕ) (stop : Stop) (new : CheckedDevice) (before : Option (List ℕ)) → Acts (Err stop) (acted four_devices h script (Bytes bytes)) h new before before
acts_no_bytes h script bytes stop new before = no-prefix before []

pub acts_flips : (r : Result Unit Stop) (h : Header) (script : Script) (clock line device bit : ℕ) (new : CheckedDevice) (before after : Option (List ℕ)) → clock ≡ last_clock (log_of script.steps) → StandsFor new h (Flips (place_of line (shape_of h)) device bit ∷ script.steps) Ready
    → OnOk r (Appends before after (spelled (FlipLine clock line device bit))) → IfErr r (λ stop. AppendsPrefix before after (spelled (FlipLine clock line device bit)))
    → Acts (gone_on r) (acted four_devices h script (Flip line device bit)) h new before after
acts_flips r h script clock line device bit new before after at stands whole cut =
    let text : spelled (FlipLine clock line device bit) ≡ flat_map spelled (FlipLine (last_clock (log_of script.steps)) line device bit ∷ [])
    = ap (λ (n : ℕ). spelled (FlipLine n line device bit)) at ∙ sym (append-nil (spelled (FlipLine (last_clock (log_of script.steps)) line device bit))) in
    acts_lines r (FlipLine (last_clock (log_of script.steps)) line device bit ∷ []) [] (next script (Flips (place_of line (shape_of h)) device bit ∷ script.steps) Ready) h new before after stands
    (subst (λ (t : List ℕ). OnOk r (Appends before after t)) text whole)
    (subst (λ (t : List ℕ). IfErr r (λ stop. AppendsPrefix before after t)) text cut)

pub acts_no_flip : (h : Header) (script : Script) (line device bit : ℕ) (stop : Stop) (new : CheckedDevice) (before : Option (List ℕ)) → Acts (Err stop) (acted four_devices h script (Flip line device bit)) h new before before
acts_no_flip h script line device bit stop new before = no-prefix before _

pub acts_ends : (o : Option Rule) (h : Header) (script : Script) (clock : ℕ) (new : CheckedDevice) (before : Option (List ℕ)) → Ends o new h clock script.steps → Acts (Ok o) (acted four_devices h script (End clock)) h new before before
acts_ends None h script clock new before ends =
    subst (λ (o : Option ℕ). Acts (Ok None) (unless_broken o (Moves [] [] (next script script.steps (Ended clock)))) h new before before) (sym ends.0) (ends.1, Appends-nil before)
acts_ends (Some rule) h script clock new before ends =
    subst (λ (o : Option ℕ). Acts (Ok (Some rule)) (unless_broken o (Moves [] [] (next script script.steps (Ended clock)))) h new before before) (sym ends) (refl, refl)

-- ---- Where a line leads

-- a line that goes on leads to the next number and to the stage behind it
pub record LeadsOn (script later : Script) (after : Stage) : Type 0 where
  pub stage_is : after ≡ stage_of later.phase
  pub numbered : later.number ≡ script.number + 1

same_script : (a c : List ReportLine) (b d : List Answered) (s t : Script) → Moves a b s ≡ Moves c d t → s ≡ t
same_script a c b d s t e = cc

leads_to : (script own later : Script) (after : Stage) → own ≡ later → after ≡ stage_of own.phase → own.number ≡ script.number + 1 → LeadsOn script later after
leads_to script own later after same is number = record {
  stage_is = is ∙ ap (λ (s : Script). stage_of s.phase) same;
  numbered = sym (ap (λ (s : Script). s.number) same) ∙ number;
}

some_stage : (a b : Stage) → ◌≡◌ {A = Option Stage} (Some a) (Some b) → a ≡ b
some_stage a b e = cc

command_leads : (script : Script) (place : Place) (steps : List Step) (lines more own : List ReportLine) (reads got : List Answered) (later : Script) (after : Stage) (o : Option ℕ) (b : Bool) → (if b then stage.Awaits else stage.Body) ≡ after
    → unless_broken o (if b then Moves lines [] (next script script.steps (Waits place)) else Moves own reads (next script steps Ready)) ≡ Moves more got later → LeadsOn script later after
command_leads script place steps lines more own reads got later after (Some rule) b at e = absurd cc
command_leads script place steps lines more own reads got later after None true at e = leads_to script (next script script.steps (Waits place)) later after (same_script _ _ _ _ _ _ e) (sym at) refl
command_leads script place steps lines more own reads got later after None false at e = leads_to script (next script steps Ready) later after (same_script _ _ _ _ _ _ e) (sym at) refl

end_leads : (script : Script) (clock : ℕ) (more : List ReportLine) (got : List Answered) (later : Script) (after : Stage) (o : Option ℕ) → stage.Ended clock ≡ after
    → unless_broken o (Moves [] [] (next script script.steps (Ended clock))) ≡ Moves more got later → LeadsOn script later after
end_leads script clock more got later after (Some rule) at e = absurd cc
end_leads script clock more got later after None at e = leads_to script (next script script.steps (Ended clock)) later after (same_script _ _ _ _ _ _ e) (sym at) refl

pub leads_on : (d : Devices) (h : Header) (script : Script) (line : ScriptLine) (more : List ReportLine) (got : List Answered) (later : Script) (after : Stage) → stage_after (stage_of script.phase) line ≡ Some after → acted d h script line ≡ Moves more got later → LeadsOn script later after
leads_on d h script (Issued clock command) more got later after stands e = go script.phase refl stands
  where
    go : (p : Phase) → script.phase ≡ p → stage_after (stage_of p) (Issued clock command) ≡ Some after → LeadsOn script later after
    go Ready is k = command_leads script (placed clock command) _ _ more _ _ got later after (broken h clock command (log_of script.steps)) (is_wr command) (some_stage _ _ k) e
    go (Waits place) is k = absurd cc
    go (Ended at) is k = absurd cc
leads_on d h script (Bytes bytes) more got later after stands e = go script.phase refl stands
  where
    go : (p : Phase) → script.phase ≡ p → stage_after (stage_of p) (Bytes bytes) ≡ Some after → LeadsOn script later after
    go Ready is k = absurd cc
    go (Waits place) is k = leads_to script (next script (written script.phase bytes script.steps) Ready) later after (same_script _ _ _ _ _ _ e) (sym (some_stage _ _ k)) refl
    go (Ended at) is k = absurd cc
leads_on d h script (Flip line device bit) more got later after stands e = go script.phase refl stands
  where
    go : (p : Phase) → script.phase ≡ p → stage_after (stage_of p) (Flip line device bit) ≡ Some after → LeadsOn script later after
    go Ready is k = leads_to script (next script (Flips (place_of line (shape_of h)) device bit ∷ script.steps) Ready) later after (same_script _ _ _ _ _ _ e) (sym (some_stage _ _ k)) refl
    go (Waits place) is k = absurd cc
    go (Ended at) is k = absurd cc
leads_on d h script (End clock) more got later after stands e = go script.phase refl stands
  where
    go : (p : Phase) → script.phase ≡ p → stage_after (stage_of p) (End clock) ≡ Some after → LeadsOn script later after
    go Ready is k = end_leads script clock more got later after (broken_at_end h clock (log_of script.steps)) (some_stage _ _ k) e
    go (Waits place) is k = absurd cc
    go (Ended at) is k = absurd cc

-- ---- What a line may be given to

at_line : (device : CheckedDevice) (h : Header) (script : Script) (number : ℕ) (line own : ScriptLine) → line ≡ own → IsAt device h script number line → IsAt device h script number own
at_line device h script number line own is at = subst (λ (l : ScriptLine). IsAt device h script number l) is at

pub at_command : (device : CheckedDevice) (h : Header) (script : Script) (number clock : ℕ) (command : Command) (line : ScriptLine) → line ≡ Issued clock command → IsAt device h script number line → StandsFor device h script.steps Ready
at_command device h script number clock command line is at =
    let k = at_line device h script number line (Issued clock command) is at in
    subst (StandsFor device h script.steps) (ready_command script.phase clock command k.place.0 k.place.1) k.stands

pub at_bytes : (device : CheckedDevice) (h : Header) (script : Script) (number : ℕ) (bytes : List ℕ) (line : ScriptLine) → line ≡ Bytes bytes → IsAt device h script number line → (place : Place) × (script.phase ≡ Waits place) × StandsFor device h script.steps (Waits place)
at_bytes device h script number bytes line is at =
    let k = at_line device h script number line (Bytes bytes) is at in
    let p = waits_bytes script.phase bytes k.place.0 k.place.1 in
    (p.0, p.1, subst (StandsFor device h script.steps) p.1 k.stands)

pub at_flip : (device : CheckedDevice) (h : Header) (script : Script) (number own chip bit : ℕ) (line : ScriptLine) → line ≡ Flip own chip bit → IsAt device h script number line → StandsFor device h script.steps Ready
at_flip device h script number own chip bit line is at =
    let k = at_line device h script number line (Flip own chip bit) is at in
    subst (StandsFor device h script.steps) (ready_flip script.phase own chip bit k.place.0 k.place.1) k.stands

pub at_end : (device : CheckedDevice) (h : Header) (script : Script) (number clock : ℕ) (line : ScriptLine) → line ≡ End clock → IsAt device h script number line → StandsFor device h script.steps Ready
at_end device h script number clock line is at =
    let k = at_line device h script number line (End clock) is at in
    subst (StandsFor device h script.steps) (ready_end script.phase clock k.place.0 k.place.1) k.stands

-- the numbers of the line are in the ranges of the device's shape
pub line_inside : (device : CheckedDevice) (number : ℕ) (line own : ScriptLine) → ((it : CheckedDevice) (h : Header) (steps : List Step) (phase : Phase) → StandsFor it h steps phase → geometry_of it ≡ shape_of h) → line ≡ own → MayAct device number line → IsScriptLine (geometry_of device) 4 own
line_inside device number line own law is may =
    subst (λ (g : Shape). IsScriptLine g 4 own) (sym (law device may.0 may.1.steps may.1.phase may.2.stands)) (subst (λ (l : ScriptLine). IsScriptLine (shape_of may.0) 4 l) is may.2.inside)
