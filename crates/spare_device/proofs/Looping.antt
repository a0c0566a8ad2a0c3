-- A run of a script, one line after another.
use Rattle.std.proofs.Common.{◌≡◌, ◌∙◌, ℕ, ◌+◌, ◌-◌, ◌<◌, Option, Some, None, List, [], ◌∷◌, ◌++◌, refl, sym, ap, subst, arith, append-nil, append_assoc, Result, Ok, Err}
use Rattle.std.specs.Io.KnownBytes.{Appends}
use Rattle.std.specs.List.{flat_map}
use Rattle.std.proofs.KnownBytes.{Appends-nil, Appends-trans}
use Rattle.std.proofs.lemmas.Grind.{flat_map-append}
use Rattle.command_words.specs.Geometry.{Shape}
use Rattle.ddr_io.specs.Line.{next_bytes}
use Rattle.ddr_io.specs.Reading.{Reading as ReaderOfLines}
use Rattle.ddr_io.specs.Sink.{AppendsPrefix}
use Rattle.ddr_io.specs.declared.line_reader.Line.TheVariants.{Text as TextAnswer}
use Rattle.ddr_io.specs.declared.status.Status.{Status}
use Rattle.ddr_io.specs.declared.status.Status.TheVariants as status
use Rattle.ddr_text.specs.Io.{io}
use Rattle.ddr_text.specs.Spelling.{spelled}
use Rattle.ddr_text.specs.declared.lines.ReportLine.{ReportLine}
use Rattle.ddr_text.specs.declared.lines.ReportLine.TheVariants.{End as EndLine, Refused as RefusedLine}
use Rattle.log_auditor.specs.declared.verdict.Rule.{Rule}
use Rattle.speed_bin.specs.Header.{shape_of}
use Rattle.speed_bin.specs.declared.header.Header.{Header}
use Rattle.device_exec.specs.Executed.{execution}
use Rattle.log_auditor.specs.Findings.{broken_text}
use Rattle.ddr_text.specs.Outcome.{AnswersAs, Outcome, ReadsAll, RefusesLine}
use Rattle.device_exec.specs.Reading.{IsStep, Lines, Place, StepsOn, lines_left, stage_after, with_line}
use Rattle.device_exec.specs.Running.{Closes}
use Rattle.spare_device.specs.Running.{Acts, ContinuesAs, IsAt, IsRunBehind, RunsSoFar, SpareFor}
use Rattle.spare_device.specs.Spared.{five_devices}
use Rattle.device_exec.specs.Scripts.{Answered, Effect, Moves, Breaks, Execution, Phase, Ready, Ended, Script, acted, begun, behind, breach_text, broken_off, followed, outcome_of, ran, stage_of, text_of}
use Rattle.device_exec.specs.ScriptGrammar.{IsScriptLine}
use Rattle.ddr_text.specs.Stop.{WriteCause, status_of}
use Rattle.device_exec.specs.declared.checked_device.CheckedDevice.{CheckedDevice}
use Rattle.device_exec.specs.declared.script_line.ScriptLine.{ScriptLine}
use Rattle.device_exec.specs.declared.script_reader.Next.TheVariants.{Line, End as EndNext, Refused as RefusedNext}
use Rattle.device_exec.specs.declared.script_reader.Stage.{Stage}
use Rattle.device_exec.specs.declared.script_reader.Stage.TheVariants as stage
use Rattle.ddr_text.specs.declared.stop.Stop.{Stop}
use Rattle.device_exec.proofs.Acting.{leads_on}
use Rattle.device_exec.proofs.Looping.{behind_twice, closed, left_of, refusal_closes, text_behind, written_line}
use Rattle.ddr_text.proofs.Outcomes.{answers-cut, none-left}
use Rattle.ddr_text.proofs.Prefixes.{prefix-behind, prefix-longer, prefix-whole}

-- ---- One line more

continues_line : (dead : ℕ) (h : Header) (start now after : Option (List ℕ)) (lines more : List ReportLine) (reads got : List Answered) (script later : Script) (it new : Place) (line : ScriptLine) → ContinuesAs dead h start lines reads script it now → IsStep it new now after (Line line) → acted (five_devices dead) h script line ≡ Moves more got later
    → ContinuesAs dead h start (lines ++ more) (reads ++ got) later new after
continues_line dead h None now after lines more reads got script later it new line continued step e = tt
continues_line dead h (Some bytes) None after lines more reads got script later it new line continued step e = absurd continued
continues_line dead h (Some bytes) (Some left) after lines more reads got script later it new line continued step e =
    let rest = lines_left new step.0 in
    subst (λ (o : Option (List ℕ)). ContinuesAs dead h (Some bytes) (lines ++ more) (reads ++ got) later new o) (sym step.1)
    (continued ∙ ap (λ (found : Lines). behind lines reads (ran (five_devices dead) h script found)) step.2
    ∙ ap (λ (effect : Effect). behind lines reads (followed script effect (λ s. ran (five_devices dead) h s rest))) e
    ∙ behind_twice lines more reads got (ran (five_devices dead) h later rest))

pub may_act : (dead : ℕ) (h : Header) (start now before middle : Option (List ℕ)) (it new : Place) (device : CheckedDevice) (line : ScriptLine) (number : ℕ) (r : RunsSoFar dead h start it now device before middle) → StepsOn it new line → number ≡ it.number → IsAt dead device h r.script number line
may_act dead h start now before middle it new device line number r steps is = record {
  stands = r.stands;
  numbered = is ∙ r.numbered;
  inside = subst (λ (n : ℕ). IsScriptLine (shape_of h) n line) r.devices (subst (λ (g : Shape). IsScriptLine g it.devices line) r.shape steps.inside);
  place = (new.stage, ap (λ (s : Stage). stage_after s line) (sym r.stage) ∙ steps.stage);
}

pub runs_on : (dead : ℕ) (h : Header) (start now after before middle end : Option (List ℕ)) (it new : Place) (device changed : CheckedDevice) (line : ScriptLine) (r : RunsSoFar dead h start it now device before middle) → StepsOn it new line → IsStep it new now after (Line line)
    → Acts dead (Ok None) (acted (five_devices dead) h r.script line) h changed middle end → RunsSoFar dead h start new after changed before end
runs_on dead h start now after before middle end it new device changed line r steps step acts = go (acted (five_devices dead) h r.script line) refl acts
  where
    go : (e : Effect) → acted (five_devices dead) h r.script line ≡ e → Acts dead (Ok None) e h changed middle end → RunsSoFar dead h start new after changed before end
    go (Moves more got later) is (stands, wrote) =
        let leads = leads_on (five_devices dead) h r.script line more got later new.stage (ap (λ (s : Stage). stage_after s line) (sym r.stage) ∙ steps.stage) is in
        record {
          script = later;
          lines = r.lines ++ more;
          reads = r.reads ++ got;
          continued = continues_line dead h start now after r.lines more r.reads got r.script later it new line r.continued step is;
          stands = stands;
          stage = leads.stage_is;
          numbered = steps.number ∙ ap (λ (n : ℕ). n + 1) r.numbered ∙ sym leads.numbered;
          shape = steps.shape ∙ r.shape;
          devices = steps.devices ∙ r.devices;
          written = written_line before middle end r.lines more r.written wrote;
          last = steps.last;
        }
    go (Breaks rule) is acts = absurd acts

pub runs_first : (dead : ℕ) (h : Header) (reader : ReaderOfLines) (it : Place) (left before : Option (List ℕ)) (device : CheckedDevice) → it ≡ record { reader = reader; shape = shape_of h; devices = 5; stage = stage.Body; number = 1 } → reader.last ≡ TextAnswer → SpareFor dead device h [] Ready
    → RunsSoFar dead h (next_bytes reader.held left) it (next_bytes it.reader.held left) device before before
runs_first dead h reader it left before device is last stands =
    subst (λ (p : Place). RunsSoFar dead h (next_bytes reader.held left) p (next_bytes p.reader.held left) device before before) (sym is) (record {
      script = begun;
      lines = [];
      reads = [];
      continued = first (next_bytes reader.held left);
      stands = stands;
      stage = refl;
      numbered = refl;
      shape = refl;
      devices = refl;
      written = Appends-nil before;
      last = last;
    })
  where
    first : (o : Option (List ℕ)) → ContinuesAs dead h o [] [] begun (record { reader = reader; shape = shape_of h; devices = 5; stage = stage.Body; number = 1 }) o
    first None = tt
    first (Some bytes) = refl

-- ---- Endings

-- a prefix of these lines was written
begins : (dead : ℕ) (h : Header) (start left before after : Option (List ℕ)) (lines : List ReportLine) (reads : List Answered) (script : Script) (it : Place) → ContinuesAs dead h start lines reads script it left → AppendsPrefix before after (flat_map spelled lines)
    → (s : Outcome) × IsRunBehind dead h start s × AppendsPrefix before after s.text
begins dead h None left before after lines reads script it continued cut = (record { text = flat_map spelled lines; status = status.Ok }, tt, cut)
begins dead h (Some bytes) None before after lines reads script it continued cut = absurd continued
begins dead h (Some bytes) (Some left) before after lines reads script it continued cut =
    let rest = ran (five_devices dead) h script (lines_left it left) in (
      outcome_of [] (execution (five_devices dead) h bytes),
      refl,
      subst (AppendsPrefix before after) (sym (ap text_of continued ∙ text_behind lines reads rest)) (prefix-longer before after (flat_map spelled lines) (text_of rest) cut),
    )

-- the source had a fault
pub runs_fault : (dead : ℕ) (h : Header) (start left old new before after : Option (List ℕ)) (it : Place) (device : CheckedDevice) → RunsSoFar dead h start it left device before after → AnswersAs (IsRunBehind dead h start) status.ReadFault (io old new before after)
runs_fault dead h start left old new before after it device r = begins dead h start left before after r.lines r.reads r.script it r.continued (prefix-whole before after (flat_map spelled r.lines) r.written)

-- a line could not be carried out, or not be written
pub runs_cut : (dead : ℕ) (h : Header) (start now after old end before middle later : Option (List ℕ)) (it new : Place) (device changed : CheckedDevice) (line : ScriptLine) (stop : Stop) (faults risen : ℕ) (r : RunsSoFar dead h start it now device before middle) → IsStep it new now after (Line line)
    → Acts dead (Err stop) (acted (five_devices dead) h r.script line) h changed middle later → WriteCause faults risen stop → AnswersAs (IsRunBehind dead h start) (status_of stop) (io old end before later)
runs_cut dead h start now after old end before middle later it new device changed line stop faults risen r step acts cause = go (acted (five_devices dead) h r.script line) refl acts
  where
    go : (e : Effect) → acted (five_devices dead) h r.script line ≡ e → Acts dead (Err stop) e h changed middle later → AnswersAs (IsRunBehind dead h start) (status_of stop) (io old end before later)
    go (Moves more got next) is cut =
        let s = begins dead h start after before later (r.lines ++ more) (r.reads ++ got) next new (continues_line dead h start now after r.lines more r.reads got r.script next it new line r.continued step is)
        (subst (AppendsPrefix before later) (sym (flat_map-append spelled r.lines more)) (prefix-behind before middle later (flat_map spelled r.lines) (flat_map spelled more) r.written cut)) in
        answers-cut (IsRunBehind dead h start) s.0 stop faults risen old end before later s.1 s.2 cause
    go (Breaks rule) is acts = absurd acts

-- what is left gives this text and this status
ends_with : (dead : ℕ) (h : Header) (start left : Option (List ℕ)) (lines : List ReportLine) (reads : List Answered) (script : Script) (it : Place) (text : List ℕ) (whole : Status) → ContinuesAs dead h start lines reads script it left
    → ((bytes : List ℕ) → left ≡ Some bytes → (text_of (ran (five_devices dead) h script (lines_left it bytes)) ≡ text) × ((ran (five_devices dead) h script (lines_left it bytes)).status ≡ whole))
    → IsRunBehind dead h start (record { text = flat_map spelled lines ++ text; status = whole })
ends_with dead h None left lines reads script it text whole continued is = tt
ends_with dead h (Some bytes) None lines reads script it text whole continued is = absurd continued
ends_with dead h (Some bytes) (Some left) lines reads script it text whole continued is =
    let rest = ran (five_devices dead) h script (lines_left it left) in
    let p = is left refl in
    ap (outcome_of []) continued
    ∙ ap (λ (t : List ℕ). record { text = t; status = rest.status }) (text_behind lines reads rest ∙ ap (λ (t : List ℕ). flat_map spelled lines ++ t) p.0)
    ∙ ap (λ (s : Status). record { text = flat_map spelled lines ++ text; status = s }) p.1

-- a rule is broken
pub runs_broken : (dead : ℕ) (h : Header) (start now after old end before middle later : Option (List ℕ)) (it new : Place) (device changed : CheckedDevice) (line : ScriptLine) (rule : Rule) (number : ℕ) (answer : Status) (wrote : Option (List ℕ)) (r : RunsSoFar dead h start it now device before middle) → IsStep it new now after (Line line) → number ≡ it.number
    → Acts dead (Ok (Some rule)) (acted (five_devices dead) h r.script line) h changed middle wrote → Closes status.Broken answer (broken_text number rule.0) wrote later → AnswersAs (IsRunBehind dead h start) answer (io old end before later)
runs_broken dead h start now after old end before middle later it new device changed line rule number answer wrote r step numbered acts closes = go (acted (five_devices dead) h r.script line) refl acts
  where
    go : (e : Effect) → acted (five_devices dead) h r.script line ≡ e → Acts dead (Ok (Some rule)) e h changed middle wrote → AnswersAs (IsRunBehind dead h start) answer (io old end before later)
    go (Moves more got next) is acts = absurd acts
    go (Breaks own) is (same, kept) =
        let number_is : r.script.number ≡ number = sym r.numbered ∙ sym numbered in
        closed (IsRunBehind dead h start) status.Broken answer (flat_map spelled r.lines) (broken_text number rule.0) old end before middle later
        (ends_with dead h start now r.lines r.reads r.script it (broken_text number rule.0) status.Broken r.continued
        (λ bytes there.
        let left = left_of it new line now after bytes step there in
        let broke : ran (five_devices dead) h r.script (lines_left it bytes) ≡ broken_off r.script own
        = ap (ran (five_devices dead) h r.script) left.1 ∙ ap (λ (e : Effect). followed r.script e (λ s. ran (five_devices dead) h s left.0)) is in
        (ap text_of broke ∙ ap (λ (n : ℕ). broken_text n own) number_is ∙ ap (broken_text number) same, ap (λ (e : Execution). e.status) broke)))
        r.written (subst (λ (o : Option (List ℕ)). Closes status.Broken answer (broken_text number rule.0) o later) kept closes) (λ ok. absurd cc)

-- a line is refused
pub runs_refused : (dead : ℕ) (h : Header) (start left next old end before middle after : Option (List ℕ)) (it new : Place) (device : CheckedDevice) (number reason : ℕ) (answer : Status) (r : RunsSoFar dead h start it left device before middle) → IsStep it new left next (RefusedNext number reason)
    → RefusesLine answer number reason middle after → AnswersAs (IsRunBehind dead h start) answer (io old end before after)
runs_refused dead h start left next old end before middle after it new device number reason answer r step refuses =
    closed (IsRunBehind dead h start) status.Refused answer (flat_map spelled r.lines) (spelled (RefusedLine number reason)) old end before middle after
    (ends_with dead h start left r.lines r.reads r.script it (spelled (RefusedLine number reason)) status.Refused r.continued
    (λ bytes there.
    let none = subst (λ (o : Option (List ℕ)). IsStep it new o next (RefusedNext number reason)) there step in
    let last = ap (ran (five_devices dead) h r.script) none in
    (ap text_of last ∙ append-nil (spelled (RefusedLine number reason) ++ []) ∙ append-nil (spelled (RefusedLine number reason)), ap (λ (e : Execution). e.status) last)))
    r.written (refusal_closes answer number reason middle after refuses) (λ ok. absurd cc)

-- the script is at its end
all_read : (dead : ℕ) (it new : Place) (old end left : Option (List ℕ)) (kept held : List ℕ) (h : Header) (lines : List ReportLine) (reads : List Answered) (script : Script) (clock : ℕ) → ContinuesAs dead h (next_bytes kept old) lines reads script it left → IsStep it new left (next_bytes held end) (EndNext clock) → ReadsAll old end
all_read dead it new None end left kept held h lines reads script clock continued step = tt
all_read dead it new (Some bytes) end None kept held h lines reads script clock continued step = absurd continued
all_read dead it new (Some bytes) end (Some xs) kept held h lines reads script clock continued step = none-left held end step.0

pub runs_ended : (dead : ℕ) (h : Header) (old end left before middle after : Option (List ℕ)) (kept held : List ℕ) (it new : Place) (device : CheckedDevice) (clock : ℕ) (answer : Status) (r : RunsSoFar dead h (next_bytes kept old) it left device before middle) → IsStep it new left (next_bytes held end) (EndNext clock)
    → Closes status.Ok answer (flat_map spelled ((five_devices dead).counts h r.script.steps ++ EndLine clock ∷ [])) middle after → AnswersAs (IsRunBehind dead h (next_bytes kept old)) answer (io old end before after)
runs_ended dead h old end left before middle after kept held it new device clock answer r step closes =
    let counts = flat_map spelled ((five_devices dead).counts h r.script.steps ++ EndLine clock ∷ []) in
    closed (IsRunBehind dead h (next_bytes kept old)) status.Ok answer (flat_map spelled r.lines) counts old end before middle after
    (ends_with dead h (next_bytes kept old) left r.lines r.reads r.script it counts status.Ok r.continued
    (λ bytes there.
    let none = subst (λ (o : Option (List ℕ)). IsStep it new o (next_bytes held end) (EndNext clock)) there step in
    let last = ap (ran (five_devices dead) h r.script) none.1 in
    (ap text_of last ∙ append-nil counts, ap (λ (e : Execution). e.status) last)))
    r.written closes (λ ok. all_read dead it new old end left kept held h r.lines r.reads r.script clock r.continued step)
