-- A run of a script, one line after another.
use Rattle.std.proofs.Common.{◌≡◌, ◌∙◌, ℕ, ◌+◌, ◌-◌, ◌<◌, Option, Some, None, List, [], ◌∷◌, ◌++◌, refl, sym, ap, subst, arith, append-nil, append_assoc, Result, Ok, Err}
use Rattle.std.specs.Io.KnownBytes.{Appends}
use Rattle.std.specs.List.{flat_map}
use Rattle.std.proofs.KnownBytes.{Appends-nil, Appends-trans}
use Rattle.std.proofs.lemmas.Grind.{flat_map-append}
use Rattle.command_words.specs.Geometry.{Shape}
use Rattle.ddr_io.specs.Line.{next_bytes}
use Rattle.ddr_io.specs.Reading.{Reading as ReaderOfLines}
use Rattle.ddr_io.specs.Sink.{AppendsPrefix}
use Rattle.ddr_io.specs.declared.line_reader.Line.TheVariants.{Text as TextAnswer}
use Rattle.ddr_io.specs.declared.status.Status.{Status}
use Rattle.ddr_io.specs.declared.status.Status.TheVariants as status
use Rattle.ddr_text.specs.Io.{io}
use Rattle.ddr_text.specs.Spelling.{spelled}
use Rattle.ddr_text.specs.declared.lines.ReportLine.{ReportLine}
use Rattle.ddr_text.specs.declared.lines.ReportLine.TheVariants.{End as EndLine, Refused as RefusedLine}
use Rattle.log_auditor.specs.declared.verdict.Rule.{Rule}
use Rattle.speed_bin.specs.Header.{shape_of}
use Rattle.speed_bin.specs.declared.header.Header.{Header}
use Rattle.device_exec.specs.Executed.{execution, four_devices}
use Rattle.log_auditor.specs.Findings.{broken_text}
use Rattle.ddr_text.specs.Outcome.{AnswersAs, Outcome, ReadsAll, RefusesLine}
use Rattle.device_exec.specs.Reading.{IsStep, Lines, Place, StepsOn, lines_left, stage_after, with_line}
use Rattle.device_exec.specs.Running.{Acts, Closes, ContinuesAs, IsAt, IsRunBehind, RunsSoFar}
use Rattle.device_exec.specs.Scripts.{Answered, Effect, Moves, Breaks, Execution, Phase, Ready, Ended, Script, acted, begun, behind, breach_text, broken_off, followed, outcome_of, ran, stage_of, text_of}
use Rattle.device_exec.specs.ScriptGrammar.{IsScriptLine}
use Rattle.device_exec.specs.Standing.{StandsFor}
use Rattle.ddr_text.specs.Stop.{WriteCause, status_of}
use Rattle.device_exec.specs.declared.checked_device.CheckedDevice.{CheckedDevice}
use Rattle.device_exec.specs.declared.script_line.ScriptLine.{ScriptLine}
use Rattle.device_exec.specs.declared.script_reader.Next.TheVariants.{Line, End as EndNext, Refused as RefusedNext}
use Rattle.device_exec.specs.declared.script_reader.Stage.{Stage}
use Rattle.device_exec.specs.declared.script_reader.Stage.TheVariants as stage
use Rattle.ddr_text.specs.declared.stop.Stop.{Stop}
use Rattle.device_exec.proofs.Acting.{leads_on}
use Rattle.ddr_text.proofs.Outcomes.{answers-cut, none-left}
use Rattle.ddr_text.proofs.Prefixes.{prefix-behind, prefix-longer, prefix-whole}

-- ---- Texts

-- the text begins with that of the lines in front
pub text_behind : (lines : List ReportLine) (reads : List Answered) (e : Execution) → text_of (behind lines reads e) ≡ flat_map spelled lines ++ text_of e
text_behind lines reads e =
    ap (λ (t : List ℕ). t ++ breach_text e.breach) (flat_map-append spelled lines e.lines) ∙ append_assoc (flat_map spelled lines) (flat_map spelled e.lines) (breach_text e.breach)

pub behind_twice : (a c : List ReportLine) (b d : List Answered) (e : Execution) → behind a b (behind c d e) ≡ behind (a ++ c) (b ++ d) e
behind_twice a c b d e =
    ap (λ (lines : List ReportLine). record { lines = lines; breach = e.breach; status = e.status; reads = b ++ (d ++ e.reads); steps = e.steps }) (sym (append_assoc a c e.lines))
    ∙ ap (λ (reads : List Answered). record { lines = (a ++ c) ++ e.lines; breach = e.breach; status = e.status; reads = reads; steps = e.steps }) (sym (append_assoc b d e.reads))

-- ---- One line more

continues_line : (h : Header) (start now after : Option (List ℕ)) (lines more : List ReportLine) (reads got : List Answered) (script later : Script) (it new : Place) (line : ScriptLine) → ContinuesAs h start lines reads script it now → IsStep it new now after (Line line) → acted four_devices h script line ≡ Moves more got later
    → ContinuesAs h start (lines ++ more) (reads ++ got) later new after
continues_line h None now after lines more reads got script later it new line continued step e = tt
continues_line h (Some bytes) None after lines more reads got script later it new line continued step e = absurd continued
continues_line h (Some bytes) (Some left) after lines more reads got script later it new line continued step e =
    let rest = lines_left new step.0 in
    subst (λ (o : Option (List ℕ)). ContinuesAs h (Some bytes) (lines ++ more) (reads ++ got) later new o) (sym step.1)
    (continued ∙ ap (λ (found : Lines). behind lines reads (ran four_devices h script found)) step.2
    ∙ ap (λ (effect : Effect). behind lines reads (followed script effect (λ s. ran four_devices h s rest))) e
    ∙ behind_twice lines more reads got (ran four_devices h later rest))

pub written_line : (before middle after : Option (List ℕ)) (lines more : List ReportLine) → Appends before middle (flat_map spelled lines) → Appends middle after (flat_map spelled more) → Appends before after (flat_map spelled (lines ++ more))
written_line before middle after lines more so_far next =
    subst (Appends before after) (sym (flat_map-append spelled lines more)) (Appends-trans before middle after (flat_map spelled lines) (flat_map spelled more) so_far next)

pub may_act : (h : Header) (start now before middle : Option (List ℕ)) (it new : Place) (device : CheckedDevice) (line : ScriptLine) (number : ℕ) (r : RunsSoFar h start it now device before middle) → StepsOn it new line → number ≡ it.number → IsAt device h r.script number line
may_act h start now before middle it new device line number r steps is = record {
  stands = r.stands;
  numbered = is ∙ r.numbered;
  inside = subst (λ (n : ℕ). IsScriptLine (shape_of h) n line) r.devices (subst (λ (g : Shape). IsScriptLine g it.devices line) r.shape steps.inside);
  place = (new.stage, ap (λ (s : Stage). stage_after s line) (sym r.stage) ∙ steps.stage);
}

pub runs_on : (h : Header) (start now after before middle end : Option (List ℕ)) (it new : Place) (device changed : CheckedDevice) (line : ScriptLine) (r : RunsSoFar h start it now device before middle) → StepsOn it new line → IsStep it new now after (Line line)
    → Acts (Ok None) (acted four_devices h r.script line) h changed middle end → RunsSoFar h start new after changed before end
runs_on h start now after before middle end it new device changed line r steps step acts = go (acted four_devices h r.script line) refl acts
  where
    go : (e : Effect) → acted four_devices h r.script line ≡ e → Acts (Ok None) e h changed middle end → RunsSoFar h start new after changed before end
    go (Moves more got later) is (stands, wrote) =
        let leads = leads_on four_devices h r.script line more got later new.stage (ap (λ (s : Stage). stage_after s line) (sym r.stage) ∙ steps.stage) is in
        record {
          script = later;
          lines = r.lines ++ more;
          reads = r.reads ++ got;
          continued = continues_line h start now after r.lines more r.reads got r.script later it new line r.continued step is;
          stands = stands;
          stage = leads.stage_is;
          numbered = steps.number ∙ ap (λ (n : ℕ). n + 1) r.numbered ∙ sym leads.numbered;
          shape = steps.shape ∙ r.shape;
          devices = steps.devices ∙ r.devices;
          written = written_line before middle end r.lines more r.written wrote;
          last = steps.last;
        }
    go (Breaks rule) is acts = absurd acts

pub runs_first : (h : Header) (reader : ReaderOfLines) (it : Place) (left before : Option (List ℕ)) (device : CheckedDevice) → it ≡ record { reader = reader; shape = shape_of h; devices = 4; stage = stage.Body; number = 1 } → reader.last ≡ TextAnswer → StandsFor device h [] Ready
    → RunsSoFar h (next_bytes reader.held left) it (next_bytes it.reader.held left) device before before
runs_first h reader it left before device is last stands =
    subst (λ (p : Place). RunsSoFar h (next_bytes reader.held left) p (next_bytes p.reader.held left) device before before) (sym is) (record {
      script = begun;
      lines = [];
      reads = [];
      continued = first (next_bytes reader.held left);
      stands = stands;
      stage = refl;
      numbered = refl;
      shape = refl;
      devices = refl;
      written = Appends-nil before;
      last = last;
    })
  where
    first : (o : Option (List ℕ)) → ContinuesAs h o [] [] begun (record { reader = reader; shape = shape_of h; devices = 4; stage = stage.Body; number = 1 }) o
    first None = tt
    first (Some bytes) = refl

pub fewer_left : (old new : Place) (line : ScriptLine) → StepsOn old new line → 4294967296 - new.number < 4294967296 - old.number
fewer_left old new line steps = let few = steps.few in let next = steps.number in omega arith

-- ---- Endings

-- a prefix of these lines was written
begins : (h : Header) (start left before after : Option (List ℕ)) (lines : List ReportLine) (reads : List Answered) (script : Script) (it : Place) → ContinuesAs h start lines reads script it left → AppendsPrefix before after (flat_map spelled lines)
    → (s : Outcome) × IsRunBehind h start s × AppendsPrefix before after s.text
begins h None left before after lines reads script it continued cut = (record { text = flat_map spelled lines; status = status.Ok }, tt, cut)
begins h (Some bytes) None before after lines reads script it continued cut = absurd continued
begins h (Some bytes) (Some left) before after lines reads script it continued cut =
    let rest = ran four_devices h script (lines_left it left) in (
      outcome_of [] (execution four_devices h bytes),
      refl,
      subst (AppendsPrefix before after) (sym (ap text_of continued ∙ text_behind lines reads rest)) (prefix-longer before after (flat_map spelled lines) (text_of rest) cut),
    )

-- the source had a fault
pub runs_fault : (h : Header) (start left old new before after : Option (List ℕ)) (it : Place) (device : CheckedDevice) → RunsSoFar h start it left device before after → AnswersAs (IsRunBehind h start) status.ReadFault (io old new before after)
runs_fault h start left old new before after it device r = begins h start left before after r.lines r.reads r.script it r.continued (prefix-whole before after (flat_map spelled r.lines) r.written)

-- a line could not be carried out, or not be written
pub runs_cut : (h : Header) (start now after old end before middle later : Option (List ℕ)) (it new : Place) (device changed : CheckedDevice) (line : ScriptLine) (stop : Stop) (faults risen : ℕ) (r : RunsSoFar h start it now device before middle) → IsStep it new now after (Line line)
    → Acts (Err stop) (acted four_devices h r.script line) h changed middle later → WriteCause faults risen stop → AnswersAs (IsRunBehind h start) (status_of stop) (io old end before later)
runs_cut h start now after old end before middle later it new device changed line stop faults risen r step acts cause = go (acted four_devices h r.script line) refl acts
  where
    go : (e : Effect) → acted four_devices h r.script line ≡ e → Acts (Err stop) e h changed middle later → AnswersAs (IsRunBehind h start) (status_of stop) (io old end before later)
    go (Moves more got next) is cut =
        let s = begins h start after before later (r.lines ++ more) (r.reads ++ got) next new (continues_line h start now after r.lines more r.reads got r.script next it new line r.continued step is)
        (subst (AppendsPrefix before later) (sym (flat_map-append spelled r.lines more)) (prefix-behind before middle later (flat_map spelled r.lines) (flat_map spelled more) r.written cut)) in
        answers-cut (IsRunBehind h start) s.0 stop faults risen old end before later s.1 s.2 cause
    go (Breaks rule) is acts = absurd acts

-- what is left gives this text and this status
ends_with : (h : Header) (start left : Option (List ℕ)) (lines : List ReportLine) (reads : List Answered) (script : Script) (it : Place) (text : List ℕ) (whole : Status) → ContinuesAs h start lines reads script it left
    → ((bytes : List ℕ) → left ≡ Some bytes → (text_of (ran four_devices h script (lines_left it bytes)) ≡ text) × ((ran four_devices h script (lines_left it bytes)).status ≡ whole))
    → IsRunBehind h start (record { text = flat_map spelled lines ++ text; status = whole })
ends_with h None left lines reads script it text whole continued is = tt
ends_with h (Some bytes) None lines reads script it text whole continued is = absurd continued
ends_with h (Some bytes) (Some left) lines reads script it text whole continued is =
    let rest = ran four_devices h script (lines_left it left) in
    let p = is left refl in
    ap (outcome_of []) continued
    ∙ ap (λ (t : List ℕ). record { text = t; status = rest.status }) (text_behind lines reads rest ∙ ap (λ (t : List ℕ). flat_map spelled lines ++ t) p.0)
    ∙ ap (λ (s : Status). record { text = flat_map spelled lines ++ text; status = s }) p.1

pub closed : (Is : Outcome → Type 0) (whole answer : Status) (front text : List ℕ) (old new before middle after : Option (List ℕ)) → Is (record { text = front ++ text; status = whole }) → Appends before middle front → Closes whole answer text middle after → (whole ≡ status.Ok → ReadsAll old new) → AnswersAs Is answer (io old new before after)
closed Is whole status.Ok front text old new before middle after is wrote (same, more) all =
    ((record { text = front ++ text; status = whole }, is, sym same, Appends-trans before middle after front text wrote more), all same)
closed Is whole status.Refused front text old new before middle after is wrote (same, more) all = (record { text = front ++ text; status = whole }, is, sym same, Appends-trans before middle after front text wrote more)
closed Is whole status.Broken front text old new before middle after is wrote (same, more) all = (record { text = front ++ text; status = whole }, is, sym same, Appends-trans before middle after front text wrote more)
closed Is whole status.WriteFault front text old new before middle after is wrote cut all = (record { text = front ++ text; status = whole }, is, prefix-behind before middle after front text wrote cut)
closed Is whole status.OutOfMemory front text old new before middle after is wrote cut all = (record { text = front ++ text; status = whole }, is, prefix-behind before middle after front text wrote cut)
closed Is whole status.ReadFault front text old new before middle after is wrote closes all = absurd closes
closed Is whole status.Usage front text old new before middle after is wrote closes all = absurd closes

pub left_of : (it new : Place) (line : ScriptLine) (now after : Option (List ℕ)) (bytes : List ℕ) → IsStep it new now after (Line line) → now ≡ Some bytes → (rest : Lines) × (lines_left it bytes ≡ with_line line rest)
left_of it new line now after bytes step there = let s = subst (λ (o : Option (List ℕ)). IsStep it new o after (Line line)) there step in (lines_left new s.0, s.2)

-- a rule is broken
pub runs_broken : (h : Header) (start now after old end before middle later : Option (List ℕ)) (it new : Place) (device changed : CheckedDevice) (line : ScriptLine) (rule : Rule) (number : ℕ) (answer : Status) (wrote : Option (List ℕ)) (r : RunsSoFar h start it now device before middle) → IsStep it new now after (Line line) → number ≡ it.number
    → Acts (Ok (Some rule)) (acted four_devices h r.script line) h changed middle wrote → Closes status.Broken answer (broken_text number rule.0) wrote later → AnswersAs (IsRunBehind h start) answer (io old end before later)
runs_broken h start now after old end before middle later it new device changed line rule number answer wrote r step numbered acts closes = go (acted four_devices h r.script line) refl acts
  where
    go : (e : Effect) → acted four_devices h r.script line ≡ e → Acts (Ok (Some rule)) e h changed middle wrote → AnswersAs (IsRunBehind h start) answer (io old end before later)
    go (Moves more got next) is acts = absurd acts
    go (Breaks own) is (same, kept) =
        let number_is : r.script.number ≡ number = sym r.numbered ∙ sym numbered in
        closed (IsRunBehind h start) status.Broken answer (flat_map spelled r.lines) (broken_text number rule.0) old end before middle later
        (ends_with h start now r.lines r.reads r.script it (broken_text number rule.0) status.Broken r.continued
        (λ bytes there.
        let left = left_of it new line now after bytes step there in
        let broke : ran four_devices h r.script (lines_left it bytes) ≡ broken_off r.script own
        = ap (ran four_devices h r.script) left.1 ∙ ap (λ (e : Effect). followed r.script e (λ s. ran four_devices h s left.0)) is in
        (ap text_of broke ∙ ap (λ (n : ℕ). broken_text n own) number_is ∙ ap (broken_text number) same, ap (λ (e : Execution). e.status) broke)))
        r.written (subst (λ (o : Option (List ℕ)). Closes status.Broken answer (broken_text number rule.0) o later) kept closes) (λ ok. absurd cc)

pub refusal_closes : (s : Status) (n k : ℕ) (a b : Option (List ℕ)) → RefusesLine s n k a b → Closes status.Refused s (spelled (RefusedLine n k)) a b
refusal_closes status.Refused n k a b refuses = (refl, refuses)
refusal_closes status.WriteFault n k a b refuses = refuses
refusal_closes status.OutOfMemory n k a b refuses = refuses
refusal_closes status.Ok n k a b refuses = absurd refuses
refusal_closes status.Usage n k a b refuses = absurd refuses
refusal_closes status.ReadFault n k a b refuses = absurd refuses
refusal_closes status.Broken n k a b refuses = absurd refuses

-- a line is refused
pub runs_refused : (h : Header) (start left next old end before middle after : Option (List ℕ)) (it new : Place) (device : CheckedDevice) (number reason : ℕ) (answer : Status) (r : RunsSoFar h start it left device before middle) → IsStep it new left next (RefusedNext number reason)
    → RefusesLine answer number reason middle after → AnswersAs (IsRunBehind h start) answer (io old end before after)
runs_refused h start left next old end before middle after it new device number reason answer r step refuses =
    closed (IsRunBehind h start) status.Refused answer (flat_map spelled r.lines) (spelled (RefusedLine number reason)) old end before middle after
    (ends_with h start left r.lines r.reads r.script it (spelled (RefusedLine number reason)) status.Refused r.continued
    (λ bytes there.
    let none = subst (λ (o : Option (List ℕ)). IsStep it new o next (RefusedNext number reason)) there step in
    let last = ap (ran four_devices h r.script) none in
    (ap text_of last ∙ append-nil (spelled (RefusedLine number reason) ++ []) ∙ append-nil (spelled (RefusedLine number reason)), ap (λ (e : Execution). e.status) last)))
    r.written (refusal_closes answer number reason middle after refuses) (λ ok. absurd cc)

-- the script is at its end
all_read : (it new : Place) (old end left : Option (List ℕ)) (kept held : List ℕ) (h : Header) (lines : List ReportLine) (reads : List Answered) (script : Script) (clock : ℕ) → ContinuesAs h (next_bytes kept old) lines reads script it left → IsStep it new left (next_bytes held end) (EndNext clock) → ReadsAll old end
all_read it new None end left kept held h lines reads script clock continued step = tt
all_read it new (Some bytes) end None kept held h lines reads script clock continued step = absurd continued
all_read it new (Some bytes) end (Some xs) kept held h lines reads script clock continued step = none-left held end step.0

pub runs_ended : (h : Header) (old end left before middle after : Option (List ℕ)) (kept held : List ℕ) (it new : Place) (device : CheckedDevice) (clock : ℕ) (answer : Status) (r : RunsSoFar h (next_bytes kept old) it left device before middle) → IsStep it new left (next_bytes held end) (EndNext clock)
    → Closes status.Ok answer (flat_map spelled (four_devices.counts h r.script.steps ++ EndLine clock ∷ [])) middle after → AnswersAs (IsRunBehind h (next_bytes kept old)) answer (io old end before after)
runs_ended h old end left before middle after kept held it new device clock answer r step closes =
    let counts = flat_map spelled (four_devices.counts h r.script.steps ++ EndLine clock ∷ []) in
    closed (IsRunBehind h (next_bytes kept old)) status.Ok answer (flat_map spelled r.lines) counts old end before middle after
    (ends_with h (next_bytes kept old) left r.lines r.reads r.script it counts status.Ok r.continued
    (λ bytes there.
    let none = subst (λ (o : Option (List ℕ)). IsStep it new o (next_bytes held end) (EndNext clock)) there step in
    let last = ap (ran four_devices h r.script) none.1 in
    (ap text_of last ∙ append-nil counts, ap (λ (e : Execution). e.status) last)))
    r.written closes (λ ok. all_read it new old end left kept held h r.lines r.reads r.script clock r.continued step)

-- ---- Statuses

pub closes_no_read : (whole answer : Status) (text : List ℕ) (before after : Option (List ℕ)) → Closes whole answer text before after → answer ≡ status.ReadFault → ⊥
closes_no_read whole answer text before after closes e = subst (λ (s : Status). Closes whole s text before after) e closes

pub answers_usage : (answer : Status) (Is : Outcome → Type 0) (old new before after : Option (List ℕ)) → AnswersAs Is answer (io old new before after) → answer ≡ status.Usage → ⊥
answers_usage answer Is old new before after answers e = subst (λ (s : Status). AnswersAs Is s (io old new before after)) e answers
