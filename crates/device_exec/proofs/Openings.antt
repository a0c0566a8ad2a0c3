-- The opening of a script, and what is answered behind it.
use Rattle.std.proofs.Common.{◌≡◌, ◌∙◌, ℕ, Option, Some, None, List, [], ◌++◌, refl, sym, ap, subst}
use Rattle.std.specs.Io.KnownBytes.{Appends}
use Rattle.std.proofs.KnownBytes.{Appends-nil}
use Rattle.ddr_io.specs.Line.{next_bytes}
use Rattle.ddr_io.specs.Sink.{AppendsPrefix}
use Rattle.ddr_io.specs.declared.status.Status.{Status}
use Rattle.ddr_io.specs.declared.status.Status.TheVariants as status
use Rattle.ddr_text.specs.Io.{io}
use Rattle.ddr_text.specs.Opening.{Accepts, IsAnswer, IsOpening, Opens, opening_of}
use Rattle.ddr_text.specs.declared.opening.Opening.{Opening}
use Rattle.ddr_text.specs.declared.opening.Opening.TheVariants.{Accepted, Refused}
use Rattle.speed_bin.specs.declared.header.Header.{Header}
use Rattle.device_exec.specs.Executed.{IsExecuted, executed, executed_in, execution, four_devices}
use Rattle.ddr_text.specs.Outcome.{AnswersAs, BeginsAs, Outcome, ReadsAll, RefusesLine, refused_opening}
use Rattle.device_exec.specs.Running.{IsOpened, IsRunBehind}
use Rattle.device_exec.specs.Scripts.{outcome_of, text_of}
use Rattle.ddr_text.specs.Stop.{WriteCause, status_of}
use Rattle.ddr_text.specs.declared.stop.Stop.{Stop}
use Rattle.ddr_text.proofs.Outcomes.{answers-behind, answers-cut, answers-nothing, answers-refused, reads-opened}
use Rattle.ddr_text.proofs.Prefixes.{prefix-longer}

-- ---- Behind the opening

opened_is : (h : Header) (text : List ℕ) (start : Option (List ℕ)) (s : Outcome) → IsRunBehind h start s → IsOpened h text start (record { text = text ++ s.text; status = s.status })
opened_is h text None s is = tt
opened_is h text (Some bytes) s is = ap (λ (o : Outcome). record { text = text ++ o.text; status = o.status }) is

pub opened_runs : (h : Header) (text : List ℕ) (start : Option (List ℕ)) (answer : Status) (old new before middle after : Option (List ℕ)) → Appends before middle text → AnswersAs (IsRunBehind h start) answer (io old new middle after) → AnswersAs (IsOpened h text start) answer (io old new before after)
opened_runs h text start answer old new before middle after wrote answers =
    answers-behind (IsRunBehind h start) (IsOpened h text start) text answer old old new before middle after wrote (opened_is h text start) (λ all. all) answers

-- what is written begins with the opening
opened_first : (h : Header) (text : List ℕ) (start before after : Option (List ℕ)) → AppendsPrefix before after text → (s : Outcome) × IsOpened h text start s × AppendsPrefix before after s.text
opened_first h text None before after cut = (record { text = text; status = status.Ok }, tt, cut)
opened_first h text (Some bytes) before after cut = (outcome_of text (execution four_devices h bytes), refl, prefix-longer before after text (text_of (execution four_devices h bytes)) cut)

pub opened_cut : (h : Header) (text : List ℕ) (start old new before after : Option (List ℕ)) (stop : Stop) (faults later : ℕ) → AppendsPrefix before after text → WriteCause faults later stop → AnswersAs (IsOpened h text start) (status_of stop) (io old new before after)
opened_cut h text start old new before after stop faults later cut cause =
    let s = opened_first h text start before after cut in
    answers-cut (IsOpened h text start) s.0 stop faults later old new before after s.1 s.2 cause

pub opened_nothing : (h : Header) (text : List ℕ) (start before : Option (List ℕ)) → BeginsAs (IsOpened h text start) before before
opened_nothing h text None before = answers-nothing (IsOpened h text None) (record { text = text; status = status.Ok }) before tt
opened_nothing h text (Some bytes) before = answers-nothing (IsOpened h text (Some bytes)) (outcome_of text (execution four_devices h bytes)) before refl

-- ---- The whole

executed_opened : (old mid : Option (List ℕ)) (held : List ℕ) (h : Header) (text : List ℕ) (s : Outcome) → IsOpening (next_bytes [] old) (next_bytes held mid) (Accepted h text) → IsOpened h text (next_bytes held mid) s → IsExecuted old s
executed_opened None mid held h text s opened is = tt
executed_opened (Some bytes) mid held h text s opened is =
    ap (λ (o : Opens). executed_in four_devices o) opened.1 ∙ subst (λ (o : Option (List ℕ)). IsOpened h text o s) opened.2 is

pub executes_opened : (old mid new before after : Option (List ℕ)) (held : List ℕ) (h : Header) (text : List ℕ) (answer : Status) → IsOpening (next_bytes [] old) (next_bytes held mid) (Accepted h text) → AnswersAs (IsOpened h text (next_bytes held mid)) answer (io mid new before after) → AnswersAs (IsExecuted old) answer (io old new before after)
executes_opened old mid new before after held h text answer opened answers =
    answers-behind (IsOpened h text (next_bytes held mid)) (IsExecuted old) [] answer old mid new before before after (Appends-nil before) (λ s is. executed_opened old mid held h text s opened is) (λ all. reads-opened old mid new held h text opened all) answers

executed_refused : (old mid : Option (List ℕ)) (reason : ℕ) → IsOpening (next_bytes [] old) mid (Refused reason) → IsExecuted old (refused_opening reason)
executed_refused None mid reason opened = tt
executed_refused (Some bytes) mid reason opened = ap (λ (o : Opens). executed_in four_devices o) opened

pub executes_refused : (answer : Status) (old mid new before after : Option (List ℕ)) (reason : ℕ) → IsOpening (next_bytes [] old) mid (Refused reason) → RefusesLine answer 0 reason before after → AnswersAs (IsExecuted old) answer (io old new before after)
executes_refused answer old mid new before after reason opened refuses = answers-refused (IsExecuted old) answer reason old new before after (executed_refused old mid reason opened) refuses

pub executes_nothing : (old before : Option (List ℕ)) → BeginsAs (IsExecuted old) before before
executes_nothing None before = answers-nothing (IsExecuted None) (record { text = []; status = status.Ok }) before tt
executes_nothing (Some bytes) before = answers-nothing (IsExecuted (Some bytes)) (executed bytes) before refl
