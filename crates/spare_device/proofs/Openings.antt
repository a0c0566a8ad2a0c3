-- The opening of a script, and what is answered behind it.
use Rattle.std.proofs.Common.{◌≡◌, ◌∙◌, ℕ, Option, Some, None, List, [], ◌++◌, refl, sym, ap, subst}
use Rattle.std.specs.Io.KnownBytes.{Appends}
use Rattle.std.proofs.KnownBytes.{Appends-nil}
use Rattle.ddr_io.specs.Line.{next_bytes}
use Rattle.ddr_io.specs.Sink.{AppendsPrefix}
use Rattle.ddr_io.specs.declared.status.Status.{Status}
use Rattle.ddr_io.specs.declared.status.Status.TheVariants as status
use Rattle.ddr_text.specs.Io.{io}
use Rattle.ddr_text.specs.Opening.{Accepts, IsAnswer, IsOpening, Opens, opening_of}
use Rattle.ddr_text.specs.declared.opening.Opening.{Opening}
use Rattle.ddr_text.specs.declared.opening.Opening.TheVariants.{Accepted, Refused}
use Rattle.speed_bin.specs.declared.header.Header.{Header}
use Rattle.device_exec.specs.Executed.{executed_in, execution}
use Rattle.spare_device.specs.Spared.{IsSpared, five_devices, spared}
use Rattle.ddr_text.specs.Outcome.{AnswersAs, BeginsAs, Outcome, ReadsAll, RefusesLine, refused_opening}
use Rattle.spare_device.specs.Running.{IsOpened, IsRunBehind}
use Rattle.device_exec.specs.Scripts.{outcome_of, text_of}
use Rattle.ddr_text.specs.Stop.{WriteCause, status_of}
use Rattle.ddr_text.specs.declared.stop.Stop.{Stop}
use Rattle.ddr_text.proofs.Outcomes.{answers-behind, answers-cut, answers-nothing, answers-refused, reads-opened}
use Rattle.ddr_text.proofs.Prefixes.{prefix-longer}

-- ---- Behind the opening

opened_is : (dead : ℕ) (h : Header) (text : List ℕ) (start : Option (List ℕ)) (s : Outcome) → IsRunBehind dead h start s → IsOpened dead h text start (record { text = text ++ s.text; status = s.status })
opened_is dead h text None s is = tt
opened_is dead h text (Some bytes) s is = ap (λ (o : Outcome). record { text = text ++ o.text; status = o.status }) is

pub opened_runs : (dead : ℕ) (h : Header) (text : List ℕ) (start : Option (List ℕ)) (answer : Status) (old new before middle after : Option (List ℕ)) → Appends before middle text → AnswersAs (IsRunBehind dead h start) answer (io old new middle after) → AnswersAs (IsOpened dead h text start) answer (io old new before after)
opened_runs dead h text start answer old new before middle after wrote answers =
    answers-behind (IsRunBehind dead h start) (IsOpened dead h text start) text answer old old new before middle after wrote (opened_is dead h text start) (λ all. all) answers

-- what is written begins with the opening
opened_first : (dead : ℕ) (h : Header) (text : List ℕ) (start before after : Option (List ℕ)) → AppendsPrefix before after text → (s : Outcome) × IsOpened dead h text start s × AppendsPrefix before after s.text
opened_first dead h text None before after cut = (record { text = text; status = status.Ok }, tt, cut)
opened_first dead h text (Some bytes) before after cut = (outcome_of text (execution (five_devices dead) h bytes), refl, prefix-longer before after text (text_of (execution (five_devices dead) h bytes)) cut)

pub opened_cut : (dead : ℕ) (h : Header) (text : List ℕ) (start old new before after : Option (List ℕ)) (stop : Stop) (faults later : ℕ) → AppendsPrefix before after text → WriteCause faults later stop → AnswersAs (IsOpened dead h text start) (status_of stop) (io old new before after)
opened_cut dead h text start old new before after stop faults later cut cause =
    let s = opened_first dead h text start before after cut in
    answers-cut (IsOpened dead h text start) s.0 stop faults later old new before after s.1 s.2 cause

pub opened_nothing : (dead : ℕ) (h : Header) (text : List ℕ) (start before : Option (List ℕ)) → BeginsAs (IsOpened dead h text start) before before
opened_nothing dead h text None before = answers-nothing (IsOpened dead h text None) (record { text = text; status = status.Ok }) before tt
opened_nothing dead h text (Some bytes) before = answers-nothing (IsOpened dead h text (Some bytes)) (outcome_of text (execution (five_devices dead) h bytes)) before refl

-- ---- The whole

spared_opened : (dead : ℕ) (old mid : Option (List ℕ)) (held : List ℕ) (h : Header) (text : List ℕ) (s : Outcome) → IsOpening (next_bytes [] old) (next_bytes held mid) (Accepted h text) → IsOpened dead h text (next_bytes held mid) s → IsSpared dead old s
spared_opened dead None mid held h text s opened is = tt
spared_opened dead (Some bytes) mid held h text s opened is =
    ap (λ (o : Opens). executed_in (five_devices dead) o) opened.1 ∙ subst (λ (o : Option (List ℕ)). IsOpened dead h text o s) opened.2 is

pub spares_opened : (dead : ℕ) (old mid new before after : Option (List ℕ)) (held : List ℕ) (h : Header) (text : List ℕ) (answer : Status) → IsOpening (next_bytes [] old) (next_bytes held mid) (Accepted h text) → AnswersAs (IsOpened dead h text (next_bytes held mid)) answer (io mid new before after) → AnswersAs (IsSpared dead old) answer (io old new before after)
spares_opened dead old mid new before after held h text answer opened answers =
    answers-behind (IsOpened dead h text (next_bytes held mid)) (IsSpared dead old) [] answer old mid new before before after (Appends-nil before) (λ s is. spared_opened dead old mid held h text s opened is) (λ all. reads-opened old mid new held h text opened all) answers

spared_refused : (dead : ℕ) (old mid : Option (List ℕ)) (reason : ℕ) → IsOpening (next_bytes [] old) mid (Refused reason) → IsSpared dead old (refused_opening reason)
spared_refused dead None mid reason opened = tt
spared_refused dead (Some bytes) mid reason opened = ap (λ (o : Opens). executed_in (five_devices dead) o) opened

pub spares_refused : (dead : ℕ) (answer : Status) (old mid new before after : Option (List ℕ)) (reason : ℕ) → IsOpening (next_bytes [] old) mid (Refused reason) → RefusesLine answer 0 reason before after → AnswersAs (IsSpared dead old) answer (io old new before after)
spares_refused dead answer old mid new before after reason opened refuses = answers-refused (IsSpared dead old) answer reason old new before after (spared_refused dead old mid reason opened) refuses

pub spares_nothing : (dead : ℕ) (old before : Option (List ℕ)) → BeginsAs (IsSpared dead old) before before
spares_nothing dead None before = answers-nothing (IsSpared dead None) (record { text = []; status = status.Ok }) before tt
spares_nothing dead (Some bytes) before = answers-nothing (IsSpared dead (Some bytes)) (spared dead bytes) before refl
