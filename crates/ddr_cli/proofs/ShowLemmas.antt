-- What is shown behind an opening.
use Rattle.std.proofs.Common.{◌≡◌, ◌∙◌, ℕ, Option, Some, None, List, [], refl, ap, subst}
use Rattle.std.proofs.KnownBytes.{Appends-nil}
use Rattle.ddr_io.specs.Line.{next_bytes}
use Rattle.ddr_io.specs.declared.status.Status.{Status}
use Rattle.ddr_io.specs.declared.status.Status.TheVariants as status
use Rattle.ddr_text.specs.Io.{io}
use Rattle.ddr_text.specs.Opening.{IsOpening}
use Rattle.ddr_text.specs.declared.opening.Opening.TheVariants.{Accepted, Refused as RefusedOpening}
use Rattle.speed_bin.specs.declared.header.Header.{Header}
use Rattle.speed_bin.specs.Header.{shape_of}
use Rattle.ddr_text.specs.ReportReading.{Place}
use Rattle.ddr_text.specs.declared.report_reader.Stage.TheVariants.{Body}
use Rattle.ddr_text.specs.Outcome.{AnswersAs, Outcome, RefusesLine, refused_opening}
use Rattle.ddr_cli.specs.Behind.{IsOutcomeBehind}
use Rattle.ddr_cli.specs.Shown.{IsShown, shown, shown_in, shown_line}
use Rattle.ddr_text.proofs.Outcomes.{answers-behind, answers-nothing, answers-refused, reads-opened}

shown_accepted : (old mid : Option (List ℕ)) (h : Header) (text : List ℕ) (first : Place) (s : Outcome) → first.shape ≡ shape_of h → first.stage ≡ Body → first.number ≡ 1 → IsOpening (next_bytes [] old) mid (Accepted h text) → IsOutcomeBehind shown_line first mid s → IsShown old s
shown_accepted None mid h text first s a b c opened is = tt
shown_accepted (Some bytes) mid h text first s a b c opened is =
    let rest : IsOutcomeBehind shown_line first (Some opened.0) s = subst (λ (o : Option (List ℕ)). IsOutcomeBehind shown_line first o s) opened.2 is in
    ap shown_in opened.1 ∙ rw (← a, ← b, ← c) rest

pub shows_accepted : (answer : Status) (old mid new before after : Option (List ℕ)) (held : List ℕ) (h : Header) (text : List ℕ) (first : Place) → first.shape ≡ shape_of h → first.stage ≡ Body → first.number ≡ 1 → IsOpening (next_bytes [] old) (next_bytes held mid) (Accepted h text)
    → AnswersAs (IsOutcomeBehind shown_line first (next_bytes held mid)) answer (io mid new before after) → AnswersAs (IsShown old) answer (io old new before after)
shows_accepted answer old mid new before after held h text first a b c opened answers =
    answers-behind (IsOutcomeBehind shown_line first (next_bytes held mid)) (IsShown old) [] answer old mid new before before after (Appends-nil before) (λ s is. shown_accepted old (next_bytes held mid) h text first s a b c opened is) (reads-opened old mid new held h text opened) answers

shown_refused : (old mid : Option (List ℕ)) (reason : ℕ) → IsOpening (next_bytes [] old) mid (RefusedOpening reason) → IsShown old (refused_opening reason)
shown_refused None mid reason opened = tt
shown_refused (Some bytes) mid reason opened = ap shown_in opened

pub shows_refused : (answer : Status) (old mid new before after : Option (List ℕ)) (reason : ℕ) → IsOpening (next_bytes [] old) mid (RefusedOpening reason) → RefusesLine answer 0 reason before after → AnswersAs (IsShown old) answer (io old new before after)
shows_refused answer old mid new before after reason opened refuses = answers-refused (IsShown old) answer reason old new before after (shown_refused old mid reason opened) refuses

some_shown : (old : Option (List ℕ)) → (s : Outcome) × IsShown old s
some_shown None = (record { text = []; status = status.Ok }, tt)
some_shown (Some bytes) = (shown bytes, refl)

pub shows_unread : (old new before : Option (List ℕ)) → AnswersAs (IsShown old) status.ReadFault (io old new before before)
shows_unread old new before = let s = some_shown old in answers-nothing (IsShown old) s.0 before s.1

pub shows_no_memory : (old new before : Option (List ℕ)) → AnswersAs (IsShown old) status.OutOfMemory (io old new before before)
shows_no_memory old new before = let s = some_shown old in answers-nothing (IsShown old) s.0 before s.1
