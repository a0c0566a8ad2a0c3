-- What `upgrade` answers, by its opening.
use Rattle.std.proofs.Common.{◌≡◌, ◌∙◌, ℕ, Bool, true, false, cond, Option, Some, None, List, [], ◌∷◌, ◌++◌, codes, refl, sym, ap, subst, Result, Ok, Err, IfErr}
use Rattle.std.specs.Str.{bytes_eq}
use Rattle.std.specs.Io.KnownBytes.{Appends}
use Rattle.std.proofs.lemmas.List.{append_cancel_right}
use Rattle.std.proofs.lemmas.Slice.Eq.{bytes_eq-Decides}
use Rattle.ddr_io.specs.Line.{next_bytes}
use Rattle.ddr_io.specs.Reading.{Reading as ReaderOfLines}
use Rattle.ddr_io.specs.Sink.{AppendsPrefix}
use Rattle.ddr_io.specs.declared.line_reader.Line.TheVariants.{Text as TextAnswer}
use Rattle.ddr_io.specs.declared.status.Status.{Status}
use Rattle.ddr_io.specs.declared.status.Status.TheVariants as status
use Rattle.ddr_text.specs.Io.{io}
use Rattle.ddr_text.specs.Apart.{HasParts, IsApart}
use Rattle.ddr_text.specs.AcceptedReport.{ReportLines}
use Rattle.ddr_text.specs.Opening.{Heading, behind, heading_in, opening_text, parts_of, with_feed}
use Rattle.ddr_text.specs.Spelling.{spelled}
use Rattle.ddr_text.specs.declared.opening.Apart.{Apart}
use Rattle.ddr_text.specs.declared.opening.Apart.TheVariants.{Accepted, Refused}
use Rattle.speed_bin.specs.declared.header.Header.{Header}
use Rattle.speed_bin.specs.Header.{shape_of}
use Rattle.ddr_text.specs.ReportReading.{Place, lines_in, lines_left}
use Rattle.ddr_text.specs.declared.report_reader.Stage.TheVariants.{Body}
use Rattle.ddr_text.specs.Outcome.{AnswersAs, Outcome, RefusesLine, refused_opening}
use Rattle.ddr_text.specs.Stop.{WriteCause, status_of}
use Rattle.ddr_text.specs.declared.stop.Stop.{Stop}
use Rattle.ddr_cli.specs.Behind.{IsOutcomeBehind, outcome_behind}
use Rattle.ddr_cli.specs.Upgraded.{IsUpgraded, newer, newer_heading, upgraded}
use Rattle.ddr_text.proofs.Outcomes.{answers-behind, answers-cut, answers-nothing, answers-refused, reads-behind}
use Rattle.ddr_text.proofs.Prefixes.{prefix-behind, prefix-longer}
use Rattle.ddr_cli.proofs.UpgradedAs.{upgraded-refused, upgraded-written}

-- ---- The separator

-- `---` with its line feed
pub newer-then : (piece line : List ℕ) → piece ≡ with_feed line → bytes_eq piece (codes "---\n") ≡ true → codes "--- 2 4 8\n" ≡ with_feed (newer line)
newer-then piece line is e =
    let whole : line ++ (10 ∷ []) ≡ codes "---" ++ (10 ∷ []) = sym is ∙ (bytes_eq-Decides piece (codes "---\n")).0 e in
    let same : line ≡ codes "---" = append_cancel_right line (codes "---") (10 ∷ []) whole in
    sym (ap (λ l. with_feed (newer l)) same)

-- another separator
pub newer-else : (piece line : List ℕ) → piece ≡ with_feed line → bytes_eq piece (codes "---\n") ≡ false → piece ≡ with_feed (newer line)
newer-else piece line is e = go (bytes_eq line (codes "---")) refl
  where
    go : (t : Bool) → bytes_eq line (codes "---") ≡ t → piece ≡ with_feed (cond t (codes "--- 2 4 8") line)
    go false k = is
    go true k =
        let same : line ≡ codes "---" = (bytes_eq-Decides line (codes "---")).0 k in
        let piece_is : piece ≡ codes "---\n" = is ∙ ap with_feed same in
        let no : true ≡ false = sym ((bytes_eq-Decides piece (codes "---\n")).1 piece_is) ∙ e in
        absurd cc

-- a write that stopped within the separator
pub heading-cut : {T E : Type 0} (r : Result T E) (before middle after : Option (List ℕ)) (text piece separator : List ℕ) → Appends before middle text → piece ≡ separator
    → IfErr r (λ stop. AppendsPrefix middle after piece) → IfErr r (λ stop. AppendsPrefix before after (text ++ separator))
heading-cut (Ok x) before middle after text piece separator whole is cut = tt
heading-cut (Err stop) before middle after text piece separator whole is cut = prefix-behind before middle after text separator whole (subst (AppendsPrefix middle after) is cut)

-- ---- An opening that is accepted

-- the header text and the newer separator
abbrev front : List ℕ → List ℕ → List ℕ
front text line = text ++ with_feed (newer line)

newer-front : (heading : Heading) (h : Header) (text separator : List ℕ) → HasParts heading h text separator → opening_text (newer_heading heading) ≡ front text heading.separator
newer-front heading h text separator parts = ap (λ t. t ++ with_feed (newer heading.separator)) (sym parts.text_is)

upgrades-known : ReportLines → (bytes : List ℕ) (left : Option (List ℕ)) (heading : Heading) (h : Header) (text separator : List ℕ) (first : Place) (s : Outcome) → first.shape ≡ shape_of h → first.stage ≡ Body → first.number ≡ 1
    → HasParts heading h text separator → heading_in [] (parts_of bytes) ≡ Ok heading → left ≡ Some (behind (opening_text heading) bytes) → IsOutcomeBehind spelled first left s
    → upgraded bytes ≡ record { text = front text heading.separator ++ s.text; status = s.status }
upgrades-known laws bytes left heading h text separator first s a b c parts found is known =
    let rest = behind (opening_text heading) bytes in
    let written : outcome_behind spelled (lines_left first rest) ≡ s = subst (λ (o : Option (List ℕ)). IsOutcomeBehind spelled first o s) is known in
    let own : outcome_behind spelled (lines_in (shape_of h) Body 1 (parts_of rest)) ≡ s = rw (← a, ← b, ← c) written in
    upgraded-written laws bytes heading h rest found parts.stated refl
    ∙ ap (λ (o : Outcome). record { text = opening_text (newer_heading heading) ++ o.text; status = o.status }) own
    ∙ ap (λ t. record { text = t ++ s.text; status = s.status }) (newer-front heading h text separator parts)

pub upgrades-accepted : ReportLines → (answer : Status) (old mid new before middle after : Option (List ℕ)) (held : List ℕ) (h : Header) (text separator : List ℕ) (first : Place) → first.shape ≡ shape_of h → first.stage ≡ Body → first.number ≡ 1
    → IsApart (next_bytes [] old) (next_bytes held mid) (Accepted h text separator) → (heading : Heading) × HasParts heading h text separator
    → ((line : List ℕ) → separator ≡ with_feed line → Appends before middle (front text line))
    → AnswersAs (IsOutcomeBehind spelled first (next_bytes held mid)) answer (io mid new middle after) → AnswersAs (IsUpgraded old) answer (io old new before after)
upgrades-accepted laws answer None mid new before middle after held h text separator first a b c opened (heading, parts) put answers =
    answers-behind (IsOutcomeBehind spelled first (next_bytes held mid)) (IsUpgraded None) (front text heading.separator) answer None mid new before middle after (put heading.separator parts.separator_is) (λ s is. tt) (λ all. tt) answers
upgrades-accepted laws answer (Some bytes) mid new before middle after held h text separator first a b c (heading, parts, found, left) known put answers =
    answers-behind (IsOutcomeBehind spelled first (next_bytes held mid)) (IsUpgraded (Some bytes)) (front text heading.separator) answer (Some bytes) mid new before middle after (put heading.separator parts.separator_is)
    (λ s is. upgrades-known laws bytes (next_bytes held mid) heading h text separator first s a b c parts found left is) (reads-behind (Some bytes) mid new held (behind (opening_text heading) bytes) left) answers

-- a write that stopped within the heading
pub upgrades-cut : ReportLines → (stop : Stop) (faults later : ℕ) (old new mid before after : Option (List ℕ)) (h : Header) (text separator : List ℕ) → IsApart (next_bytes [] old) mid (Accepted h text separator)
    → (heading : Heading) × HasParts heading h text separator → ((line : List ℕ) → separator ≡ with_feed line → AppendsPrefix before after (front text line)) → WriteCause faults later stop → AnswersAs (IsUpgraded old) (status_of stop) (io old new before after)
upgrades-cut laws stop faults later None new mid before after h text separator opened (heading, parts) cut cause =
    answers-cut (IsUpgraded None) (record { text = front text heading.separator; status = status.Ok }) stop faults later None new before after tt (cut heading.separator parts.separator_is) cause
upgrades-cut laws stop faults later (Some bytes) new mid before after h text separator (heading, parts, found, left) known cut cause =
    let rest = behind (opening_text heading) bytes in
    let more = (outcome_behind spelled (lines_in (shape_of h) Body 1 (parts_of rest))).text in
    let is : (upgraded bytes).text ≡ front text heading.separator ++ more = ap (λ (o : Outcome). o.text) (upgraded-written laws bytes heading h rest found parts.stated refl) ∙ ap (λ t. t ++ more) (newer-front heading h text separator parts) in
    answers-cut (IsUpgraded (Some bytes)) (upgraded bytes) stop faults later (Some bytes) new before after refl
    (subst (AppendsPrefix before after) (sym is) (prefix-longer before after (front text heading.separator) more (cut heading.separator parts.separator_is))) cause

-- ---- Other openings

pub apart_at : (reader : ReaderOfLines) (left mid : Option (List ℕ)) (opening other : Apart) → reader ≡ record { held = []; line = []; last = TextAnswer } → opening ≡ other → IsApart (next_bytes reader.held left) mid opening → IsApart (next_bytes [] left) mid other
apart_at reader left mid opening other first is opened = subst (λ (o : Apart). IsApart (next_bytes [] left) mid o) is (subst (λ (r : ReaderOfLines). IsApart (next_bytes r.held left) mid opening) first opened)

refused-known : (old mid : Option (List ℕ)) (reason : ℕ) → IsApart (next_bytes [] old) mid (Refused reason) → IsUpgraded old (refused_opening reason)
refused-known None mid reason opened = tt
refused-known (Some bytes) mid reason opened = upgraded-refused bytes reason opened

pub upgrades-refused : (answer : Status) (old mid new before after : Option (List ℕ)) (reason : ℕ) → IsApart (next_bytes [] old) mid (Refused reason) → RefusesLine answer 0 reason before after → AnswersAs (IsUpgraded old) answer (io old new before after)
upgrades-refused answer old mid new before after reason opened refuses = answers-refused (IsUpgraded old) answer reason old new before after (refused-known old mid reason opened) refuses

some-upgraded : (old : Option (List ℕ)) → (s : Outcome) × IsUpgraded old s
some-upgraded None = (record { text = []; status = status.Ok }, tt)
some-upgraded (Some bytes) = (upgraded bytes, refl)

pub upgrades-nothing : (old before : Option (List ℕ)) → (it : Outcome) × IsUpgraded old it × AppendsPrefix before before it.text
upgrades-nothing old before = let s = some-upgraded old in answers-nothing (IsUpgraded old) s.0 before s.1
