-- A report in version 2 opens as it did, and is judged as it was.
use Rattle.std.proofs.Common.{codes, ◌≡◌, ◌∙◌, ℕ, Bool, true, false, cond, List, [], ◌∷◌, ◌++◌, length, append-nil, drop_at, refl, sym, ap, subst, Result, Ok, Err, Option, None, Some}
use Rattle.std.specs.Str.{bytes_eq}
use Rattle.std.proofs.lemmas.Slice.Eq.{bytes_eq-Decides}
use Rattle.std.proofs.lemmas.List.Elements.{All-nil, All-cons}
use Rattle.speed_bin.specs.Document.{header_stated}
use Rattle.speed_bin.specs.Header.{shape_of}
use Rattle.speed_bin.specs.Version.{Figures, plain}
use Rattle.speed_bin.specs.declared.fault.HeaderFault.{HeaderFault}
use Rattle.speed_bin.specs.declared.header.Header.{Header}
use Rattle.ddr_io.specs.declared.status.Status.TheVariants as status
use Rattle.ddr_text.specs.Grammar.{fields_of, number_of}
use Rattle.ddr_text.specs.Opening.{Heading, Accepts, heading_in, opening_text, opening_of, with_heading, behind, judged, parts_of, with_feed, is_feed}
use Rattle.ddr_text.specs.ReportParts.{Refusal}
use Rattle.ddr_text.specs.Separator.{Role, Ends, Faulty, Text, role_of_line, version_in}
use Rattle.ddr_text.proofs.CleanParts.{HasNoFeed}
use Rattle.ddr_text.proofs.Reopened.{IsSeparator, again, own-separator, reopens-with}
use Rattle.log_auditor.specs.Findings.{finding_of, found_in}
use Rattle.ddr_text.specs.ReportReading.{lines_in}
use Rattle.ddr_text.specs.declared.report_reader.Stage.TheVariants.{Body}
use Rattle.ddr_text.specs.Outcome.{Outcome, refusal_status, refusal_text}
use Rattle.ddr_cli.specs.Upgraded.{newer, newer_heading, upgraded, upgraded_from, upgraded_with, kept_of, IsWellFormed}
use Rattle.ddr_cli.proofs.UpgradedAs.{upgraded-with}

-- ---- The separator

plain-role : role_of_line (codes "---") ≡ Ends plain
unfolding role_of_line fields_of
plain-role = refl

newer-role : role_of_line (codes "--- 2 4 8") ≡ Ends plain
unfolding role_of_line fields_of version_in number_of
newer-role = refl

no-feed : HasNoFeed (codes "--- 2 4 8")
no-feed =
    let P : ℕ → Type 0 = λ byte. is_feed byte ≡ false in
    All-cons P 45 (45 ∷ 45 ∷ 32 ∷ 50 ∷ 32 ∷ 52 ∷ 32 ∷ 56 ∷ []) refl (All-cons P 45 (45 ∷ 32 ∷ 50 ∷ 32 ∷ 52 ∷ 32 ∷ 56 ∷ []) refl (All-cons P 45 (32 ∷ 50 ∷ 32 ∷ 52 ∷ 32 ∷ 56 ∷ []) refl (All-cons P 32 (50 ∷ 32 ∷ 52 ∷ 32 ∷ 56 ∷ []) refl (All-cons P 50 (32 ∷ 52 ∷ 32 ∷ 56 ∷ []) refl (All-cons P 32 (52 ∷ 32 ∷ 56 ∷ []) refl (All-cons P 52 (32 ∷ 56 ∷ []) refl (All-cons P 32 (56 ∷ []) refl (All-cons P 56 ([]) refl (All-nil P)))))))))

abbrev ends : Role → Figures
ends (Ends version) = version
ends Faulty = plain
ends Text = plain

-- the newer separator is one of the same version
newer-separator : (separator : List ℕ) (version : Figures) → IsSeparator separator version → IsSeparator (newer separator) version
newer-separator separator version own = go (bytes_eq separator (codes "---")) refl
  where
    go : (t : Bool) → bytes_eq separator (codes "---") ≡ t → IsSeparator (cond t (codes "--- 2 4 8") separator) version
    go false e = own
    go true e =
        let same : separator ≡ codes "---" = (bytes_eq-Decides separator (codes "---")).0 e in
        let is : Ends plain ≡ Ends version = sym plain-role ∙ ap role_of_line (sym same) ∙ own.role in
        subst (IsSeparator (codes "--- 2 4 8")) (ap ends is) (record { clean = no-feed; short = refl; role = newer-role })

pub newer-twice : (separator : List ℕ) → newer (newer separator) ≡ newer separator
newer-twice separator = go (bytes_eq separator (codes "---")) refl
  where
    go : (t : Bool) → bytes_eq separator (codes "---") ≡ t → newer (cond t (codes "--- 2 4 8") separator) ≡ cond t (codes "--- 2 4 8") separator
    go true e = refl
    go false e = ap (λ b. cond b (codes "--- 2 4 8") separator) e

-- ---- Well formed bytes

-- their output in version 2
upgraded-is : (bytes : List ℕ) (heading : Heading) (h : Header) (rest : List ℕ) → IsWellFormed bytes heading h rest → upgraded bytes ≡ record { text = opening_text (newer_heading heading) ++ rest; status = status.Ok }
upgraded-is bytes heading h rest w =
    upgraded-with bytes heading h rest w.heading_is w.stated w.rest_is
    ∙ ap (λ o. record { text = opening_text (newer_heading heading) ++ (kept_of rest (length (lines_in (shape_of h) Body 1 (parts_of rest)).lines) o ++ refusal_text o); status = refusal_status o }) w.fine
    ∙ ap (λ r. record { text = opening_text (newer_heading heading) ++ r; status = status.Ok }) (append-nil rest)

pub bytes-are : (bytes : List ℕ) (heading : Heading) (h : Header) (rest : List ℕ) → IsWellFormed bytes heading h rest → (upgraded bytes).text ≡ opening_text (newer_heading heading) ++ rest
bytes-are bytes heading h rest w = ap (λ (o : Outcome). o.text) (upgraded-is bytes heading h rest w)

pub status-is : (bytes : List ℕ) (heading : Heading) (h : Header) (rest : List ℕ) → IsWellFormed bytes heading h rest → (upgraded bytes).status ≡ status.Ok
status-is bytes heading h rest w = ap (λ (o : Outcome). o.status) (upgraded-is bytes heading h rest w)

newer-opens : (bytes : List ℕ) (heading : Heading) (h : Header) (rest : List ℕ) → IsWellFormed bytes heading h rest → opening_of (opening_text (newer_heading heading) ++ rest) ≡ Accepts h (opening_text (newer_heading heading)) rest
newer-opens bytes heading h rest w =
    reopens-with h bytes heading (newer heading.separator) rest w.heading_is w.stated (newer-separator heading.separator heading.version (own-separator bytes heading w.heading_is))

pub old-opens : (bytes : List ℕ) (heading : Heading) (h : Header) (rest : List ℕ) → IsWellFormed bytes heading h rest → opening_of bytes ≡ Accepts h (opening_text heading) rest
old-opens bytes heading h rest w =
    ap (with_heading bytes) w.heading_is
    ∙ ap (λ r. judged (opening_text heading) r (header_stated heading.version heading.text)) w.rest_is
    ∙ ap (judged (opening_text heading) rest) w.stated

pub upgraded-opens : (bytes : List ℕ) (heading : Heading) (h : Header) (rest : List ℕ) → IsWellFormed bytes heading h rest → opening_of (upgraded bytes).text ≡ Accepts h (opening_text (newer_heading heading)) rest
upgraded-opens bytes heading h rest w = ap opening_of (bytes-are bytes heading h rest w) ∙ newer-opens bytes heading h rest w

-- the audit finds the same
pub verdict-kept : (bytes : List ℕ) (heading : Heading) (h : Header) (rest : List ℕ) → IsWellFormed bytes heading h rest → finding_of (upgraded bytes).text ≡ finding_of bytes
verdict-kept bytes heading h rest w = ap found_in (upgraded-opens bytes heading h rest w) ∙ sym (ap found_in (old-opens bytes heading h rest w))

-- they are well formed again
newer-well-formed : (bytes : List ℕ) (heading : Heading) (h : Header) (rest : List ℕ) → IsWellFormed bytes heading h rest → IsWellFormed (opening_text (newer_heading heading) ++ rest) (newer_heading heading) h rest
newer-well-formed bytes heading h rest w = record {
  heading_is = again bytes heading (newer heading.separator) heading.version rest w.heading_is (newer-separator heading.separator heading.version (own-separator bytes heading w.heading_is));
  stated = w.stated;
  rest_is = drop_at (opening_text (newer_heading heading)) rest (length (opening_text (newer_heading heading))) refl;
  fine = w.fine;
}

-- upgrading twice is upgrading once
pub twice : (bytes : List ℕ) (heading : Heading) (h : Header) (rest : List ℕ) → IsWellFormed bytes heading h rest → upgraded (upgraded bytes).text ≡ upgraded bytes
twice bytes heading h rest w =
    ap upgraded (bytes-are bytes heading h rest w)
    ∙ upgraded-is (opening_text (newer_heading heading) ++ rest) (newer_heading heading) h rest (newer-well-formed bytes heading h rest w)
    ∙ ap (λ s. record { text = (heading.text ++ with_feed s) ++ rest; status = status.Ok }) (newer-twice heading.separator)
    ∙ sym (upgraded-is bytes heading h rest w)

-- ---- The status

no-refusal : (refusal : Option Refusal) → refusal_status refusal ≡ status.Ok → refusal ≡ None
no-refusal None e = refl
no-refusal (Some refusal) e = absurd (let no : status.Refused ≡ status.Ok = e in cc)

-- what is written with the status Ok is well formed
pub only-well-formed : (bytes : List ℕ) → (upgraded bytes).status ≡ status.Ok → (heading : Heading) × (h : Header) × (rest : List ℕ) × IsWellFormed bytes heading h rest
only-well-formed bytes e = go (heading_in [] (parts_of bytes)) refl e
  where
    go : (r : Result Heading ℕ) → heading_in [] (parts_of bytes) ≡ r → (upgraded_from bytes r).status ≡ status.Ok → (heading : Heading) × (h : Header) × (rest : List ℕ) × IsWellFormed bytes heading h rest
    go (Err reason) found f = absurd (let no : status.Refused ≡ status.Ok = f in cc)
    go (Ok heading) found f = stated (header_stated heading.version heading.text) refl f
      where
        stated : (s : Result Header HeaderFault) → header_stated heading.version heading.text ≡ s → (upgraded_with heading (behind (opening_text heading) bytes) s).status ≡ status.Ok
            → (heading : Heading) × (h : Header) × (rest : List ℕ) × IsWellFormed bytes heading h rest
        stated (Err fault) was k = absurd (let no : status.Refused ≡ status.Ok = k in cc)
        stated (Ok h) was k = (
          heading,
          h,
          behind (opening_text heading) bytes,
          record { heading_is = found; stated = was; rest_is = refl; fine = no-refusal (lines_in (shape_of h) Body 1 (parts_of (behind (opening_text heading) bytes))).refusal k },
        )
