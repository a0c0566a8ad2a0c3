-- An opening whose header text and separator are apart, and then one.
use Rattle.std.proofs.Common.{◌≡◌, ◌++◌, ℕ, List, [], length, take, sym, ap, ◌∙◌, subst, take-append-drop, drop_at, refl, Option, Some, None, Result, Ok, Err, IfOk, OnErr}
use Rattle.std.specs.Io.KnownBytes.{Consumes}
use Rattle.speed_bin.specs.Document.{header_stated}
use Rattle.speed_bin.specs.Version.{Figures}
use Rattle.speed_bin.specs.declared.fault.HeaderFault.{HeaderFault}
use Rattle.speed_bin.specs.declared.header.Header.{Header}
use Rattle.ddr_text.specs.Apart.{ApartAgain, HasParts, IsApart, IsApartAnswer}
use Rattle.ddr_text.specs.Front.{HeadsAgain, IsFront, IsJudged}
use Rattle.ddr_text.specs.Opening.{Heading, Accepts, Refuses, IsAnswer, IsOpening, OpensAgain, behind, heading_in, judged, opening_of, opening_text, parts_of, with_feed, with_heading}
use Rattle.ddr_text.specs.declared.opening.Apart.{Apart}
use Rattle.ddr_text.specs.declared.opening.Apart.TheVariants as apart
use Rattle.ddr_text.specs.declared.opening.Front.TheVariants as front
use Rattle.ddr_text.specs.declared.opening.Opening.{Opening}
use Rattle.ddr_text.specs.declared.opening.Opening.TheVariants.{Accepted}

-- ---- What the header text states

-- a refusal does not depend on the bytes around the header
refuses-same : (text rest other more : List ℕ) (stated : Result Header HeaderFault) (reason : ℕ) → judged text rest stated ≡ Refuses reason → judged other more stated ≡ Refuses reason
refuses-same text rest other more (Ok header) reason is = absurd (let no : Accepts header text rest ≡ Refuses reason = is in cc)
refuses-same text rest other more (Err fault) reason is = is

pub judged-apart : {E : Type 0} (old new : Option (List ℕ)) (text separator : List ℕ) (version : Figures) (r : Result Apart E) → IsFront old new (front.Text text separator version)
    → IfOk r (IsJudged text separator version) → IfOk r (IsApart old new)
judged-apart old new text separator version (Err e) found is = tt
judged-apart None new text separator version (Ok opening) found is = tt
judged-apart (Some bytes) new text separator version (Ok (apart.Accepted header same own)) (line, whole, heading, left) is = (
  record { text = text; separator = line; version = version },
  record { text_is = is.0; separator_is = is.1 ∙ whole; stated = is.2 },
  heading,
  left ∙ ap (λ s. Some (behind (text ++ s) bytes)) whole,
)
judged-apart (Some bytes) new text separator version (Ok (apart.Refused reason)) (line, whole, heading, left) is =
    ap (with_heading bytes) heading
    ∙ refuses-same text [] (text ++ with_feed line) (behind (text ++ with_feed line) bytes) (header_stated version text) reason is
judged-apart (Some bytes) new text separator version (Ok apart.Failed) found is = absurd is

-- the header that a text states, where that heads whatever it begins
heads-job : (text line : List ℕ) (version : Figures) (header : Header) (more : List ℕ)
    → heading_in [] (parts_of ((text ++ with_feed line) ++ more)) ≡ Ok (record { text = text; separator = line; version = version }) → header_stated version text ≡ Ok header
    → opening_of ((text ++ with_feed line) ++ more) ≡ Accepts header (text ++ with_feed line) more
heads-job text line version header more found stated =
    let whole = text ++ with_feed line in
    ap (with_heading (whole ++ more)) found
    ∙ ap (λ l. judged whole l (header_stated version text)) (drop_at whole more (length whole) refl)
    ∙ ap (judged whole more) stated

pub judged-again : {E : Type 0} (text separator : List ℕ) (version : Figures) (r : Result Apart E) → HeadsAgain (front.Text text separator version)
    → IfOk r (IsJudged text separator version) → IfOk r ApartAgain
judged-again text separator version (Err e) again is = tt
judged-again text separator version (Ok (apart.Accepted header same own)) (line, whole, again) is = λ more.
    let one : text ++ with_feed line ≡ same ++ own = ap (λ s. text ++ s) (sym whole) ∙ ap (λ s. text ++ s) (sym is.1) ∙ ap (λ t. t ++ own) (sym is.0) in
    let found = ap (λ s. heading_in [] (parts_of ((text ++ s) ++ more))) (sym whole) ∙ again more in
    subst (λ t. opening_of (t ++ more) ≡ Accepts header t more) one (heads-job text line version header more found is.2)
judged-again text separator version (Ok (apart.Refused reason)) again is = tt
judged-again text separator version (Ok apart.Failed) again is = tt

-- ---- The two texts as one

one-text : (heading : Heading) (header : Header) (text separator : List ℕ) → HasParts heading header text separator → opening_text heading ≡ text ++ separator
one-text heading header text separator parts = ap (λ t. t ++ with_feed heading.separator) (sym parts.text_is) ∙ ap (λ s. text ++ s) (sym parts.separator_is)

opens : (bytes : List ℕ) (heading : Heading) (header : Header) (text separator : List ℕ) → HasParts heading header text separator → heading_in [] (parts_of bytes) ≡ Ok heading
    → opening_of bytes ≡ Accepts header (text ++ separator) (behind (text ++ separator) bytes)
opens bytes heading header text separator parts found =
    ap (with_heading bytes) found
    ∙ ap (judged (opening_text heading) (behind (opening_text heading) bytes)) parts.stated
    ∙ ap (λ t. Accepts header t (behind t bytes)) (one-text heading header text separator parts)

pub joined : {E : Type 0} (old new : Option (List ℕ)) (header : Header) (text separator : List ℕ) (r : Result Opening E) → IsApart old new (apart.Accepted header text separator)
    → IfOk r (λ opening. opening ≡ Accepted header (text ++ separator)) → IfOk r (IsOpening old new)
joined old new header text separator (Err e) found is = tt
joined None new header text separator (Ok opening) found is = tt
joined (Some bytes) new header text separator (Ok opening) (heading, parts, found, left) is =
    subst (IsOpening (Some bytes) new) (sym is) (
      behind (text ++ separator) bytes,
      opens bytes heading header text separator parts found,
      left ∙ ap (λ t. Some (behind t bytes)) (one-text heading header text separator parts),
    )

pub joined-answer : {E : Type 0} (header : Header) (text separator : List ℕ) (r : Result Opening E) → IsApartAnswer (apart.Accepted header text separator)
    → IfOk r (λ opening. opening ≡ Accepted header (text ++ separator)) → IfOk r IsAnswer
joined-answer header text separator (Err e) known is = tt
joined-answer header text separator (Ok opening) (accepted, heading, parts, ends) is =
    subst IsAnswer (sym is) (accepted, (heading, one-text heading header text separator parts, ends, parts.stated))

pub joined-again : {E : Type 0} (header : Header) (text separator : List ℕ) (r : Result Opening E) → ApartAgain (apart.Accepted header text separator)
    → IfOk r (λ opening. opening ≡ Accepted header (text ++ separator)) → IfOk r OpensAgain
joined-again header text separator (Err e) again is = tt
joined-again header text separator (Ok opening) again is = subst OpensAgain (sym is) again

-- the bytes that were taken before memory was wanting
pub taken-apart : {T E : Type 0} (old new : Option (List ℕ)) (header : Header) (text separator : List ℕ) (r : Result T E) → IsApart old new (apart.Accepted header text separator) → OnErr r ((bytes : List ℕ) × Consumes old new bytes)
taken-apart old new header text separator (Ok x) found = tt
taken-apart None new header text separator (Err e) found = ([], tt)
taken-apart (Some bytes) new header text separator (Err e) (heading, parts, found, left) =
    let opening = opening_text heading in
    (take (length opening) bytes, subst (λ n. Consumes (Some bytes) n (take (length opening) bytes)) (sym left) (sym (take-append-drop (length opening) bytes)))
