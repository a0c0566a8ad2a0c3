-- The checks of a header have the numbers 1 to 8.
use Rattle.std.proofs.Common.{◌≡◌, ℕ, suc, ◌+◌, ◌<◌, ◌≤◌, ◌⊎◌, inl, inr, Bool, true, false, if◌then◌else◌, List, [], ◌∷◌, length, not, ◌&&◌, refl, sym, ap, ◌∙◌, subst, arith, Option, Some, None, Result, Ok, Err}
use Rattle.std.specs.Str.{is_utf8}
use Rattle.std.specs.Prelude.{codes, option_and_then}
use Rattle.speed_bin.specs.Document.{checks_of, failed, checked, with_bin, header_of, header_stated, timing_in, settings_in, text_at}
use Rattle.speed_bin.specs.Keys.{all_members, key_fits, kind_fits, range_fits, has_required}
use Rattle.speed_bin.specs.Rules.{first_failing}
use Rattle.speed_bin.specs.Timing.{bin_named}
use Rattle.speed_bin.specs.declared.fault.HeaderFault.{HeaderFault}
use Rattle.speed_bin.specs.declared.fault.HeaderFault.TheVariants.{NotToml, Key, Kind, Range, NoBin, Check, OutOfMemory}
use Rattle.speed_bin.specs.Version.{Figures}
use Rattle.speed_bin.specs.declared.header.Header.{Header}
use Rattle.speed_bin.specs.declared.timing.Timing.{Timing}
use Rattle.ddr_text.specs.Front.{IsOpeningReason}
use Rattle.ddr_text.specs.Opening.{Refuses, judged, number_or_none}
use Rattle.ddr_text.specs.Reason.{number_of, of_header}
use Rattle.ddr_text.specs.declared.reason.Reason.{Reason}
use Rattle.ddr_text.specs.declared.reason.Reason.TheVariants as told

abbrev IsCheck : ℕ → Type 0
IsCheck check = (1 ≤ check) × (check ≤ 8)

-- a check that fails is one of the eight
abbrev FailsCheck : Result Header HeaderFault → Type 0
FailsCheck (Ok header) = Unit {0}
FailsCheck (Err (Check check)) = IsCheck check
FailsCheck (Err NotToml) = Unit {0}
FailsCheck (Err Key) = Unit {0}
FailsCheck (Err Kind) = Unit {0}
FailsCheck (Err Range) = Unit {0}
FailsCheck (Err NoBin) = Unit {0}
FailsCheck (Err OutOfMemory) = Unit {0}

failing : (n : ℕ) (tests : List Bool) (check : ℕ) → first_failing n tests ≡ Some check → (n ≤ check) × (check < n + length tests)
failing n [] check is = absurd (let no : ⊥ = cc in no)
failing n (true ∷ tests) check is = let more = failing (suc n) tests check is in (omega (arith, more.0), omega (arith, more.1))
failing n (false ∷ tests) check is = let same : n ≡ check = cc in (omega (arith, same), omega (arith, same))

if_failed : (h : Header) (check : Option ℕ) → ((number : ℕ) → check ≡ Some number → IsCheck number) → FailsCheck (failed h check)
if_failed h None is = tt
if_failed h (Some number) is = is number refl

of_checked : (h : Header) → FailsCheck (checked h)
unfolding checks_of
of_checked h = if_failed h (first_failing 1 (checks_of h)) (λ number is. let found = failing 1 (checks_of h) number is in (found.0, omega (arith, found.1)))

of_bin : (version : Figures) (top : _) (bin : Option Timing) → FailsCheck (with_bin version top bin)
of_bin version top None = tt
of_bin version top (Some bin) = of_checked (record { timing = timing_in bin top; settings = settings_in top; version = version })

either : (test : Bool) (x y : Result Header HeaderFault) → FailsCheck x → FailsCheck y → FailsCheck (if test then x else y)
either true x y first second = first
either false x y first second = second

of_members : (version : Figures) (top : _) → FailsCheck (header_of version top)
of_members version None = tt
of_members version (Some top) =
    either (not (all_members key_fits top && has_required top)) _ _ tt (either (not (all_members kind_fits top)) _ _ tt
    (either (not (all_members range_fits top)) _ _ tt (of_bin version top (option_and_then bin_named (text_at (codes "bin") top)))))

of_text : (version : Figures) (text : List ℕ) → FailsCheck (header_stated version text)
of_text version text = either (is_utf8 text) _ _ (of_members version _) tt

-- the reason of a fault of a text is one of an opening
is_reason : (version : Figures) (text : List ℕ) (fault : HeaderFault) (reason : Reason) → header_stated version text ≡ Err fault → of_header fault ≡ Some reason → IsOpeningReason reason
is_reason version text NotToml reason is e = let same : told.NotToml ≡ reason = cc in subst IsOpeningReason same (tt, inl (omega arith, omega arith))
is_reason version text Key reason is e = let same : told.HeaderKey ≡ reason = cc in subst IsOpeningReason same (tt, inl (omega arith, omega arith))
is_reason version text Kind reason is e = let same : told.HeaderKind ≡ reason = cc in subst IsOpeningReason same (tt, inl (omega arith, omega arith))
is_reason version text Range reason is e = let same : told.HeaderRange ≡ reason = cc in subst IsOpeningReason same (tt, inl (omega arith, omega arith))
is_reason version text NoBin reason is e = let same : told.UnknownBin ≡ reason = cc in subst IsOpeningReason same (tt, inl (omega arith, omega arith))
is_reason version text (Check check) reason is e =
    let is_check : IsCheck check = subst FailsCheck is (of_text version text) in
    let same : told.FailedCheck check ≡ reason = cc in
    subst IsOpeningReason same (is_check, inr (omega (arith, is_check.0), omega (arith, is_check.1)))
is_reason version text OutOfMemory reason is e = absurd (let no : ⊥ = cc in no)

-- a header that was read is the one that the text states
pub stated_ok : (version : Figures) (text : List ℕ) (h : Header) (r : Result Header HeaderFault) → r ≡ Ok h → (r ≡ Err OutOfMemory) ⊎ (r ≡ header_stated version text) → header_stated version text ≡ Ok h
stated_ok version text h r found (inl is) = absurd (let no : ⊥ = cc in no)
stated_ok version text h r found (inr is) = sym is ∙ found

stated : (version : Figures) (text : List ℕ) (fault : HeaderFault) (reason : Reason) (r : Result Header HeaderFault) → r ≡ Err fault → of_header fault ≡ Some reason
    → (r ≡ Err OutOfMemory) ⊎ (r ≡ header_stated version text) → header_stated version text ≡ Err fault
stated version text fault reason r found e (inl is) =
    let same : fault ≡ OutOfMemory = (let both = sym found ∙ is in cc) in
    absurd (let no : None ≡ Some reason = sym (ap of_header same) ∙ e in cc)
stated version text fault reason r found e (inr is) = sym is ∙ found

-- a header with a fault is refused with its reason
pub refused_header : (version : Figures) (text : List ℕ) (fault : HeaderFault) (reason : Reason) (r : Result Header HeaderFault) → r ≡ Err fault → of_header fault ≡ Some reason
    → (r ≡ Err OutOfMemory) ⊎ (r ≡ header_stated version text) → IsOpeningReason reason × (judged text [] (header_stated version text) ≡ Refuses (number_of reason))
refused_header version text fault reason r found e known =
    let is = stated version text fault reason r found e known in
    (is_reason version text fault reason is e, ap (judged text []) is ∙ ap (λ o. Refuses (number_or_none o)) e)
