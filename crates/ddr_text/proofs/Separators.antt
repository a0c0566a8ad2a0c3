-- A line is a separator, begins as one, or is a line of a header, by its first field and what follows that.
use Rattle.std.proofs.Common.{codes, ◌≡◌, ◌∙◌, ℕ, ◌==◌, ◌&&◌, ◌||◌, nat_le, Bool, true, false, cond, List, [], ◌∷◌, refl, ap, subst, inl, inr, Option, Some, None, Result, Ok, Err}
use Rattle.std.proofs.lemmas.Bool.{and_parts, leb-true, eqb-true}
use Rattle.command_words.specs.Geometry.{IsGroups}
use Rattle.std.specs.List.{slice_split, onto_first}
use Rattle.std.specs.Str.{bytes_eq}
use Rattle.std.proofs.lemmas.List.Splits.{slice_split-cons_yes, slice_split-cons_no}
use Rattle.ddr_text.specs.Grammar.{is_space, fields_of, number_of, three_fields}
use Rattle.ddr_text.specs.declared.lines.LineFault.{LineFault}
use Rattle.ddr_text.specs.Separator.{Role, Ends, Faulty, Text, role_of, role_of_line, role_behind, ends_or_faulty, version_at, version_if, version_in, version_of}
use Rattle.speed_bin.specs.Version.{Figures, IsVersion, plain}

-- a text has a first field
first_field : (xs : List ℕ) → (first : List ℕ) × (rest : List (List ℕ)) × (slice_split is_space xs ≡ first ∷ rest)
first_field [] = ([], [], refl)
first_field (x ∷ xs) = go (is_space x) refl (first_field xs)
  where
    go : (b : Bool) → is_space x ≡ b → ((first : List ℕ) × (rest : List (List ℕ)) × (slice_split is_space xs ≡ first ∷ rest))
        → (first : List ℕ) × (rest : List (List ℕ)) × (slice_split is_space (x ∷ xs) ≡ first ∷ rest)
    go true e more = ([], slice_split is_space xs, slice_split-cons_yes is_space x xs e)
    go false e more = (x ∷ more.0, more.1, slice_split-cons_no is_space x xs e ∙ ap (onto_first x) more.2)

some_behind : (fields : List (List ℕ)) (first : List ℕ) (rest : List (List ℕ)) → fields ≡ first ∷ rest → role_behind fields ≡ ends_or_faulty (version_in fields)
some_behind fields first rest is = rw is refl

pub role_text : (line first : List ℕ) (rest : List (List ℕ)) → fields_of line ≡ first ∷ rest → bytes_eq first (codes "---") ≡ false → role_of_line line ≡ Text
unfolding role_of_line
role_text line first rest is other = rw (is, other) refl

pub role_some : (line first text : List ℕ) → fields_of line ≡ first ∷ fields_of text → bytes_eq first (codes "---") ≡ true → role_of_line line ≡ ends_or_faulty (version_in (fields_of text))
unfolding role_of_line fields_of
role_some line first text is same =
    let some = first_field text in
    rw (is, same) (some_behind (slice_split is_space text) some.0 some.1 some.2)

-- ---- The version of a separator is within its ranges

abbrev figures_of : Role → Figures
figures_of (Ends version) = version
figures_of Faulty = plain
figures_of Text = plain

abbrev figures_in : Option Figures → Figures
figures_in (Some version) = version
figures_in None = plain

plain_in_range : IsVersion plain
plain_in_range = (leb-true _ _ refl, leb-true _ _ refl, inr refl)

groups_in_range : (groups : ℕ) → (groups == 4 || groups == 8) ≡ true → IsGroups groups
groups_in_range groups e = go (groups == 4) refl e
  where
    go : (t : Bool) → (groups == 4) ≡ t → (t || groups == 8) ≡ true → IsGroups groups
    go true is k = inl (eqb-true groups 4 is)
    go false is k = inr (eqb-true groups 8 k)

of_numbers : (cycle groups : ℕ) (version : Figures) → version_of cycle groups ≡ Some version → IsVersion version
of_numbers cycle groups version e = go ((nat_le 2 cycle && nat_le cycle 5) && (groups == 4 || groups == 8)) refl e
  where
    go : (t : Bool) → ((nat_le 2 cycle && nat_le cycle 5) && (groups == 4 || groups == 8)) ≡ t → cond t (Some (record { cycle = cycle; groups = groups })) None ≡ Some version → IsVersion version
    go true is k =
        let (both, some) = and_parts _ _ is in
        let (least, most) = and_parts _ _ both in
        let same : record { cycle = cycle; groups = groups } ≡ version = ap figures_in k in
        subst IsVersion same (leb-true _ _ least, leb-true _ _ most, groups_in_range groups some)
    go false is k = absurd cc

of_results : (cycle groups : Result ℕ LineFault) (version : Figures) → version_if cycle groups ≡ Some version → IsVersion version
of_results (Ok cycle) (Ok groups) version e = of_numbers cycle groups version e
of_results (Ok cycle) (Err fault) version e = absurd cc
of_results (Err fault) groups version e = absurd cc

of_fields : (fields : Result (List ℕ × List ℕ × List ℕ) LineFault) (version : Figures) → version_at fields ≡ Some version → IsVersion version
of_fields (Err fault) version e = absurd cc
of_fields (Ok (two, cycle, groups)) version e = go (bytes_eq two (codes "2")) e
  where
    go : (t : Bool) → cond t (version_if (number_of cycle) (number_of groups)) None ≡ Some version → IsVersion version
    go true k = of_results (number_of cycle) (number_of groups) version k
    go false k = absurd cc

of_version : (fields : List (List ℕ)) (version : Figures) → version_in fields ≡ Some version → IsVersion version
unfolding version_in
of_version fields version e = of_fields (three_fields fields) version e

of_some : (fields : List (List ℕ)) (o : Option Figures) (version : Figures) → version_in fields ≡ o → ends_or_faulty o ≡ Ends version → IsVersion version
of_some fields None version is e = absurd cc
of_some fields (Some own) version is e = let same : own ≡ version = ap figures_of e in subst IsVersion same (of_version fields own is)

of_behind : (rest : List (List ℕ)) (version : Figures) → role_behind rest ≡ Ends version → IsVersion version
of_behind [] version e = subst IsVersion (ap figures_of e) plain_in_range
of_behind (field ∷ more) version e = of_some (field ∷ more) (version_in (field ∷ more)) version refl e

of_role : (fields : List (List ℕ)) (version : Figures) → role_of fields ≡ Ends version → IsVersion version
of_role [] version e = absurd cc
of_role (first ∷ rest) version e = go (bytes_eq first (codes "---")) e
  where
    go : (t : Bool) → cond t (role_behind rest) Text ≡ Ends version → IsVersion version
    go true k = of_behind rest version k
    go false k = absurd cc

pub ends_in_range : (line : List ℕ) (version : Figures) → role_of_line line ≡ Ends version → IsVersion version
unfolding role_of_line
ends_in_range line version e = of_role (fields_of line) version e
