-- Pieces that are written one behind the other.
use Rattle.std.proofs.Common.{◌≡◌, ◌∙◌, ℕ, Option, Some, None, List, [], ◌∷◌, ◌++◌, sym, ap, subst, append-nil, Result, Ok, Err, OnOk}
use Rattle.std.specs.List.{flat_map}
use Rattle.std.specs.Io.KnownBytes.{Appends}
use Rattle.std.proofs.lemmas.Grind.{flat_map-append}
use Rattle.ddr_io.specs.Sink.{AppendsPrefix}
use Rattle.ddr_text.specs.Opening.{with_feed}
use Rattle.ddr_text.proofs.Prefixes.{prefix-behind}

pub appends-none : (a : Option (List ℕ)) → Appends a a []
appends-none None = tt
appends-none (Some xs) = sym (append-nil xs)

-- a rest, behind its barrier
pub cut-rest : (a b c : Option (List ℕ)) (bars : List (List ℕ)) (rest line : List ℕ) → line ≡ rest → Appends a b (flat_map with_feed bars) → AppendsPrefix b c (with_feed line) → AppendsPrefix a c (flat_map with_feed (bars ++ rest ∷ []))
cut-rest a b c bars rest line e h cut =
    subst (AppendsPrefix a c)
    (ap (λ l. flat_map with_feed bars ++ l) (ap with_feed e ∙ sym (append-nil (with_feed rest))) ∙ sym (flat_map-append with_feed bars (rest ∷ [])))
    (prefix-behind a b c (flat_map with_feed bars) (with_feed line) h cut)

-- what holds anyway holds where nothing stops it
pub on_ok : {T E : Type 0} (r : Result T E) (P : Type 0) → P → OnOk r P
on_ok (Ok x) P h = h
on_ok (Err e) P h = tt
