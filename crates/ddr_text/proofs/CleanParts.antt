-- Bytes as lines: a line with its line feed is the first part of what it begins.
use Rattle.std.proofs.Common.{◌≡◌, ℕ, Bool, true, false, List, [], ◌∷◌, ◌++◌, refl, ap, ◌∙◌, append_assoc}
use Rattle.std.specs.Prelude.{⊤}
use Rattle.std.specs.List.{All, slice_split, onto_first}
use Rattle.std.proofs.lemmas.List.Splits.{slice_split_at, slice_split-cons_yes, slice_split-cons_no}
use Rattle.std.proofs.lemmas.List.Elements.{All-nil, All-cons}
use Rattle.ddr_text.specs.Opening.{is_feed, with_feed}

-- no byte is a line feed
abbrev pub HasNoFeed : List ℕ → Type 0
HasNoFeed text = All (λ byte. is_feed byte ≡ false) text

-- bytes have a first part
pub first-part : (xs : List ℕ) → (first : List ℕ) × (rest : List (List ℕ)) × (slice_split is_feed xs ≡ first ∷ rest)
first-part [] = ([], [], refl)
first-part (x ∷ xs) = go (is_feed x) refl (first-part xs)
  where
    go : (b : Bool) → is_feed x ≡ b → ((first : List ℕ) × (rest : List (List ℕ)) × (slice_split is_feed xs ≡ first ∷ rest))
        → (first : List ℕ) × (rest : List (List ℕ)) × (slice_split is_feed (x ∷ xs) ≡ first ∷ rest)
    go true e more = ([], slice_split is_feed xs, slice_split-cons_yes is_feed x xs e)
    go false e more = (x ∷ more.0, more.1, slice_split-cons_no is_feed x xs e ∙ ap (onto_first x) more.2)

pub line-part : (line rest : List ℕ) → HasNoFeed line → slice_split is_feed (with_feed line ++ rest) ≡ line ∷ slice_split is_feed rest
line-part line rest clean =
    ap (slice_split is_feed) (append_assoc line (10 ∷ []) rest) ∙ slice_split_at is_feed line 10 rest clean refl

-- each part has no line feed
abbrev pub AreClean : List (List ℕ) → Type 0
AreClean [] = ⊤
AreClean (part ∷ parts) = HasNoFeed part × AreClean parts

clean-onto : (x : ℕ) (parts : List (List ℕ)) → is_feed x ≡ false → AreClean parts → AreClean (onto_first x parts)
clean-onto x [] e clean = (All-cons (λ byte. is_feed byte ≡ false) x [] e (All-nil (λ byte. is_feed byte ≡ false)), tt)
clean-onto x (part ∷ parts) e clean = (All-cons (λ byte. is_feed byte ≡ false) x part e clean.0, clean.1)

pub clean-parts : (xs : List ℕ) → AreClean (slice_split is_feed xs)
clean-parts [] = (All-nil (λ byte. is_feed byte ≡ false), tt)
clean-parts (x ∷ xs) = go (is_feed x) refl (clean-parts xs)
  where
    go : (b : Bool) → is_feed x ≡ b → AreClean (slice_split is_feed xs) → AreClean (slice_split is_feed (x ∷ xs))
    go true e clean = rw (slice_split-cons_yes is_feed x xs e) (All-nil (λ byte. is_feed byte ≡ false), clean)
    go false e clean = rw (slice_split-cons_no is_feed x xs e) (clean-onto x (slice_split is_feed xs) e clean)
