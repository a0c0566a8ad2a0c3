-- The tracked row rests on the order of the stamps alone: an object may stamp by its own count of changes.
use Rattle.std.proofs.Common.{◌≡◌, ℕ, suc, Bool, ◌||◌, cond, refl, ap₂, List, [], ◌∷◌}
use Rattle.std.specs.List.{list_any}
use Rattle.speed_bin.specs.Counters.{Counter, is_ahead, tracked}

-- equal counts, and stamps in the same order, of each entry of the first lists with each of the second
abbrev pub SameTo : Counter → Counter → List Counter → List Counter → Type 0
SameTo c d [] [] = Unit {0}
SameTo c d (x ∷ xs) (y ∷ ys) = (is_ahead x c ≡ is_ahead y d) × SameTo c d xs ys
SameTo c d _ _ = ⊥

abbrev pub SameOrder : List Counter → List Counter → Type 0
SameOrder [] [] = Unit {0}
SameOrder (c ∷ cs) (d ∷ ds) = SameTo c d cs ds × SameOrder cs ds
SameOrder _ _ = ⊥

same_any : (c d : Counter) (xs ys : List Counter) → SameTo c d xs ys → list_any (λ x. is_ahead x c) xs ≡ list_any (λ y. is_ahead y d) ys
same_any c d [] [] h = refl
same_any c d (x ∷ xs) (y ∷ ys) h = ap₂ (λ (p q : Bool). p || q) h.0 (same_any c d xs ys h.1)
same_any c d [] (y ∷ ys) h = absurd h
same_any c d (x ∷ xs) [] h = absurd h

pub same_tracked : (cs ds : List Counter) → SameOrder cs ds → tracked cs ≡ tracked ds
same_tracked [] [] h = refl
same_tracked (c ∷ cs) (d ∷ ds) h = ap₂ (λ (t : Bool) (n : ℕ). cond t (suc n) 0) (same_any c d cs ds h.0) (same_tracked cs ds h.1)
same_tracked [] (d ∷ ds) h = absurd h
same_tracked (c ∷ cs) [] h = absurd h
