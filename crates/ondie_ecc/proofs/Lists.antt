-- Lists of numbers, element by element.
use Rattle.std.proofs.Common.{◌≡◌, ℕ, List, ◌∷◌}

pub cons_eq : {a b : ℕ} {xs ys : List ℕ} → a ≡ b → xs ≡ ys → (a ∷ xs) ≡ (b ∷ ys)
cons_eq same rest = cc
