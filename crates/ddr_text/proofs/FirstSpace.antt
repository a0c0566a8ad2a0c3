-- The first place of a byte, as a search of many at a time finds it.
use Rattle.std.proofs.Common.{◌≡◌, ◌∙◌, ℕ, zero, suc, ◌<◌, ◌≤◌, Bool, true, false, cond, ltb, List, [], ◌∷◌, length, slice_index, Option, Some, None, IfSome, position, refl, sym, ap, arith}
use Rattle.std.proofs.lemmas.Bool.{ltb-true, ltb-false}
use Rattle.std.specs.List.{position_or_len}
use Rattle.memchr.specs.Find.{IsFirstByte, is_byte}
use Rattle.ddr_text.specs.Grammar.{is_space}

first_place : (test : ℕ → Bool) (xs : List ℕ) (k : ℕ) → k ≤ length xs → ((j : ℕ) → j < k → test (slice_index xs j) ≡ false) → (k < length xs → test (slice_index xs k) ≡ true) → position_or_len test xs ≡ k
first_place test [] k low before here = omega (arith, low)
first_place test (x ∷ xs) zero low before here = let e = here (omega arith) in rw e refl
first_place test (x ∷ xs) (suc k) low before here =
    let e = before 0 (omega arith) in
    let rest = first_place test xs k (omega (arith, low)) (λ j less. before (suc j) (omega (arith, less))) (λ less. here (omega (arith, less))) in
    rw e (omega (arith, rest))

not_true : (b : Bool) → (b ≡ true → ⊥) → b ≡ false
not_true true h = absurd (h refl)
not_true false h = refl

within_test : (k n : ℕ) → k < n → ltb k n ≡ true
within_test k n h = go (ltb k n) refl
  where
    go : (b : Bool) → ltb k n ≡ b → ltb k n ≡ true
    go true e = e
    go false e = absurd (let far : n ≤ k = ltb-false k n e in omega (arith, far, h))

end_test : (n : ℕ) → ltb n n ≡ false
end_test n = go (ltb n n) refl
  where
    go : (b : Bool) → ltb n n ≡ b → ltb n n ≡ false
    go true e = absurd (let low : n < n = ltb-true n n e in omega (arith, low))
    go false e = e

pub space_found : (xs : List ℕ) (r : Option ℕ) → IsFirstByte (is_byte 32) xs r → r ≡ position is_space xs
space_found xs None h =
    let e = first_place is_space xs (length xs) (omega arith) (λ j low. not_true (is_space (slice_index xs j)) (h j (omega arith) low)) (λ low. absurd (omega (arith, low))) in
    sym (ap (λ n. cond (ltb n (length xs)) (Some n) None) e ∙ ap (λ b. cond b (Some (length xs)) None) (end_test (length xs)))
space_found xs (Some k) h =
    let low = h.0.high in
    let e = first_place is_space xs k (omega (arith, low)) (λ j less. not_true (is_space (slice_index xs j)) (h.0.before j (omega arith) less)) (λ less. h.1) in
    sym (ap (λ n. cond (ltb n (length xs)) (Some n) None) e ∙ ap (λ b. cond b (Some k) None) (within_test k (length xs) low))

pub space_within : (xs : List ℕ) (r : Option ℕ) → IsFirstByte (is_byte 32) xs r → IfSome r (λ k. k < length xs)
space_within xs None h = tt
space_within xs (Some k) h = h.0.high
