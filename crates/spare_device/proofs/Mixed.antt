-- The exclusive-or of lists of bytes.
use Rattle.std.proofs.Common.{◌≡◌, ℕ, zero, suc, ◌<◌, List, [], ◌∷◌, length, get_or, refl, sym, ap, ◌∙◌, arith}
use Rattle.std.specs.Prelude.{bit_xor, slice_index}
use Rattle.std.specs.Int.Bits.{xor_assoc, xor_self}
use Rattle.std.proofs.lemmas.List.{ext_get_or}
use Rattle.std.proofs.lemmas.Nat.{xor_comm, xor_of_8}
use Rattle.ondie_ecc.specs.Bits.{IsBytes}
use Rattle.spare_device.specs.Spare.{mixed, mixed_four}

pub mixed-comm : (a b : List ℕ) → mixed a b ≡ mixed b a
mixed-comm [] [] = refl
mixed-comm [] (y ∷ b) = refl
mixed-comm (x ∷ a) [] = refl
mixed-comm (x ∷ a) (y ∷ b) = ap (λ v. v ∷ mixed a b) (xor_comm x y) ∙ ap (λ l. bit_xor y x ∷ l) (mixed-comm a b)

pub mixed-assoc : (a b c : List ℕ) → mixed (mixed a b) c ≡ mixed a (mixed b c)
mixed-assoc [] b c = refl
mixed-assoc (x ∷ a) [] c = refl
mixed-assoc (x ∷ a) (y ∷ b) [] = refl
mixed-assoc (x ∷ a) (y ∷ b) (z ∷ c) = ap (λ v. v ∷ mixed (mixed a b) c) (xor_assoc x y z) ∙ ap (λ l. bit_xor x (bit_xor y z) ∷ l) (mixed-assoc a b c)

xor-twice : (x y : ℕ) → bit_xor x (bit_xor x y) ≡ y
xor-twice x y = sym (xor_assoc x x y) ∙ ap (λ v. bit_xor v y) (xor_self x) ∙ zero-xor y
  where
    zero-xor : (y : ℕ) → bit_xor 0 y ≡ y
    zero-xor y = grind arith

-- what is mixed in twice is gone
pub mixed-twice : (n : ℕ) (a b : List ℕ) → length a ≡ n → length b ≡ n → mixed a (mixed a b) ≡ b
mixed-twice n [] [] e f = refl
mixed-twice n [] (y ∷ b) e f = absurd (omega (arith, e, f))
mixed-twice n (x ∷ a) [] e f = absurd (omega (arith, e, f))
mixed-twice zero (x ∷ a) (y ∷ b) e f = absurd (omega (arith, e))
mixed-twice (suc n) (x ∷ a) (y ∷ b) e f = ap (λ v. v ∷ mixed a (mixed a b)) (xor-twice x y) ∙ ap (λ l. y ∷ l) (mixed-twice n a b (omega (arith, e)) (omega (arith, f)))

pub mixed-length : (n : ℕ) (a b : List ℕ) → length a ≡ n → length b ≡ n → length (mixed a b) ≡ n
mixed-length n [] [] e f = e
mixed-length n [] (y ∷ b) e f = absurd (omega (arith, e, f))
mixed-length n (x ∷ a) [] e f = absurd (omega (arith, e, f))
mixed-length zero (x ∷ a) (y ∷ b) e f = absurd (omega (arith, e))
mixed-length (suc n) (x ∷ a) (y ∷ b) e f = ap suc (mixed-length n a b (omega (arith, e)) (omega (arith, f)))

mixed-small : (a b : List ℕ) → ((i : ℕ) → slice_index a i < 256) → ((i : ℕ) → slice_index b i < 256) → (i : ℕ) → slice_index (mixed a b) i < 256
mixed-small [] b h k i = omega arith
mixed-small (x ∷ a) [] h k i = omega arith
mixed-small (x ∷ a) (y ∷ b) h k zero = xor_of_8 x y (h 0) (k 0)
mixed-small (x ∷ a) (y ∷ b) h k (suc i) = mixed-small a b (λ j. h (suc j)) (λ j. k (suc j)) i

pub mixed-bytes : (n : ℕ) (a b : List ℕ) → IsBytes n a → IsBytes n b → IsBytes n (mixed a b)
mixed-bytes n a b h k = record { counted = mixed-length n a b h.counted k.counted; small = mixed-small a b h.small k.small }

pub mixed-left : (a b c : List ℕ) → mixed a (mixed b c) ≡ mixed b (mixed a c)
mixed-left a b c = sym (mixed-assoc a b c) ∙ ap (λ l. mixed l c) (mixed-comm a b) ∙ mixed-assoc b a c

-- ---- Each of four parts, from the other three and their mixture

-- d, mixed with the mixture of all
fold-last : (n : ℕ) (u c d : List ℕ) → length c ≡ n → length d ≡ n → mixed d (mixed u (mixed c d)) ≡ mixed u c
fold-last n u c d e f = mixed-left d u (mixed c d) ∙ ap (mixed u) (ap (mixed d) (mixed-comm c d) ∙ mixed-twice n d c f e)

pub fourth : (n : ℕ) (a b c d : List ℕ) → length a ≡ n → length b ≡ n → length c ≡ n → length d ≡ n → mixed (mixed a b) (mixed c (mixed (mixed a b) (mixed c d))) ≡ d
fourth n a b c d ea eb ec ed =
    ap (mixed (mixed a b)) (mixed-left c (mixed a b) (mixed c d)) ∙ mixed-twice n (mixed a b) (mixed c (mixed c d)) (mixed-length n a b ea eb) (mixed-length n c (mixed c d) ec (mixed-length n c d ec ed)) ∙ mixed-twice n c d ec ed

pub third : (n : ℕ) (a b c d : List ℕ) → length a ≡ n → length b ≡ n → length c ≡ n → length d ≡ n → mixed (mixed a b) (mixed d (mixed (mixed a b) (mixed c d))) ≡ c
third n a b c d ea eb ec ed = ap (mixed (mixed a b)) (fold-last n (mixed a b) c d ec ed) ∙ mixed-twice n (mixed a b) c (mixed-length n a b ea eb) ec

pub second : (n : ℕ) (a b c d : List ℕ) → length a ≡ n → length b ≡ n → length c ≡ n → length d ≡ n → mixed (mixed a c) (mixed d (mixed (mixed a b) (mixed c d))) ≡ b
second n a b c d ea eb ec ed =
    ap (mixed (mixed a c)) (fold-last n (mixed a b) c d ec ed ∙ mixed-assoc a b c ∙ ap (mixed a) (mixed-comm b c) ∙ sym (mixed-assoc a c b)) ∙ mixed-twice n (mixed a c) b (mixed-length n a c ea ec) eb

pub first : (n : ℕ) (a b c d : List ℕ) → length a ≡ n → length b ≡ n → length c ≡ n → length d ≡ n → mixed (mixed b c) (mixed d (mixed (mixed a b) (mixed c d))) ≡ a
first n a b c d ea eb ec ed =
    ap (mixed (mixed b c)) (fold-last n (mixed a b) c d ec ed ∙ mixed-assoc a b c ∙ mixed-comm a (mixed b c)) ∙ mixed-twice n (mixed b c) a (mixed-length n b c eb ec) ea

-- ---- Place by place

mixed-at : (n : ℕ) (a b : List ℕ) (k : ℕ) → length a ≡ n → length b ≡ n → k < n → get_or (mixed a b) k 0 ≡ bit_xor (get_or a k 0) (get_or b k 0)
mixed-at n [] b k e f l = absurd (omega (arith, e, l))
mixed-at n (x ∷ a) [] k e f l = absurd (omega (arith, f, l))
mixed-at zero (x ∷ a) (y ∷ b) k e f l = absurd (omega (arith, l))
mixed-at (suc n) (x ∷ a) (y ∷ b) zero e f l = refl
mixed-at (suc n) (x ∷ a) (y ∷ b) (suc k) e f l = mixed-at n a b k (omega (arith, e)) (omega (arith, f)) (omega (arith, l))

-- a list that is mixed at each place is the mixture
pub all-mixed : (n : ℕ) (a b both : List ℕ) → length a ≡ n → length b ≡ n → length both ≡ n → ((k : ℕ) → k < n → get_or both k 0 ≡ bit_xor (get_or a k 0) (get_or b k 0)) → both ≡ mixed a b
all-mixed n a b both la lb l h =
    ext_get_or 0 both (mixed a b) (l ∙ sym (mixed-length n a b la lb)) (λ k low. let near : k < n = omega (arith, l, low) in h k near ∙ sym (mixed-at n a b k la lb near))
