-- Bits of words: what a change of one bit does to a set of levels, and which level is the highest.
use Rattle.std.proofs.Common.{◌≡◌, ◌≢◌, ◌∙◌, ℕ, zero, suc, ◌+◌, ◌-◌, ◌*◌, ◌/◌, ◌%◌, ◌^◌, ◌<◌, ◌≤◌, ◌⊎◌, inl, inr, Bool, true, false, cond, nat_eq, nat_lt, refl, sym, ap, subst, arith, List, length, get_or, set, replicate, length-set, get_or-set_same, get_or-set_other}
use Rattle.std.proofs.lemmas.Bool.Decides.{nat_tests, eqb_tells}
use Rattle.std.proofs.lemmas.Nat.{leading_top, le-div, div_below, div-mul-add, mod-mul-add, pow_pos}
use Rattle.std.proofs.lemmas.Nat.Bits.{bit_at-zero, bit_at_above}
use Rattle.std.proofs.Math.Nat.{pow-suc}
use Rattle.std.specs.Int.{bit_at}
use lib.Count.{count_leading_zeros}
use Rattle.row_order.specs.Marks.{Marks, mark_of, IsMarks}
use Rattle.row_order.proofs.EntryLemmas.{same_test, other_test, either}

abbrev pub bit : Bool → ℕ
bit t = cond t 1 0

-- ---- One word

pub has_bit : (n k : ℕ) → bit_at n k ≡ 1 → 0 < n
has_bit zero k h = absurd (let e : bit_at 0 k ≡ 0 = bit_at-zero k in omega (arith, e, h))
has_bit (suc n) k h = omega arith

-- the bit at the length of a number
pub top_bit : (n j : ℕ) → 2 ^ j ≤ n → n < 2 ^ suc j → bit_at n j ≡ 1
top_bit n j low up =
    let p : 0 < 2 ^ j = pow_pos j in
    let s = pow-suc 2 j in
    let a : 1 ≤ n / 2 ^ j = le-div 1 n (2 ^ j) p (omega arith) in
    let b : n / 2 ^ j < 2 = div_below n (2 ^ j) 2 p (omega arith) in
    let e : n / 2 ^ j ≡ 1 = omega arith in
    rw e refl

pub none_above_top : (n j k : ℕ) → n < 2 ^ suc j → bit_at n k ≡ 1 → k ≤ j
none_above_top n j k up h = go (either j k)
  where
    go : (j < k) ⊎ (k ≤ j) → k ≤ j
    go (inl g) = absurd (let e = bit_at_above n (suc j) k up (omega arith) in omega (arith, e, h))
    go (inr l) = l

-- what the leading zeros of a number tell
pub lead : (n : ℕ) → 0 < n → n < 2 ^ 64 → (bit_at n (63 - count_leading_zeros 64 n) ≡ 1) × ((k : ℕ) → bit_at n k ≡ 1 → k ≤ 63 - count_leading_zeros 64 n)
lead n some fits =
    let t = leading_top 64 n some fits in
    let place : t.0 ≡ 63 - count_leading_zeros 64 n = (let e = t.1 in omega arith) in (
      subst (λ (j : ℕ). bit_at n j ≡ 1) place (top_bit n t.0 t.2 t.3),
      λ k h. subst (λ (j : ℕ). k ≤ j) place (none_above_top n t.0 k t.3 h),
    )

-- ---- A set of levels

-- one bit of one word becomes v
pub marks_set : (xs : List ℕ) (f g x level v : ℕ) → length xs ≡ 64 → level < 4096 → bit_at x (level % 64) ≡ v → ((i : ℕ) → i < 64 → i ≢ level % 64 → bit_at x i ≡ bit_at (get_or xs (level / 64) 0) i) → (k : ℕ) → k < 4096 → mark_of (record { words = set xs (level / 64) x; filled = g }) k ≡ cond (nat_eq k level) v (mark_of (record { words = xs; filled = f }) k)
unfolding mark_of
marks_set xs f g x level v long low here others k kl = go (eqb_tells (k / 64) (level / 64)) (eqb_tells (k % 64) (level % 64))
  where
    within : level / 64 < length xs
    within = omega arith

    go : ((nat_eq (k / 64) (level / 64) ≡ true) × (k / 64 ≡ level / 64)) ⊎ ((nat_eq (k / 64) (level / 64) ≡ false) × (k / 64 ≢ level / 64)) → ((nat_eq (k % 64) (level % 64) ≡ true) × (k % 64 ≡ level % 64)) ⊎ ((nat_eq (k % 64) (level % 64) ≡ false) × (k % 64 ≢ level % 64)) → bit_at (get_or (set xs (level / 64) x) (k / 64) 0) (k % 64) ≡ cond (nat_eq k level) v (bit_at (get_or xs (k / 64) 0) (k % 64))
    go (inl p) (inl q) = let e : k ≡ level = (let a = p.1 in let b = q.1 in omega arith) in rw (same_test k level e, p.1, q.1, get_or-set_same xs (level / 64) x 0 within) here
    go (inl p) (inr q) =
        let n : k ≢ level = (λ e. q.1 (ap (λ (y : ℕ). y % 64) e)) in
        let m : k % 64 < 64 = omega arith in
        rw (other_test k level n, p.1, get_or-set_same xs (level / 64) x 0 within) (others (k % 64) m q.1)
    go (inr p) q =
        let n : k ≢ level = (λ e. p.1 (ap (λ (y : ℕ). y / 64) e)) in
        rw (other_test k level n, get_or-set_other xs (level / 64) (k / 64) x 0 p.1) refl

-- the bit of each word says whether it has a bit
pub filled_set : (xs : List ℕ) (f g x w : ℕ) → IsMarks (record { words = xs; filled = f }) → w < 64 → bit_at g w ≡ cond (nat_lt 0 x) 1 0 → ((i : ℕ) → i < 64 → i ≢ w → bit_at g i ≡ bit_at f i) → IsMarks (record { words = set xs w x; filled = g })
filled_set xs f g x w it low here others = record {
  long = length-set xs w x ∙ it.long;
  filled = λ k kl. go k kl (eqb_tells k w);
}
  where
    within : w < length xs
    within = let l = it.long in omega arith

    go : (k : ℕ) → k < 64 → ((nat_eq k w ≡ true) × (k ≡ w)) ⊎ ((nat_eq k w ≡ false) × (k ≢ w)) → bit_at g k ≡ cond (nat_lt 0 (get_or (set xs w x) k 0)) 1 0
    go k kl (inl p) = rw (p.1, get_or-set_same xs w x 0 within) here
    go k kl (inr p) = rw (get_or-set_other xs w k x 0 p.1) (others k kl p.1 ∙ it.filled k kl)

pub test_some : (x : ℕ) → 0 < x → bit (nat_lt 0 x) ≡ 1
test_some x h = grind (arith, nat_tests)

pub test_none : (x : ℕ) → x ≡ 0 → bit (nat_lt 0 x) ≡ 0
test_none x h = grind (arith, nat_tests)

some_tested : (x : ℕ) → bit (nat_lt 0 x) ≡ 1 → 0 < x
some_tested x h = grind (arith, nat_tests)

-- the highest bit of the highest word that has one
pub highest_level : (it : Marks) (w b k : ℕ) → IsMarks it → w < 64 → b < 64
    → (0 < it.filled → bit_at it.filled w ≡ 1) → ((i : ℕ) → bit_at it.filled i ≡ 1 → i ≤ w)
    → (0 < get_or it.words w 0 → bit_at (get_or it.words w 0) b ≡ 1) → ((i : ℕ) → bit_at (get_or it.words w 0) i ≡ 1 → i ≤ b)
    → k < 4096 → mark_of it k ≡ 1 → (k ≤ w * 64 + b) × (mark_of it (w * 64 + b) ≡ 1)
unfolding mark_of
highest_level it w b k is wl bl found up found_bit up_bit kl h = (below (eqb_tells (k / 64) w), rw (div-mul-add w 64 b bl, mod-mul-add w 64 b bl) (found_bit some_word))
  where
    kw : k / 64 < 64
    kw = omega arith

    marked : bit_at it.filled (k / 64) ≡ 1
    marked = is.filled (k / 64) kw ∙ test_some (get_or it.words (k / 64) 0) (has_bit (get_or it.words (k / 64) 0) (k % 64) h)

    some_word : 0 < get_or it.words w 0
    some_word = some_tested (get_or it.words w 0) (sym (is.filled w wl) ∙ found (has_bit it.filled (k / 64) marked))

    below : ((nat_eq (k / 64) w ≡ true) × (k / 64 ≡ w)) ⊎ ((nat_eq (k / 64) w ≡ false) × (k / 64 ≢ w)) → k ≤ w * 64 + b
    below (inl p) = let u = up_bit (k % 64) (rw p.1 at h) in let e = p.1 in omega arith
    below (inr p) = let u = up (k / 64) marked in let n = p.1 in omega (arith, n)

-- ---- The empty set

abbrev pub zeros : ℕ → List ℕ
zeros n = replicate n 0

none_at : (n k : ℕ) → get_or (zeros n) k 0 ≡ 0
none_at zero k = refl
none_at (suc n) zero = refl
none_at (suc n) (suc k) = none_at n k

pub is_empty_set : IsMarks (record { words = zeros 64; filled = 0 })
is_empty_set = record {
  long = refl;
  filled = λ k low. bit_at-zero k ∙ sym (test_none (get_or (zeros 64) k 0) (none_at 64 k));
}

pub no_mark : (level : ℕ) → level < 4096 → mark_of (record { words = zeros 64; filled = 0 }) level ≡ 0
unfolding mark_of
no_mark level low = rw (none_at 64 (level / 64)) (bit_at-zero (level % 64))
