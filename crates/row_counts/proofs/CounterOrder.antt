-- The first of the greatest counters is the tracked row.
use Rattle.std.proofs.Common.{◌≡◌, ℕ, zero, suc, ◌<◌, Bool, true, false, ◌||◌, refl, arith, List, [], ◌∷◌, length, get_or}
use Rattle.std.specs.List.{list_any}
use Rattle.std.proofs.lemmas.Bool.Decides.{nat_tests}
use Rattle.speed_bin.specs.Counters.{Counter, is_ahead, tracked}

abbrev pub unused : Counter
unused = record { count = 0; stamp = 0 }

-- of the first n rows none is ahead of this one, and it is ahead of each before it
pub record IsFirst (cs : List Counter) (n best : ℕ) : Type 0 where
  pub inside : best < n
  pub none : (row : ℕ) → row < n → is_ahead (get_or cs row unused) (get_or cs best unused) ≡ false
  pub before : (row : ℕ) → row < best → is_ahead (get_or cs best unused) (get_or cs row unused) ≡ true

pub not_itself : (c : Counter) → is_ahead c c ≡ false
not_itself c = grind (arith, nat_tests)

-- what is not ahead of a counter is neither ahead of one that is ahead of it
pub still_behind : (c d e : Counter) → is_ahead c d ≡ false → is_ahead e d ≡ true → is_ahead c e ≡ false
still_behind c d e h k = grind (arith, nat_tests)

pub ahead_of : (c d e : Counter) → is_ahead c d ≡ false → is_ahead e d ≡ true → is_ahead e c ≡ true
ahead_of c d e h k = grind (arith, nat_tests)

none_any : (c : Counter) (cs : List Counter) → ((row : ℕ) → row < length cs → is_ahead (get_or cs row unused) c ≡ false) → list_any (λ d. is_ahead d c) cs ≡ false
none_any c [] h = refl
none_any c (d ∷ cs) h = let e : is_ahead d c ≡ false = h 0 (omega arith) in rw e (none_any c cs (λ row low. h (suc row) (omega arith)))

or_true : (b : Bool) → (b || true) ≡ true
or_true true = refl
or_true false = refl

some_any : (c : Counter) (cs : List Counter) (row : ℕ) → row < length cs → is_ahead (get_or cs row unused) c ≡ true → list_any (λ d. is_ahead d c) cs ≡ true
some_any c [] row low h = absurd (omega arith)
some_any c (d ∷ cs) zero low h = rw h refl
some_any c (d ∷ cs) (suc row) low h = let e = some_any c cs row (omega arith) h in rw e (or_true (is_ahead d c))

pub first_is_tracked : (cs : List Counter) (best : ℕ) → IsFirst cs (length cs) best → best ≡ tracked cs
first_is_tracked [] best f = absurd (let i = f.inside in omega arith)
first_is_tracked (c ∷ cs) zero f = let e = none_any c cs (λ row low. f.none (suc row) (omega arith)) in rw e refl
first_is_tracked (c ∷ cs) (suc best) f =
    let i = f.inside in
    let e = some_any c cs best (omega arith) (f.before 0 (omega arith)) in
    let r = first_is_tracked cs best (record {
      inside = omega arith;
      none = λ row low. f.none (suc row) (omega arith);
      before = λ row low. f.before (suc row) (omega arith);
    }) in
    rw (e, ← r) refl

-- at the start, the first row
pub first_of_one : (cs : List Counter) → IsFirst cs 1 0
first_of_one cs = record {
  inside = omega arith;
  none = λ row low. let e : row ≡ 0 = omega arith in rw e (not_itself (get_or cs 0 unused));
  before = λ row low. absurd (omega arith);
}
