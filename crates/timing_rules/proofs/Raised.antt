-- Tables after some of their entries were raised.
use Rattle.std.proofs.Common.{◌≡◌, ◌≢◌, ◌∙◌, ℕ, ◌+◌, ◌<◌, ◌≤◌, ◌==◌, ◌⊎◌, inl, inr, Bool, true, false, max, if◌then◌else◌, List, length, slice_index, set, refl, sym, ap, subst, arith}
use Rattle.std.proofs.lemmas.Bool.{eqb-true, eqb-false, eq-eqb, cases_eq}
use Rattle.std.proofs.lemmas.List.{get_or-set_same, get_or-set_other, length-set}
use Rattle.timing_rules.specs.Reach.{blocked_until}
use Rattle.timing_rules.specs.Scope.{is_within}
use Rattle.timing_rules.specs.declared.scope.Scope.{Scope}

zero_max : (m : ℕ) → max 0 m ≡ m
zero_max m = omega arith

-- ---- A clock

pub raised_none : (clock clocks kept : ℕ) → clocks ≡ 0 → kept ≡ max (blocked_until clock clocks) kept
raised_none clock clocks kept e = sym (zero_max kept) ∙ ap (λ b. max (if b then 0 else clock + clocks) kept) (sym (eq-eqb clocks 0 e))

pub raised_some : (clock clocks kept result : ℕ) → clocks ≢ 0 → result ≡ max (clock + clocks) kept → result ≡ max (blocked_until clock clocks) kept
raised_some clock clocks kept result some e = go (clocks == 0) refl
  where
    go : (x : Bool) → (clocks == 0) ≡ x → result ≡ max (if x then 0 else clock + clocks) kept
    go true z = absurd (some (eqb-true clocks 0 z))
    go false z = e

-- ---- No entry

pub unraised : (asked : Bool) (clock clocks kept : ℕ) → clocks ≡ 0 → kept ≡ max (blocked_until clock (if asked then clocks else 0)) kept
unraised true clock clocks kept e = raised_none clock clocks kept e
unraised false clock clocks kept e = raised_none clock 0 kept refl

-- ---- One entry

pub one_raised : (table : List ℕ) (here clock clocks entry : ℕ) → here < length table → entry ≡ max (blocked_until clock clocks) (slice_index table here)
    → (i : ℕ) → slice_index (set table here entry) i ≡ max (blocked_until clock (if here == i then clocks else 0)) (slice_index table i)
one_raised table here clock clocks entry low is i = go (here == i) refl
  where
    go : (x : Bool) → (here == i) ≡ x → slice_index (set table here entry) i ≡ max (blocked_until clock (if x then clocks else 0)) (slice_index table i)
    go true e =
        subst (λ k. slice_index (set table here entry) k ≡ max (blocked_until clock clocks) (slice_index table k)) (eqb-true here i e)
        (get_or-set_same table here entry 0 low ∙ is)
    go false e = get_or-set_other table here i entry 0 (λ h. eqb-false here i e (sym h)) ∙ raised_none clock 0 (slice_index table i) refl

-- ---- Each entry of a scope, one after the other

-- the first k entries are f of the old ones, and the others the old ones
pub record AreRaised (f : ℕ → ℕ → ℕ) (old now : List ℕ) (k : ℕ) : Type 0 where
  pub long : length now ≡ 32
  pub done : (i : ℕ) → i < k → slice_index now i ≡ f i (slice_index old i)
  pub left : (i : ℕ) → k ≤ i → slice_index now i ≡ slice_index old i

below : (j k : ℕ) → j < k + 1 → j ≢ k → j < k
below j k h n = grind arith

pub raised_more : (f : ℕ → ℕ → ℕ) (old now : List ℕ) (k entry : ℕ) → k < 32 → entry ≡ f k (slice_index now k) → AreRaised f old now k → AreRaised f old (set now k entry) (k + 1)
raised_more f old now k entry low is r = record {
  long = length-set now k entry ∙ r.long;
  done = λ i near. done i near (cases_eq i k);
  left = λ i far. get_or-set_other now k i entry 0 (λ e. omega (arith, far, e)) ∙ r.left i (omega (arith, far));
}
  where
    there : k < length now
    there = let l = r.long in omega (arith, l, low)

    done : (i : ℕ) → i < k + 1 → (i ≡ k) ⊎ (i ≢ k) → slice_index (set now k entry) i ≡ f i (slice_index old i)
    done i near (inl e) =
        subst (λ j. slice_index (set now k entry) j ≡ f j (slice_index old j)) (sym e)
        (get_or-set_same now k entry 0 there ∙ is ∙ ap (λ n. f k n) (r.left k (omega arith)))
    done i near (inr other) = get_or-set_other now k i entry 0 other ∙ r.done i (below i k near other)

abbrev pub raised_by : Scope → ℕ → ℕ → ℕ → ℕ → ℕ
raised_by scope clock clocks i old = max (blocked_until clock (if is_within scope i then clocks else 0)) old
