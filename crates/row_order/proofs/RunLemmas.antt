-- Runs of links: what stays where one number comes out, or is put in.
use Rattle.std.proofs.Common.{◌≡◌, ◌≢◌, ◌∙◌, ℕ, ◌<◌, ◌≤◌, nat_eq, cond, refl, sym, ap, arith, List, [], ◌∷◌, ◌++◌}
use Rattle.row_order.specs.Runs.{IsRun, IsOutside, IsBelow}
use Rattle.row_order.proofs.EntryLemmas.{same_test, other_test}

-- the links after r came out: what stood before it is followed by what stood after it, and all others stay
pub record IsTakenOut (nx pv nx' pv' : ℕ → ℕ) (n r : ℕ) : Type 0 where
  pub next : (k : ℕ) → k < n → nx' k ≡ cond (nat_eq k (pv r)) (nx r) (nx k)
  pub prev : (k : ℕ) → k < n → pv' k ≡ cond (nat_eq k (nx r)) (pv r) (pv k)

-- the links after r was put before z
pub record IsPutBefore (nx pv nx' pv' : ℕ → ℕ) (n r z : ℕ) : Type 0 where
  pub next : (k : ℕ) → k < n → nx' k ≡ cond (nat_eq k (pv z)) r (cond (nat_eq k r) z (nx k))
  pub prev : (k : ℕ) → k < n → pv' k ≡ cond (nat_eq k z) r (cond (nat_eq k r) (pv z) (pv k))

yes : (k p a b : ℕ) → k ≡ p → cond (nat_eq k p) a b ≡ a
yes k p a b e = rw (same_test k p e) refl

not_so : (k p a b : ℕ) → k ≢ p → cond (nat_eq k p) a b ≡ b
not_so k p a b n = rw (other_test k p n) refl

-- ---- A run's ends

pub run_start : (nx pv : ℕ → ℕ) (a : ℕ) (xs : List ℕ) (z : ℕ) → IsRun nx pv a xs z → pv (nx a) ≡ a
run_start nx pv a [] z r = ap pv r.0 ∙ r.1
run_start nx pv a (x ∷ xs) z r = ap pv r.0 ∙ r.1

pub run_end : (nx pv : ℕ → ℕ) (a : ℕ) (xs : List ℕ) (z : ℕ) → IsRun nx pv a xs z → nx (pv z) ≡ z
run_end nx pv a [] z r = ap nx r.1 ∙ r.0
run_end nx pv a (x ∷ xs) z r = run_end nx pv x xs z r.2

pub run_to : (nx pv : ℕ → ℕ) (a : ℕ) (xs : List ℕ) (r : ℕ) (ys : List ℕ) (z : ℕ) → IsRun nx pv a (xs ++ r ∷ ys) z → IsRun nx pv a xs r
run_to nx pv a [] r ys z l = (l.0, l.1)
run_to nx pv a (x ∷ xs) r ys z l = (l.0, l.1, run_to nx pv x xs r ys z l.2)

pub run_from : (nx pv : ℕ → ℕ) (a : ℕ) (xs : List ℕ) (r : ℕ) (ys : List ℕ) (z : ℕ) → IsRun nx pv a (xs ++ r ∷ ys) z → IsRun nx pv r ys z
run_from nx pv a [] r ys z l = l.2
run_from nx pv a (x ∷ xs) r ys z l = run_from nx pv x xs r ys z l.2

pub outside_left : (k : ℕ) (xs ys : List ℕ) → IsOutside k (xs ++ ys) → IsOutside k xs
outside_left k [] ys o = tt
outside_left k (x ∷ xs) ys o = (o.0, outside_left k xs ys o.1)

pub outside_right : (k : ℕ) (xs ys : List ℕ) → IsOutside k (xs ++ ys) → IsOutside k ys
outside_right k [] ys o = o
outside_right k (x ∷ xs) ys o = outside_right k xs ys o.1

pub below_left : (n : ℕ) (xs ys : List ℕ) → IsBelow n (xs ++ ys) → IsBelow n xs
below_left n [] ys b = tt
below_left n (x ∷ xs) ys b = (b.0, below_left n xs ys b.1)

pub below_right : (n : ℕ) (xs ys : List ℕ) → IsBelow n (xs ++ ys) → IsBelow n ys
below_right n [] ys b = b
below_right n (x ∷ xs) ys b = below_right n xs ys b.1

-- a number that is not below n is none of those below it
pub outside_from : (n k : ℕ) (xs : List ℕ) → n ≤ k → IsBelow n xs → IsOutside k xs
outside_from n k [] h b = tt
outside_from n k (x ∷ xs) h b = ((λ e. let low = b.0 in let up : x < k = omega arith in omega arith), outside_from n k xs h b.1)

pub below_more : (n m : ℕ) (xs : List ℕ) → n ≤ m → IsBelow n xs → IsBelow m xs
below_more n m [] h b = tt
below_more n m (x ∷ xs) h b = ((let low = b.0 in omega arith), below_more n m xs h b.1)

-- ---- A number comes out

module _ (nx pv nx' pv' : ℕ → ℕ) (n r : ℕ) (t : IsTakenOut nx pv nx' pv' n r) (forth : nx (pv r) ≡ r) (back : pv (nx r) ≡ r) where
  -- a step between two others stays
  stays_next : (a x : ℕ) → a < n → x ≢ r → nx a ≡ x → nx' a ≡ x
  stays_next a x low other is = t.next a low ∙ (not_so a (pv r) (nx r) (nx a) (λ e. other (sym is ∙ ap nx e ∙ forth)) ∙ is)

  stays_prev : (a x : ℕ) → x < n → a ≢ r → pv x ≡ a → pv' x ≡ a
  stays_prev a x low other is = t.prev x low ∙ (not_so x (nx r) (pv r) (pv x) (λ e. other (sym is ∙ ap pv e ∙ back)) ∙ is)

  pub taken_other : (a : ℕ) (xs : List ℕ) (z : ℕ) → a < n → IsBelow n xs → z < n → a ≢ r → IsOutside r xs → z ≢ r → IsRun nx pv a xs z → IsRun nx' pv' a xs z
  taken_other a [] z al xl zl ar xr zr l = (stays_next a z al zr l.0, stays_prev a z zl ar l.1)
  taken_other a (x ∷ xs) z al xl zl ar xr zr l = (stays_next a x al xr.0 l.0, stays_prev a x xl.0 ar l.1, taken_other x xs z xl.0 xl.1 zl xr.0 xr.1 zr l.2)

  pub taken_run : (a : ℕ) (xs ys : List ℕ) (z : ℕ) → a < n → IsBelow n xs → IsBelow n ys → z < n → a ≢ r → IsOutside r xs → IsOutside r ys → z ≢ r → IsRun nx pv a (xs ++ r ∷ ys) z → IsRun nx' pv' a (xs ++ ys) z
  taken_run a [] [] z al xl yl zl ar xr yr zr l = (
    t.next a al ∙ (yes a (pv r) (nx r) (nx a) (sym l.1) ∙ l.2.0),
    t.prev z zl ∙ (yes z (nx r) (pv r) (pv z) (sym l.2.0) ∙ l.1),
  )
  taken_run a [] (y ∷ ys) z al xl yl zl ar xr yr zr l = (
    t.next a al ∙ (yes a (pv r) (nx r) (nx a) (sym l.1) ∙ l.2.0),
    t.prev y yl.0 ∙ (yes y (nx r) (pv r) (pv y) (sym l.2.0) ∙ l.1),
    taken_other y ys z yl.0 yl.1 zl yr.0 yr.1 zr l.2.2,
  )
  taken_run a (x ∷ xs) ys z al xl yl zl ar xr yr zr l = (stays_next a x al xr.0 l.0, stays_prev a x xl.0 ar l.1, taken_run x xs ys z xl.0 xl.1 yl zl xr.0 xr.1 yr zr l.2)

-- ---- A number is put in

module _ (nx pv nx' pv' : ℕ → ℕ) (n r z : ℕ) (t : IsPutBefore nx pv nx' pv' n r z) (forth : nx (pv z) ≡ z) (apart : r ≢ z) where
  keeps_next : (a x : ℕ) → a < n → x ≢ z → a ≢ r → nx a ≡ x → nx' a ≡ x
  keeps_next a x low other ar is = t.next a low ∙ (not_so a (pv z) r (cond (nat_eq a r) z (nx a)) (λ e. other (sym is ∙ ap nx e ∙ forth)) ∙ (not_so a r z (nx a) ar ∙ is))

  keeps_prev : (a x : ℕ) → x < n → x ≢ z → x ≢ r → pv x ≡ a → pv' x ≡ a
  keeps_prev a x low other xr is = t.prev x low ∙ (not_so x z r (cond (nat_eq x r) (pv z) (pv x)) other ∙ (not_so x r (pv z) (pv x) xr ∙ is))

  pub put_other : (a : ℕ) (xs : List ℕ) (y : ℕ) → a < n → IsBelow n xs → y < n → a ≢ r → IsOutside r xs → y ≢ r → IsOutside z xs → y ≢ z → IsRun nx pv a xs y → IsRun nx' pv' a xs y
  put_other a [] y al xl yl ar xr yr xz yz l = (keeps_next a y al yz ar l.0, keeps_prev a y yl yz yr l.1)
  put_other a (x ∷ xs) y al xl yl ar xr yr xz yz l = (keeps_next a x al xz.0 ar l.0, keeps_prev a x xl.0 xz.0 xr.0 l.1, put_other x xs y xl.0 xl.1 yl xr.0 xr.1 yr xz.1 yz l.2)

  pub put_run : (a : ℕ) (xs : List ℕ) → a < n → IsBelow n xs → z < n → r < n → a ≢ r → IsOutside r xs → IsOutside z xs → IsRun nx pv a xs z → IsRun nx' pv' a (xs ++ r ∷ []) z
  put_run a [] al xl zl rl ar xr xz l = (
    t.next a al ∙ yes a (pv z) r (cond (nat_eq a r) z (nx a)) (sym l.1),
    t.prev r rl ∙ (not_so r z r (cond (nat_eq r r) (pv z) (pv r)) apart ∙ (yes r r (pv z) (pv r) refl ∙ l.1)),
    (
      t.next r rl ∙ (not_so r (pv z) r (cond (nat_eq r r) z (nx r)) (λ e. ar (sym (e ∙ l.1))) ∙ yes r r z (nx r) refl),
      t.prev z zl ∙ yes z z r (cond (nat_eq z r) (pv z) (pv z)) refl,
    ),
  )
  put_run a (x ∷ xs) al xl zl rl ar xr xz l = (keeps_next a x al xz.0 ar l.0, keeps_prev a x xl.0 xz.0 xr.0 l.1, put_run x xs xl.0 xl.1 zl rl xr.0 xr.1 xz.1 l.2)
