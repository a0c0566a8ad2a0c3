-- The counters of one bank's rows: the tracked row is the greatest, and activations are counters and the open row.
use Rattle.std.proofs.Common.{replicate, ◌≡◌, ◌≢◌, ◌∙◌, ℕ, zero, suc, ◌+◌, ◌<◌, ◌≤◌, ◌⊎◌, Bool, true, false, ◌==◌, nat_le, if◌then◌else◌, refl, sym, ap, arith, inl, inr, Option, Some, None, cond, List, [], ◌∷◌, length, set, eq-eqb, ne_eqb, length-set, get_or-set_same, get_or-set_other}
use Rattle.std.specs.List.{list_any}
use Rattle.std.proofs.lemmas.Bool.Decides.{nat_tests}
use Rattle.speed_bin.specs.declared.header.Header.{Header}
use Rattle.command_words.specs.Kinds.{Effect, Opens, Closes, Manages, Refreshes, Leaves}
use Rattle.speed_bin.specs.Log.{open_after}
use Rattle.speed_bin.specs.Counters.{Counter, is_ahead, tracked, count_of, is_row, after_close, after_mitigation, counters_after, acts_after}
use Rattle.speed_bin.proofs.Tests.{or_false, true_or_false}
use Rattle.speed_bin.proofs.Splits.{same_or_not}

abbrev pub unused : Counter
unused = record { count = 0; stamp = 0 }

pub unused_counts : (n row : ℕ) → count_of (replicate n unused) row ≡ 0
unused_counts zero row = refl
unused_counts (suc n) zero = refl
unused_counts (suc n) (suc row) = unused_counts n row

-- ---- The tracked row

behind : (c d : Counter) → is_ahead d c ≡ false → d.count ≤ c.count
behind c d h = grind (arith, nat_tests)

none_ahead : (c : Counter) (cs : List Counter) → list_any (λ d. is_ahead d c) cs ≡ false → (row : ℕ) → count_of cs row ≤ c.count
none_ahead c [] h row = omega arith
none_ahead c (d ∷ cs) h zero = behind c d (or_false _ _ h).0
none_ahead c (d ∷ cs) h (suc row) = none_ahead c cs (or_false _ _ h).1 row

some_ahead : (c : Counter) (cs : List Counter) → list_any (λ d. is_ahead d c) cs ≡ true → ((row : ℕ) → count_of cs row ≤ count_of cs (tracked cs)) → c.count ≤ count_of cs (tracked cs)
some_ahead c cs h greatest = let p = found cs h in let q = greatest p.0 in omega (arith, p.1, q)
  where
    ahead_counts : (d : Counter) → is_ahead d c ≡ true → c.count ≤ d.count
    ahead_counts d k = grind (arith, nat_tests)

    found : (xs : List Counter) → list_any (λ d. is_ahead d c) xs ≡ true → (row : ℕ) × (c.count ≤ count_of xs row)
    found [] k = absurd (cc)
    found (d ∷ xs) k = go (true_or_false (is_ahead d c)) (found xs)
      where
        go : (is_ahead d c ≡ true) ⊎ (is_ahead d c ≡ false) → (list_any (λ e. is_ahead e c) xs ≡ true → (row : ℕ) × (c.count ≤ count_of xs row)) → (row : ℕ) × (c.count ≤ count_of (d ∷ xs) row)
        go (inl e) ih = (0, ahead_counts d e)
        go (inr e) ih = let p = ih (rw e at k) in (suc p.0, p.1)

pub tracked_greatest : (cs : List Counter) (row : ℕ) → count_of cs row ≤ count_of cs (tracked cs)
tracked_greatest [] row = omega arith
tracked_greatest (c ∷ cs) row = at_cons c cs (tracked_greatest cs) (true_or_false (list_any (λ d. is_ahead d c) cs)) row
  where
    at_cons : (c : Counter) (cs : List Counter) → ((row : ℕ) → count_of cs row ≤ count_of cs (tracked cs)) → (list_any (λ d. is_ahead d c) cs ≡ true) ⊎ (list_any (λ d. is_ahead d c) cs ≡ false) → (row : ℕ) → count_of (c ∷ cs) row ≤ count_of (c ∷ cs) (tracked (c ∷ cs))
    at_cons c cs ih (inl e) zero = rw e (some_ahead c cs e ih)
    at_cons c cs ih (inl e) (suc row) = rw e (ih row)
    at_cons c cs ih (inr e) zero = rw e (omega arith)
    at_cons c cs ih (inr e) (suc row) = rw e (none_ahead c cs e row)

pub tracked_inside : (cs : List Counter) → 0 < length cs → tracked cs < length cs
tracked_inside [] h = h
tracked_inside (c ∷ []) h = omega arith
tracked_inside (c ∷ d ∷ cs) h = at_cons (list_any (λ e. is_ahead e c) (d ∷ cs)) (tracked_inside (d ∷ cs) (omega arith))
  where
    at_cons : (t : Bool) → tracked (d ∷ cs) < length (d ∷ cs) → cond t (suc (tracked (d ∷ cs))) 0 < suc (length (d ∷ cs))
    at_cons true ih = omega arith
    at_cons false ih = omega arith

-- ---- Activations are the counter, and one more for the open row

abbrev pub one_if_open : Option ℕ → ℕ → ℕ
one_if_open opened row = if is_row opened row then 1 else 0

-- what holds of a bank's rows after a log that keeps the rules: f are their activations
pub record Sound (rows : ℕ) (opened : Option ℕ) (cs : List Counter) (f : ℕ → ℕ) : Type 0 where
  pub long : length cs ≡ rows
  pub inside : (row : ℕ) → opened ≡ Some row → row < rows
  pub agree : (row : ℕ) → f row ≡ count_of cs row + one_if_open opened row

pub count_of_set_same : (cs : List Counter) (row : ℕ) (c : Counter) → row < length cs → count_of (set cs row c) row ≡ c.count
count_of_set_same cs row c low = ap (λ (x : Counter). x.count) (get_or-set_same cs row c unused low)

pub count_of_set_other : (cs : List Counter) (row r : ℕ) (c : Counter) → r ≢ row → count_of (set cs row c) r ≡ count_of cs r
count_of_set_other cs row r c other = ap (λ (x : Counter). x.count) (get_or-set_other cs row r c unused other)

sound_opens : (rows r : ℕ) (cs : List Counter) (f g : ℕ → ℕ) → r < rows → Sound rows None cs f → ((row : ℕ) → g row ≡ cond (r == row) (suc (f row)) (f row)) → Sound rows (Some r) cs g
sound_opens rows r cs f g low s is = record {
  long = s.long;
  inside = λ row e. let same : r ≡ row = cc in omega arith;
  agree = λ row. go row (r == row) (is row) (s.agree row);
}
  where
    go : (row : ℕ) (t : Bool) → g row ≡ cond t (suc (f row)) (f row) → f row ≡ count_of cs row + 0 → g row ≡ count_of cs row + cond t 1 0
    go row true e k = omega arith
    go row false e k = omega arith

sound_closes : (rows r place : ℕ) (cs : List Counter) (f : ℕ → ℕ) → Sound rows (Some r) cs f → Sound rows None (after_close place (Some r) cs) f
sound_closes rows r place cs f s = record {
  long = length-set _ _ _ ∙ s.long;
  inside = λ row e. absurd (cc);
  agree = λ row. go row (same_or_not row r);
}
  where
    within : r < length cs
    within = let h = s.inside r refl in let l = s.long in omega arith

    go : (row : ℕ) → (row ≡ r) ⊎ (row ≢ r) → f row ≡ count_of (after_close place (Some r) cs) row + 0
    go row (inl e) =
        let a = s.agree r in
        let t : (r == r) ≡ true = eq-eqb r r refl in
        let b : f r ≡ count_of cs r + 1 = rw t at a in
        let c = count_of_set_same cs r (record { count = count_of cs r + 1; stamp = place }) within in
        rw e (omega arith)
    go row (inr other) =
        let a = s.agree row in
        let t : (r == row) ≡ false = ne_eqb r row (λ e. other (sym e)) in
        let b : f row ≡ count_of cs row + 0 = rw t at a in
        let c = count_of_set_other cs r row (record { count = count_of cs r + 1; stamp = place }) other in
        omega arith

sound_mitigates : (rows r place : ℕ) (cs : List Counter) (f g : ℕ → ℕ) → r < rows → Sound rows None cs f → ((row : ℕ) → g row ≡ cond (r == row) 0 (f row)) → Sound rows None (after_mitigation place (Some r) cs) g
sound_mitigates rows r place cs f g low s is = record {
  long = length-set _ _ _ ∙ s.long;
  inside = λ row e. absurd (cc);
  agree = λ row. go row (same_or_not row r);
}
  where
    within : r < length cs
    within = let l = s.long in omega arith

    go : (row : ℕ) → (row ≡ r) ⊎ (row ≢ r) → g row ≡ count_of (after_mitigation place (Some r) cs) row + 0
    go row (inl e) =
        let a = is r in
        let t : (r == r) ≡ true = eq-eqb r r refl in
        let b : g r ≡ 0 = rw t at a in
        let c = count_of_set_same cs r (record { count = 0; stamp = place }) within in
        rw e (omega arith)
    go row (inr other) =
        let a = is row in
        let t : (r == row) ≡ false = ne_eqb r row (λ e. other (sym e)) in
        let b : g row ≡ f row = rw t at a in
        let k = s.agree row in
        let c = count_of_set_other cs r row (record { count = 0; stamp = place }) other in
        omega arith

sound_same : (rows : ℕ) (opened : Option ℕ) (cs : List Counter) (f g : ℕ → ℕ) → Sound rows opened cs f → ((row : ℕ) → g row ≡ f row) → Sound rows opened cs g
sound_same rows opened cs f g s is = record {
  long = s.long;
  inside = s.inside;
  agree = λ row. is row ∙ s.agree row;
}

-- one step, whatever it does to the bank
pub sound_step : (h : Header) (place : ℕ) (e : Effect) (opened : Option ℕ) (cs : List Counter) (f : ℕ → ℕ) → 0 < h.settings.rows → ((r : ℕ) → e ≡ Opens r → (r < h.settings.rows) × (opened ≡ None)) → (e ≡ Manages → opened ≡ None) → Sound h.settings.rows opened cs f → Sound h.settings.rows (open_after e opened) (counters_after h place e opened cs) (λ row. acts_after h row e cs (f row))
sound_step h place (Opens r) opened cs f some legal closed s =
    let p = legal r refl in
    sound_opens h.settings.rows r cs f _ p.0 (rw p.1 at s) (λ row. refl)
sound_step h place Closes None cs f some legal closed s = sound_same h.settings.rows None cs f f s (λ row. refl)
sound_step h place Closes (Some r) cs f some legal closed s = sound_closes h.settings.rows r place cs f s
sound_step h place Manages opened cs f some legal closed s = go (closed refl) (nat_le h.settings.eth (count_of cs (tracked cs)))
  where
    go : opened ≡ None → (t : Bool) → Sound h.settings.rows opened (after_mitigation place (cond t (Some (tracked cs)) None) cs) (λ row. cond (is_row (cond t (Some (tracked cs)) None) row) 0 (f row))
    go e false = s
    go e true =
        let long = s.long in
        let inside = tracked_inside cs (omega arith) in
        let m = sound_mitigates h.settings.rows (tracked cs) place cs f (λ row. cond (tracked cs == row) 0 (f row)) (omega arith) (rw e at s) (λ row. refl) in
        rw e m
sound_step h place Refreshes opened cs f some legal closed s = s
sound_step h place Leaves opened cs f some legal closed s = s
