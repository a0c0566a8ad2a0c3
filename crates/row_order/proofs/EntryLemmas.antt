-- Lists of rows and counts: what a change leaves, and what it adds.
use Rattle.std.proofs.Common.{◌≡◌, ◌≢◌, ◌∙◌, ℕ, zero, suc, ◌+◌, ◌<◌, ◌≤◌, ◌⊎◌, inl, inr, Bool, true, false, cond, nat_eq, nat_lt, refl, sym, ap, arith, List, [], ◌∷◌, ◌++◌}
use Rattle.std.proofs.lemmas.Bool.Decides.{nat_tests, eqb_tells}
use Rattle.row_order.specs.Entries.{Entry, rising_from, times, count_in, without, changed, rows_with, IsEachBelow, IsNoneAbove, IsFirstGreatest}
use Rattle.row_order.specs.Runs.{IsOutside, IsBelow}

pub eq_true : (a b : ℕ) → nat_eq a b ≡ true → a ≡ b
eq_true a b h = grind (arith, nat_tests)

pub eq_false : (a b : ℕ) → nat_eq a b ≡ false → a ≢ b
eq_false a b h = grind (arith, nat_tests)

pub same_test : (a b : ℕ) → a ≡ b → nat_eq a b ≡ true
same_test a b h = grind (arith, nat_tests)

pub other_test : (a b : ℕ) → a ≢ b → nat_eq a b ≡ false
other_test a b h = grind (arith, nat_tests)

pub either : (a b : ℕ) → (a < b) ⊎ (b ≤ a)
either a b = grind arith

-- ---- How often a row stands

pub times_without : (row : ℕ) (es : List Entry) → 0 < times row es → suc (times row (without row es)) ≡ times row es
times_without row [] h = absurd (omega arith)
times_without row (e ∷ es) h = go (nat_eq e.row row) refl h (λ some. times_without row es some)
  where
    go : (t : Bool) → nat_eq e.row row ≡ t → 0 < cond t (suc (times row es)) (times row es) → (0 < times row es → suc (times row (without row es)) ≡ times row es) → suc (times row (cond t es (e ∷ without row es))) ≡ cond t (suc (times row es)) (times row es)
    go true is some again = refl
    go false is some again = rw is (again some)

pub times_without_other : (row other : ℕ) (es : List Entry) → other ≢ row → times other (without row es) ≡ times other es
times_without_other row other [] h = refl
times_without_other row other (e ∷ es) h = go (nat_eq e.row row) refl (times_without_other row other es h)
  where
    go : (t : Bool) → nat_eq e.row row ≡ t → times other (without row es) ≡ times other es → times other (cond t es (e ∷ without row es)) ≡ times other (e ∷ es)
    go true is again = let n : e.row ≢ other = (λ s. h (sym s ∙ eq_true e.row row is)) in rw (other_test e.row other n) refl
    go false is again = rw again refl

pub times_append : (row : ℕ) (es : List Entry) (e : Entry) → times row (es ++ e ∷ []) ≡ times row es + cond (nat_eq e.row row) 1 0
times_append row [] e = go (nat_eq e.row row)
  where
    go : (t : Bool) → cond t 1 0 ≡ 0 + cond t 1 0
    go true = refl
    go false = refl
times_append row (f ∷ es) e = go (nat_eq f.row row) (times_append row es e)
  where
    go : (t : Bool) → times row (es ++ e ∷ []) ≡ times row es + cond (nat_eq e.row row) 1 0 → cond t (suc (times row (es ++ e ∷ []))) (times row (es ++ e ∷ [])) ≡ cond t (suc (times row es)) (times row es) + cond (nat_eq e.row row) 1 0
    go true again = omega (arith, again)
    go false again = again

-- ---- The count of a row

pub count_absent : (row : ℕ) (es fs : List Entry) → times row es ≡ 0 → count_in (es ++ fs) row ≡ count_in fs row
count_absent row [] fs h = refl
count_absent row (e ∷ es) fs h = go (nat_eq e.row row) h (λ gone. count_absent row es fs gone)
  where
    go : (t : Bool) → cond t (suc (times row es)) (times row es) ≡ 0 → (times row es ≡ 0 → count_in (es ++ fs) row ≡ count_in fs row) → cond t e.count (count_in (es ++ fs) row) ≡ count_in fs row
    go true gone again = absurd (omega arith)
    go false gone again = again gone

pub count_present : (row : ℕ) (es fs : List Entry) → 0 < times row es → count_in (es ++ fs) row ≡ count_in es row
count_present row [] fs h = absurd (omega arith)
count_present row (e ∷ es) fs h = go (nat_eq e.row row) h (λ some. count_present row es fs some)
  where
    go : (t : Bool) → 0 < cond t (suc (times row es)) (times row es) → (0 < times row es → count_in (es ++ fs) row ≡ count_in es row) → cond t e.count (count_in (es ++ fs) row) ≡ cond t e.count (count_in es row)
    go true some again = refl
    go false some again = again some

pub count_without_other : (row other : ℕ) (es : List Entry) → other ≢ row → count_in (without row es) other ≡ count_in es other
count_without_other row other [] h = refl
count_without_other row other (e ∷ es) h = go (nat_eq e.row row) refl (count_without_other row other es h)
  where
    go : (t : Bool) → nat_eq e.row row ≡ t → count_in (without row es) other ≡ count_in es other → count_in (cond t es (e ∷ without row es)) other ≡ count_in (e ∷ es) other
    go true is again = let n : e.row ≢ other = (λ s. h (sym s ∙ eq_true e.row row is)) in rw (other_test e.row other n) refl
    go false is again = rw again refl

-- the counts after a change
pub count_changed_same : (row count : ℕ) (es : List Entry) → times row es ≡ 1 → count_in (changed row count es) row ≡ count
count_changed_same row count es h =
    let t = times_without row es (omega arith) in
    count_absent row (without row es) (record { row = row; count = count } ∷ []) (omega arith) ∙ rw (same_test row row refl) refl

pub count_changed_other : (row other count : ℕ) (es : List Entry) → other ≢ row → 0 < times other es → count_in (changed row count es) other ≡ count_in es other
count_changed_other row other count es n some =
    let t = times_without_other row other es n in
    count_present other (without row es) (record { row = row; count = count } ∷ []) (omega arith) ∙ count_without_other row other es n

-- how often a row stands after a change
pub times_changed : (row other count : ℕ) (es : List Entry) → times row es ≡ 1 → times other (changed row count es) ≡ times other es
times_changed row other count es one = go (nat_eq row other) refl
  where
    appended : times other (changed row count es) ≡ times other (without row es) + cond (nat_eq row other) 1 0
    appended = times_append other (without row es) (record { row = row; count = count })

    go : (t : Bool) → nat_eq row other ≡ t → times other (changed row count es) ≡ times other es
    go true is =
        let e : row ≡ other = eq_true row other is in
        let a : times other (changed row count es) ≡ times other (without row es) + 1 = rw is at appended in
        let t = times_without row es (omega arith) in
        let o : times row es ≡ times other es = ap (λ (r : ℕ). times r es) e in
        let w : times row (without row es) ≡ times other (without row es) = ap (λ (r : ℕ). times r (without row es)) e in
        omega (arith, a, t, o, w)
    go false is =
        let a : times other (changed row count es) ≡ times other (without row es) + 0 = rw is at appended in
        let t = times_without_other row other es (λ s. eq_false row other is (sym s)) in
        omega (arith, a, t)

-- ---- The rows with one count

pub rows_append : (count : ℕ) (es : List Entry) (e : Entry) → rows_with count (es ++ e ∷ []) ≡ cond (nat_eq e.count count) (rows_with count es ++ e.row ∷ []) (rows_with count es)
rows_append count [] e = refl
rows_append count (f ∷ es) e = go (nat_eq f.count count) (nat_eq e.count count) (rows_append count es e)
  where
    go : (s t : Bool) → rows_with count (es ++ e ∷ []) ≡ cond t (rows_with count es ++ e.row ∷ []) (rows_with count es) → cond s (f.row ∷ rows_with count (es ++ e ∷ [])) (rows_with count (es ++ e ∷ [])) ≡ cond t (cond s (f.row ∷ rows_with count es) (rows_with count es) ++ e.row ∷ []) (cond s (f.row ∷ rows_with count es) (rows_with count es))
    go true true again = ap (λ (rs : List ℕ). f.row ∷ rs) again
    go true false again = ap (λ (rs : List ℕ). f.row ∷ rs) again
    go false true again = again
    go false false again = again

-- no row has a count from a bound of all counts on
pub rows_high : (n count : ℕ) (es : List Entry) → IsEachBelow n es → n ≤ count → rows_with count es ≡ []
rows_high n count [] b h = refl
rows_high n count (e ∷ es) b h =
    let low = b.0 in
    let apart : e.count ≢ count = (λ s. let up : e.count < count = omega arith in omega arith) in
    rw (other_test e.count count apart) (rows_high n count es b.1 h)

pub rows_without_other : (count row : ℕ) (es : List Entry) → count_in es row ≢ count → rows_with count (without row es) ≡ rows_with count es
rows_without_other count row [] h = refl
rows_without_other count row (e ∷ es) h = go (nat_eq e.row row) h (λ n. rows_without_other count row es n)
  where
    go : (t : Bool) → cond t e.count (count_in es row) ≢ count → (count_in es row ≢ count → rows_with count (without row es) ≡ rows_with count es) → rows_with count (cond t es (e ∷ without row es)) ≡ rows_with count (e ∷ es)
    go true n again = rw (other_test e.count count n) refl
    go false n again = rw (again n) refl

-- the place of a row among those with its count
pub record IsAmong (count row : ℕ) (es : List Entry) : Type 0 where
  pub before : List ℕ
  pub after : List ℕ
  pub whole : rows_with count es ≡ before ++ row ∷ after
  pub rest : rows_with count (without row es) ≡ before ++ after

pub is_among : (row : ℕ) (es : List Entry) → 0 < times row es → IsAmong (count_in es row) row es
is_among row [] h = absurd (omega arith)
is_among row (e ∷ es) h = go (nat_eq e.row row) refl h (λ some. is_among row es some)
  where
    later : (c : ℕ) → nat_eq e.row row ≡ false → IsAmong c row es → (t : Bool) → nat_eq e.count c ≡ t → IsAmong c row (e ∷ es)
    later c is a true same = record {
      before = e.row ∷ a.before;
      after = a.after;
      whole = rw same (ap (λ (rs : List ℕ). e.row ∷ rs) a.whole);
      rest = rw (is, same) (ap (λ (rs : List ℕ). e.row ∷ rs) a.rest);
    }
    later c is a false same = record {
      before = a.before;
      after = a.after;
      whole = rw same a.whole;
      rest = rw (is, same) a.rest;
    }

    go : (t : Bool) → nat_eq e.row row ≡ t → 0 < cond t (suc (times row es)) (times row es) → (0 < times row es → IsAmong (count_in es row) row es) → IsAmong (cond t e.count (count_in es row)) row (e ∷ es)
    go true is some again = record {
      before = [];
      after = rows_with e.count es;
      whole = rw (same_test e.count e.count refl, eq_true e.row row is) refl;
      rest = rw is refl;
    }
    go false is some again = later (count_in es row) is (again some) (nat_eq e.count (count_in es row)) refl

-- a row that does not stand in the list is none of them
pub rows_outside : (row count : ℕ) (es : List Entry) → times row es ≡ 0 → IsOutside row (rows_with count es)
rows_outside row count [] h = tt
rows_outside row count (e ∷ es) h = go (nat_eq e.row row) refl h (nat_eq e.count count) (λ gone. rows_outside row count es gone)
  where
    go : (t : Bool) → nat_eq e.row row ≡ t → cond t (suc (times row es)) (times row es) ≡ 0 → (s : Bool) → (times row es ≡ 0 → IsOutside row (rows_with count es)) → IsOutside row (cond s (e.row ∷ rows_with count es) (rows_with count es))
    go true is gone s again = absurd (omega arith)
    go false is gone true again = (eq_false e.row row is, again gone)
    go false is gone false again = again gone

-- all rows of the list are below n
pub rows_below : (n count : ℕ) (es : List Entry) → ((row : ℕ) → n ≤ row → times row es ≡ 0) → IsBelow n (rows_with count es)
rows_below n count [] h = tt
rows_below n count (e ∷ es) h = go (nat_eq e.count count) (rows_below n count es (λ row g. rest row (nat_eq e.row row) (h row g)))
  where
    first : (t : Bool) → nat_eq e.row e.row ≡ t → cond t (suc (times e.row es)) (times e.row es) ≡ 0 → ⊥
    first true is gone = omega arith
    first false is gone = eq_false e.row e.row is refl

    low : (e.row < n) ⊎ (n ≤ e.row) → e.row < n
    low (inl l) = l
    low (inr g) = absurd (first (nat_eq e.row e.row) refl (h e.row g))

    rest : (row : ℕ) (t : Bool) → cond t (suc (times row es)) (times row es) ≡ 0 → times row es ≡ 0
    rest row true gone = absurd (omega arith)
    rest row false gone = gone

    go : (s : Bool) → IsBelow n (rows_with count es) → IsBelow n (cond s (e.row ∷ rows_with count es) (rows_with count es))
    go true again = (low (either e.row n), again)
    go false again = again

-- ---- Each row of the bank once

abbrev pub bit : Bool → ℕ
bit t = cond t 1 0

-- each row of the bank stands in the list once, and no other
abbrev pub IsOnce : ℕ → List Entry → Type 0
IsOnce rows es = (row : ℕ) → times row es ≡ bit (nat_lt row rows)

pub once_inside : (rows row : ℕ) (es : List Entry) → IsOnce rows es → row < rows → times row es ≡ 1
once_inside rows row es o h = o row ∙ low
  where
    low : bit (nat_lt row rows) ≡ 1
    low = grind (arith, nat_tests)

pub once_outside : (rows row : ℕ) (es : List Entry) → IsOnce rows es → rows ≤ row → times row es ≡ 0
once_outside rows row es o h = o row ∙ high
  where
    high : bit (nat_lt row rows) ≡ 0
    high = grind (arith, nat_tests)

times_rising : (row first n : ℕ) → times row (rising_from first n) ≡ cond (nat_lt row first) 0 (bit (nat_lt row (first + n)))
unfolding rising_from
times_rising row first zero = grind (arith, nat_tests)
times_rising row first (suc n) = go (eqb_tells first row) (times_rising row (suc first) n)
  where
    go : ((nat_eq first row ≡ true) × (first ≡ row)) ⊎ ((nat_eq first row ≡ false) × (first ≢ row)) → times row (rising_from (suc first) n) ≡ cond (nat_lt row (suc first)) 0 (bit (nat_lt row (suc first + n))) → cond (nat_eq first row) (suc (times row (rising_from (suc first) n))) (times row (rising_from (suc first) n)) ≡ cond (nat_lt row first) 0 (bit (nat_lt row (first + suc n)))
    go (inl p) again = rw (p.0, again) (let e = p.1 in grind (arith, nat_tests))
    go (inr p) again = rw (p.0, again) (let e = p.1 in grind (arith, nat_tests))

pub once_rising : (rows : ℕ) → IsOnce rows (rising_from 0 rows)
once_rising rows row = times_rising row 0 rows ∙ low
  where
    low : cond (nat_lt row 0) 0 (bit (nat_lt row (0 + rows))) ≡ bit (nat_lt row rows)
    low = grind (arith, nat_tests)

-- ---- Counts below a bound

pub below_without : (n row : ℕ) (es : List Entry) → IsEachBelow n es → IsEachBelow n (without row es)
below_without n row [] b = tt
below_without n row (e ∷ es) b = go (nat_eq e.row row) (below_without n row es b.1)
  where
    go : (t : Bool) → IsEachBelow n (without row es) → IsEachBelow n (cond t es (e ∷ without row es))
    go true again = b.1
    go false again = (b.0, again)

pub below_append : (n : ℕ) (es : List Entry) (e : Entry) → IsEachBelow n es → e.count < n → IsEachBelow n (es ++ e ∷ [])
below_append n [] e b low = (low, tt)
below_append n (f ∷ es) e b low = (b.0, below_append n es e b.1 low)

pub count_below : (n row : ℕ) (es : List Entry) → IsEachBelow n es → 0 < times row es → count_in es row < n
count_below n row [] b some = absurd (omega arith)
count_below n row (e ∷ es) b some = go (nat_eq e.row row) some (λ here. count_below n row es b.1 here)
  where
    go : (t : Bool) → 0 < cond t (suc (times row es)) (times row es) → (0 < times row es → count_in es row < n) → cond t e.count (count_in es row) < n
    go true here again = b.0
    go false here again = again here

-- ---- The first of the greatest

same_entry : (e f : Entry) → e.row ≡ f.row → e.count ≡ f.count → e ≡ f
same_entry e f p q = λ i. record { row = p i; count = q i }

pub first_greatest : (top row : ℕ) (rs : List ℕ) (es : List Entry) → IsNoneAbove top es → rows_with top es ≡ row ∷ rs → IsFirstGreatest es (record { row = row; count = top })
first_greatest top row rs [] none is = absurd (cc)
first_greatest top row rs (e ∷ es) none is = go (nat_eq e.count top) refl is (λ here. first_greatest top row rs es none.1 here)
  where
    go : (t : Bool) → nat_eq e.count top ≡ t → cond t (e.row ∷ rows_with top es) (rows_with top es) ≡ row ∷ rs → (rows_with top es ≡ row ∷ rs → IsFirstGreatest es (record { row = row; count = top })) → IsFirstGreatest (e ∷ es) (record { row = row; count = top })
    go true same here again =
        let r : e.row ≡ row = cc in
        let c : e.count ≡ top = eq_true e.count top same in
        record {
          before = [];
          after = es;
          splits = ap (λ (f : Entry). f ∷ es) (same_entry e (record { row = row; count = top }) r c);
          lower = tt;
          none_above = none.1;
        }
    go false same here again =
        let n = eq_false e.count top same in
        let up = none.0 in
        let f = again here in
        record {
          before = e ∷ f.before;
          after = f.after;
          splits = ap (λ (xs : List Entry). e ∷ xs) f.splits;
          lower = (omega arith, f.lower);
          none_above = f.none_above;
        }

-- where no level above this one has rows, no count is above it
pub none_above : (top levels : ℕ) (es : List Entry) → IsEachBelow levels es → ((level : ℕ) → level < levels → top < level → rows_with level es ≡ []) → IsNoneAbove top es
none_above top levels [] b h = tt
none_above top levels (e ∷ es) b h = (low (either top e.count), none_above top levels es b.1 (λ level l g. rest level (nat_eq e.count level) (h level l g)))
  where
    rest : (level : ℕ) (t : Bool) → cond t (e.row ∷ rows_with level es) (rows_with level es) ≡ [] → rows_with level es ≡ []
    rest level true is = absurd (cc)
    rest level false is = is

    first : (t : Bool) → nat_eq e.count e.count ≡ t → cond t (e.row ∷ rows_with e.count es) (rows_with e.count es) ≡ [] → ⊥
    first true same is = cc
    first false same is = eq_false e.count e.count same refl

    low : (top < e.count) ⊎ (e.count ≤ top) → e.count ≤ top
    low (inl g) = absurd (first (nat_eq e.count e.count) refl (h e.count b.0 g))
    low (inr l) = l
