-- The list of a bank's rows in the order of their last change: a change moves its row to the end, and the first of the
-- greatest is the tracked row.
use Rattle.std.proofs.Common.{◌≡◌, ◌≢◌, ◌∙◌, ℕ, zero, suc, ◌<◌, ◌≤◌, ◌⊎◌, inl, inr, Bool, true, false, cond, nat_eq, nat_lt, refl, sym, ap, subst, arith, List, [], ◌∷◌, ◌++◌, length, get_or, set, replicate, length-set, get_or-set_same, get_or-set_other}
use Rattle.std.proofs.lemmas.List.{length-replicate}
use Rattle.std.proofs.lemmas.Bool.Decides.{nat_tests, eqb_tells}
use Rattle.row_order.specs.Entries.{Entry, rising, rising_from, times, count_in, without, changed, IsEachBelow, IsNoneAbove, IsFirstGreatest}
use Rattle.row_order.proofs.EntryLemmas.{bit, once_inside, once_rising, times_without, times_changed, eq_true, eq_false}
use Rattle.speed_bin.specs.Counters.{Counter, is_ahead, tracked, count_of}
use Rattle.row_counts.specs.Standing.{stamp_of, IsEarlier, Each, IsInOrder, IsListOf}
use Rattle.row_counts.proofs.CounterOrder.{unused, first_is_tracked, not_itself}

-- ---- Properties of each entry

each_append : (P : Entry → Type 0) (es fs : List Entry) → Each P es → Each P fs → Each P (es ++ fs)
each_append P [] fs h k = k
each_append P (e ∷ es) fs h k = (h.0, each_append P es fs h.1 k)

each_left : (P : Entry → Type 0) (es fs : List Entry) → Each P (es ++ fs) → Each P es
each_left P [] fs h = tt
each_left P (e ∷ es) fs h = (h.0, each_left P es fs h.1)

each_right : (P : Entry → Type 0) (es fs : List Entry) → Each P (es ++ fs) → Each P fs
each_right P [] fs h = h
each_right P (e ∷ es) fs h = each_right P es fs h.1

each_without : (P : Entry → Type 0) (row : ℕ) (es : List Entry) → Each P es → Each P (without row es)
each_without P row [] h = tt
each_without P row (e ∷ es) h = go (nat_eq e.row row) (each_without P row es h.1)
  where
    go : (t : Bool) → Each P (without row es) → Each P (cond t es (e ∷ without row es))
    go true again = h.1
    go false again = (h.0, again)

each_both : (P Q R : Entry → Type 0) (es : List Entry) → ((e : Entry) → P e → Q e → R e) → Each P es → Each Q es → Each R es
each_both P Q R [] f h k = tt
each_both P Q R (e ∷ es) f h k = (f e h.0 k.0, each_both P Q R es f h.1 k.1)

each_not : (row : ℕ) (es : List Entry) → times row es ≡ 0 → Each (λ e. e.row ≢ row) es
each_not row [] h = tt
each_not row (e ∷ es) h = go (nat_eq e.row row) refl h (λ gone. each_not row es gone)
  where
    go : (t : Bool) → nat_eq e.row row ≡ t → cond t (suc (times row es)) (times row es) ≡ 0 → (times row es ≡ 0 → Each (λ f. f.row ≢ row) es) → (e.row ≢ row) × Each (λ f. f.row ≢ row) es
    go true is gone again = absurd (omega arith)
    go false is gone again = (eq_false e.row row is, again gone)

-- a property of a row that holds of each entry's row holds of each row that stands in the list
each_at : (P : ℕ → Type 0) (row : ℕ) (es : List Entry) → Each (λ e. P e.row) es → 0 < times row es → P row
each_at P row [] h some = absurd (omega arith)
each_at P row (e ∷ es) h some = go (nat_eq e.row row) refl some (λ here. each_at P row es h.1 here)
  where
    go : (t : Bool) → nat_eq e.row row ≡ t → 0 < cond t (suc (times row es)) (times row es) → (0 < times row es → P row) → P row
    go true is here again = subst P (eq_true e.row row is) h.0
    go false is here again = again here

pub count_is : (cs : List Counter) (row : ℕ) (es : List Entry) → Each (λ e. e.count ≡ count_of cs e.row) es → 0 < times row es → count_in es row ≡ count_of cs row
count_is cs row [] h some = absurd (omega arith)
count_is cs row (e ∷ es) h some = go (nat_eq e.row row) refl some (λ here. count_is cs row es h.1 here)
  where
    go : (t : Bool) → nat_eq e.row row ≡ t → 0 < cond t (suc (times row es)) (times row es) → (0 < times row es → count_in es row ≡ count_of cs row) → cond t e.count (count_in es row) ≡ count_of cs row
    go true is here again = h.0 ∙ ap (λ (r : ℕ). count_of cs r) (eq_true e.row row is)
    go false is here again = again here

-- ---- The order of the entries

order_without : (cs : List Counter) (row : ℕ) (es : List Entry) → IsInOrder cs es → IsInOrder cs (without row es)
order_without cs row [] s = tt
order_without cs row (e ∷ es) s = go (nat_eq e.row row) (order_without cs row es s.1)
  where
    go : (t : Bool) → IsInOrder cs (without row es) → IsInOrder cs (cond t es (e ∷ without row es))
    go true again = s.1
    go false again = (each_without (λ f. IsEarlier cs e.row f.row) row es s.0, again)

order_append : (cs : List Counter) (es : List Entry) (e : Entry) → IsInOrder cs es → Each (λ f. IsEarlier cs f.row e.row) es → IsInOrder cs (es ++ e ∷ [])
order_append cs [] e s h = (tt, tt)
order_append cs (f ∷ es) e s h = (each_append (λ g. IsEarlier cs f.row g.row) es (e ∷ []) s.0 (h.0, tt), order_append cs es e s.1 h.1)

order_right : (cs : List Counter) (es fs : List Entry) → IsInOrder cs (es ++ fs) → IsInOrder cs fs
order_right cs [] fs s = s
order_right cs (e ∷ es) fs s = order_right cs es fs s.1

-- counters whose stamps differ at one row alone order the other rows alike
order_same : (cs ds : List Counter) (row : ℕ) (es : List Entry) → ((r : ℕ) → r ≢ row → stamp_of ds r ≡ stamp_of cs r) → Each (λ e. e.row ≢ row) es → IsInOrder cs es → IsInOrder ds es
order_same cs ds row [] same n s = tt
order_same cs ds row (e ∷ es) same n s = (each_both (λ f. f.row ≢ row) (λ f. IsEarlier cs e.row f.row) (λ f. IsEarlier ds e.row f.row) es (λ f. earlier f) n.1 s.0, order_same cs ds row es same n.1 s.1)
  where
    earlier : (f : Entry) → f.row ≢ row → IsEarlier cs e.row f.row → IsEarlier ds e.row f.row
    earlier f apart (inl h) = let a = same e.row n.0 in let b = same f.row apart in inl (omega (arith, a, b, h))
    earlier f apart (inr h) = let a = same e.row n.0 in let b = same f.row apart in inr (a ∙ (h.0 ∙ sym b), h.1)

-- ---- A change

pub list_later : (cs : List Counter) (m n : ℕ) (es : List Entry) → m ≤ n → IsListOf cs m es → IsListOf cs n es
list_later cs m n es h s = record {
  once = s.once;
  counts = s.counts;
  order = s.order;
  stamps = λ row. let l = s.stamps row in omega arith;
}

pub list_changed : (cs : List Counter) (m row k : ℕ) (es : List Entry) → row < length cs → IsListOf cs m es → IsListOf (set cs row (record { count = k; stamp = suc m })) (suc m) (changed row k es)
list_changed cs m row k es low s = record {
  once = λ other. rw (length-set cs row c) (times_changed row other k es one ∙ s.once other);
  counts = each_append (λ e. e.count ≡ count_of ds e.row) (without row es) (record { row = row; count = k } ∷ [])
      (each_both (λ e. e.row ≢ row) (λ e. e.count ≡ count_of cs e.row) (λ e. e.count ≡ count_of ds e.row) (without row es) (λ e n h. h ∙ sym (ap (λ (d : Counter). d.count) (other e.row n))) apart (each_without (λ e. e.count ≡ count_of cs e.row) row es s.counts))
      (sym (ap (λ (d : Counter). d.count) here), tt);
  order = order_append ds (without row es) (record { row = row; count = k })
      (order_same cs ds row (without row es) (λ r n. ap (λ (d : Counter). d.stamp) (other r n)) apart (order_without cs row es s.order))
      (each_both (λ e. e.row ≢ row) (λ e. e.row ≢ row) (λ e. IsEarlier ds e.row row) (without row es) (λ e n _. inl (newest e.row n)) apart apart);
  stamps = λ r. last r (eqb_tells r row);
}
  where
    c : Counter
    c = record { count = k; stamp = suc m }

    ds : List Counter
    ds = set cs row c

    here : get_or (set cs row c) row unused ≡ c
    here = get_or-set_same cs row c unused low

    other : (r : ℕ) → r ≢ row → get_or (set cs row c) r unused ≡ get_or cs r unused
    other r n = get_or-set_other cs row r c unused n

    one : times row es ≡ 1
    one = once_inside (length cs) row es s.once low

    apart : Each (λ e. e.row ≢ row) (without row es)
    apart = each_not row (without row es) (let t = times_without row es (let o = one in omega arith) in let o = one in omega arith)

    newest : (r : ℕ) → r ≢ row → stamp_of (set cs row c) r < stamp_of (set cs row c) row
    newest r n =
        let a : stamp_of (set cs row c) r ≡ stamp_of cs r = ap (λ (d : Counter). d.stamp) (other r n) in
        let b : stamp_of (set cs row c) row ≡ suc m = ap (λ (d : Counter). d.stamp) here in
        let l = s.stamps r in
        omega (arith, a, b, l)

    last : (r : ℕ) → ((nat_eq r row ≡ true) × (r ≡ row)) ⊎ ((nat_eq r row ≡ false) × (r ≢ row)) → stamp_of (set cs row c) r ≤ suc m
    last r (inl p) =
        let b : stamp_of (set cs row c) row ≡ suc m = ap (λ (d : Counter). d.stamp) here in
        let e : stamp_of (set cs row c) r ≡ stamp_of (set cs row c) row = ap (λ (n : ℕ). stamp_of (set cs row c) n) p.1 in
        omega (arith, b, e)
    last r (inr p) =
        let a : stamp_of (set cs row c) r ≡ stamp_of cs r = ap (λ (d : Counter). d.stamp) (other r p.1) in
        let l = s.stamps r in
        omega (arith, a, l)

-- ---- The start

none_at : (n row : ℕ) → get_or (replicate n unused) row unused ≡ unused
none_at zero row = refl
none_at (suc n) zero = refl
none_at (suc n) (suc row) = none_at n row

rows_from : (least first n : ℕ) → least ≤ first → Each (λ e. least ≤ e.row) (rising_from first n)
unfolding rising_from
rows_from least first zero h = tt
rows_from least first (suc n) h = (h, rows_from least (suc first) n (omega arith))

counts_from : (rows first n : ℕ) → Each (λ e. e.count ≡ count_of (replicate rows unused) e.row) (rising_from first n)
unfolding rising_from
counts_from rows first zero = tt
counts_from rows first (suc n) = (sym (ap (λ (d : Counter). d.count) (none_at rows first)), counts_from rows (suc first) n)

order_from : (rows first n : ℕ) → IsInOrder (replicate rows unused) (rising_from first n)
unfolding rising_from
order_from rows first zero = tt
order_from rows first (suc n) =
    let later = rows_from (suc first) (suc first) n (omega arith) in
    (each_both (λ e. suc first ≤ e.row) (λ e. suc first ≤ e.row) (λ e. IsEarlier (replicate rows unused) first e.row) (rising_from (suc first) n) (λ e h _. inr (never e h)) later later, order_from rows (suc first) n)
  where
    never : (e : Entry) → suc first ≤ e.row → (stamp_of (replicate rows unused) first ≡ stamp_of (replicate rows unused) e.row) × (first < e.row)
    never e h = (ap (λ (d : Counter). d.stamp) (none_at rows first ∙ sym (none_at rows e.row)), omega arith)

pub list_fresh : (rows : ℕ) → IsListOf (replicate rows unused) 0 (rising rows)
list_fresh rows = record {
  once = λ row. rw length-replicate (once_rising rows row);
  counts = counts_from rows 0 rows;
  order = order_from rows 0 rows;
  stamps = λ row. let e : stamp_of (replicate rows unused) row ≡ 0 = ap (λ (d : Counter). d.stamp) (none_at rows row) in omega (arith, e);
}

-- ---- The first of the greatest

below_each : (n : ℕ) (es : List Entry) → IsEachBelow n es → Each (λ e. e.count < n) es
below_each n [] h = tt
below_each n (e ∷ es) h = (h.0, below_each n es h.1)

upto_each : (n : ℕ) (es : List Entry) → IsNoneAbove n es → Each (λ e. e.count ≤ n) es
upto_each n [] h = tt
upto_each n (e ∷ es) h = (h.0, upto_each n es h.1)

times_split : (row : ℕ) (es : List Entry) (e : Entry) (fs : List Entry) → 0 < times row (es ++ e ∷ fs) → (0 < times row es) ⊎ ((e.row ≡ row) ⊎ (0 < times row fs))
times_split row [] e fs h = go (nat_eq e.row row) refl h
  where
    go : (t : Bool) → nat_eq e.row row ≡ t → 0 < cond t (suc (times row fs)) (times row fs) → (0 < 0) ⊎ ((e.row ≡ row) ⊎ (0 < times row fs))
    go true is some = inr (inl (eq_true e.row row is))
    go false is some = inr (inr some)
times_split row (f ∷ es) e fs h = go (nat_eq f.row row) h (λ some. times_split row es e fs some)
  where
    go : (t : Bool) → 0 < cond t (suc (times row (es ++ e ∷ fs))) (times row (es ++ e ∷ fs)) → (0 < times row (es ++ e ∷ fs) → (0 < times row es) ⊎ ((e.row ≡ row) ⊎ (0 < times row fs))) → (0 < cond t (suc (times row es)) (times row es)) ⊎ ((e.row ≡ row) ⊎ (0 < times row fs))
    go true some again = inl (omega arith)
    go false some again = again some

times_here : (es : List Entry) (e : Entry) (fs : List Entry) → 0 < times e.row (es ++ e ∷ fs)
times_here [] e fs = go (nat_eq e.row e.row) refl
  where
    go : (t : Bool) → nat_eq e.row e.row ≡ t → 0 < cond t (suc (times e.row fs)) (times e.row fs)
    go true is = omega arith
    go false is = absurd (eq_false e.row e.row is refl)
times_here (f ∷ es) e fs = go (nat_eq f.row e.row) (times_here es e fs)
  where
    go : (t : Bool) → 0 < times e.row (es ++ e ∷ fs) → 0 < cond t (suc (times e.row (es ++ e ∷ fs))) (times e.row (es ++ e ∷ fs))
    go true again = omega arith
    go false again = again

inside_from : (n row : ℕ) → 0 < bit (nat_lt row n) → row < n
inside_from n row h = grind (arith, nat_tests)

-- where a row stands against the first of the greatest
data Against (cs : List Counter) (row count r : ℕ) : Type 0 where
  Lower : count_of cs r < count → Against cs row count r
  Itself : row ≡ r → Against cs row count r
  Later : count_of cs r ≤ count → IsEarlier cs row r → Against cs row count r

not_ahead : (c d : Counter) → c.count < d.count → is_ahead c d ≡ false
not_ahead c d h = grind (arith, nat_tests)

ahead : (c d : Counter) → c.count < d.count → is_ahead d c ≡ true
ahead c d h = grind (arith, nat_tests)

not_ahead_later : (c d : Counter) → c.count ≤ d.count → d.stamp ≤ c.stamp → is_ahead c d ≡ false
not_ahead_later c d h k = grind (arith, nat_tests)

ahead_later : (c d : Counter) → c.count ≤ d.count → d.stamp < c.stamp → is_ahead d c ≡ true
ahead_later c d h k = grind (arith, nat_tests)

pub record IsTracked (cs : List Counter) (row count : ℕ) : Type 0 where
  pub row_is : row ≡ tracked cs
  pub count_is : count ≡ count_of cs (tracked cs)
  pub inside : row < length cs

pub list_tracked : (cs : List Counter) (m row count : ℕ) (es : List Entry) → IsListOf cs m es → IsFirstGreatest es (record { row = row; count = count }) → IsTracked cs row count
list_tracked cs m row count es s g = record {
  row_is = is;
  count_is = same ∙ ap (λ (r : ℕ). count_of cs r) is;
  inside = inside;
}
  where
    e : Entry
    e = record { row = row; count = count }

    counts : Each (λ f. f.count ≡ count_of cs f.row) (g.before ++ record { row = row; count = count } ∷ g.after)
    counts = subst (λ (xs : List Entry). Each (λ f. f.count ≡ count_of cs f.row) xs) g.splits s.counts

    later : Each (λ f. IsEarlier cs row f.row) g.after
    later = (order_right cs g.before (record { row = row; count = count } ∷ g.after) (subst (λ (xs : List Entry). IsInOrder cs xs) g.splits s.order)).0

    same : count ≡ count_of cs row
    same = (each_right (λ f. f.count ≡ count_of cs f.row) g.before (record { row = row; count = count } ∷ g.after) counts).0

    lower : Each (λ f. count_of cs f.row < count) g.before
    lower = each_both (λ f. f.count ≡ count_of cs f.row) (λ f. f.count < count) (λ f. count_of cs f.row < count) g.before (λ f h k. omega (arith, h, k)) (each_left (λ f. f.count ≡ count_of cs f.row) g.before (record { row = row; count = count } ∷ g.after) counts) (below_each count g.before g.lower)

    upto : Each (λ f. count_of cs f.row ≤ count) g.after
    upto = each_both (λ f. f.count ≡ count_of cs f.row) (λ f. f.count ≤ count) (λ f. count_of cs f.row ≤ count) g.after (λ f h k. omega (arith, h, k)) (each_right (λ f. f.count ≡ count_of cs f.row) g.before (record { row = row; count = count } ∷ g.after) counts).1 (upto_each count g.after g.none_above)

    against : (r : ℕ) → r < length cs → Against cs row count r
    against r low = go (times_split r g.before e g.after some)
      where
        some : 0 < times r (g.before ++ record { row = row; count = count } ∷ g.after)
        some = subst (λ (xs : List Entry). 0 < times r xs) g.splits (let o = once_inside (length cs) r es s.once low in omega arith)

        go : (0 < times r g.before) ⊎ ((row ≡ r) ⊎ (0 < times r g.after)) → Against cs row count r
        go (inl h) = Lower (each_at (λ n. count_of cs n < count) r g.before lower h)
        go (inr (inl h)) = Itself h
        go (inr (inr h)) = Later (each_at (λ n. count_of cs n ≤ count) r g.after upto h) (each_at (λ n. IsEarlier cs row n) r g.after later h)

    inside : row < length cs
    inside = inside_from (length cs) row (let some = subst (λ (xs : List Entry). 0 < times row xs) (sym g.splits) (times_here g.before e g.after) in let o = s.once row in omega (arith, o, some))

    none : (r : ℕ) → Against cs row count r → is_ahead (get_or cs r unused) (get_or cs row unused) ≡ false
    none r (Lower h) = not_ahead (get_or cs r unused) (get_or cs row unused) (let c = same in omega (arith, c, h))
    none r (Itself h) = subst (λ (n : ℕ). is_ahead (get_or cs n unused) (get_or cs row unused) ≡ false) h (not_itself (get_or cs row unused))
    none r (Later h (inl k)) = not_ahead_later (get_or cs r unused) (get_or cs row unused) (let c = same in omega (arith, c, h)) (omega (arith, k))
    none r (Later h (inr k)) = not_ahead_later (get_or cs r unused) (get_or cs row unused) (let c = same in omega (arith, c, h)) (let e = k.0 in omega (arith, e))

    first : (r : ℕ) → r < row → Against cs row count r → is_ahead (get_or cs row unused) (get_or cs r unused) ≡ true
    first r low (Lower h) = ahead (get_or cs r unused) (get_or cs row unused) (let c = same in omega (arith, c, h))
    first r low (Itself h) = absurd (omega arith)
    first r low (Later h (inl k)) = ahead_later (get_or cs r unused) (get_or cs row unused) (let c = same in omega (arith, c, h)) (omega (arith, k))
    first r low (Later h (inr k)) = absurd (let l = k.1 in omega arith)

    is : row ≡ tracked cs
    is = first_is_tracked cs row (record {
      inside = inside;
      none = λ r low. none r (against r low);
      before = λ r low. first r low (against r (let i = inside in omega arith));
    })
