-- The buckets after a row came out of one, and after a row was put into one.
use Rattle.std.proofs.Common.{◌≡◌, ◌≢◌, ◌∙◌, ℕ, zero, suc, ◌+◌, ◌<◌, ◌≤◌, ◌⊎◌, inl, inr, Bool, true, false, cond, nat_eq, refl, sym, subst, arith, List, [], ◌∷◌, ◌++◌}
use Rattle.std.proofs.lemmas.Bool.Decides.{nat_tests, eqb_tells}
use Rattle.row_order.specs.Entries.{Entry, rising_from, times, count_in, without, rows_with, IsEachBelow}
use Rattle.row_order.specs.Runs.{IsRun, IsOutside, IsBelow, AreBuckets, first_next, first_prev}
use Rattle.row_order.proofs.EntryLemmas.{IsOnce, once_inside, once_outside, other_test, times_without, times_without_other, rows_append, rows_without_other, IsAmong, is_among, rows_outside, rows_below, count_below}
use Rattle.row_order.proofs.RunLemmas.{IsTakenOut, IsPutBefore, run_start, run_end, run_to, run_from, outside_left, outside_right, below_left, below_right, outside_from, below_more, taken_other, taken_run, put_other, put_run}

module _ (rows levels row : ℕ) (es : List Entry) (once : IsOnce rows es) (inside : row < rows) where
  some_times : 0 < times row es
  some_times = let o = once_inside rows row es once inside in omega arith

  pub gone : times row (without row es) ≡ 0
  gone = let o = once_inside rows row es once inside in let t = times_without row es some_times in omega arith

  pub none_outside : (other : ℕ) → rows ≤ other → times other (without row es) ≡ 0
  none_outside other h =
      let n : other ≢ row = (λ e. let l : row < other = omega arith in omega arith) in
      times_without_other row other es n ∙ once_outside rows other es once h

  pub buckets_taken : (nx pv nx' pv' : ℕ → ℕ) → IsEachBelow levels es → AreBuckets nx pv rows levels es → IsTakenOut nx pv nx' pv' (rows + levels) row → AreBuckets nx' pv' rows levels (without row es)
  buckets_taken nx pv nx' pv' below buckets taken level low = go (eqb_tells own level)
    where
      own : ℕ
      own = count_in es row

      own_low : count_in es row < levels
      own_low = count_below levels row es below some_times

      among : IsAmong (count_in es row) row es
      among = is_among row es some_times

      run : IsRun nx pv (rows + count_in es row) (among.before ++ row ∷ among.after) (rows + count_in es row)
      run = subst (λ (xs : List ℕ). IsRun nx pv (rows + count_in es row) xs (rows + count_in es row)) among.whole (buckets (count_in es row) own_low)

      forth : nx (pv row) ≡ row
      forth = run_end nx pv (rows + count_in es row) among.before row (run_to nx pv (rows + count_in es row) among.before row among.after (rows + count_in es row) run)

      back : pv (nx row) ≡ row
      back = run_start nx pv row among.after (rows + count_in es row) (run_from nx pv (rows + count_in es row) among.before row among.after (rows + count_in es row) run)

      members : (l : ℕ) → IsBelow (rows + levels) (rows_with l (without row es))
      members l = below_more rows (rows + levels) (rows_with l (without row es)) (omega arith) (rows_below rows l (without row es) none_outside)

      others : (l : ℕ) → IsOutside row (rows_with l (without row es))
      others l = rows_outside row l (without row es) gone

      apart : (l : ℕ) → rows + l ≢ row
      apart l e = let up : row < rows + l = omega arith in omega arith

      here : IsRun nx' pv' (rows + count_in es row) (rows_with (count_in es row) (without row es)) (rows + count_in es row)
      here =
          let m = subst (λ (xs : List ℕ). IsBelow (rows + levels) xs) among.rest (members (count_in es row)) in
          let o = subst (λ (xs : List ℕ). IsOutside row xs) among.rest (others (count_in es row)) in
          let end : rows + count_in es row < rows + levels = (let l = own_low in omega arith) in
          subst (λ (xs : List ℕ). IsRun nx' pv' (rows + count_in es row) xs (rows + count_in es row)) (sym among.rest)
          (taken_run nx pv nx' pv' (rows + levels) row taken forth back (rows + count_in es row) among.before among.after (rows + count_in es row) end
          (below_left (rows + levels) among.before among.after m) (below_right (rows + levels) among.before among.after m) end (apart (count_in es row))
          (outside_left row among.before among.after o) (outside_right row among.before among.after o) (apart (count_in es row)) run)

      go : ((nat_eq (count_in es row) level ≡ true) × (count_in es row ≡ level)) ⊎ ((nat_eq (count_in es row) level ≡ false) × (count_in es row ≢ level)) → IsRun nx' pv' (rows + level) (rows_with level (without row es)) (rows + level)
      go (inl p) = subst (λ (l : ℕ). IsRun nx' pv' (rows + l) (rows_with l (without row es)) (rows + l)) p.1 here
      go (inr p) =
          let same = rows_without_other level row es p.1 in
          let end : rows + level < rows + levels = omega arith in
          taken_other nx pv nx' pv' (rows + levels) row taken forth back (rows + level) (rows_with level (without row es)) (rows + level) end (members level) end (apart level) (others level) (apart level)
          (subst (λ (xs : List ℕ). IsRun nx pv (rows + level) xs (rows + level)) (sym same) (buckets level low))

pub buckets_put : (nx pv nx' pv' : ℕ → ℕ) (rows levels row count : ℕ) (es : List Entry) → times row es ≡ 0 → ((other : ℕ) → rows ≤ other → times other es ≡ 0) → row < rows → count < levels → AreBuckets nx pv rows levels es → IsPutBefore nx pv nx' pv' (rows + levels) row (rows + count) → AreBuckets nx' pv' rows levels (es ++ record { row = row; count = count } ∷ [])
buckets_put nx pv nx' pv' rows levels row count es out none inside up buckets put level low = go (eqb_tells count level)
  where
    forth : nx (pv (rows + count)) ≡ rows + count
    forth = run_end nx pv (rows + count) (rows_with count es) (rows + count) (buckets count up)

    members : IsBelow rows (rows_with level es)
    members = rows_below rows level es none

    under : IsBelow (rows + levels) (rows_with level es)
    under = below_more rows (rows + levels) (rows_with level es) (omega arith) members

    others : IsOutside row (rows_with level es)
    others = rows_outside row level es out

    no_end : IsOutside (rows + count) (rows_with level es)
    no_end = outside_from rows (rows + count) (rows_with level es) (omega arith) members

    apart : (l : ℕ) → rows + l ≢ row
    apart l e = let above : row < rows + l = omega arith in omega arith

    far : row ≢ rows + count
    far e = apart count (sym e)

    added : rows_with level (es ++ record { row = row; count = count } ∷ []) ≡ cond (nat_eq count level) (rows_with level es ++ row ∷ []) (rows_with level es)
    added = rows_append level es (record { row = row; count = count })

    go : ((nat_eq count level ≡ true) × (count ≡ level)) ⊎ ((nat_eq count level ≡ false) × (count ≢ level)) → IsRun nx' pv' (rows + level) (rows_with level (es ++ record { row = row; count = count } ∷ [])) (rows + level)
    go (inl p) =
        let is : rows_with level (es ++ record { row = row; count = count } ∷ []) ≡ rows_with level es ++ row ∷ [] = rw p.0 at added in
        let run : IsRun nx pv (rows + count) (rows_with level es) (rows + count) = subst (λ (l : ℕ). IsRun nx pv (rows + l) (rows_with level es) (rows + l)) (sym p.1) (buckets level low) in
        let end : rows + count < rows + levels = omega arith in
        let mine : row < rows + levels = omega arith in
        let after = put_run nx pv nx' pv' (rows + levels) row (rows + count) put forth far (rows + count) (rows_with level es) end under end mine (apart count) others no_end run in
        subst (λ (xs : List ℕ). IsRun nx' pv' (rows + level) xs (rows + level)) (sym is) (subst (λ (l : ℕ). IsRun nx' pv' (rows + l) (rows_with level es ++ row ∷ []) (rows + l)) p.1 after)
    go (inr p) =
        let is : rows_with level (es ++ record { row = row; count = count } ∷ []) ≡ rows_with level es = rw p.0 at added in
        let end : rows + level < rows + levels = omega arith in
        let ends : rows + level ≢ rows + count = (λ e. p.1 (let l : count ≡ level = omega arith in l)) in
        subst (λ (xs : List ℕ). IsRun nx' pv' (rows + level) xs (rows + level)) (sym is)
        (put_other nx pv nx' pv' (rows + levels) row (rows + count) put forth far (rows + level) (rows_with level es) (rows + level) end under end (apart level) others (apart level) no_end ends (buckets level low))

-- ---- The start

pub below_rising : (levels first n : ℕ) → 0 < levels → IsEachBelow levels (rising_from first n)
unfolding rising_from
below_rising levels first zero h = tt
below_rising levels first (suc n) h = (h, below_rising levels (suc first) n h)

pub counts_rising : (row first n : ℕ) → count_in (rising_from first n) row ≡ 0
unfolding rising_from
counts_rising row first zero = refl
counts_rising row first (suc n) = go (nat_eq first row) (counts_rising row (suc first) n)
  where
    go : (t : Bool) → count_in (rising_from (suc first) n) row ≡ 0 → cond t 0 (count_in (rising_from (suc first) n) row) ≡ 0
    go true again = refl
    go false again = again

pub others_rising : (level first n : ℕ) → level ≢ 0 → rows_with level (rising_from first n) ≡ []
unfolding rising_from
others_rising level first zero h = refl
others_rising level first (suc n) h = rw (other_test 0 level (λ e. h (sym e))) (others_rising level (suc first) n h)

next_row : (rows k : ℕ) → k < rows → first_next rows k ≡ suc k
next_row rows k h = grind (arith, nat_tests)

next_end : (rows : ℕ) → first_next rows rows ≡ 0
next_end rows = grind (arith, nat_tests)

next_other : (rows k : ℕ) → rows < k → first_next rows k ≡ k
next_other rows k h = grind (arith, nat_tests)

prev_row : (rows k : ℕ) → k < rows → first_prev rows (suc k) ≡ k
prev_row rows k h = grind (arith, nat_tests)

prev_other : (rows k : ℕ) → rows < k → first_prev rows k ≡ k
prev_other rows k h = grind (arith, nat_tests)

module _ (nx pv : ℕ → ℕ) (rows levels : ℕ) (some : 0 < rows) (next : (k : ℕ) → k < rows + levels → nx k ≡ first_next rows k) (prev : (k : ℕ) → k < rows + levels → pv k ≡ first_prev rows k) where
  rising_run : (k n : ℕ) → 0 < levels → suc k + n ≡ rows → IsRun nx pv k (rows_with 0 (rising_from (suc k) n)) rows
  unfolding rising_from
  rising_run k zero up is =
      let e : suc k ≡ rows = omega arith in (
        next k (omega arith) ∙ (next_row rows k (omega arith) ∙ e),
        subst (λ (z : ℕ). pv z ≡ k) e (prev (suc k) (omega arith) ∙ prev_row rows k (omega arith)),
      )
  rising_run k (suc n) up is = (
    next k (omega arith) ∙ next_row rows k (omega arith),
    prev (suc k) (omega arith) ∙ prev_row rows k (omega arith),
    rising_run (suc k) n up (omega arith),
  )

  first_bucket : (n : ℕ) → 0 < levels → n ≡ rows → IsRun nx pv rows (rows_with 0 (rising_from 0 n)) rows
  unfolding rising_from
  first_bucket zero up is = absurd (omega arith)
  first_bucket (suc n) up is = (
    next rows (omega arith) ∙ next_end rows,
    prev 0 (omega arith),
    rising_run 0 n up (omega arith),
  )

  pub buckets_rising : AreBuckets nx pv rows levels (rising_from 0 rows)
  buckets_rising zero low = let e : rows ≡ rows + 0 = omega arith in subst (λ (z : ℕ). IsRun nx pv z (rows_with 0 (rising_from 0 rows)) z) e (first_bucket rows low refl)
  buckets_rising (suc l) low =
      let n : suc l ≢ 0 = (λ e. cc) in
      let out : rows < rows + suc l = omega arith in
      subst (λ (xs : List ℕ). IsRun nx pv (rows + suc l) xs (rows + suc l)) (sym (others_rising (suc l) 0 rows n)) (
        next (rows + suc l) (omega arith) ∙ next_other rows (rows + suc l) out,
        prev (rows + suc l) (omega arith) ∙ prev_other rows (rows + suc l) out,
      )
