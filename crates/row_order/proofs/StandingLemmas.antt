-- What a row order stands for at the start and after a change, and which of its rows is the first of the greatest.
use Rattle.std.proofs.Common.{◌≡◌, ◌≢◌, ◌∙◌, ℕ, zero, suc, ◌+◌, ◌<◌, ◌≤◌, ◌⊎◌, inl, inr, true, false, cond, nat_eq, nat_lt, refl, sym, ap, subst, arith, List, [], ◌∷◌, ◌++◌}
use Rattle.std.proofs.Math.Logic.{∥∥₁_elim}
use Rattle.std.specs.Coded.{le_prop}
use Rattle.std.proofs.lemmas.Bool.Decides.{nat_tests, eqb_tells}
use Rattle.row_order.specs.Entries.{Entry, rising, times, count_in, without, changed, rows_with, IsNoneAbove, IsFirstGreatest}
use Rattle.row_order.specs.Marks.{Marks, mark_of}
use Rattle.row_order.specs.Nodes.{Store, next_in, prev_in, level_in}
use Rattle.row_order.specs.Runs.{IsRun, IsBelow, AreBuckets, first_next, first_prev}
use Rattle.row_order.specs.Standing.{Held, Keeps, StandsFor, StandsForSome, MayRaise, some}
use Rattle.row_order.proofs.EntryLemmas.{once_inside, once_outside, once_rising, same_test, other_test, either, times_changed, count_changed_same, count_changed_other, rows_append, rows_without_other, rows_high, IsAmong, is_among, rows_below, below_without, below_append, count_below, first_greatest, none_above}
use Rattle.row_order.proofs.BucketLemmas.{gone, none_outside, buckets_taken, buckets_put, below_rising, counts_rising, others_rising, buckets_rising}

-- ---- What a list that is stood for says of the numbers held

pub level_is : (it : Held) (es : List Entry) (row : ℕ) → StandsFor it es → row < it.rows → level_in it.store row ≡ count_in es row
unfolding StandsFor
level_is it es row s low = s.counts row low

pub level_low : (it : Held) (row : ℕ) → StandsForSome it → row < it.rows → level_in it.store row < it.levels
unfolding StandsFor
level_low it row some_list low = ∥∥₁_elim some_list le_prop (λ p. go p.0 p.1)
  where
    go : (es : List Entry) → Keeps it es → level_in it.store row < it.levels
    go es s = rw (s.counts row low) (let o = once_inside it.rows row es s.once low in count_below it.levels row es s.below (omega arith))

pub level_may_rise : (it : Held) (row : ℕ) → MayRaise it row → level_in it.store row + 1 < it.levels
unfolding StandsFor
level_may_rise it row may = ∥∥₁_elim may.below le_prop (λ p. go p.0 p.1 p.2)
  where
    go : (es : List Entry) → Keeps it es → count_in es row + 1 < it.levels → level_in it.store row + 1 < it.levels
    go es s low = rw (s.counts row may.inside) low

-- ---- A change

-- the links of the nodes after the node of the row came out
pub record IsUnlinked (n row : ℕ) (xs ys : Store) : Type 0 where
  pub next : (k : ℕ) → k < n → next_in ys k ≡ cond (nat_eq k (prev_in xs row)) (next_in xs row) (next_in xs k)
  pub prev : (k : ℕ) → k < n → prev_in ys k ≡ cond (nat_eq k (next_in xs row)) (prev_in xs row) (prev_in xs k)
  pub level : (k : ℕ) → k < n → level_in ys k ≡ level_in xs k

-- and after it was put before the end of a bucket
pub record IsAppended (n row end to : ℕ) (xs ys : Store) : Type 0 where
  pub next : (k : ℕ) → k < n → next_in ys k ≡ cond (nat_eq k (prev_in xs end)) row (cond (nat_eq k row) end (next_in xs k))
  pub prev : (k : ℕ) → k < n → prev_in ys k ≡ cond (nat_eq k end) row (cond (nat_eq k row) (prev_in xs end) (prev_in xs k))
  pub level : (k : ℕ) → k < n → level_in ys k ≡ cond (nat_eq k row) to (level_in xs k)

-- the same said of the numbers of rows and levels before
pub appended_within : (rows levels rows' levels' row count : ℕ) (xs ys : Store) → rows' ≡ rows → levels' ≡ levels → IsAppended (rows' + levels') row (rows' + count) count xs ys → IsAppended (rows + levels) row (rows + count) count xs ys
appended_within rows levels rows' levels' row count xs ys same_rows same_levels put =
    subst (λ (n : ℕ). IsAppended (n + levels) row (n + count) count xs ys) same_rows
    (subst (λ (n : ℕ). IsAppended (rows' + n) row (rows' + count) count xs ys) same_levels put)

some_append : (xs : List ℕ) (row : ℕ) → some (xs ++ row ∷ []) ≡ 1
some_append [] row = refl
some_append (x ∷ xs) row = refl

some_inside : (xs : List ℕ) (row : ℕ) (ys : List ℕ) → some (xs ++ row ∷ ys) ≡ 1
some_inside [] row ys = refl
some_inside (x ∷ xs) row ys = refl

-- the first node of a bucket tells whether there are rows in it
some_first : (nx pv : ℕ → ℕ) (rows end v : ℕ) (xs : List ℕ) → rows ≤ end → IsBelow rows xs → IsRun nx pv end xs end → v ≡ 1 → cond (nat_lt (nx end) rows) v 0 ≡ some xs
some_first nx pv rows end v [] high low run one = rw (run.0, tested) refl
  where
    tested : nat_lt end rows ≡ false
    tested = grind (arith, nat_tests)
some_first nx pv rows end v (x ∷ xs) high low run one = rw (run.0, tested) one
  where
    tested : nat_lt x rows ≡ true
    tested = let l = low.0 in grind (arith, nat_tests)

module _ (it : Held) (es : List Entry) (row count : ℕ) (s : Keeps it es) (inside : row < it.rows) (up : count < it.levels) where
  one_row : times row es ≡ 1
  one_row = once_inside it.rows row es s.once inside

  -- the buckets
  buckets_changed : (mid new : Store) → IsUnlinked (it.rows + it.levels) row it.store mid → IsAppended (it.rows + it.levels) row (it.rows + count) count mid new → AreBuckets (λ k. next_in new k) (λ k. prev_in new k) it.rows it.levels (changed row count es)
  buckets_changed mid new out put =
      buckets_put (λ k. next_in mid k) (λ k. prev_in mid k) (λ k. next_in new k) (λ k. prev_in new k) it.rows it.levels row count (without row es)
      (gone it.rows it.levels row es s.once inside) (none_outside it.rows it.levels row es s.once inside) inside up
      (buckets_taken it.rows it.levels row es s.once inside (λ k. next_in it.store k) (λ k. prev_in it.store k) (λ k. next_in mid k) (λ k. prev_in mid k) s.below s.buckets
      (record { next = λ k low. out.next k low; prev = λ k low. out.prev k low }))
      (record { next = λ k low. put.next k low; prev = λ k low. put.prev k low })

  -- the rows of a level
  rows_elsewhere : (level : ℕ) → level ≢ count → rows_with level (changed row count es) ≡ rows_with level (without row es)
  rows_elsewhere level n = let a = rows_append level (without row es) (record { row = row; count = count }) in rw (other_test count level (λ e. n (sym e))) at a

  rows_here : rows_with count (changed row count es) ≡ rows_with count (without row es) ++ row ∷ []
  rows_here = let a = rows_append count (without row es) (record { row = row; count = count }) in rw (same_test count count refl) at a

pub stands_changed : (it new : Held) (mid : Store) (forgot : Marks) (es : List Entry) (row before count : ℕ) → StandsFor it es → row < it.rows → count < it.levels → it.levels ≤ 4096
    → new.rows ≡ it.rows → new.levels ≡ it.levels → before ≡ level_in it.store row
    → IsUnlinked (it.rows + it.levels) row it.store mid → IsAppended (it.rows + it.levels) row (it.rows + count) count mid new.store
    → ((k : ℕ) → k < 4096 → mark_of forgot k ≡ cond (nat_eq k before) (cond (nat_lt (next_in new.store (it.rows + before)) it.rows) (mark_of it.used k) 0) (mark_of it.used k))
    → ((k : ℕ) → k < 4096 → mark_of new.used k ≡ cond (nat_eq k count) 1 (mark_of forgot k))
    → StandsFor new (changed row count es)
unfolding StandsFor
stands_changed it new mid forgot es row before count s inside up few rows levels was out put forgets marks = record {
  once = λ other. rw rows (times_changed row other count es one ∙ s.once other);
  below = rw levels (below_append it.levels (without row es) (record { row = row; count = count }) (below_without it.levels row es s.below) up);
  counts = λ other low. counts other (rw rows at low) (eqb_tells other row);
  buckets = rw (rows, levels) (buckets_changed it es row count s inside up mid new.store out put);
  used = λ level low. used level low (eqb_tells level count) (eqb_tells level (count_in es row));
}
  where
    one : times row es ≡ 1
    one = once_inside it.rows row es s.once inside

    counts : (other : ℕ) → other < it.rows → ((nat_eq other row ≡ true) × (other ≡ row)) ⊎ ((nat_eq other row ≡ false) × (other ≢ row)) → level_in new.store other ≡ count_in (changed row count es) other
    counts other low (inl p) = put.level other (omega arith) ∙ rw (p.0, p.1) (sym (count_changed_same row count es one))
    counts other low (inr p) =
        let some_times : 0 < times other es = (let o = once_inside it.rows other es s.once low in omega arith) in
        put.level other (omega arith) ∙ rw p.0 (out.level other (omega arith) ∙ (s.counts other low ∙ sym (count_changed_other row other count es p.1 some_times)))

    was_own : before ≡ count_in es row
    was_own = was ∙ s.counts row inside

    own_low : count_in es row < it.levels
    own_low = count_below it.levels row es s.below (let o = one in omega arith)

    own_marked : mark_of it.used (count_in es row) ≡ 1
    own_marked =
        let among = is_among row es (let o = one in omega arith) in
        s.used (count_in es row) (let l = own_low in omega arith) ∙ (ap some among.whole ∙ some_inside among.before row among.after)

    members : (level : ℕ) → IsBelow it.rows (rows_with level (changed row count es))
    members level = rows_below it.rows level (changed row count es) (λ other high. times_changed row other count es one ∙ once_outside it.rows other es s.once high)

    used : (level : ℕ) → level < 4096 → ((nat_eq level count ≡ true) × (level ≡ count)) ⊎ ((nat_eq level count ≡ false) × (level ≢ count)) → ((nat_eq level (count_in es row) ≡ true) × (level ≡ count_in es row)) ⊎ ((nat_eq level (count_in es row) ≡ false) × (level ≢ count_in es row)) → mark_of new.used level ≡ some (rows_with level (changed row count es))
    used level low (inl p) q = marks level low ∙ rw (p.0, p.1, rows_here it es row count s inside up) (sym (some_append (rows_with count (without row es)) row))
    used level low (inr p) (inr q) =
        let here : mark_of new.used level ≡ mark_of forgot level = rw p.0 at (marks level low) in
        let there : mark_of forgot level ≡ mark_of it.used level = rw (was_own, q.0) at (forgets level low) in
        here ∙ (there ∙ (s.used level low ∙ ap some (sym (rows_elsewhere it es row count s inside up level p.1 ∙ rows_without_other level row es (λ e. q.1 (sym e))))))
    used level low (inr p) (inl q) =
        let here : mark_of new.used level ≡ mark_of forgot level = rw p.0 at (marks level low) in
        let there : mark_of forgot level ≡ cond (nat_lt (next_in new.store (it.rows + count_in es row)) it.rows) (mark_of it.used level) 0 = rw (was_own, q.0) at (forgets level low) in
        let run = buckets_changed it es row count s inside up mid new.store out put (count_in es row) own_low in
        here ∙ (there ∙ rw q.1 (some_first (λ k. next_in new.store k) (λ k. prev_in new.store k) it.rows (it.rows + count_in es row) (mark_of it.used (count_in es row)) (rows_with (count_in es row) (changed row count es)) (omega arith) (members (count_in es row)) run own_marked))

-- ---- The start

pub stands_rising : (it : Held) (empty : Marks) (rows levels : ℕ) → it.rows ≡ rows → it.levels ≡ levels → 0 < rows → 0 < levels
    → ((k : ℕ) → k < rows + levels → next_in it.store k ≡ first_next rows k)
    → ((k : ℕ) → k < rows + levels → prev_in it.store k ≡ first_prev rows k)
    → ((k : ℕ) → k < rows + levels → level_in it.store k ≡ 0)
    → ((k : ℕ) → k < 4096 → mark_of empty k ≡ 0)
    → ((k : ℕ) → k < 4096 → mark_of it.used k ≡ cond (nat_eq k 0) 1 (mark_of empty k))
    → StandsFor it (rising rows)
unfolding StandsFor
stands_rising it empty rows levels same_rows same_levels some_rows some_levels next prev level none marks = record {
  once = λ row. rw same_rows (once_rising rows row);
  below = rw same_levels (below_rising levels 0 rows some_levels);
  counts = λ row low. level row (let l = rw same_rows at low in omega (arith, l)) ∙ sym (counts_rising row 0 rows);
  buckets = rw (same_rows, same_levels) (buckets_rising (λ k. next_in it.store k) (λ k. prev_in it.store k) rows levels some_rows next prev);
  used = λ k low. used k low;
}
  where
    one : times 0 (rising rows) ≡ 1
    one = once_inside rows 0 (rising rows) (once_rising rows) some_rows

    first : some (rows_with 0 (rising rows)) ≡ 1
    first =
        let among = is_among 0 (rising rows) (let o = one in omega arith) in
        let zero_count = counts_rising 0 0 rows in
        subst (λ (c : ℕ). some (rows_with c (rising rows)) ≡ 1) zero_count (ap some among.whole ∙ some_inside among.before 0 among.after)

    used : (k : ℕ) → k < 4096 → mark_of it.used k ≡ some (rows_with k (rising rows))
    used zero low = marks 0 low ∙ sym first
    used (suc k) low =
        let n : suc k ≢ 0 = (λ e. cc) in
        marks (suc k) low ∙ rw (other_test (suc k) 0 n) (none (suc k) low ∙ sym (ap some (others_rising (suc k) 0 rows n)))

-- ---- The greatest

-- the bucket of the highest level in use has a first row
pub record IsTop (it : Held) (es : List Entry) (top : ℕ) : Type 0 where
  pub inside : top < it.levels
  pub row : ℕ
  pub rest : List ℕ
  pub rows : rows_with top es ≡ row ∷ rest
  pub low : row < it.rows
  pub none_above : IsNoneAbove top es

record IsSome (xs : List ℕ) : Type 0 where
  head : ℕ
  rest : List ℕ
  is : xs ≡ head ∷ rest

is_some : (xs : List ℕ) → some xs ≡ 1 → IsSome xs
is_some [] h = absurd (omega arith)
is_some (x ∷ xs) h = record { head = x; rest = xs; is = refl }

empty_or : (xs : List ℕ) → (xs ≡ []) ⊎ (some xs ≡ 1)
empty_or [] = inl refl
empty_or (x ∷ xs) = inr refl

pub top_is : (it : Held) (es : List Entry) (top : ℕ) → Keeps it es → 0 < it.rows → it.levels ≤ 4096 → top < 4096 → ((k : ℕ) → k < 4096 → mark_of it.used k ≡ 1 → (k ≤ top) × (mark_of it.used top ≡ 1)) → IsTop it es top
top_is it es top s some_rows few inside highest = record {
  inside = top_low (either top it.levels);
  row = first.head;
  rest = first.rest;
  rows = first.is;
  low = (subst (λ (xs : List ℕ). IsBelow it.rows xs) first.is (rows_below it.rows top es (λ other high. once_outside it.rows other es s.once high))).0;
  none_above = none_above top it.levels es s.below (λ level low g. none level low g (empty_or (rows_with level es)));
}
  where
    among : IsAmong (count_in es 0) 0 es
    among = is_among 0 es (let o = once_inside it.rows 0 es s.once some_rows in omega arith)

    own_low : count_in es 0 < it.levels
    own_low = count_below it.levels 0 es s.below (let o = once_inside it.rows 0 es s.once some_rows in omega arith)

    marked : mark_of it.used (count_in es 0) ≡ 1
    marked = s.used (count_in es 0) (let l = own_low in omega arith) ∙ (ap some among.whole ∙ some_inside among.before 0 among.after)

    top_marked : some (rows_with top es) ≡ 1
    top_marked = sym (s.used top inside) ∙ (highest (count_in es 0) (let l = own_low in omega arith) marked).1

    first : IsSome (rows_with top es)
    first = is_some (rows_with top es) top_marked

    top_low : (top < it.levels) ⊎ (it.levels ≤ top) → top < it.levels
    top_low (inl l) = l
    top_low (inr g) = absurd (let e : some (rows_with top es) ≡ 0 = ap some (rows_high it.levels top es s.below g) in let o = top_marked in omega arith)

    none : (level : ℕ) → level < it.levels → top < level → (rows_with level es ≡ []) ⊎ (some (rows_with level es) ≡ 1) → rows_with level es ≡ []
    none level low g (inl e) = e
    none level low g (inr e) = absurd (let h = (highest level (omega arith) (s.used level (omega arith) ∙ e)).0 in omega arith)

-- what the first node of that bucket is
pub top_first : (it : Held) (es : List Entry) (top : ℕ) → Keeps it es → (t : IsTop it es top) → next_in it.store (it.rows + top) ≡ t.row
top_first it es top s t = (subst (λ (xs : List ℕ). IsRun (λ k. next_in it.store k) (λ k. prev_in it.store k) (it.rows + top) xs (it.rows + top)) t.rows (s.buckets top t.inside)).0

pub greatest_is : (it : Held) (es : List Entry) (top row : ℕ) → StandsFor it es → 0 < it.rows → it.levels ≤ 4096 → top < 4096 → ((k : ℕ) → k < 4096 → mark_of it.used k ≡ 1 → (k ≤ top) × (mark_of it.used top ≡ 1)) → row ≡ next_in it.store (it.rows + top) → IsFirstGreatest es (record { row = row; count = top })
unfolding StandsFor
greatest_is it es top row s some_rows few inside highest is =
    let t = top_is it es top s some_rows few inside highest in
    let e : t.row ≡ row = sym (is ∙ top_first it es top s t) in
    subst (λ (r : ℕ). IsFirstGreatest es (record { row = r; count = top })) e (first_greatest top t.row t.rest es t.none_above t.rows)

pub top_level : (it : Held) (top : ℕ) → StandsForSome it → 0 < it.rows → it.levels ≤ 4096 → top < 4096 → ((k : ℕ) → k < 4096 → mark_of it.used k ≡ 1 → (k ≤ top) × (mark_of it.used top ≡ 1)) → top < it.levels
unfolding StandsFor
top_level it top some_list some_rows few inside highest = ∥∥₁_elim some_list le_prop (λ p. (top_is it p.0 top p.1 some_rows few inside highest).inside)

pub top_row : (it : Held) (top : ℕ) → StandsForSome it → 0 < it.rows → it.levels ≤ 4096 → top < 4096 → ((k : ℕ) → k < 4096 → mark_of it.used k ≡ 1 → (k ≤ top) × (mark_of it.used top ≡ 1)) → next_in it.store (it.rows + top) < it.rows
unfolding StandsFor
top_row it top some_list some_rows few inside highest = ∥∥₁_elim some_list le_prop (λ p. go p.0 p.1)
  where
    go : (es : List Entry) → Keeps it es → next_in it.store (it.rows + top) < it.rows
    go es s = let t = top_is it es top s some_rows few inside highest in rw (top_first it es top s t) t.low

pub is_level : (count levels : ℕ) → 0 < levels → (0 < count → count < levels) → count < levels
is_level zero levels some low = some
is_level (suc count) levels some low = low (omega arith)
