-- A bank's counters, from the list of its closings and mitigations alone, stamped by their numbers in that list. They
-- have the counts and the tracked row that the log has.
use Rattle.std.proofs.Common.{◌≡◌, ◌≢◌, ◌∙◌, ℕ, zero, suc, ◌+◌, ◌<◌, ◌≤◌, ◌⊎◌, Bool, true, false, nat_le, nat_lt, refl, sym, arith, inl, inr, Option, Some, None, cond, List, [], ◌∷◌, length, get_or, set, replicate, length-set, get_or-set_same, get_or-set_other}
use Rattle.std.proofs.lemmas.Bool.Decides.{nat_tests}
use Rattle.speed_bin.specs.declared.header.Header.{Header}
use Rattle.command_words.specs.Kinds.{Effect, Opens, Closes, Manages, Refreshes, Leaves, effect}
use Rattle.speed_bin.specs.Log.{Log, open_at}
use Rattle.speed_bin.specs.Counters.{Counter, is_ahead, counters, counters_after, mitigated, tracked, count_of, after_mitigation}
use Rattle.speed_bin.specs.Marks.{Keeps}
use Rattle.speed_bin.proofs.Rows.{unused, tracked_inside}
use Rattle.speed_bin.proofs.Bounds.{sound_log}
use Rattle.speed_bin.proofs.Stamps.{SameTo, SameOrder, same_tracked}
use Rattle.speed_bin.proofs.Splits.{same_or_not}

pub data Change : Type 0 where
  Closed : ℕ → Change
  Mitigated : Change

abbrev pub own_after : ℕ → Change → List Counter → List Counter
own_after number (Closed row) cs = set cs row (record { count = count_of cs row + 1; stamp = number })
own_after number Mitigated cs = set cs (tracked cs) (record { count = 0; stamp = number })

-- the counters of a list of changes, newest first
abbrev pub own : ℕ → List Change → List Counter
own rows [] = replicate rows unused
own rows (change ∷ changes) = own_after (suc (length changes)) change (own rows changes)

-- the changes that an effect makes
abbrev pub with_change : Effect → Option ℕ → Option ℕ → List Change → List Change
with_change Closes (Some row) target changes = Closed row ∷ changes
with_change Closes None target changes = changes
with_change Manages opened (Some row) changes = Mitigated ∷ changes
with_change Manages opened None changes = changes
with_change (Opens row) opened target changes = changes
with_change Refreshes opened target changes = changes
with_change Leaves opened target changes = changes

-- a bank's changes in a log
abbrev pub changes_of : Header → ℕ → Log → List Change
changes_of h b [] = []
changes_of h b (place ∷ log) = with_change (effect b place.command) (open_at b log) (mitigated h (effect b place.command) (counters h b log)) (changes_of h b log)

-- ---- Two lists of counters with the same counts, and stamps in the same order

abbrev at : List Counter → ℕ → Counter
at cs row = get_or cs row unused

pub record Agree (cs ds : List Counter) (m n : ℕ) : Type 0 where
  pub long : length cs ≡ length ds
  pub counts : (row : ℕ) → (at cs row).count ≡ (at ds row).count
  pub order : (row other : ℕ) → nat_lt (at cs row).stamp (at cs other).stamp ≡ nat_lt (at ds row).stamp (at ds other).stamp
  pub first_top : (row : ℕ) → (at cs row).stamp ≤ m
  pub second_top : (row : ℕ) → (at ds row).stamp ≤ n

same_ahead : (c d e f : Counter) → c.count ≡ e.count → d.count ≡ f.count → nat_lt c.stamp d.stamp ≡ nat_lt e.stamp f.stamp → is_ahead c d ≡ is_ahead e f
same_ahead c d e f p q r = rw (p, q, r) refl

same_to : (c d : Counter) (xs ys : List Counter) → length xs ≡ length ys → ((row : ℕ) → is_ahead (at xs row) c ≡ is_ahead (at ys row) d) → SameTo c d xs ys
same_to c d [] [] long h = tt
same_to c d (x ∷ xs) (y ∷ ys) long h = (h 0, same_to c d xs ys (omega arith) (λ row. h (suc row)))
same_to c d [] (y ∷ ys) long h = absurd (omega arith)
same_to c d (x ∷ xs) [] long h = absurd (omega arith)

same_order : (cs ds : List Counter) → length cs ≡ length ds → ((row other : ℕ) → is_ahead (at cs row) (at cs other) ≡ is_ahead (at ds row) (at ds other)) → SameOrder cs ds
same_order [] [] long h = tt
same_order (c ∷ cs) (d ∷ ds) long h = (same_to c d cs ds (omega arith) (λ row. h (suc row) 0), same_order cs ds (omega arith) (λ row other. h (suc row) (suc other)))
same_order [] (d ∷ ds) long h = absurd (omega arith)
same_order (c ∷ cs) [] long h = absurd (omega arith)

pub agree_tracked : (cs ds : List Counter) (m n : ℕ) → Agree cs ds m n → tracked cs ≡ tracked ds
agree_tracked cs ds m n a = same_tracked cs ds (same_order cs ds a.long (λ row other. same_ahead (at cs row) (at cs other) (at ds row) (at ds other) (a.counts row) (a.counts other) (a.order row other)))

pub agree_later : (cs ds : List Counter) (m n k : ℕ) → m ≤ k → Agree cs ds m n → Agree cs ds k n
agree_later cs ds m n k h a = record {
  long = a.long;
  counts = a.counts;
  order = a.order;
  first_top = λ row. let t = a.first_top row in omega arith;
  second_top = a.second_top;
}

-- what an entry of a changed list is
set_at : (cs : List Counter) (place row : ℕ) (c : Counter) → place < length cs → ((row ≡ place) × (at (set cs place c) row ≡ c)) ⊎ ((row ≢ place) × (at (set cs place c) row ≡ at cs row))
set_at cs place row c low = go (same_or_not row place)
  where
    go : (row ≡ place) ⊎ (row ≢ place) → ((row ≡ place) × (at (set cs place c) row ≡ c)) ⊎ ((row ≢ place) × (at (set cs place c) row ≡ at cs row))
    go (inl e) = inl (e, rw e (get_or-set_same cs place c unused low))
    go (inr n) = inr (n, get_or-set_other cs place row c unused n)

newest_last : (x m : ℕ) → x ≤ m → nat_lt x (suc m) ≡ true
newest_last x m h = grind (arith, nat_tests)

newest_first : (x m : ℕ) → x ≤ m → nat_lt (suc m) x ≡ false
newest_first x m h = grind (arith, nat_tests)

not_itself : (x y : ℕ) → nat_lt x x ≡ nat_lt y y
not_itself x y = grind (arith, nat_tests)

-- both change the same row, to the same count, with stamps newer than all others
pub agree_set : (cs ds : List Counter) (m n place k : ℕ) → place < length cs → Agree cs ds m n → Agree (set cs place (record { count = k; stamp = suc m })) (set ds place (record { count = k; stamp = suc n })) (suc m) (suc n)
agree_set cs ds m n place k low a = record {
  long = length-set _ _ _ ∙ a.long ∙ sym (length-set _ _ _);
  counts = λ row. counts_at row (set_at cs place row c low) (set_at ds place row d low_d);
  order = λ row other. order_at row other (set_at cs place row c low) (set_at ds place row d low_d) (set_at cs place other c low) (set_at ds place other d low_d);
  first_top = λ row. top_at cs c m row (set_at cs place row c low) (a.first_top row) refl;
  second_top = λ row. top_at ds d n row (set_at ds place row d low_d) (a.second_top row) refl;
}
  where
    c : Counter
    c = record { count = k; stamp = suc m }

    d : Counter
    d = record { count = k; stamp = suc n }

    low_d : place < length ds
    low_d = let l = a.long in omega arith

    counts_at : (row : ℕ) → ((row ≡ place) × (at (set cs place c) row ≡ c)) ⊎ ((row ≢ place) × (at (set cs place c) row ≡ at cs row)) → ((row ≡ place) × (at (set ds place d) row ≡ d)) ⊎ ((row ≢ place) × (at (set ds place d) row ≡ at ds row)) → (at (set cs place c) row).count ≡ (at (set ds place d) row).count
    counts_at row (inl p) (inl q) = rw (p.1, q.1) refl
    counts_at row (inr p) (inr q) = rw (p.1, q.1) (a.counts row)
    counts_at row (inl p) (inr q) = absurd (q.0 p.0)
    counts_at row (inr p) (inl q) = absurd (p.0 q.0)

    order_at : (row other : ℕ) → ((row ≡ place) × (at (set cs place c) row ≡ c)) ⊎ ((row ≢ place) × (at (set cs place c) row ≡ at cs row)) → ((row ≡ place) × (at (set ds place d) row ≡ d)) ⊎ ((row ≢ place) × (at (set ds place d) row ≡ at ds row)) → ((other ≡ place) × (at (set cs place c) other ≡ c)) ⊎ ((other ≢ place) × (at (set cs place c) other ≡ at cs other)) → ((other ≡ place) × (at (set ds place d) other ≡ d)) ⊎ ((other ≢ place) × (at (set ds place d) other ≡ at ds other)) → nat_lt (at (set cs place c) row).stamp (at (set cs place c) other).stamp ≡ nat_lt (at (set ds place d) row).stamp (at (set ds place d) other).stamp
    order_at row other (inl p) (inl q) (inl r) (inl s) = rw (p.1, q.1, r.1, s.1) (not_itself (suc m) (suc n))
    order_at row other (inl p) (inl q) (inr r) (inr s) = rw (p.1, q.1, r.1, s.1) (newest_first _ m (a.first_top other) ∙ sym (newest_first _ n (a.second_top other)))
    order_at row other (inr p) (inr q) (inl r) (inl s) = rw (p.1, q.1, r.1, s.1) (newest_last _ m (a.first_top row) ∙ sym (newest_last _ n (a.second_top row)))
    order_at row other (inr p) (inr q) (inr r) (inr s) = rw (p.1, q.1, r.1, s.1) (a.order row other)
    order_at row other (inl p) (inr q) r s = absurd (q.0 p.0)
    order_at row other (inr p) (inl q) r s = absurd (p.0 q.0)
    order_at row other (inl p) (inl q) (inl r) (inr s) = absurd (s.0 r.0)
    order_at row other (inl p) (inl q) (inr r) (inl s) = absurd (r.0 s.0)
    order_at row other (inr p) (inr q) (inl r) (inr s) = absurd (s.0 r.0)
    order_at row other (inr p) (inr q) (inr r) (inl s) = absurd (r.0 s.0)

    top_at : (xs : List Counter) (x : Counter) (t row : ℕ) → ((row ≡ place) × (at (set xs place x) row ≡ x)) ⊎ ((row ≢ place) × (at (set xs place x) row ≡ at xs row)) → (at xs row).stamp ≤ t → x.stamp ≡ suc t → (at (set xs place x) row).stamp ≤ suc t
    top_at xs x t row (inl p) old new = rw p.1 (omega arith)
    top_at xs x t row (inr p) old new = rw p.1 (omega arith)

-- ---- The counters of a log and those of its changes

agree_none : (n : ℕ) → Agree (replicate n unused) (replicate n unused) 0 0
agree_none n = record {
  long = refl;
  counts = λ row. refl;
  order = λ row other. refl;
  first_top = λ row. none n row;
  second_top = λ row. none n row;
}
  where
    none : (n row : ℕ) → (at (replicate n unused) row).stamp ≤ 0
    none zero row = omega arith
    none (suc n) zero = omega arith
    none (suc n) (suc row) = none n row

agree_step : (h : Header) (m rows : ℕ) (e : Effect) (opened : Option ℕ) (cs : List Counter) (changes : List Change) → 0 < length cs → ((row : ℕ) → opened ≡ Some row → row < length cs) → ((k : ℕ) → k ≡ tracked cs → k < length cs) → Agree cs (own rows changes) m (length changes) → Agree (counters_after h (suc m) e opened cs) (own rows (with_change e opened (mitigated h e cs) changes)) (suc m) (length (with_change e opened (mitigated h e cs) changes))
agree_step h m rows (Opens r) opened cs changes some inside within a = agree_later _ _ _ _ _ (omega arith) a
agree_step h m rows Closes None cs changes some inside within a = agree_later _ _ _ _ _ (omega arith) a
agree_step h m rows Closes (Some r) cs changes some inside within a =
    let same : count_of (own rows changes) r ≡ count_of cs r = sym (a.counts r) in
    rw same (agree_set cs (own rows changes) m (length changes) r (count_of cs r + 1) (inside r refl) a)
agree_step h m rows Manages opened cs changes some inside within a = go (nat_le h.settings.eth (count_of cs (tracked cs)))
  where
    same : tracked (own rows changes) ≡ tracked cs
    same = sym (agree_tracked cs (own rows changes) m (length changes) a)

    go : (t : Bool) → Agree (after_mitigation (suc m) (cond t (Some (tracked cs)) None) cs) (own rows (with_change Manages opened (cond t (Some (tracked cs)) None) changes)) (suc m) (length (with_change Manages opened (cond t (Some (tracked cs)) None) changes))
    go false = agree_later _ _ _ _ _ (omega arith) a
    go true = rw same (agree_set cs (own rows changes) m (length changes) (tracked cs) 0 (within (tracked cs) refl) a)
agree_step h m rows Refreshes opened cs changes some inside within a = agree_later _ _ _ _ _ (omega arith) a
agree_step h m rows Leaves opened cs changes some inside within a = agree_later _ _ _ _ _ (omega arith) a

-- of a bank in a log that keeps the rules
pub agree_log : (h : Header) (b : ℕ) (log : Log) → b < 32 → 0 < h.settings.rows → Keeps h log → Agree (counters h b log) (own h.settings.rows (changes_of h b log)) (length log) (length (changes_of h b log))
agree_log h b [] low some keeps = agree_none h.settings.rows
agree_log h b (place ∷ log) low some keeps =
    let s = sound_log h b log low some keeps.0 in
    let long = s.long in
    let tracks = tracked_inside (counters h b log) (omega arith) in
    agree_step h (length log) h.settings.rows (effect b place.command) (open_at b log) (counters h b log) (changes_of h b log) (omega arith)
    (λ row e. let i = s.inside row e in omega arith)
    (λ k e. omega arith)
    (agree_log h b log low some keeps.0)
