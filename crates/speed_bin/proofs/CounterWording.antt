-- Counters, stamps, the tracked row, activations and their peak equal what their wording says of the places of a log: a
-- counter is the number of closings of the row after its last mitigation, and so on.
use Rattle.std.specs.List.{list_any}
use Rattle.std.proofs.Math.Bool.{or-false}
use Rattle.std.proofs.lemmas.Bool.Decides.{nat_tests}
use Rattle.command_words.specs.Command.{bank_number}
use Rattle.command_words.specs.declared.command.Command.{Command}
use Rattle.command_words.specs.declared.command.Command.TheVariants.{Act}
use Rattle.speed_bin.specs.Counts.{acts_opened, peak}
use Rattle.speed_bin.proofs.Tests.{or_false, true_or_false}
use Rattle.speed_bin.proofs.Effects.{opens_act}
use Rattle.std.proofs.lemmas.List.Sums.{take_while-cons}
use Rattle.std.proofs.Common.{filter, not, get_or, set, find, ◌||◌, ◌≤◌, max, le_refl, get_or-set_same, get_or-set_other, ◌≡◌, ◌≢◌, ◌∙◌, ℕ, zero, suc, ◌+◌, ◌<◌, ◌⊎◌, Bool, true, false, ◌==◌, if◌then◌else◌, refl, sym, ap, ap₂, arith, inl, inr, Option, Some, None, cond, List, [], ◌∷◌, length, replicate, eq-eqb, ne_eqb, length-set, add-one}
use Rattle.speed_bin.specs.declared.header.Header.{Header}
use Rattle.command_words.specs.Kinds.{Effect, Opens, Closes, Manages, Refreshes, Leaves, effect}
use Rattle.speed_bin.specs.Log.{Issued, Log, open_at}
use Rattle.speed_bin.specs.Counters.{is_ahead, tracked, Counter, counters, counters_after, mitigated, is_row, count_of, cnt, acts, acts_after, after_close, after_mitigation}
use Rattle.speed_bin.proofs.Wording.{Spot, spots, since, number}
use Rattle.speed_bin.proofs.Rows.{unused, unused_counts, count_of_set_same, count_of_set_other}
use Rattle.speed_bin.proofs.Splits.{same_or_not}

-- ---- How many of the places after the last one that passes a test pass another

count_step : (stops counts : Spot → Bool) (place : Issued) (log : Log) → length (filter counts (since stops (place ∷ log))) ≡ (if stops (record { place = place; before = log }) then 0 else (if counts (record { place = place; before = log }) then suc (length (filter counts (since stops log))) else length (filter counts (since stops log))))
count_step stops counts place log =
    let here : Spot = record { place = place; before = log } in
    rw (take_while-cons (λ (spot : Spot). not (stops spot)) here (spots log)) (go here (stops here) (since stops log))
  where
    go : (here : Spot) (stop : Bool) (rest : List Spot) → length (filter counts (cond (not stop) (here ∷ rest) [])) ≡ cond stop 0 (cond (counts here) (suc (length (filter counts rest))) (length (filter counts rest)))
    go here true rest = refl
    go here false rest = one (counts here)
      where
        one : (t : Bool) → length (cond t (here ∷ filter counts rest) (filter counts rest)) ≡ cond t (suc (length (filter counts rest))) (length (filter counts rest))
        one true = refl
        one false = refl

-- the place mitigates the row; closes the row; is an ACT of the row
abbrev pub mitigates_row : Header → ℕ → ℕ → Spot → Bool
mitigates_row h b row spot = is_row (mitigated h (effect b spot.place.command) (counters h b spot.before)) row

abbrev pub row_closed : Effect → Option ℕ → Option ℕ
row_closed Closes opened = opened
row_closed (Opens row) opened = None
row_closed Manages opened = None
row_closed Refreshes opened = None
row_closed Leaves opened = None

abbrev pub closes_row : ℕ → ℕ → Spot → Bool
closes_row b row spot = is_row (row_closed (effect b spot.place.command) (open_at b spot.before)) row

abbrev pub row_opened : Effect → Option ℕ
row_opened (Opens row) = Some row
row_opened Closes = None
row_opened Manages = None
row_opened Refreshes = None
row_opened Leaves = None

abbrev pub opens_row : ℕ → ℕ → Spot → Bool
opens_row b row spot = is_row (row_opened (effect b spot.place.command)) row

-- ---- Activations

acts_step : (h : Header) (row : ℕ) (e : Effect) (cs : List Counter) (n : ℕ) → acts_after h row e cs n ≡ (if is_row (mitigated h e cs) row then 0 else (if is_row (row_opened e) row then suc n else n))
acts_step h row (Opens r) cs n = refl
acts_step h row Closes cs n = refl
acts_step h row Manages cs n = refl
acts_step h row Refreshes cs n = refl
acts_step h row Leaves cs n = refl

pub acts_counts : (h : Header) (b row : ℕ) (log : Log) → acts h b row log ≡ length (filter (opens_row b row) (since (mitigates_row h b row) log))
acts_counts h b row [] = refl
acts_counts h b row (place ∷ log) =
    let ih = acts_counts h b row log in
    let now = count_step (mitigates_row h b row) (opens_row b row) place log in
    rw (acts_step h row (effect b place.command) (counters h b log) (acts h b row log), ih) (sym now)

-- ---- Counters

long : (h : Header) (b : ℕ) (log : Log) → length (counters h b log) ≡ h.settings.rows
long h b [] = all h.settings.rows
  where
    all : (n : ℕ) → length (replicate n unused) ≡ n
    all zero = refl
    all (suc n) = ap suc (all n)
long h b (place ∷ log) = step (effect b place.command) (open_at b log) (counters h b log) (long h b log)
  where
    mitigation : (o : Option ℕ) (cs : List Counter) → length (after_mitigation (suc (length log)) o cs) ≡ length cs
    mitigation None cs = refl
    mitigation (Some r) cs = length-set _ _ _

    closing : (o : Option ℕ) (cs : List Counter) → length (after_close (suc (length log)) o cs) ≡ length cs
    closing None cs = refl
    closing (Some r) cs = length-set _ _ _

    step : (e : Effect) (o : Option ℕ) (cs : List Counter) → length cs ≡ h.settings.rows → length (counters_after h (suc (length log)) e o cs) ≡ h.settings.rows
    step (Opens r) o cs k = k
    step Closes o cs k = closing o cs ∙ k
    step Manages o cs k = mitigation (mitigated h Manages cs) cs ∙ k
    step Refreshes o cs k = k
    step Leaves o cs k = k

closing_counts : (place row r : ℕ) (cs : List Counter) → row < length cs → count_of (after_close place (Some r) cs) row ≡ (if r == row then suc (count_of cs row) else count_of cs row)
closing_counts place row r cs low = go (same_or_not row r)
  where
    go : (row ≡ r) ⊎ (row ≢ r) → count_of (after_close place (Some r) cs) row ≡ cond (r == row) (suc (count_of cs row)) (count_of cs row)
    go (inl e) =
        let t : (r == row) ≡ true = eq-eqb r row (sym e) in
        let a = count_of_set_same cs row (record { count = count_of cs row + 1; stamp = place }) low in
        rw (t, ← e) (a ∙ add-one _)
    go (inr other) =
        let t : (r == row) ≡ false = ne_eqb r row (λ e. other (sym e)) in
        rw t (count_of_set_other cs r row _ other)

mitigation_counts : (place row r : ℕ) (cs : List Counter) → row < length cs → count_of (after_mitigation place (Some r) cs) row ≡ (if r == row then 0 else count_of cs row)
mitigation_counts place row r cs low = go (same_or_not row r)
  where
    go : (row ≡ r) ⊎ (row ≢ r) → count_of (after_mitigation place (Some r) cs) row ≡ cond (r == row) 0 (count_of cs row)
    go (inl e) =
        let t : (r == row) ≡ true = eq-eqb r row (sym e) in
        rw (t, ← e) (count_of_set_same cs row (record { count = 0; stamp = place }) low)
    go (inr other) =
        let t : (r == row) ≡ false = ne_eqb r row (λ e. other (sym e)) in
        rw t (count_of_set_other cs r row _ other)

cnt_step : (h : Header) (place row : ℕ) (e : Effect) (opened : Option ℕ) (cs : List Counter) → row < length cs → count_of (counters_after h place e opened cs) row ≡ (if is_row (mitigated h e cs) row then 0 else (if is_row (row_closed e opened) row then suc (count_of cs row) else count_of cs row))
cnt_step h place row (Opens r) opened cs low = refl
cnt_step h place row Closes None cs low = refl
cnt_step h place row Closes (Some r) cs low = closing_counts place row r cs low
cnt_step h place row Manages opened cs low = go (mitigated h Manages cs)
  where
    go : (o : Option ℕ) → count_of (after_mitigation place o cs) row ≡ cond (is_row o row) 0 (count_of cs row)
    go None = refl
    go (Some r) = mitigation_counts place row r cs low
cnt_step h place row Refreshes opened cs low = refl
cnt_step h place row Leaves opened cs low = refl

pub cnt_counts : (h : Header) (b row : ℕ) (log : Log) → row < h.settings.rows → cnt h b row log ≡ length (filter (closes_row b row) (since (mitigates_row h b row) log))
cnt_counts h b row [] low = unused_counts h.settings.rows row
cnt_counts h b row (place ∷ log) low =
    let ih = cnt_counts h b row log low in
    let l = long h b log in
    let now = count_step (mitigates_row h b row) (closes_row b row) place log in
    rw (cnt_step h (suc (length log)) row (effect b place.command) (open_at b log) (counters h b log) (omega arith), ih) (sym now)

-- ---- The stamp is the number of the last place that closes or mitigates the row, and 0 where there is none

abbrev pub stamp_of : List Counter → ℕ → ℕ
stamp_of cs row = (get_or cs row unused).stamp

abbrev pub changes_row : Header → ℕ → ℕ → Spot → Bool
changes_row h b row spot = mitigates_row h b row spot || closes_row b row spot

abbrev pub number_of : Option Spot → ℕ
number_of None = 0
number_of (Some spot) = number spot

set_stamp : (cs : List Counter) (row r : ℕ) (c : Counter) → row < length cs → stamp_of (set cs r c) row ≡ cond (r == row) c.stamp (stamp_of cs row)
set_stamp cs row r c low = go (same_or_not row r)
  where
    go : (row ≡ r) ⊎ (row ≢ r) → stamp_of (set cs r c) row ≡ cond (r == row) c.stamp (stamp_of cs row)
    go (inl e) =
        let t : (r == row) ≡ true = eq-eqb r row (sym e) in
        rw (t, ← e) (ap (λ (x : Counter). x.stamp) (get_or-set_same cs row c unused low))
    go (inr other) =
        let t : (r == row) ≡ false = ne_eqb r row (λ e. other (sym e)) in
        rw t (ap (λ (x : Counter). x.stamp) (get_or-set_other cs r row c unused other))

stamp_step : (h : Header) (place row : ℕ) (e : Effect) (opened : Option ℕ) (cs : List Counter) → row < length cs → stamp_of (counters_after h place e opened cs) row ≡ (if is_row (mitigated h e cs) row || is_row (row_closed e opened) row then place else stamp_of cs row)
stamp_step h place row (Opens r) opened cs low = refl
stamp_step h place row Closes None cs low = refl
stamp_step h place row Closes (Some r) cs low = set_stamp cs row r _ low
stamp_step h place row Manages opened cs low = go (mitigated h Manages cs)
  where
    go : (o : Option ℕ) → stamp_of (after_mitigation place o cs) row ≡ cond (is_row o row || false) place (stamp_of cs row)
    go None = refl
    go (Some r) = rw or-false (set_stamp cs row r _ low)
stamp_step h place row Refreshes opened cs low = refl
stamp_step h place row Leaves opened cs low = refl

pub stamp_of_last : (h : Header) (b row : ℕ) (log : Log) → row < h.settings.rows → stamp_of (counters h b log) row ≡ number_of (find (changes_row h b row) (spots log))
stamp_of_last h b row [] low = none h.settings.rows row
  where
    none : (n row : ℕ) → stamp_of (replicate n unused) row ≡ 0
    none zero row = refl
    none (suc n) zero = refl
    none (suc n) (suc row) = none n row
stamp_of_last h b row (place ∷ log) low =
    let ih = stamp_of_last h b row log low in
    let l = long h b log in
    let here : Spot = record { place = place; before = log } in
    stamp_step h (suc (length log)) row (effect b place.command) (open_at b log) (counters h b log) (omega arith) ∙ go here (changes_row h b row here) ih
  where
    go : (here : Spot) (t : Bool) → stamp_of (counters h b log) row ≡ number_of (find (changes_row h b row) (spots log)) → cond t (number here) (stamp_of (counters h b log) row) ≡ number_of (cond t (Some here) (find (changes_row h b row) (spots log)))
    go here true ih = refl
    go here false ih = ih

-- ---- The tracked row: none is ahead of it, and it is ahead of each row before it

abbrev counter_at : List Counter → ℕ → Counter
counter_at cs row = get_or cs row unused

not_ahead_of_itself : (c : Counter) → is_ahead c c ≡ false
not_ahead_of_itself c = grind (arith, nat_tests)

-- where d is ahead of c, and d is not ahead of t, t is ahead of c too
ahead_too : (c d t : Counter) → is_ahead d c ≡ true → is_ahead d t ≡ false → is_ahead t c ≡ true
ahead_too c d t h k = grind (arith, nat_tests)

one_way : (c t : Counter) → is_ahead t c ≡ true → is_ahead c t ≡ false
one_way c t h = grind (arith, nat_tests)

none_of : (c : Counter) (cs : List Counter) → list_any (λ d. is_ahead d c) cs ≡ false → (row : ℕ) → row < length cs → is_ahead (counter_at cs row) c ≡ false
none_of c [] h row low = absurd (omega arith)
none_of c (d ∷ cs) h zero low = (or_false _ _ h).0
none_of c (d ∷ cs) h (suc row) low = none_of c cs (or_false _ _ h).1 row (omega arith)

some_of : (c : Counter) (cs : List Counter) → list_any (λ d. is_ahead d c) cs ≡ true → (row : ℕ) × (row < length cs) × (is_ahead (counter_at cs row) c ≡ true)
some_of c [] h = absurd (cc)
some_of c (d ∷ cs) h = go (true_or_false (is_ahead d c)) (some_of c cs)
  where
    go : (is_ahead d c ≡ true) ⊎ (is_ahead d c ≡ false) → (list_any (λ e. is_ahead e c) cs ≡ true → (row : ℕ) × (row < length cs) × (is_ahead (counter_at cs row) c ≡ true)) → (row : ℕ) × (row < length (d ∷ cs)) × (is_ahead (counter_at (d ∷ cs) row) c ≡ true)
    go (inl e) ih = (0, omega arith, e)
    go (inr e) ih = let p = ih (rw e at h) in (suc p.0, (let low = p.1 in omega arith), p.2)

pub record IsTracked (cs : List Counter) (t : ℕ) : Type 0 where
  pub none_ahead : (row : ℕ) → row < length cs → is_ahead (counter_at cs row) (counter_at cs t) ≡ false
  pub least : (row : ℕ) → row < t → is_ahead (counter_at cs t) (counter_at cs row) ≡ true

pub tracked_is : (cs : List Counter) → IsTracked cs (tracked cs)
tracked_is [] = record {
  none_ahead = λ row low. absurd (omega arith);
  least = λ row low. absurd (omega arith);
}
tracked_is (c ∷ cs) = at_cons c cs (tracked_is cs) (true_or_false (list_any (λ d. is_ahead d c) cs))
  where
    later : (c : Counter) (cs : List Counter) (t : ℕ) → IsTracked cs t → list_any (λ d. is_ahead d c) cs ≡ true → IsTracked (c ∷ cs) (suc t)
    later c cs t ih e = record {
      none_ahead = λ row low. none row low;
      least = λ row low. least row low;
    }
      where
        ahead : is_ahead (counter_at cs t) c ≡ true
        ahead = let p = some_of c cs e in ahead_too c (counter_at cs p.0) (counter_at cs t) p.2 (ih.none_ahead p.0 p.1)

        none : (row : ℕ) → row < length (c ∷ cs) → is_ahead (counter_at (c ∷ cs) row) (counter_at cs t) ≡ false
        none zero low = one_way c (counter_at cs t) ahead
        none (suc row) low = ih.none_ahead row (omega arith)

        least : (row : ℕ) → row < suc t → is_ahead (counter_at cs t) (counter_at (c ∷ cs) row) ≡ true
        least zero low = ahead
        least (suc row) low = ih.least row (omega arith)

    first : (c : Counter) (cs : List Counter) → list_any (λ d. is_ahead d c) cs ≡ false → IsTracked (c ∷ cs) 0
    first c cs e = record {
      none_ahead = λ row low. none row low;
      least = λ row low. absurd (omega arith);
    }
      where
        none : (row : ℕ) → row < length (c ∷ cs) → is_ahead (counter_at (c ∷ cs) row) c ≡ false
        none zero low = not_ahead_of_itself c
        none (suc row) low = none_of c cs e row (omega arith)

    at_cons : (c : Counter) (cs : List Counter) → IsTracked cs (tracked cs) → (list_any (λ d. is_ahead d c) cs ≡ true) ⊎ (list_any (λ d. is_ahead d c) cs ≡ false) → IsTracked (c ∷ cs) (tracked (c ∷ cs))
    at_cons c cs ih (inl e) = rw e (later c cs (tracked cs) ih e)
    at_cons c cs ih (inr e) = rw e (first c cs e)

-- ---- The peak is the greatest number of activations of any bank, row and place

-- the log without its last n places
abbrev pub without : ℕ → Log → Log
without zero log = log
without (suc n) [] = []
without (suc n) (place ∷ log) = without n log

no_rise : (h : Header) (row : ℕ) (e : Effect) (cs : List Counter) (n : ℕ) → ((r : ℕ) → e ≡ Opens r → ⊥) → acts_after h row e cs n ≤ n
no_rise h row (Opens r) cs n h0 = absurd (h0 r refl)
no_rise h row Manages cs n h0 = go (is_row (mitigated h Manages cs) row)
  where
    go : (t : Bool) → cond t 0 n ≤ n
    go true = omega arith
    go false = omega arith
no_rise h row Closes cs n h0 = omega arith
no_rise h row Refreshes cs n h0 = omega arith
no_rise h row Leaves cs n h0 = omega arith

-- one more place raises the activations of the row that it opens alone
acts_rise : (h : Header) (b row clock : ℕ) (c : Command) (log : Log) → (acts h b row (record { clock = clock; command = c } ∷ log) ≤ acts h b row log) ⊎ (acts h b row (record { clock = clock; command = c } ∷ log) ≤ acts_opened h c (record { clock = clock; command = c } ∷ log))
acts_rise h b row clock (Act bank r) log = go (same_or_not (bank_number bank) b) (same_or_not r row)
  where
    after : Log
    after = record { clock = clock; command = Act bank r } ∷ log

    go : (bank_number bank ≡ b) ⊎ (bank_number bank ≢ b) → (r ≡ row) ⊎ (r ≢ row) → (acts h b row after ≤ acts h b row log) ⊎ (acts h b row after ≤ acts h (bank_number bank) r after)
    go (inl e) (inl f) = let same : acts h (bank_number bank) r after ≡ acts h b row after = ap₂ (λ (i k : ℕ). acts h i k after) e f in inr (omega arith)
    go (inl e) (inr f) =
        let t : (bank_number bank == b) ≡ true = eq-eqb _ _ e in
        let u : (r == row) ≡ false = ne_eqb _ _ f in
        inl (rw (t, u) (le_refl _))
    go (inr e) f = let t : (bank_number bank == b) ≡ false = ne_eqb _ _ e in inl (rw t (le_refl _))
acts_rise h b row clock c log = inl (no_rise h row (effect b c) (counters h b log) (acts h b row log) (λ r e. let p = (opens_act b r c e).0 in absurd (cc)))

peak_above_last : (h : Header) (b row : ℕ) (log : Log) → acts h b row log ≤ peak h log
peak_above_last h b row [] = omega arith
peak_above_last h b row (place ∷ log) = go (acts_rise h b row place.clock place.command log) (peak_above_last h b row log)
  where
    go : (acts h b row (place ∷ log) ≤ acts h b row log) ⊎ (acts h b row (place ∷ log) ≤ acts_opened h place.command (place ∷ log)) → acts h b row log ≤ peak h log → acts h b row (place ∷ log) ≤ max (acts_opened h place.command (place ∷ log)) (peak h log)
    go (inl same) ih = omega arith
    go (inr here) ih = omega arith

pub peak_above : (h : Header) (b row n : ℕ) (log : Log) → acts h b row (without n log) ≤ peak h log
peak_above h b row zero log = peak_above_last h b row log
peak_above h b row (suc n) [] = omega arith
peak_above h b row (suc n) (place ∷ log) = let ih = peak_above h b row n log in omega arith

-- some row had that many, at some place
abbrev pub Reached : Header → Log → ℕ → Type 0
Reached h log m = (n : ℕ) × (b : ℕ) × (row : ℕ) × (acts h b row (without n log) ≡ m)

pub peak_reached : (h : Header) (log : Log) → Reached h log (peak h log)
peak_reached h [] = (0, 0, 0, refl)
peak_reached h (place ∷ log) = by_command place.clock place.command (peak_reached h log)
  where
    smaller_or_not : (a b : ℕ) → (a ≤ b) ⊎ (b < a)
    smaller_or_not a b = grind arith

    earlier : (first : Issued) (m a : ℕ) → m ≡ a → Reached h log a → Reached h (first ∷ log) m
    earlier first m a e p = (suc p.0, p.1, p.2, p.3 ∙ sym e)

    by_command : (clock : ℕ) (c : Command) → Reached h log (peak h log) → Reached h (record { clock = clock; command = c } ∷ log) (max (acts_opened h c (record { clock = clock; command = c } ∷ log)) (peak h log))
    by_command clock (Act bank r) ih = go (smaller_or_not here (peak h log))
      where
        first : Issued
        first = record { clock = clock; command = Act bank r }

        here : ℕ
        here = acts h (bank_number bank) r (first ∷ log)

        go : (here ≤ peak h log) ⊎ (peak h log < here) → Reached h (first ∷ log) (max here (peak h log))
        go (inl low) = earlier first _ _ (omega arith) ih
        go (inr high) = (0, bank_number bank, r, omega arith)
    by_command clock c ih = earlier _ _ _ (omega arith) ih
