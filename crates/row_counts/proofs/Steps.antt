-- Counters that stand for a bank in a log stand for it one place later.
use Rattle.std.proofs.Common.{◌-◌, ◌≡◌, ◌∙◌, ℕ, suc, ◌+◌, ◌^◌, ◌<◌, ◌≤◌, Bool, true, false, cond, nat_le, nat_lt, ltb-true, refl, ap, arith, Option, Some, None, is_some, List, [], ◌∷◌, length, set, get_or, get_or-set_same, length-set}
use Rattle.std.proofs.lemmas.List.{length-replicate}
use Rattle.std.proofs.Math.Logic.{∥∥₁_elim, ∥∥₁_prop}
use native.Mathlib.Bridge.{le_prop}
use Rattle.command_words.specs.declared.command.Command.{Command}
use Rattle.row_order.specs.Entries.{Entry, rising, count_in, changed, IsFirstGreatest}
use Rattle.row_order.specs.Standing.{Held as Order, StandsFor as OrderStandsFor}
use Rattle.row_order.proofs.EntryLemmas.{once_inside}
use Rattle.speed_bin.specs.declared.header.Header.{Header}
use Rattle.speed_bin.specs.declared.settings.Settings.{Settings}
use Rattle.command_words.specs.Kinds.{Effect, Opens, Closes, Manages, Refreshes, Leaves, effect}
use Rattle.speed_bin.specs.Log.{Log, open_at}
use Rattle.speed_bin.specs.Counters.{Counter, counters, counters_after, tracked, count_of, mitigated, cnt, after_mitigation, after_close}
use Rattle.speed_bin.specs.Header.{bound, spare}
use Rattle.speed_bin.specs.Height.{height_of}
use Rattle.speed_bin.specs.Version.{Figures, IsVersion}
use Rattle.std.proofs.lemmas.Bool.Decides.{nat_tests}
use Rattle.row_counts.specs.Held.{Held, MayClose, MayMitigate, HasRow, IsOneMore}
use Rattle.row_counts.specs.Standing.{StandsFor, among, row_changed, changed_at, changes_in, stamp_of}
use Rattle.row_counts.proofs.CounterOrder.{unused}
use Rattle.row_counts.proofs.ListLemmas.{count_is, list_later, list_changed, list_fresh, IsTracked, list_tracked}

-- a bank's counters are as many as its rows
long_mitigation : (place : ℕ) (row : Option ℕ) (cs : List Counter) → length (after_mitigation place row cs) ≡ length cs
long_mitigation place None cs = refl
long_mitigation place (Some row) cs = length-set cs row (record { count = 0; stamp = place })

long_close : (place : ℕ) (row : Option ℕ) (cs : List Counter) → length (after_close place row cs) ≡ length cs
long_close place None cs = refl
long_close place (Some row) cs = length-set cs row (record { count = count_of cs row + 1; stamp = place })

long_after : (h : Header) (place : ℕ) (e : Effect) (opened : Option ℕ) (cs : List Counter) → length (counters_after h place e opened cs) ≡ length cs
long_after h place (Opens row) opened cs = refl
long_after h place Closes opened cs = long_close place opened cs
long_after h place Manages opened cs = long_mitigation place (mitigated h Manages cs) cs
long_after h place Refreshes opened cs = refl
long_after h place Leaves opened cs = refl

pub long : (h : Header) (b : ℕ) (log : Log) → length (counters h b log) ≡ h.settings.rows
long h b [] = length-replicate _ _
long h b (place ∷ log) = long_after h (suc (length log)) (effect b place.command) (open_at b log) (counters h b log) ∙ long h b log

-- the levels that counters are made with are one more than the bound
pub levels_of : (s : Settings) (v : Figures) (h : Header) (levels : ℕ) → IsVersion v → levels ≡ s.ath + height_of (v.cycle - 1) s.rows + v.cycle → h.settings ≡ s → h.version ≡ v → levels ≡ bound h + 1
unfolding spare
levels_of s v h levels ok is settings version = rw (settings, version) (let low = ok.0 in omega (arith, low, is))

pub stands_fresh : (s : Settings) (it : Held) (h : Header) (b : ℕ) → it.ath ≡ s.ath → it.eth ≡ s.eth → it.order.rows ≡ s.rows → it.order.levels ≡ bound h + 1 → it.changes ≡ 0 → OrderStandsFor it.order (rising s.rows) → h.settings ≡ s → StandsFor it h b []
unfolding StandsFor
stands_fresh s it h b ath eth rows levels none stands same = record {
  ath = rw same ath;
  eth = rw same eth;
  rows = rw same rows;
  levels = levels;
  list = rising s.rows;
  stands = stands;
  counters = rw same (list_fresh s.rows);
  changes = none;
  met = tt;
}

-- ---- Which places change a counter

in_range : (row rows : ℕ) → row < rows → nat_lt row rows ≡ true
in_range row rows low = grind (arith, nat_tests)

among_its : (row rows : ℕ) → row < rows → among rows (Some row) ≡ Some row
among_its row rows low = rw (in_range row rows low) refl

-- a place that leaves the counters changes none: a change has the number of its place as the row's stamp
unmoved : (cs : List Counter) (m row count : ℕ) → ((r : ℕ) → stamp_of cs r ≤ m) → set cs row (record { count = count; stamp = suc m }) ≡ cs → among (length cs) (Some row) ≡ None
unmoved cs m row count low same = go (nat_lt row (length cs)) refl
  where
    go : (t : Bool) → nat_lt row (length cs) ≡ t → cond t (Some row) None ≡ None
    go false e = refl
    go true e =
        let inside : row < length cs = ltb-true _ _ e in
        let here : get_or (set cs row (record { count = count; stamp = suc m })) row unused ≡ record { count = count; stamp = suc m } = get_or-set_same cs row (record { count = count; stamp = suc m }) unused inside in
        let new : stamp_of (set cs row (record { count = count; stamp = suc m })) row ≡ suc m = ap (λ (c : Counter). c.stamp) here in
        let old : stamp_of (set cs row (record { count = count; stamp = suc m })) row ≡ stamp_of cs row = ap (λ (ds : List Counter). stamp_of ds row) same in
        let l = low row in
        absurd (omega (arith, new, old, l))

no_change : (h : Header) (m : ℕ) (e : Effect) (opened : Option ℕ) (cs : List Counter) → ((r : ℕ) → stamp_of cs r ≤ m) → counters_after h (suc m) e opened cs ≡ cs → row_changed h e opened cs ≡ None
no_change h m (Opens row) opened cs low same = refl
no_change h m Refreshes opened cs low same = refl
no_change h m Leaves opened cs low same = refl
no_change h m Closes None cs low same = refl
no_change h m Closes (Some row) cs low same = unmoved cs m row (count_of cs row + 1) low same
no_change h m Manages opened cs low same = go (mitigated h Manages cs) same
  where
    go : (row : Option ℕ) → after_mitigation (suc m) row cs ≡ cs → among (length cs) row ≡ None
    go None e = refl
    go (Some row) e = unmoved cs m row 0 low e

few_changes : (h : Header) (b : ℕ) (log : Log) → changes_in h b log ≤ length log
few_changes h b [] = omega arith
few_changes h b (place ∷ log) = go (is_some (changed_at h b place.command log)) (few_changes h b log)
  where
    go : (t : Bool) → changes_in h b log ≤ length log → cond t 1 0 + changes_in h b log ≤ suc (length log)
    go true low = omega arith
    go false low = omega arith

-- ---- What is read of them

pub same_count : (it : Held) (h : Header) (b row count : ℕ) (log : Log) → row < it.order.rows → ((es : List Entry) → OrderStandsFor it.order es → count ≡ count_in es row) → StandsFor it h b log → count ≡ cnt h b row log
unfolding StandsFor
same_count it h b row count log low is s =
    let rows = s.rows in
    let l = long h b log in
    let some : row < length (counters h b log) = omega arith in
    is s.list s.stands ∙ count_is (counters h b log) row s.list s.counters.counts (let o = once_inside (length (counters h b log)) row s.list s.counters.once some in omega arith)

pub same_tracked : (it : Held) (h : Header) (b row count : ℕ) (log : Log) → ((es : List Entry) → OrderStandsFor it.order es → IsFirstGreatest es (record { row = row; count = count })) → StandsFor it h b log → IsTracked (counters h b log) row count
unfolding StandsFor
same_tracked it h b row count log greatest s = list_tracked (counters h b log) (length log) row count s.list s.counters (greatest s.list s.stands)

pub same_hot : (it : Held) (h : Header) (b count : ℕ) (log : Log) → count ≡ count_of (counters h b log) (tracked (counters h b log)) → StandsFor it h b log → nat_le it.ath count ≡ nat_le h.settings.ath (count_of (counters h b log) (tracked (counters h b log)))
unfolding StandsFor
same_hot it h b count log is s = let e = s.ath in rw (e, is) refl

test_low : (eth count : ℕ) → count < eth → nat_le eth count ≡ false
test_low eth count h = grind (arith, nat_tests)

test_high : (eth count : ℕ) → eth ≤ count → nat_le eth count ≡ true
test_high eth count h = grind (arith, nat_tests)

pub none_mitigated : (it : Held) (h : Header) (b count : ℕ) (log : Log) → count ≡ count_of (counters h b log) (tracked (counters h b log)) → count < it.eth → StandsFor it h b log → None ≡ mitigated h Manages (counters h b log)
unfolding StandsFor
none_mitigated it h b count log is low s =
    let e = s.eth in
    let t = test_low h.settings.eth (count_of (counters h b log) (tracked (counters h b log))) (omega (arith, is)) in
    rw t refl

pub some_mitigated : (it : Held) (h : Header) (b row count : ℕ) (log : Log) → row ≡ tracked (counters h b log) → count ≡ count_of (counters h b log) (tracked (counters h b log)) → it.eth ≤ count → StandsFor it h b log → Some row ≡ mitigated h Manages (counters h b log)
unfolding StandsFor
some_mitigated it h b row count log row_is is high s =
    let e = s.eth in
    let t = test_high h.settings.eth (count_of (counters h b log) (tracked (counters h b log))) (omega (arith, is)) in
    rw (t, row_is) refl

-- ---- What a log says of the conditions

pub may_mitigate : (it : Held) (h : Header) (b : ℕ) (log : Log) → StandsFor it h b log → length log < 2 ^ 48 → it.changes < 2 ^ 48
unfolding StandsFor
may_mitigate it h b log s short = let exact = s.changes in let few = few_changes h b log in omega (arith, exact, few, short)

pub may_close : (it : Held) (h : Header) (b row : ℕ) (log : Log) → StandsFor it h b log → row < h.settings.rows → cnt h b row log < bound h → length log < 2 ^ 48 → MayClose it row
unfolding StandsFor
may_close it h b row log s low below short = record {
  inside = rw s.rows low;
  below = ∣ (s.list, s.stands, let levels = s.levels in omega (arith, levels, count, below)) ∣₁;
  changes = may_mitigate it h b log s short;
}
  where
    some : row < length (counters h b log)
    some = let l = long h b log in omega arith

    count : count_in s.list row ≡ cnt h b row log
    count = count_is (counters h b log) row s.list s.counters.counts (let o = once_inside (length (counters h b log)) row s.list s.counters.once some in omega arith)

pub has_rows : (it : Held) (h : Header) (b : ℕ) (log : Log) → StandsFor it h b log → it.order.rows ≡ h.settings.rows
unfolding StandsFor
has_rows it h b log s = s.rows

pub has_row : (it : Held) (h : Header) (b row : ℕ) (log : Log) → StandsFor it h b log → row < h.settings.rows → HasRow it row
unfolding StandsFor
has_row it h b row log s low = rw s.rows low

pub close_by_some : (it : Held) (row : ℕ) → ∥ MayClose it row ∥₁ → MayClose it row
close_by_some it row may = record {
  inside = ∥∥₁_elim may le_prop (λ m. m.inside);
  below = ∥∥₁_elim may ∥∥₁_prop (λ m. m.below);
  changes = ∥∥₁_elim may le_prop (λ m. m.changes);
}

pub mitigate_by_some : (it : Held) → ∥ MayMitigate it ∥₁ → MayMitigate it
mitigate_by_some it may = ∥∥₁_elim may le_prop (λ m. m)

pub row_by_some : (it : Held) (row : ℕ) → ∥ HasRow it row ∥₁ → HasRow it row
row_by_some it row has = ∥∥₁_elim has le_prop (λ m. m)

-- ---- One place later

-- the law that a row has the same count in each list that an order stands for
abbrev pub SameCounts : Type 0
SameCounts = (it : Order) (row : ℕ) (list other : List Entry) → row < it.rows → OrderStandsFor it list → OrderStandsFor it other → count_in list row ≡ count_in other row

pub stands_close : (law : SameCounts) (it new : Held) (h : Header) (b row clock : ℕ) (command : Command) (log : Log) → IsOneMore it new → MayClose it row
    → ((es : List Entry) → OrderStandsFor it.order es → OrderStandsFor new.order (changed row (count_in es row + 1) es))
    → StandsFor it h b log → effect b command ≡ Closes → open_at b log ≡ Some row → StandsFor new h b (record { clock = clock; command = command } ∷ log)
unfolding StandsFor
stands_close law it new h b row clock command log more may raised s e opened = record {
  ath = more.ath ∙ s.ath;
  eth = more.eth ∙ s.eth;
  rows = more.rows ∙ s.rows;
  levels = more.levels ∙ s.levels;
  list = changed row (count_in s.list row + 1) s.list;
  stands = raised s.list s.stands;
  counters = rw (e, opened, ← count) (list_changed (counters h b log) (length log) row (count_in s.list row + 1) s.list some s.counters);
  changes = rw (e, opened, in_range row (length (counters h b log)) some) (let exact = s.changes in let m = more.changes in omega (arith, exact, m));
  met = rw (e, opened, in_range row (length (counters h b log)) some) (s.met, ((let exact = s.changes in let few = may.changes in omega (arith, exact, few)), (λ closes. below)));
}
  where
    some : row < length (counters h b log)
    some = let rows = s.rows in let low = may.inside in let l = long h b log in omega arith

    count : count_in s.list row ≡ count_of (counters h b log) row
    count = count_is (counters h b log) row s.list s.counters.counts (let o = once_inside (length (counters h b log)) row s.list s.counters.once some in omega arith)

    below : count_of (counters h b log) row < bound h
    below = ∥∥₁_elim may.below le_prop (λ p.
        let same = law it.order row p.0 s.list may.inside p.1 s.stands in
        let level = p.2 in
        let levels = s.levels in
        let is = count in
        omega (arith, same, level, levels, is))

pub stands_mitigate : (it new : Held) (h : Header) (b row clock : ℕ) (command : Command) (log : Log) → IsOneMore it new → row < it.order.rows → MayMitigate it
    → ((es : List Entry) → OrderStandsFor it.order es → OrderStandsFor new.order (changed row 0 es))
    → Some row ≡ mitigated h Manages (counters h b log) → StandsFor it h b log → effect b command ≡ Manages → StandsFor new h b (record { clock = clock; command = command } ∷ log)
unfolding StandsFor
stands_mitigate it new h b row clock command log more low few cleared took s e = record {
  ath = more.ath ∙ s.ath;
  eth = more.eth ∙ s.eth;
  rows = more.rows ∙ s.rows;
  levels = more.levels ∙ s.levels;
  list = changed row 0 s.list;
  stands = cleared s.list s.stands;
  counters = rw (e, ← took) (list_changed (counters h b log) (length log) row 0 s.list some s.counters);
  changes = rw (e, ← took, in_range row (length (counters h b log)) some) (let exact = s.changes in let m = more.changes in omega (arith, exact, m));
  met = rw (e, ← took, in_range row (length (counters h b log)) some) (s.met, ((let exact = s.changes in omega (arith, exact, few)), (λ closes. absurd (cc))));
}
  where
    some : row < length (counters h b log)
    some = let rows = s.rows in let l = long h b log in omega arith

-- a place that neither closes a row of the bank nor manages it
pub stands_same : (it : Held) (h : Header) (b clock : ℕ) (command : Command) (log : Log) → StandsFor it h b log → counters h b (record { clock = clock; command = command } ∷ log) ≡ counters h b log → StandsFor it h b (record { clock = clock; command = command } ∷ log)
unfolding StandsFor
stands_same it h b clock command log s same = record {
  ath = s.ath;
  eth = s.eth;
  rows = s.rows;
  levels = s.levels;
  list = s.list;
  stands = s.stands;
  counters = rw same (list_later (counters h b log) (length log) (suc (length log)) s.list (omega arith) s.counters);
  changes = rw still (let exact = s.changes in omega (arith, exact));
  met = rw still (s.met, tt);
}
  where
    still : changed_at h b command log ≡ None
    still = no_change h (length log) (effect b command) (open_at b log) (counters h b log) s.counters.stamps same

-- a mitigation of a bank whose tracked row has a count below ETH
pub stands_spared : (it : Held) (h : Header) (b clock : ℕ) (command : Command) (log : Log) → None ≡ mitigated h Manages (counters h b log) → StandsFor it h b log → effect b command ≡ Manages → StandsFor it h b (record { clock = clock; command = command } ∷ log)
stands_spared it h b clock command log none s e = stands_same it h b clock command log s (rw (e, ← none) refl)
