-- What a command that can be counted asks of the counters, and what it makes of the peak.
use Rattle.std.proofs.Common.{◌≡◌, ◌∙◌, ℕ, zero, suc, ◌+◌, ◌*◌, ◌^◌, ◌<◌, ◌≤◌, Bool, true, false, cond, ◌==◌, nat_le, refl, sym, ap, subst, arith, Option, Some, None, is_some, List, ◌∷◌, length, max, eq-eqb, ltb-true}
use native.Mathlib.Bridge.{le_prop}
use Rattle.std.proofs.Math.Logic.{∥∥₁_elim, ∥∥₁_map}
use Rattle.command_words.specs.Command.{bank_number, IsBank}
use Rattle.command_words.specs.declared.command.Command.{Command}
use Rattle.command_words.specs.declared.command.Command.TheVariants.{Act}
use Rattle.command_words.specs.declared.place.Bank.{Bank}
use Rattle.speed_bin.specs.declared.header.Header.{Header}
use Rattle.speed_bin.specs.Alert.{closes}
use Rattle.speed_bin.specs.Counters.{acts, cnt}
use Rattle.speed_bin.specs.Counts.{acts_opened, peak}
use Rattle.speed_bin.specs.Header.{IsAccepted, bound, spare}
use Rattle.speed_bin.specs.Height.{height_of, greatest_upto}
use Rattle.command_words.specs.Kinds.{Effect, Opens, Closes, Manages, Refreshes, Leaves, is_act}
use Rattle.speed_bin.specs.Log.{Log, open_at}
use Rattle.speed_bin.specs.Marks.{Keeps as KeepsRules}
use Rattle.speed_bin.proofs.Checks.{spare_in_range}
use Rattle.speed_bin.proofs.Tests.{none_from_test, both}
use Rattle.bank_state.specs.Standing.{StandsFor as BanksFor}
use Rattle.row_counts.specs.Held.{Held, HasRow, MayClose, MayMitigate}
use Rattle.row_counts.specs.Standing.{StandsFor as CountsFor}
use Rattle.row_activity.specs.Counted.{MayCount, AllCounted}
use Rattle.row_activity.specs.Standing.{Keeps, StandsFor, HoldsRow, MayIssue, MayTouch, bank_at, touch_of}
use Rattle.row_activity.specs.declared.activity.Activity.{Activity}
use Rattle.row_activity.specs.declared.bank_rows.Touch.{Touch}
use Rattle.row_activity.specs.declared.bank_rows.Touch.TheVariants.{Counts, Mitigates, Spares}
use Rattle.row_activity.proofs.Counting.{keeps_log, short_log, sound, open_inside}

abbrev pub Bounded : Type 0
Bounded = (h : Header) (b row : ℕ) (log : Log) → IsAccepted h → b < 32 → row < h.settings.rows → KeepsRules h log → acts h b row log ≤ bound h

abbrev pub MayCloseLaw : Type 0
MayCloseLaw = (it : Held) (h : Header) (b row : ℕ) (log : Log) → CountsFor it h b log → row < h.settings.rows → cnt h b row log < bound h → length log < 2 ^ 48 → MayClose it row

abbrev pub MayMitigateLaw : Type 0
MayMitigateLaw = (it : Held) (h : Header) (b : ℕ) (log : Log) → CountsFor it h b log → length log < 2 ^ 48 → MayMitigate it

-- ---- Closings

-- the counter of an open row is below the bound, since its last activation is not counted yet
below_bound : (bounded : Bounded) (h : Header) (b row : ℕ) (log : Log) → IsAccepted h → AllCounted h log → b < 32 → open_at b log ≡ Some row → cnt h b row log < bound h
below_bound bounded h b row log accepted here low is =
    let s = sound h b log accepted here low in
    let most : acts h b row log ≤ bound h = bounded h b row log accepted low (s.inside row is) (keeps_log h log here) in
    let t : (row == row) ≡ true = eq-eqb row row refl in
    let a = s.agree row in
    let e : acts h b row log ≡ cnt h b row log + 1 = rw (is, t) at a in
    omega arith

closable : (bounded : Bounded) (law : MayCloseLaw) (it : Activity) (h : Header) (clock : ℕ) (command : Command) (b row : ℕ) (log : Log) → b < 32 → StandsFor it h log → MayCount h clock command log → Some row ≡ open_at b log → MayClose (bank_at it.banks.items b).counts row
unfolding StandsFor
closable bounded law it h clock command b row log low s here is =
    law (bank_at it.banks.items b).counts h b row log (s.counts b low).counts (open_inside h b row log s.accepted s.counted low (sym is))
    (below_bound bounded h b row log s.accepted s.counted low (sym is)) (short_log h clock command log s.counted here)

mitigable : (law : MayMitigateLaw) (it : Activity) (h : Header) (clock : ℕ) (command : Command) (b : ℕ) (log : Log) → b < 32 → StandsFor it h log → MayCount h clock command log → MayMitigate (bank_at it.banks.items b).counts
unfolding StandsFor
mitigable law it h clock command b log low s here = law (bank_at it.banks.items b).counts h b log (s.counts b low).counts (short_log h clock command log s.counted here)

-- what holds of counters by some log
pub record BySomeLog : Type 0 where
  pub close : (it : Held) (row : ℕ) → ∥ MayClose it row ∥₁ → MayClose it row
  pub mitigate : (it : Held) → ∥ MayMitigate it ∥₁ → MayMitigate it

-- each bank may count what the command does to it
pub may_touch : (bounded : Bounded) (closing : MayCloseLaw) (mitigating : MayMitigateLaw) (by : BySomeLog) (it : Activity) (rows : List (Option ℕ)) (clock : ℕ) (command : Command) (b : ℕ) (touch : Touch) (open_row : Option ℕ) → b < 32 → MayIssue it rows clock command → ((log : Log) → BanksFor rows log → open_row ≡ open_at b log) → MayTouch touch open_row (bank_at it.banks.items b).counts
may_touch bounded closing mitigating by it rows clock command b Counts (Some row) low may is = by.close (bank_at it.banks.items b).counts row (∥∥₁_map may (λ p. closable bounded closing it p.0 clock command b row p.1 low p.2 p.4 (is p.1 p.3)))
may_touch bounded closing mitigating by it rows clock command b Counts None low may is = tt
may_touch bounded closing mitigating by it rows clock command b Mitigates open_row low may is = by.mitigate (bank_at it.banks.items b).counts (∥∥₁_map may (λ p. mitigable mitigating it p.0 clock command b p.1 low p.2 p.4))
may_touch bounded closing mitigating by it rows clock command b Spares open_row low may is = tt

-- ---- What a precharge closes

pub counts_closes_some : (e : Effect) (opened : Option ℕ) → Counts ≡ touch_of e → is_some opened ≡ closes e opened
counts_closes_some Closes opened k = refl
counts_closes_some (Opens row) opened k = absurd (cc)
counts_closes_some Manages opened k = absurd (cc)
counts_closes_some Refreshes opened k = absurd (cc)
counts_closes_some Leaves opened k = absurd (cc)

pub mitigates_closes_none : (e : Effect) (opened : Option ℕ) → Mitigates ≡ touch_of e → false ≡ closes e opened
mitigates_closes_none Manages opened k = refl
mitigates_closes_none Closes opened k = absurd (cc)
mitigates_closes_none (Opens row) opened k = absurd (cc)
mitigates_closes_none Refreshes opened k = absurd (cc)
mitigates_closes_none Leaves opened k = absurd (cc)

pub spares_closes_none : (e : Effect) (opened : Option ℕ) → Spares ≡ touch_of e → false ≡ closes e opened
spares_closes_none (Opens row) opened k = refl
spares_closes_none Refreshes opened k = refl
spares_closes_none Leaves opened k = refl
spares_closes_none Closes opened k = absurd (cc)
spares_closes_none Manages opened k = absurd (cc)

-- ---- The peak

upto : (test : ℕ → Bool) (n : ℕ) → greatest_upto test n ≤ n
upto test zero = omega arith
upto test (suc n) = go (test (suc n)) (upto test n)
  where
    go : (t : Bool) → greatest_upto test n ≤ n → cond t (suc n) (greatest_upto test n) ≤ suc n
    go true ih = omega arith
    go false ih = omega arith

height_few : (d rows : ℕ) → height_of d rows ≤ 64
unfolding height_of
height_few d rows = upto (λ k. nat_le (suc d ^ k) (rows * d ^ k)) 64

-- the counter of a closed row counts all its activations
acts_of_closed : (h : Header) (b row : ℕ) (log : Log) → IsAccepted h → AllCounted h log → b < 32 → open_at b log ≡ None → acts h b row log ≡ cnt h b row log
acts_of_closed h b row log accepted here low closed =
    let a = (sound h b log accepted here low).agree row in
    let e : acts h b row log ≡ cnt h b row log + 0 = rw closed at a in
    omega arith

closed_at_act : (h : Header) (clock : ℕ) (bank : Bank) (row : ℕ) (log : Log) → MayCount h clock (Act bank row) log → open_at (bank_number bank) log ≡ None
closed_at_act h clock bank row log here = none_from_test _ here.kept.fourth

pub low_bank : (bank : Bank) → IsBank bank → bank_number bank < 32
low_bank bank inside = let g = inside.group in let a = inside.address in omega arith

-- an ACT adds one to the activations of its row
pub one_more : (h : Header) (clock : ℕ) (bank : Bank) (row : ℕ) (log : Log) → IsAccepted h → AllCounted h log → MayCount h clock (Act bank row) log → cnt h (bank_number bank) row log + 1 ≡ acts_opened h (Act bank row) (record { clock = clock; command = Act bank row } ∷ log)
one_more h clock bank row log accepted all here =
    let closed = closed_at_act h clock bank row log here in
    let own : (bank_number bank == bank_number bank) ≡ true = eq-eqb _ _ refl in
    let same : (row == row) ≡ true = eq-eqb row row refl in
    let before = acts_of_closed h (bank_number bank) row log accepted all (low_bank bank here.in_range.0) closed in
    rw (own, same) (omega arith)

-- so the count of an ACT's row fits
pub few : (bounded : Bounded) (h : Header) (clock : ℕ) (bank : Bank) (row : ℕ) (log : Log) → IsAccepted h → AllCounted h log → MayCount h clock (Act bank row) log → row < h.settings.rows → cnt h (bank_number bank) row log ≤ 1091
few bounded h clock bank row log accepted all here low =
    let b = low_bank bank here.in_range.0 in
    let before = acts_of_closed h (bank_number bank) row log accepted all b (closed_at_act h clock bank row log here) in
    let most : acts h (bank_number bank) row log ≤ bound h = bounded h (bank_number bank) row log accepted b low (keeps_log h log all) in
    let tall = height_few (spare h) h.settings.rows in
    let ath = accepted.settings.ath.1 in
    let spares = (spare_in_range h accepted).1 in
    omega (arith, before, most, tall, ath, spares)

-- ---- The activation of an ACT

-- the row of an ACT is one of the header's
act_row : (h : Header) (clock : ℕ) (bank : Bank) (row : ℕ) (log : Log) → MayCount h clock (Act bank row) log → row < h.settings.rows
act_row h clock bank row log here = ltb-true _ _ (both _ _ here.kept.in_range).0

pub holds_row : (it : Activity) (rows : List (Option ℕ)) (clock : ℕ) (bank : Bank) (row : ℕ) → MayIssue it rows clock (Act bank row) → HoldsRow it row
holds_row it rows clock bank row may = ∥∥₁_map may (λ p. (p.0, p.1, p.2, act_row p.0 clock bank row p.1 p.4))

pub act_fits : (bounded : Bounded) (it : Activity) (rows : List (Option ℕ)) (clock : ℕ) (bank : Bank) (row n : ℕ) → MayIssue it rows clock (Act bank row) → ((h : Header) (log : Log) → StandsFor it h log → n ≡ cnt h (bank_number bank) row log) → n ≤ 1091
unfolding StandsFor
act_fits bounded it rows clock bank row n may is = ∥∥₁_elim may le_prop (λ p. go p.0 p.1 p.2 p.4)
  where
    go : (h : Header) (log : Log) → Keeps it h log → MayCount h clock (Act bank row) log → n ≤ 1091
    go h log s here =
        let counted = is h log s in
        let small = few bounded h clock bank row log s.accepted s.counted here (act_row h clock bank row log here) in
        omega arith

-- ---- A counter that is asked for

pub bank_there : (it : Activity) (row b : ℕ) → HoldsRow it row → b < 32 → b < length it.banks.items
unfolding StandsFor
bank_there it row b holds low = ∥∥₁_elim holds le_prop (λ p. rw p.2.banks low)

abbrev pub HasRowLaw : Type 0
HasRowLaw = (it : Held) (h : Header) (b row : ℕ) (log : Log) → CountsFor it h b log → row < h.settings.rows → HasRow it row

abbrev pub RowBySomeLog : Type 0
RowBySomeLog = (it : Held) (row : ℕ) → ∥ HasRow it row ∥₁ → HasRow it row

pub row_there : (has : HasRowLaw) (by : RowBySomeLog) (it : Activity) (row b : ℕ) → HoldsRow it row → b < 32 → HasRow (bank_at it.banks.items b).counts row
unfolding StandsFor
row_there has by it row b holds low = by (bank_at it.banks.items b).counts row (∥∥₁_map holds (λ p. has (bank_at it.banks.items b).counts p.0 b row p.1 (p.2.counts b low).counts p.3))

-- ---- The peak after a command

pub peak_at_act : (it : Activity) (h : Header) (clock : ℕ) (command : Command) (bank : Bank) (row n p : ℕ) (log : Log) → command ≡ Act bank row → (StandsFor it h log → n ≡ cnt h (bank_number bank) row log) → p ≡ max (n + 1) it.peak → StandsFor it h log → MayCount h clock command log → p ≡ peak h (record { clock = clock; command = command } ∷ log)
unfolding StandsFor
peak_at_act it h clock command bank row n p log is counted most s here = subst (λ (c : Command). MayCount h clock c log → p ≡ peak h (record { clock = clock; command = c } ∷ log)) (sym is) go here
  where
    go : MayCount h clock (Act bank row) log → p ≡ peak h (record { clock = clock; command = Act bank row } ∷ log)
    go here =
        let count = counted s in
        let more = one_more h clock bank row log s.accepted s.counted here in
        let before = s.peak in
        most ∙ ap (λ (m : ℕ). max (m + 1) it.peak) count ∙ ap (λ (m : ℕ). max m it.peak) more ∙ ap (λ (m : ℕ). max (acts_opened h (Act bank row) (record { clock = clock; command = Act bank row } ∷ log)) m) before

pub peak_else : (it : Activity) (h : Header) (clock : ℕ) (command : Command) (log : Log) → is_act command ≡ false → StandsFor it h log → it.peak ≡ peak h (record { clock = clock; command = command } ∷ log)
unfolding StandsFor
peak_else it h clock command log other s = s.peak ∙ go command other
  where
    go : (c : Command) → is_act c ≡ false → peak h log ≡ max (acts_opened h c (record { clock = clock; command = c } ∷ log)) (peak h log)
    go (Act bank row) e = absurd (cc)
    go _ e = omega arith

-- ---- Other conditions

pub early : (it : Activity) (rows : List (Option ℕ)) (clock : ℕ) (command : Command) → MayIssue it rows clock command → clock < 2 ^ 48
early it rows clock command may = ∥∥₁_elim may le_prop (λ p. p.4.in_time)

-- there are 32 banks
pub all_banks : (it : Activity) (rows : List (Option ℕ)) (clock : ℕ) (command : Command) → MayIssue it rows clock command → length it.banks.items ≡ 32
unfolding StandsFor
all_banks it rows clock command may =
    let up : length it.banks.items ≤ 32 = ∥∥₁_elim may le_prop (λ p. let e = p.2.banks in omega arith) in
    let down : 32 ≤ length it.banks.items = ∥∥₁_elim may le_prop (λ p. let e = p.2.banks in omega arith) in
    omega arith

-- the open row of a bank that has this number
pub opened_at : (rows : List (Option ℕ)) (open_row : Option ℕ) (b n : ℕ) (log : Log) → ((log : Log) → BanksFor rows log → open_row ≡ open_at b log) → b ≡ n → BanksFor rows log → open_row ≡ open_at n log
opened_at rows open_row b n log is own stands = is log stands ∙ ap (λ (i : ℕ). open_at i log) own
