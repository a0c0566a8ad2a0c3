-- The commands of a log against its ACTs and columns.
use Rattle.std.proofs.Common.{◌≡◌, ◌≢◌, ◌∙◌, ℕ, zero, suc, ◌+◌, ◌-◌, ◌≤◌, ◌<◌, Bool, true, false, ◌&&◌, ◌||◌, ◌==◌, ◌⊎◌, inl, inr, refl, sym, ap, arith, cond, List, [], ◌∷◌, length, Option, Some, None, is_some, eq-eqb, ne_eqb, le_trans}
use Rattle.command_words.specs.Command.{bank_number, covers}
use Rattle.command_words.specs.declared.place.Bank.{Bank}
use Rattle.command_words.specs.declared.command.Command.{Command}
use Rattle.command_words.specs.declared.command.Command.TheVariants.{Act, Rd, Wr, RfmAb, RfmSb}
use Rattle.speed_bin.specs.declared.header.Header.{Header}
use Rattle.speed_bin.specs.Log.{Issued, Log, open_at, raa, raa_after}
use Rattle.command_words.specs.Kinds.{Effect, Opens, Closes, Manages, Refreshes, Leaves, effect, is_act, is_precharge, is_rfm_all, is_rfm_same}
use Rattle.speed_bin.specs.Alert.{alert}
use Rattle.speed_bin.specs.Weights.{sum_below}
use Rattle.speed_bin.proofs.Sums.{one_change}
use Rattle.speed_bin.proofs.Effects.{opens_act}
use Rattle.speed_bin.specs.Counts.{commands}
use Rattle.requests.specs.Owed.{is_column, owed_after, owed, count_below, owed_count}
use Rattle.deadlines.specs.Counts.{open_count, flag, raa_sum, Works, AllWork}
use Rattle.deadlines.specs.Turns.{has_request}
use Rattle.deadlines.proofs.OneMore.{one_more}
use Rattle.deadlines.proofs.Stages.{count_fewer, count_one_fewer, two_tests, same_or_below, owed_open}
use Rattle.deadlines.proofs.Phases.{stays_closed, stays_calm}
use Rattle.deadlines.proofs.Backoffs.{alert_ends}

pub count_one_more : (n b : ℕ) (f g : ℕ → Bool) → ((i : ℕ) → i < n → i ≢ b → f i ≡ true → g i ≡ true) → count_below n f ≤ suc (count_below n g)
unfolding count_below
count_one_more zero b f g h = omega arith
count_one_more (suc n) b f g h = go (same n b) (count_one_more n b f g (λ i low. h i (omega arith)))
  where
    same : (m k : ℕ) → (m ≡ k) ⊎ (m ≢ k)
    same m k = grind arith

    any : (x y : Bool) (p q : ℕ) → p ≤ q → cond x (suc p) p ≤ suc (cond y (suc q) q)
    any true true p q le = omega arith
    any true false p q le = omega arith
    any false true p q le = omega arith
    any false false p q le = omega arith

    out : (y : Bool) (q : ℕ) → cond y (suc (suc q)) (suc q) ≤ suc (cond y (suc q) q)
    out true q = omega arith
    out false q = omega arith

    go : (n ≡ b) ⊎ (n ≢ b) → count_below n f ≤ suc (count_below n g) → cond (f n) (suc (count_below n f)) (count_below n f) ≤ suc (cond (g n) (suc (count_below n g)) (count_below n g))
    go (inl e) ih = any (f n) (g n) (count_below n f) (count_below n g) (count_fewer n f g (λ i low. h i (omega arith) (omega arith)))
    go (inr other) ih = le_trans (two_tests (f n) (g n) (count_below n f) (suc (count_below n g)) (h n (omega arith) other) ih) (out (g n) (count_below n g))

-- ---- Open banks

some_open : (o : Option ℕ) → is_some o ≡ true → o ≡ None → ⊥
some_open None k e = absurd (cc)
some_open (Some x) k e = absurd (cc)

open_some : (o : Option ℕ) → (o ≡ None → ⊥) → is_some o ≡ true
open_some None k = absurd (k refl)
open_some (Some x) k = refl

pub opens_other : (i : ℕ) (bank : Bank) (row : ℕ) → i ≢ bank_number bank → effect i (Act bank row) ≡ Leaves
opens_other i bank row other = let k : (bank_number bank == i) ≡ false = ne_eqb (bank_number bank) i (λ e. other (sym e)) in rw k refl

pub act_case : (c : Command) → is_act c ≡ true → (bank : Bank) × (row : ℕ) × (c ≡ Act bank row)
act_case (Act bank row) k = (bank, row, refl)
act_case c k = absurd (cc)

open_act : (place : Issued) (log : Log) → is_act place.command ≡ true → open_count (place ∷ log) ≤ suc (open_count log)
unfolding open_count
open_act place log act = go (act_case place.command act)
  where
    go : (bank : Bank) × (row : ℕ) × (place.command ≡ Act bank row) → count_below 32 (λ b. is_some (open_at b (place ∷ log))) ≤ suc (count_below 32 (λ b. is_some (open_at b log)))
    go p = count_one_more 32 (bank_number p.0) (λ b. is_some (open_at b (place ∷ log))) (λ b. is_some (open_at b log)) (λ i low other now.
        let e : effect i place.command ≡ Leaves = ap (λ (c : Command). effect i c) p.2 ∙ opens_other i p.0 p.1 other in
        rw e at now)

open_less : (i : ℕ) (place : Issued) (log : Log) → is_act place.command ≡ false → is_some (open_at i (place ∷ log)) ≡ true → is_some (open_at i log) ≡ true
open_less i place log other k = open_some (open_at i log) (λ none. some_open (open_at i (place ∷ log)) k (stays_closed i place log other none))

open_fewer : (place : Issued) (log : Log) → is_act place.command ≡ false → open_count (place ∷ log) ≤ open_count log
unfolding open_count
open_fewer place log other = count_fewer 32 (λ b. is_some (open_at b (place ∷ log))) (λ b. is_some (open_at b log)) (λ i low k. open_less i place log other k)

open_shut : (b : ℕ) (place : Issued) (log : Log) → is_act place.command ≡ false → b < 32 → effect b place.command ≡ Closes → (open_at b log ≡ None → ⊥) → suc (open_count (place ∷ log)) ≤ open_count log
unfolding open_count
open_shut b place log other low e o = count_one_fewer 32 b (λ b. is_some (open_at b (place ∷ log))) (λ b. is_some (open_at b log)) low (λ i under k. open_less i place log other k) (rw e refl) (open_some (open_at b log) o)

precharge_no_act : (c : Command) → is_precharge c ≡ true → is_act c ≡ false
precharge_no_act (Act b r) k = absurd (cc)
precharge_no_act c k = refl

open_none : open_count [] ≡ 0
unfolding open_count count_below
open_none = refl

-- each precharge closes a bank that an ACT opened
pub precharges_most : (h : Header) (log : Log) → AllWork h log → commands is_precharge log + open_count log ≤ commands is_act log
precharges_most h [] w = let e = open_none in omega arith
precharges_most h (place ∷ log) w = rw (one_more is_precharge place log, one_more is_act place log) (go (is_precharge place.command) refl (is_act place.command) refl (precharges_most h log w.1))
  where
    go : (p : Bool) → is_precharge place.command ≡ p → (a : Bool) → is_act place.command ≡ a → commands is_precharge log + open_count log ≤ commands is_act log → cond p (suc (commands is_precharge log)) (commands is_precharge log) + open_count (place ∷ log) ≤ cond a (suc (commands is_act log)) (commands is_act log)
    go true f true g ih = let k = precharge_no_act place.command f in absurd (cc)
    go true f false g ih =
        let q = w.0.precharge f in
        let s = open_shut q.0 place log g q.1 q.2 q.3 in
        omega arith
    go false f true g ih = let s = open_act place log g in omega arith
    go false f false g ih = let s = open_fewer place log g in omega arith

-- ---- Alerts

flag_one : (o : Option ℕ) → flag o ≤ 1
flag_one None = omega arith
flag_one (Some a) = omega arith

raised_flag : (o : Option ℕ) → (o ≡ None → ⊥) → flag o ≡ 1
raised_flag None k = absurd (k refl)
raised_flag (Some a) k = refl

flag_later : (h : Header) (place : Issued) (log : Log) → is_precharge place.command ≡ false → flag (alert h (place ∷ log)) ≤ flag (alert h log)
flag_later h place log other = go (alert h log) refl
  where
    go : (o : Option ℕ) → alert h log ≡ o → flag (alert h (place ∷ log)) ≤ flag o
    go None e = let k : flag (alert h (place ∷ log)) ≡ 0 = ap (λ (x : Option ℕ). flag x) (stays_calm h place log other e) in omega arith
    go (Some a) e = flag_one (alert h (place ∷ log))

rfm_no_precharge : (c : Command) → is_rfm_all c ≡ true → is_precharge c ≡ false
rfm_no_precharge RfmAb k = refl
rfm_no_precharge c k = absurd (cc)

pub rfm_all_most : (h : Header) (log : Log) → AllWork h log → commands is_rfm_all log + flag (alert h log) ≤ commands is_precharge log
rfm_all_most h [] w = omega arith
rfm_all_most h (place ∷ log) w = rw (one_more is_rfm_all place log, one_more is_precharge place log) (go (is_precharge place.command) refl (is_rfm_all place.command) refl (rfm_all_most h log w.1))
  where
    go : (p : Bool) → is_precharge place.command ≡ p → (r : Bool) → is_rfm_all place.command ≡ r → commands is_rfm_all log + flag (alert h log) ≤ commands is_precharge log → cond r (suc (commands is_rfm_all log)) (commands is_rfm_all log) + flag (alert h (place ∷ log)) ≤ cond p (suc (commands is_precharge log)) (commands is_precharge log)
    go true f true g ih = let k = rfm_no_precharge place.command g in absurd (cc)
    go true f false g ih = let k = flag_one (alert h (place ∷ log)) in omega arith
    go false f true g ih =
        let k : flag (alert h (place ∷ log)) ≡ 0 = ap (λ (x : Option ℕ). flag x) (alert_ends h place log g) in
        let r = raised_flag (alert h log) (w.0.rfm_all g) in
        omega arith
    go false f false g ih = let k = flag_later h place log f in omega arith

-- ---- ACTs and columns

act_no_column : (c : Command) → is_act c ≡ true → is_column c ≡ false
act_no_column (Act b r) k = refl
act_no_column c k = absurd (cc)

-- an owed bank stays owed, unless a column of it or a precharge comes
owed_stays : (b : ℕ) (place : Issued) (log : Log) → (effect b place.command ≡ Closes → owed b log ≡ false) → (is_column place.command && covers place.command b) ≡ false → owed b log ≡ true → owed b (place ∷ log) ≡ true
owed_stays b place log shut other own = go (effect b place.command) refl
  where
    by : (e : Effect) → owed_after e false (owed b log) ≡ true → owed_after e (is_column place.command && covers place.command b) (owed b log) ≡ true
    by e k = rw other k

    go : (e : Effect) → effect b place.command ≡ e → owed_after e (is_column place.command && covers place.command b) (owed b log) ≡ true
    go (Opens r) is = by (Opens r) refl
    go Closes is = let k = shut is in absurd (cc)
    go Manages is = by Manages own
    go Refreshes is = by Refreshes own
    go Leaves is = by Leaves own

not_closed_here : (h : Header) (place : Issued) (log : Log) → Works h place log → (b : ℕ) → b < 32 → effect b place.command ≡ Closes → owed b log ≡ false
not_closed_here h place log w b low e = w.unowed b low e

column_bank : (c : Command) → is_column c ≡ true → (k : ℕ) × ((i : ℕ) → i ≢ k → covers c i ≡ false)
column_bank (Rd bank column) h = (bank_number bank, λ i other. ne_eqb (bank_number bank) i (λ e. other (sym e)))
column_bank (Wr bank column) h = (bank_number bank, λ i other. ne_eqb (bank_number bank) i (λ e. other (sym e)))
column_bank c h = absurd (cc)

and_right_false : (x y : Bool) → y ≡ false → (x && y) ≡ false
and_right_false true y k = k
and_right_false false y k = refl

and_left_false : (x y : Bool) → x ≡ false → (x && y) ≡ false
and_left_false true y k = absurd (cc)
and_left_false false y k = refl

owed_column : (h : Header) (place : Issued) (log : Log) → Works h place log → is_column place.command ≡ true → owed_count log ≤ suc (owed_count (place ∷ log))
unfolding owed_count
owed_column h place log w column =
    let p = column_bank place.command column in
    count_one_more 32 p.0 (λ b. owed b log) (λ b. owed b (place ∷ log)) (λ i low other own.
    owed_stays i place log (not_closed_here h place log w i low) (and_right_false (is_column place.command) (covers place.command i) (p.1 i other)) own)

owed_kept : (h : Header) (place : Issued) (log : Log) → Works h place log → is_column place.command ≡ false → owed_count log ≤ owed_count (place ∷ log)
unfolding owed_count
owed_kept h place log w column = count_fewer 32 (λ b. owed b log) (λ b. owed b (place ∷ log)) (λ i low own.
    owed_stays i place log (not_closed_here h place log w i low) (and_left_false (is_column place.command) (covers place.command i) column) own)

owed_act : (h : Header) (place : Issued) (log : Log) → Works h place log → is_act place.command ≡ true → suc (owed_count log) ≤ owed_count (place ∷ log)
unfolding owed_count
owed_act h place log w act = go (act_case place.command act)
  where
    go : (bank : Bank) × (row : ℕ) × (place.command ≡ Act bank row) → suc (count_below 32 (λ b. owed b log)) ≤ count_below 32 (λ b. owed b (place ∷ log))
    go p =
        let q = w.act p.0 p.1 p.2 in
        let e : effect (bank_number p.0) place.command ≡ Opens p.1 = ap (λ (c : Command). effect (bank_number p.0) c) p.2 ∙ opens_own p.0 p.1 in
        count_one_fewer 32 (bank_number p.0) (λ b. owed b log) (λ b. owed b (place ∷ log)) q.0
        (λ i low own. owed_stays i place log (not_closed_here h place log w i low) (and_left_false (is_column place.command) (covers place.command i) (act_no_column place.command act)) own)
        (none_owed (bank_number p.0) log q.1) (rw e refl)
      where
        opens_own : (bank : Bank) (row : ℕ) → effect (bank_number bank) (Act bank row) ≡ Opens row
        opens_own bank row = let k : (bank_number bank == bank_number bank) ≡ true = eq-eqb (bank_number bank) (bank_number bank) refl in rw k refl

        none_owed : (b : ℕ) (log : Log) → open_at b log ≡ None → owed b log ≡ false
        none_owed b log none = decide (owed b log) refl
          where
            decide : (x : Bool) → owed b log ≡ x → x ≡ false
            decide true e = absurd (owed_open b log e none)
            decide false e = refl

-- each ACT but those of the banks that are owed has its column
pub acts_most : (h : Header) (log : Log) → AllWork h log → commands is_act log ≤ commands is_column log + owed_count log
acts_most h [] w = omega arith
acts_most h (place ∷ log) w = rw (one_more is_act place log, one_more is_column place log) (go (is_column place.command) refl (is_act place.command) refl (acts_most h log w.1))
  where
    go : (c : Bool) → is_column place.command ≡ c → (a : Bool) → is_act place.command ≡ a → commands is_act log ≤ commands is_column log + owed_count log → cond a (suc (commands is_act log)) (commands is_act log) ≤ cond c (suc (commands is_column log)) (commands is_column log) + owed_count (place ∷ log)
    go true f true g ih = let k = act_no_column place.command g in absurd (cc)
    go true f false g ih = let s = owed_column h place log w.0 f in omega arith
    go false f true g ih = let s = owed_act h place log w.0 g in omega arith
    go false f false g ih = let s = owed_kept h place log w.0 f in omega arith

-- ---- Owed banks and waiting requests

none_counted : (n : ℕ) → count_below n (λ b. false) ≡ 0
unfolding count_below
none_counted zero = refl
none_counted (suc n) = none_counted n

-- where each owed bank has a waiting request of its own, there are no more of them than requests
pub banks_most : (n : ℕ) (waiting : List ℕ) → count_below n (has_request waiting) ≤ length waiting
unfolding has_request
banks_most n [] = let e = none_counted n in omega arith
banks_most n (own ∷ waiting) =
    let ih = banks_most n waiting in
    let one = count_one_more n own (λ b. (own == b) || has_request waiting b) (has_request waiting) (λ i low other k.
    let e : (own == i) ≡ false = ne_eqb own i (λ s. other (sym s)) in
    rw e at k) in
    omega arith

pub owed_waiting : (log : Log) (waiting : List ℕ) → ((b : ℕ) → b < 32 → owed b log ≡ true → has_request waiting b ≡ true) → owed_count log ≤ length waiting
unfolding owed_count
owed_waiting log waiting k =
    let a = count_fewer 32 (λ b. owed b log) (has_request waiting) k in
    let b = banks_most 32 waiting in
    omega arith

-- ---- Rolling counts

raa_other : (h : Header) (b : ℕ) (place : Issued) (log : Log) → is_act place.command ≡ false → raa h b (place ∷ log) ≤ raa h b log
raa_other h b place log other = go (effect b place.command) refl
  where
    go : (e : Effect) → effect b place.command ≡ e → raa_after h e (raa h b log) ≤ raa h b log
    go (Opens r) is = let p : is_act place.command ≡ true = (opens_act b r place.command is).0 in absurd (cc)
    go Closes is = omega arith
    go Manages is = omega arith
    go Refreshes is = omega arith
    go Leaves is = omega arith

sum_fewer : (n : ℕ) (f g : ℕ → ℕ) → ((i : ℕ) → i < n → f i ≤ g i) → sum_below n f ≤ sum_below n g
sum_fewer zero f g k = omega arith
sum_fewer (suc n) f g k =
    let ih = sum_fewer n f g (λ i low. k i (omega arith)) in
    let now = k n (omega arith) in
    omega arith

sum_one_fewer : (n b : ℕ) (f g : ℕ → ℕ) → b < n → ((i : ℕ) → i < n → f i ≤ g i) → suc (f b) ≤ g b → suc (sum_below n f) ≤ sum_below n g
sum_one_fewer zero b f g low k less = absurd (omega arith)
sum_one_fewer (suc n) b f g low k less = go (same_or_below b n low) (sum_one_fewer n b f g)
  where
    go : (b ≡ n) ⊎ (b < n) → (b < n → ((i : ℕ) → i < n → f i ≤ g i) → suc (f b) ≤ g b → suc (sum_below n f) ≤ sum_below n g) → suc (f n + sum_below n f) ≤ g n + sum_below n g
    go (inl e) ih =
        let rest = sum_fewer n f g (λ i under. k i (omega arith)) in
        let at : suc (f n) ≤ g n = rw e at less in
        omega arith
    go (inr under) ih =
        let rest = ih under (λ i u. k i (omega arith)) less in
        let now = k n (omega arith) in
        omega arith

raa_act : (h : Header) (place : Issued) (log : Log) → Works h place log → is_act place.command ≡ true → raa_sum h (place ∷ log) ≤ suc (raa_sum h log)
unfolding raa_sum
raa_act h place log w act = go (act_case place.command act)
  where
    go : (bank : Bank) × (row : ℕ) × (place.command ≡ Act bank row) → sum_below 32 (λ b. raa h b (place ∷ log)) ≤ suc (sum_below 32 (λ b. raa h b log))
    go p =
        let q = w.act p.0 p.1 p.2 in
        let own : raa h (bank_number p.0) (place ∷ log) ≡ raa h (bank_number p.0) log + 1 = ap (λ (c : Command). raa_after h (effect (bank_number p.0) c) (raa h (bank_number p.0) log)) p.2 ∙ grows p.0 p.1 (raa h (bank_number p.0) log) in
        let change = one_change 32 (bank_number p.0) (λ b. raa h b (place ∷ log)) (λ b. raa h b log) q.0 (λ i low other.
        ap (λ (c : Command). raa_after h (effect i c) (raa h i log)) p.2 ∙ ap (λ (e : Effect). raa_after h e (raa h i log)) (opens_other i p.0 p.1 other)) in
        omega arith
      where
        grows : (bank : Bank) (row n : ℕ) → raa_after h (effect (bank_number bank) (Act bank row)) n ≡ n + 1
        grows bank row n = let k : (bank_number bank == bank_number bank) ≡ true = eq-eqb (bank_number bank) (bank_number bank) refl in rw k refl

raa_less : (h : Header) (place : Issued) (log : Log) → is_act place.command ≡ false → raa_sum h (place ∷ log) ≤ raa_sum h log
unfolding raa_sum
raa_less h place log other = sum_fewer 32 (λ b. raa h b (place ∷ log)) (λ b. raa h b log) (λ i low. raa_other h i place log other)

raa_rfm : (h : Header) (place : Issued) (log : Log) → 1 ≤ h.settings.raaimt → Works h place log → is_rfm_same place.command ≡ true → is_act place.command ≡ false → suc (raa_sum h (place ∷ log)) ≤ raa_sum h log
unfolding raa_sum
raa_rfm h place log some w rfm other =
    let p = w.rfm_same rfm in
    let e : raa h p.0 (place ∷ log) ≡ raa h p.0 log - h.settings.raaimt = ap (λ (e : Effect). raa_after h e (raa h p.0 log)) p.2 in
    let wanted = p.3 in
    sum_one_fewer 32 p.0 (λ b. raa h b (place ∷ log)) (λ b. raa h b log) p.1 (λ i low. raa_other h i place log other) (omega arith)

rfm_same_no_act : (c : Command) → is_rfm_same c ≡ true → is_act c ≡ false
rfm_same_no_act (RfmSb a) k = refl
rfm_same_no_act c k = absurd (cc)

zero_sum : (n : ℕ) → sum_below n (λ b. 0) ≡ 0
zero_sum zero = refl
zero_sum (suc n) = let e = zero_sum n in omega arith

raa_none : (h : Header) → raa_sum h [] ≡ 0
unfolding raa_sum
raa_none h = zero_sum 32

pub rfm_same_most : (h : Header) (log : Log) → 1 ≤ h.settings.raaimt → AllWork h log → raa_sum h log + commands is_rfm_same log ≤ commands is_act log
rfm_same_most h [] some w = let e = raa_none h in omega arith
rfm_same_most h (place ∷ log) some w = rw (one_more is_rfm_same place log, one_more is_act place log) (go (is_rfm_same place.command) refl (is_act place.command) refl (rfm_same_most h log some w.1))
  where
    go : (r : Bool) → is_rfm_same place.command ≡ r → (a : Bool) → is_act place.command ≡ a → raa_sum h log + commands is_rfm_same log ≤ commands is_act log → raa_sum h (place ∷ log) + cond r (suc (commands is_rfm_same log)) (commands is_rfm_same log) ≤ cond a (suc (commands is_act log)) (commands is_act log)
    go true f true g ih = let k = rfm_same_no_act place.command f in absurd (cc)
    go true f false g ih = let s = raa_rfm h place log some w.0 f g in omega arith
    go false f true g ih = let s = raa_act h place log w.0 g in omega arith
    go false f false g ih = let s = raa_less h place log g in omega arith
