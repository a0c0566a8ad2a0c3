-- The commands of one task come in time.
use Rattle.std.proofs.Common.{◌≡◌, ℕ, zero, suc, ◌+◌, ◌*◌, ◌≤◌, ◌<◌, Bool, true, false, ◌&&◌, ◌⊎◌, inl, inr, refl, arith, cond, [], ◌∷◌, None, le_trans}
use Rattle.std.proofs.Math.Nat.{mul-le-mul_right}
use Rattle.command_words.specs.Command.{covers}
use Rattle.command_words.specs.declared.command.Command.{Command}
use Rattle.command_words.specs.declared.command.Command.TheVariants.{Rd, Wr, Nop}
use Rattle.speed_bin.specs.declared.header.Header.{Header}
use Rattle.speed_bin.specs.declared.timing.Timing.{Timing}
use Rattle.speed_bin.specs.Log.{Issued, Log, open_after, open_at, last_clock}
use Rattle.command_words.specs.Kinds.{Effect, Opens, Closes, Manages, Refreshes, Leaves, effect, is_act, is_precharge, needs_closed}
use Rattle.speed_bin.proofs.Effects.{opens_act, gap_some}
use Rattle.speed_bin.specs.Gap.{n_max, n_col, n_close}
use Rattle.requests.specs.Choice.{IsSoonest}
use Rattle.requests.specs.Owed.{is_column, owed_after, owed, count_below, owed_count}
use Rattle.deadlines.specs.Blocking.{n_pre, AllUpTo}
use Rattle.deadlines.specs.declared.task.Task.{Task}
use Rattle.deadlines.specs.Tasks.{task_covers}
use Rattle.deadlines.specs.Stages.{Stage, Before, After}
use Rattle.deadlines.proofs.Moves.{Advances, Column, Shut}
use Rattle.deadlines.proofs.Gaps.{gap_max, pre_parts}
use Rattle.deadlines.proofs.Following.{may_later, closing_start, closing_column, precharge_then, column_other, precharge_other}

-- ---- Counts

pub count_most : (n : ℕ) (f : ℕ → Bool) → count_below n f ≤ n
unfolding count_below
count_most zero f = omega arith
count_most (suc n) f = go (f n) (count_most n f)
  where
    go : (x : Bool) → count_below n f ≤ n → cond x (suc (count_below n f)) (count_below n f) ≤ suc n
    go true ih = omega arith
    go false ih = omega arith

pub two_tests : (x y : Bool) (p q : ℕ) → (x ≡ true → y ≡ true) → p ≤ q → cond x (suc p) p ≤ cond y (suc q) q
two_tests true true p q f le = omega arith
two_tests true false p q f le = let e = f refl in absurd (cc)
two_tests false true p q f le = omega arith
two_tests false false p q f le = omega arith

pub count_fewer : (n : ℕ) (f g : ℕ → Bool) → ((i : ℕ) → i < n → f i ≡ true → g i ≡ true) → count_below n f ≤ count_below n g
unfolding count_below
count_fewer zero f g h = omega arith
count_fewer (suc n) f g h = two_tests (f n) (g n) (count_below n f) (count_below n g) (h n (omega arith)) (count_fewer n f g (λ i low. h i (omega arith)))

pub same_or_below : (i n : ℕ) → i < suc n → (i ≡ n) ⊎ (i < n)
same_or_below i n h = grind arith

pub count_one_fewer : (n b : ℕ) (f g : ℕ → Bool) → b < n → ((i : ℕ) → i < n → f i ≡ true → g i ≡ true) → f b ≡ false → g b ≡ true → suc (count_below n f) ≤ count_below n g
unfolding count_below
count_one_fewer zero b f g low h off on = absurd (omega arith)
count_one_fewer (suc n) b f g low h off on = go (same_or_below b n low) (count_one_fewer n b f g)
  where
    rest : count_below n f ≤ count_below n g
    rest = count_fewer n f g (λ i low. h i (omega arith))

    go : (b ≡ n) ⊎ (b < n) → (b < n → ((i : ℕ) → i < n → f i ≡ true → g i ≡ true) → f b ≡ false → g b ≡ true → suc (count_below n f) ≤ count_below n g) → suc (cond (f n) (suc (count_below n f)) (count_below n f)) ≤ cond (g n) (suc (count_below n g)) (count_below n g)
    go (inl e) ih =
        let a : f n ≡ false = rw e at off in
        let c : g n ≡ true = rw e at on in
        rw (a, c) (omega (arith, rest))
    go (inr below) ih =
        let now = ih below (λ i under. h i (omega arith)) off on in
        let all = two_tests (f n) (g n) (suc (count_below n f)) (count_below n g) (h n (omega arith)) now in
        more (f n) (cond (g n) (suc (count_below n g)) (count_below n g)) (count_below n f) all
      where
        more : (x : Bool) (q p : ℕ) → cond x (suc (suc p)) (suc p) ≤ q → suc (cond x (suc p) p) ≤ q
        more true q p le = le
        more false q p le = le

-- ---- Owed banks

pub owed_open : (b : ℕ) (log : Log) → owed b log ≡ true → open_at b log ≡ None → ⊥
owed_open b [] own none = absurd (cc)
owed_open b (place ∷ log) own none = go (effect b place.command) (is_column place.command && covers place.command b) own none (owed_open b log)
  where
    go : (e : Effect) (column : Bool) → owed_after e column (owed b log) ≡ true → open_after e (open_at b log) ≡ None → (owed b log ≡ true → open_at b log ≡ None → ⊥) → ⊥
    go (Opens r) column own none ih = absurd (cc)
    go Closes column own none ih = absurd (cc)
    go Manages column own none ih = ih own none
    go Refreshes column own none ih = ih own none
    go Leaves true own none ih = absurd (cc)
    go Leaves false own none ih = ih own none

pub owed_before : (b : ℕ) (place : Issued) (log : Log) → is_act place.command ≡ false → owed b (place ∷ log) ≡ true → owed b log ≡ true
owed_before b place log other own = go (effect b place.command) refl (is_column place.command && covers place.command b) own
  where
    go : (e : Effect) → effect b place.command ≡ e → (column : Bool) → owed_after e column (owed b log) ≡ true → owed b log ≡ true
    go (Opens r) is column own = let p : is_act place.command ≡ true = (opens_act b r place.command is).0 in absurd (cc)
    go Closes is column own = absurd (cc)
    go Manages is column own = own
    go Refreshes is column own = own
    go Leaves is true own = absurd (cc)
    go Leaves is false own = own

pub owed_fewer : (place : Issued) (log : Log) → is_act place.command ≡ false → owed_count (place ∷ log) ≤ owed_count log
unfolding owed_count
owed_fewer place log other = count_fewer 32 (λ b. owed b (place ∷ log)) (λ b. owed b log) (λ i low own. owed_before i place log other own)

column_leaves : (b : ℕ) (c : Command) → is_column c ≡ true → effect b c ≡ Leaves
column_leaves b (Rd bank column) h = refl
column_leaves b (Wr bank column) h = refl
column_leaves b c h = absurd (cc)

pub column_pays : (b : ℕ) (place : Issued) (log : Log) → is_column place.command ≡ true → covers place.command b ≡ true → owed b (place ∷ log) ≡ false
column_pays b place log column cover =
    let e : effect b place.command ≡ Leaves = column_leaves b place.command column in
    rw (e, column, cover) refl

pub owed_one_fewer : (b : ℕ) (place : Issued) (log : Log) → b < 32 → is_column place.command ≡ true → covers place.command b ≡ true → owed b log ≡ true → suc (owed_count (place ∷ log)) ≤ owed_count log
unfolding owed_count
owed_one_fewer b place log low column cover own = count_one_fewer 32 b (λ i. owed i (place ∷ log)) (λ i. owed i log) low
    (λ i under now. owed_before i place log (column_other place.command column) now)
    (column_pays b place log column cover) own

pub owed_most : (log : Log) → owed_count log ≤ 32
unfolding owed_count
owed_most log = count_most 32 (λ b. owed b log)

-- ---- Stages

pub some_max : (t : Timing) → 1 ≤ n_max t
some_max t = le_trans (gap_some t Nop Nop) (gap_max t Nop Nop)

pub stage_start : (h : Header) (task : Task) (s now y : ℕ) (log : Log) → 1 ≤ n_max h.timing → AllUpTo s log → last_clock log ≤ s → now ≤ s + 1 → s + n_max h.timing + n_close h.timing ≤ y → Stage h task log now y
stage_start h task s now y log some up below early more =
    let p = pre_parts h.timing in
    let q = p.3 in
    Before (s + n_max h.timing) (closing_start h s now log some up below early) (omega arith)

-- what one command of a task leaves: the task goes on, with as much less owed as it is later, or it was the task's last
pub record GoesOn (h : Header) (task : Task) (place : Issued) (log : Log) (y : ℕ) : Type 0 where
  pub reach : ℕ
  pub stage : Stage h task (place ∷ log) (place.clock + 1) reach
  pub weight : reach + owed_count (place ∷ log) * n_col h.timing ≤ y + owed_count log * n_col h.timing

times_col : (a b c : ℕ) → suc a ≤ b → c + a * c ≤ b * c
times_col a b c le = let m : suc a * c ≤ b * c = mul-le-mul_right c le in omega arith

pub stage_column : (h : Header) (task : Task) (now y b : ℕ) (place : Issued) (log : Log) → b < 32 → is_column place.command ≡ true → covers place.command b ≡ true → owed b log ≡ true → task_covers task b ≡ true → IsSoonest h log now place.command place.clock → Stage h task log now y → (place.clock ≤ y) × GoesOn h task place log y
stage_column h task now y b place log low column cover own within at (Before x k more) =
    let n = k.by_now in
    let here : place.clock ≤ x = at.least x (omega arith) (k.columns place.command column) in
    let fewer = owed_one_fewer b place log low column cover own in
    let pay = times_col (owed_count (place ∷ log)) (owed_count log) (n_col h.timing) fewer in (
      omega arith,
      record {
        reach = y + n_col h.timing;
        stage = Before (x + n_col h.timing) (closing_column h now x place log column at k) (omega arith);
        weight = omega arith;
      },
    )
stage_column h task now y b place log low column cover own within at (After k) = absurd (owed_open b log own (k.shut b low within))

closes_after : (b : ℕ) (place : Issued) (log : Log) → effect b place.command ≡ Closes → open_at b (place ∷ log) ≡ None
closes_after b place log e = rw e refl

times_fewer : (a b c : ℕ) → a ≤ b → a * c ≤ b * c
times_fewer a b c le = mul-le-mul_right c le

pub stage_precharge : (h : Header) (task : Task) (now y b : ℕ) (place : Issued) (log : Log) → 1 ≤ h.timing.nrp → b < 32 → is_precharge place.command ≡ true → task_covers task b ≡ true → (open_at b log ≡ None → ⊥) → ((i : ℕ) → task_covers task i ≡ true → effect i place.command ≡ Closes) → IsSoonest h log now place.command place.clock → Stage h task log now y → (place.clock ≤ y) × GoesOn h task place log y
stage_precharge h task now y b place log some low precharge within opened shuts at (Before x k more) =
    let p = precharge_then h now x place log some precharge at k in
    let here : place.clock ≤ x + n_pre h.timing = p.0 in
    let fewer = owed_fewer place log (precharge_other place.command precharge) in
    let pay = times_fewer (owed_count (place ∷ log)) (owed_count log) (n_col h.timing) fewer in (
      omega arith,
      record {
        reach = y;
        stage = After (record {
          by_now = omega arith;
          shut = λ i under own. closes_after i place log (shuts i own);
          closers = λ c own. may_later h (x + n_pre h.timing + h.timing.nrp) y c (place ∷ log) more (p.1 c own);
        });
        weight = omega arith;
      },
    )
stage_precharge h task now y b place log some low precharge within opened shuts at (After k) = absurd (opened (k.shut b low within))

pub stage_done : (h : Header) (task : Task) (now y : ℕ) (place : Issued) (log : Log) → needs_closed place.command ≡ true → IsSoonest h log now place.command place.clock → Stage h task log now y → place.clock ≤ y
stage_done h task now y place log closed at (Before x k more) =
    let n = k.by_now in
    let here : place.clock ≤ x + n_pre h.timing + h.timing.nrp = at.least (x + n_pre h.timing + h.timing.nrp) (omega arith) (k.closers place.command closed) in
    omega arith
stage_done h task now y place log closed at (After k) = at.least y k.by_now (k.closers place.command closed)

-- a command for a task that goes on
pub stage_next : (h : Header) (task : Task) (now y : ℕ) (place : Issued) (log : Log) → 1 ≤ h.timing.nrp → IsSoonest h log now place.command place.clock → Advances h task log now place → Stage h task log now y → (place.clock ≤ y) × GoesOn h task place log y
stage_next h task now y place log some at (Column b low column cover own within) k = stage_column h task now y b place log low column cover own within at k
stage_next h task now y place log some at (Shut b low precharge within opened shuts) k = stage_precharge h task now y b place log some low precharge within opened shuts at k
