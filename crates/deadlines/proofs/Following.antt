-- When a command can follow a log.
use Rattle.std.proofs.Common.{◌≡◌, ℕ, ◌+◌, ◌≤◌, ◌<◌, Bool, true, false, refl, arith, cond, [], ◌∷◌, filter, le-leb, leb-true, nat_le, lt-ltb, ltb-true, max}
use Rattle.command_words.specs.declared.command.Command.{Command}
use Rattle.command_words.specs.declared.command.Command.TheVariants.{Act}
use Rattle.speed_bin.specs.declared.header.Header.{Header}
use Rattle.speed_bin.specs.declared.timing.Timing.{Timing}
use Rattle.speed_bin.specs.Log.{Issued, Log, last_clock}
use Rattle.speed_bin.specs.Gap.{gap, n_max, n_col}
use Rattle.command_words.specs.Kinds.{is_act, is_precharge, needs_closed}
use Rattle.speed_bin.specs.Rules.{rule_1, rule_2, rule_3, MayFollow}
use Rattle.speed_bin.proofs.Tests.{joined}
use Rattle.speed_bin.proofs.Effects.{gap_some, rule_2_head, rule_2_tail}
use Rattle.requests.specs.Choice.{IsSoonest}
use Rattle.requests.specs.Owed.{is_column}
use Rattle.deadlines.specs.Blocking.{n_pre, AllUpTo, AllRise}
use Rattle.deadlines.specs.Stages.{Closing}
use Rattle.deadlines.proofs.Gaps.{gap_max, faw_max, gap_columns, gap_column_precharge, gap_column_closed, gap_precharge_any, col_parts, pre_parts}

-- ---- Clocks of a log

pub up_more : (s t : ℕ) (log : Log) → s ≤ t → AllUpTo s log → AllUpTo t log
up_more s t [] more up = tt
up_more s t (place ∷ log) more up = ((let a = up.0 in omega arith), up_more s t log more up.1)

pub up_last : (log : Log) → AllRise log → AllUpTo (last_clock log) log
up_last [] rises = tt
up_last (place ∷ log) rises = (omega arith, go log rises.0 (up_last log rises.1))
  where
    go : (log : Log) → rule_1 place.clock log ≡ true → AllUpTo (last_clock log) log → AllUpTo place.clock log
    go [] first up = tt
    go (old ∷ log) first up =
        let below : old.clock < place.clock = ltb-true _ _ first in
        up_more old.clock place.clock (old ∷ log) (omega arith) up

first_from : (t : ℕ) (log : Log) → last_clock log < t → rule_1 t log ≡ true
first_from t [] below = refl
first_from t (place ∷ log) below = lt-ltb _ _ below

-- ---- Later, and from some clock on

first_later : (t u : ℕ) (log : Log) → t ≤ u → rule_1 t log ≡ true → rule_1 u log ≡ true
first_later t u [] more k = refl
first_later t u (place ∷ log) more k = let a : place.clock < t = ltb-true _ _ k in lt-ltb _ _ (omega arith)

second_later : (h : Header) (t u : ℕ) (c : Command) (log : Log) → t ≤ u → rule_2 h.timing t c log ≡ true → rule_2 h.timing u c log ≡ true
second_later h t u c [] more k = refl
second_later h t u c (place ∷ log) more k =
    let a = rule_2_head h t c place log k in
    joined _ _ (le-leb _ _ (omega arith)) (second_later h t u c log more (rule_2_tail h t c place log k))

-- what rule 3 asks of the clock where these are the ACTs before it
abbrev pub fourth_back : Timing → ℕ → Log → Bool
fourth_back t clock (a ∷ b ∷ c ∷ d ∷ rest) = nat_le (d.clock + t.nfaw) clock
fourth_back t clock _ = true

fourth_later : (h : Header) (t u : ℕ) (log : Log) → t ≤ u → fourth_back h.timing t log ≡ true → fourth_back h.timing u log ≡ true
fourth_later h t u [] more k = refl
fourth_later h t u (a ∷ []) more k = refl
fourth_later h t u (a ∷ b ∷ []) more k = refl
fourth_later h t u (a ∷ b ∷ c ∷ []) more k = refl
fourth_later h t u (a ∷ b ∷ c ∷ d ∷ rest) more k = let e : d.clock + h.timing.nfaw ≤ t = leb-true _ _ k in le-leb _ _ (omega arith)

third_later : (h : Header) (t u : ℕ) (c : Command) (log : Log) → t ≤ u → rule_3 h.timing t c log ≡ true → rule_3 h.timing u c log ≡ true
third_later h t u c log more k = go (is_act c) k
  where
    acts : Log
    acts = filter (λ (place : Issued). is_act place.command) log

    go : (x : Bool) → cond x (fourth_back h.timing t acts) true ≡ true → cond x (fourth_back h.timing u acts) true ≡ true
    go true k = fourth_later h t u acts more k
    go false k = refl

pub may_later : (h : Header) (t u : ℕ) (c : Command) (log : Log) → t ≤ u → MayFollow h.timing t c log → MayFollow h.timing u c log
may_later h t u c log more m = record {
  rises = first_later t u log more m.rises;
  gaps = second_later h t u c log more m.gaps;
  window = third_later h t u c log more m.window;
}

second_from : (h : Header) (s t : ℕ) (c : Command) (log : Log) → AllUpTo s log → s + n_max h.timing ≤ t → rule_2 h.timing t c log ≡ true
second_from h s t c [] up more = refl
second_from h s t c (place ∷ log) up more =
    let a = up.0 in
    let g = gap_max h.timing place.command c in
    joined _ _ (le-leb _ _ (omega arith)) (second_from h s t c log up.1 more)

fourth_from : (h : Header) (s t : ℕ) (log : Log) → AllUpTo s log → s + n_max h.timing ≤ t → fourth_back h.timing t log ≡ true
fourth_from h s t [] up more = refl
fourth_from h s t (a ∷ []) up more = refl
fourth_from h s t (a ∷ b ∷ []) up more = refl
fourth_from h s t (a ∷ b ∷ c ∷ []) up more = refl
fourth_from h s t (a ∷ b ∷ c ∷ d ∷ rest) up more =
    let e = up.1.1.1.0 in
    let f = faw_max h.timing in
    le-leb _ _ (omega arith)

up_filter : (s : ℕ) (f : Issued → Bool) (log : Log) → AllUpTo s log → AllUpTo s (filter f log)
up_filter s f [] up = tt
up_filter s f (place ∷ log) up = go (f place) (up_filter s f log up.1)
  where
    go : (x : Bool) → AllUpTo s (filter f log) → AllUpTo s (cond x (place ∷ filter f log) (filter f log))
    go true ih = (up.0, ih)
    go false ih = ih

third_from : (h : Header) (s t : ℕ) (c : Command) (log : Log) → AllUpTo s log → s + n_max h.timing ≤ t → rule_3 h.timing t c log ≡ true
third_from h s t c log up more = go (is_act c)
  where
    acts : Log
    acts = filter (λ (place : Issued). is_act place.command) log

    go : (x : Bool) → cond x (fourth_back h.timing t acts) true ≡ true
    go true = fourth_from h s t acts (up_filter s _ log up) more
    go false = refl

-- whatever stands in the log, it blocks a command for nMax at most
pub may_from : (h : Header) (s t : ℕ) (c : Command) (log : Log) → AllUpTo s log → last_clock log < t → s + n_max h.timing ≤ t → MayFollow h.timing t c log
may_from h s t c log up below more = record {
  rises = first_from t log below;
  gaps = second_from h s t c log up more;
  window = third_from h s t c log up more;
}

-- a new place blocks another command than an ACT for its gap, and what stood before blocks it as before
pub may_next : (h : Header) (t u : ℕ) (c : Command) (place : Issued) (log : Log) → is_act c ≡ false → MayFollow h.timing t c log → t ≤ u → place.clock + gap h.timing place.command c ≤ u → MayFollow h.timing u c (place ∷ log)
may_next h t u c place log other m more next = record {
  rises = (let g = gap_some h.timing place.command c in lt-ltb _ _ (omega arith));
  gaps = joined _ _ (le-leb _ _ next) (second_later h t u c log more m.gaps);
  window = rw other refl;
}

-- ---- Columns, precharges and what needs closed banks are no ACTs

pub column_other : (c : Command) → is_column c ≡ true → is_act c ≡ false
column_other (Act b r) h = absurd (cc)
column_other c h = refl

pub precharge_other : (c : Command) → is_precharge c ≡ true → is_act c ≡ false
precharge_other (Act b r) h = absurd (cc)
precharge_other c h = refl

pub closer_other : (c : Command) → needs_closed c ≡ true → is_act c ≡ false
closer_other (Act b r) h = absurd (cc)
closer_other c h = refl

-- ---- A task's commands: each comes by x, and leaves the later ones blocked for little

pub closing_start : (h : Header) (s now : ℕ) (log : Log) → 1 ≤ n_max h.timing → AllUpTo s log → last_clock log ≤ s → now ≤ s + 1 → Closing h log now (s + n_max h.timing)
closing_start h s now log some up below early = record {
  by_now = omega arith;
  columns = λ c k. may_from h s (s + n_max h.timing) c log up (omega arith) (omega arith);
  precharges = λ c k. may_from h s (s + n_max h.timing + n_pre h.timing) c log up (omega arith) (omega arith);
  closers = λ c k. may_from h s (s + n_max h.timing + n_pre h.timing + h.timing.nrp) c log up (omega arith) (omega arith);
}

pub closing_column : (h : Header) (now x : ℕ) (place : Issued) (log : Log) → is_column place.command ≡ true → IsSoonest h log now place.command place.clock → Closing h log now x → Closing h (place ∷ log) (place.clock + 1) (x + n_col h.timing)
closing_column h now x place log column at k = record {
  by_now = omega (arith, here, two);
  columns = λ c own.
      let g = gap_columns h.timing place.command c column own in
      may_next h x (x + n_col h.timing) c place log (column_other c own) (k.columns c own) (omega arith) (omega (arith, here));
  precharges = λ c own.
      let g = gap_column_precharge h.timing place.command c column own in
      may_next h (x + n_pre h.timing) (x + n_col h.timing + n_pre h.timing) c place log (precharge_other c own) (k.precharges c own) (omega arith) (omega (arith, here, two));
  closers = λ c own.
      let g = gap_column_closed h.timing place.command c column own in
      may_next h (x + n_pre h.timing + h.timing.nrp) (x + n_col h.timing + n_pre h.timing + h.timing.nrp) c place log (closer_other c own) (k.closers c own) (omega arith) (omega (arith, here, two, n_pre_two));
}
  where
    here : place.clock ≤ x
    here = at.least x k.by_now (k.columns place.command column)

    two : 2 ≤ n_col h.timing
    two = (col_parts h.timing).0

    n_pre_two : 2 ≤ n_pre h.timing
    n_pre_two = (pre_parts h.timing).0

pub precharge_then : (h : Header) (now x : ℕ) (place : Issued) (log : Log) → 1 ≤ h.timing.nrp → is_precharge place.command ≡ true → IsSoonest h log now place.command place.clock → Closing h log now x → (place.clock ≤ x + n_pre h.timing) × ((c : Command) → needs_closed c ≡ true → MayFollow h.timing (x + n_pre h.timing + h.timing.nrp) c (place ∷ log))
precharge_then h now x place log some precharge at k = (
  here,
  λ c own.
      let g = gap_precharge_any h.timing place.command c precharge in
      let most : max 1 h.timing.nrp ≤ h.timing.nrp = omega arith in
      may_next h (x + n_pre h.timing + h.timing.nrp) (x + n_pre h.timing + h.timing.nrp) c place log (closer_other c own) (k.closers c own) (omega arith) (omega (arith, here)),
)
  where
    here : place.clock ≤ x + n_pre h.timing
    here = let n = k.by_now in at.least (x + n_pre h.timing) (omega arith) (k.precharges place.command precharge)
