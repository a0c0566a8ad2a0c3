-- What a command keeps that breaks no judged rule, and what a log keeps.
use Rattle.std.proofs.Common.{◌≡◌, ℕ, suc, ◌-◌, ◌<◌, ◌≤◌, ◌^◌, Bool, true, false, nat_lt, Option, Some, None, [], ◌∷◌, length, refl, arith, ltb-true}
use Rattle.bank_state.specs.Standing.{Fits}
use Rattle.command_words.specs.declared.command.Command.{Command}
use Rattle.refresh_plan.specs.Held.{Held as Plan}
use Rattle.refresh_plan.specs.Standing.{IsAllowed, StandsFor as PlanFor}
use Rattle.row_activity.specs.Counted.{MayCount}
use Rattle.row_activity.specs.Standing.{StandsFor as ActivityFor}
use Rattle.row_activity.specs.declared.activity.Activity.{Activity}
use Rattle.speed_bin.proofs.Audits.{all_pass}
use Rattle.speed_bin.specs.Log.{Log, last_clock}
use Rattle.speed_bin.specs.Marks.{Keeps as KeepsRules, KeepsAt, RowsInRange, stays_inside}
use Rattle.speed_bin.specs.Rules.{MayFollow, rule_1, verdict_after}
use Rattle.speed_bin.specs.declared.header.Header.{Header}
use Rattle.judged_logs.specs.Auditing.{ActivityWhere, MayTake, PlanWhere}
use Rattle.judged_logs.specs.Verdicts.{broken, rules_at, verdict, where_judged}
use Rattle.judged_logs.specs.declared.judged.Judged.{Judged}

-- a judged test that passes
judged_test : (j t : Bool) → where_judged j t ≡ true → j ≡ true → t ≡ true
judged_test true t e is = e
judged_test false t e is = absurd (never is)
  where
    never : false ≡ true → ⊥
    never e = cc

pub spaced : (j : Judged) (h : Header) (clock : ℕ) (command : Command) (log : Log) → MayTake j h clock command log → MayFollow h.timing clock command log
unfolding broken
spaced j h clock command log may =
    let k = all_pass 1 (rules_at j h clock command log) may.fine in
    record { rises = k.0; gaps = k.1.0; window = k.1.1.0 }

pub fits : (j : Judged) (h : Header) (clock : ℕ) (command : Command) (log : Log) → MayTake j h clock command log → Fits command log
unfolding broken
fits j h clock command log may =
    let k = all_pass 1 (rules_at j h clock command log) may.fine in
    record { fourth = k.1.1.1.0; fifth = k.1.1.1.1.0 }

pub allowed : (j : Judged) (h : Header) (clock : ℕ) (command : Command) (log : Log) → MayTake j h clock command log → j.refresh ≡ true → IsAllowed h clock command log
unfolding broken
allowed j h clock command log may is =
    let k = all_pass 1 (rules_at j h clock command log) may.fine in
    record {
      refreshes_in_time = judged_test j.refresh _ k.1.1.1.1.1.0 is;
      refreshes_evenly = judged_test j.refresh _ k.1.1.1.1.1.1.0 is;
      scrubs_in_step = judged_test j.refresh _ k.1.1.1.1.1.1.1.0 is;
    }

-- the five rules on which the bound on activations rests
kept : (j : Judged) (h : Header) (clock : ℕ) (command : Command) (log : Log) → stays_inside h command ≡ true → broken j h clock command log ≡ None → j.backoff ≡ true → KeepsAt h (record { clock = clock; command = command }) log
unfolding broken
kept j h clock command log inside fine is =
    let k = all_pass 1 (rules_at j h clock command log) fine in
    record {
      in_range = inside;
      first = k.0;
      second = k.1.0;
      fourth = k.1.1.1.0;
      fifth = k.1.1.1.1.0;
      twelfth = judged_test j.backoff _ k.1.1.1.1.1.1.1.1.1.1.1.0 is;
    }

pub may_count : (j : Judged) (h : Header) (clock : ℕ) (command : Command) (log : Log) → MayTake j h clock command log → j.backoff ≡ true → MayCount h clock command log
may_count j h clock command log may is = record {
  in_time = may.in_time;
  in_range = may.in_range;
  kept = kept j h clock command log may.inside may.fine is;
}

pub unbroken : (before : Option (ℕ × ℕ)) (place : ℕ) (fails : Option ℕ) → verdict_after before place fails ≡ None → (before ≡ None) × (fails ≡ None)
unbroken (Some breach) place fails h = absurd (cc)
unbroken None place None h = (refl, refl)
unbroken None place (Some number) h = absurd (cc)

-- a log without a verdict keeps them, where the alert is judged
pub fine_keeps : (j : Judged) (h : Header) (log : Log) → j.backoff ≡ true → RowsInRange h log → verdict j h log ≡ None → KeepsRules h log
fine_keeps j h [] is inside fine = tt
fine_keeps j h (place ∷ log) is inside fine =
    let p = unbroken (verdict j h log) _ _ fine in
    (fine_keeps j h log is inside.0 p.0, kept j h place.clock place.command log inside.1 p.1 is)

-- ---- How long a log is

longer : (n last clock : ℕ) → n ≤ suc last → nat_lt last clock ≡ true → suc n ≤ suc clock
longer n last clock short rises = let later = ltb-true last clock rises in omega (arith, later)

-- clocks rise, so a log has no more places than there are clocks up to its last
pub short_after : (clock : ℕ) (command : Command) (log : Log) → length log ≤ suc (last_clock log) → rule_1 clock log ≡ true → length (record { clock = clock; command = command } ∷ log) ≤ suc clock
short_after clock command [] short rises = omega arith
short_after clock command (place ∷ log) short rises = longer (length (place ∷ log)) place.clock clock short rises

pub short_enough : (n last : ℕ) → n ≤ suc last → last < 2 ^ 48 → n < 2 ^ 64 - 1
short_enough n last short small = omega arith

-- ---- Parts that are there where their group is judged

-- a plan that is there is judged
pub plan_there : (judged : Bool) (plan : Plan) (h : Header) (log : Log) → PlanWhere judged (Some plan) h log → (judged ≡ true) × PlanFor plan h log
plan_there true plan h log stands = (refl, stands)
plan_there false plan h log stands = absurd stands

pub plan_left_out : (judged : Bool) (h : Header) (log longer : Log) → PlanWhere judged None h log → PlanWhere judged None h longer
plan_left_out true h log longer stands = absurd stands
plan_left_out false h log longer stands = tt

pub activity_there : (judged : Bool) (activity : Activity) (h : Header) (log : Log) → ActivityWhere judged (Some activity) h log → (judged ≡ true) × ActivityFor activity h log
activity_there true activity h log stands = (refl, stands)
activity_there false activity h log stands = absurd stands

pub activity_left_out : (judged : Bool) (h : Header) (log longer : Log) → ActivityWhere judged None h log → ActivityWhere judged None h longer
activity_left_out true h log longer stands = absurd stands
activity_left_out false h log longer stands = tt
