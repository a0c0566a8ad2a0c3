-- Each step of the controller of two ranks keeps what its deadlines rest on.
use Rattle.std.proofs.Common.{◌≡◌, ◌∙◌, ℕ, suc, ◌+◌, ◌*◌, ◌/◌, ◌≤◌, ◌<◌, Bool, true, false, ◌&&◌, ◌||◌, ◌⊎◌, inl, inr, refl, sym, ap, arith, max, cond, List, [], ◌∷◌, length, Option, Some, None}
use Rattle.std.proofs.Math.Nat.{mul-le-mul_right, div-le_self}
use Rattle.command_words.specs.declared.command.Command.{Command}
use Rattle.command_words.specs.declared.command.Command.TheVariants.{Act, Rd, Wr, PrePb, PreSb, PreAb, RefAb, RefSb, RfmAb, RfmSb, Mrw, Ecs, Nop}
use Rattle.speed_bin.specs.declared.header.Header.{Header}
use Rattle.speed_bin.specs.Alert.{alert}
use Rattle.speed_bin.specs.Below.{all_below}
use Rattle.speed_bin.specs.Gap.{n_max, n_close, n_tail}
use Rattle.speed_bin.specs.Header.{IsAccepted}
use Rattle.command_words.specs.Kinds.{is_act, is_precharge, is_mrw}
use Rattle.speed_bin.specs.Log.{Issued, Log, refs, raa}
use Rattle.speed_bin.specs.Rules.{is_on_time, rule_13}
use Rattle.requests.specs.Owed.{is_column}
use Rattle.deadlines.specs.Pace.{others}
use Rattle.deadlines.specs.Rounds.{next_due, ecs_due, ecs_after, Rounds}
use Rattle.deadlines.specs.Standing.{AllInTime}
use Rattle.deadlines.specs.Timely.{IsTurnOf}
use Rattle.deadlines.proofs.Rounds.{is_plain, next_due_is}
use Rattle.deadlines.proofs.Phases.{stays_calm}
use Rattle.deadlines.proofs.Backoffs.{alert_new, alert_ends}
use Rattle.deadlines.proofs.Gaps.{gap_max}
use Rattle.rank_bus.specs.Buses.{BusLog, BusPlace, part, other, MayShare, IsEarliest}
use Rattle.pair_deadlines.specs.Before.{AllBefore}
use Rattle.pair_deadlines.specs.Budget.{Fast, budget, due, excess}
use Rattle.pair_deadlines.specs.Serving.{first_of, IsWhole, Stage, Whole, Scrubbing, Turning, Serves, Looping}
use Rattle.pair_deadlines.specs.Standing.{RankKeeps, Between}
use Rattle.pair_deadlines.specs.Keeping.{Phase, Writing, Resting, Opened, Accessed, Closed, Serving, Calm, IsFresh, IsAlerted, Writes, Lined, lag_zero, joint_zero, chance_zero, lag_one, joint_one, chance_one, State, Holds, Keeps}
use Rattle.rank_bus.specs.Service.{IsServedBy}
use Rattle.rank_bus.specs.declared.rank.Rank.{Rank}
use Rattle.rank_bus.specs.declared.rank.Rank.TheVariants.{Zero, One}
use Rattle.pair_deadlines.proofs.Sharing.{before_more, may_soon, share_later}
use Rattle.pair_deadlines.proofs.Measures.{due_is, due_whole, others_plain, budget_plain, budget_first, budget_swap, budget_idle, excess_other, excess_act, excess_none, none_excess}
use Rattle.pair_deadlines.proofs.Sides.{Fits, side_later, side_plain, rule_13_calm, rule_13_soon, end_at}
use Rattle.pair_deadlines.proofs.Turns.{Step, Stepped, step_next}
use Rattle.pair_deadlines.proofs.Lines.{Plain, plain_soon, between_zero, between_one, zero_soon, one_soon, service_begins, service_turns, service_ends, between_waits}
use Rattle.pair_deadlines.proofs.Named.{served, Unserved, unserved}
use Rattle.pair_deadlines.proofs.Ends.{budget_bound}

pub opened : (h : Header) (bus : BusLog) (now until idle n : ℕ) (phase : Phase) → Keeps h bus now until idle n phase → Holds h bus now until idle n phase
unfolding Keeps
opened h bus now until idle n phase k = k

pub shut : (h : Header) (bus : BusLog) (now until idle n : ℕ) (phase : Phase) → Holds h bus now until idle n phase → Keeps h bus now until idle n phase
unfolding Keeps
shut h bus now until idle n phase k = k

pub some_interval : (h : Header) → Fast h → 0 < h.timing.nrefi
some_interval h fast = let q = fast.quick in omega arith

-- ---- Kinds of commands

act_plain : (c : Command) → is_act c ≡ true → is_plain c ≡ true
unfolding is_plain
act_plain (Act b r) k = refl
act_plain c k = absurd (cc)

column_kind : (c : Command) → is_column c ≡ true → (is_plain c ≡ true) × (is_act c ≡ false) × (is_precharge c ≡ false)
unfolding is_plain
column_kind (Rd b k) h = (refl, refl, refl)
column_kind (Wr b k) h = (refl, refl, refl)
column_kind c h = absurd (cc)

precharge_kind : (c : Command) → is_precharge c ≡ true → (is_plain c ≡ true) × (is_act c ≡ false)
unfolding is_plain
precharge_kind (PrePb b) h = (refl, refl)
precharge_kind (PreSb a) h = (refl, refl)
precharge_kind PreAb h = (refl, refl)
precharge_kind c h = absurd (cc)

pub write_kind : (c : Command) → is_mrw c ≡ true → (is_plain c ≡ true) × (is_act c ≡ false) × (is_precharge c ≡ false)
unfolding is_plain
write_kind (Mrw w) h = (refl, refl, refl)
write_kind c h = absurd (cc)

rfm_kind : (c : Command) → c ≡ RfmAb → (is_plain c ≡ true) × (is_act c ≡ false)
unfolding is_plain
rfm_kind c e = (rw e refl, rw e refl)

act_no_precharge : (c : Command) → is_act c ≡ true → is_precharge c ≡ false
act_no_precharge (Act b r) k = refl
act_no_precharge c k = absurd (cc)

-- ---- Both logs between services, with the idle target

pub record Lines (h : Header) (r0 r1 : Log) (now until idle n k m most : ℕ) : Type 0 where
  pub zero_side : RankKeeps h r0 now
  pub one_side : RankKeeps h r1 now
  pub by_until : until ≤ budget h r0 r1 idle
  pub lined : Lined h r0 r1 now idle n k m most

-- one more command of a rank
pub record Adds (h : Header) (place : Issued) (own rest : Log) (now : ℕ) : Type 0 where
  pub fast : Fast h
  pub at : IsEarliest h own rest now place.command place.clock
  pub plain : is_plain place.command ≡ true
  pub thirteenth : rule_13 h place.clock own ≡ true

side_of : (h : Header) (place : Issued) (own rest : Log) (now : ℕ) → Adds h place own rest now → RankKeeps h own now → place.clock < next_due h own + 3 * h.timing.nrefi → RankKeeps h (place ∷ own) (place.clock + 1)
side_of h place own rest now a s soon = side_plain h place own now (record { side = s; some = some_interval h a.fast; later = a.at.not_before; soon = soon; thirteenth = a.thirteenth }) a.plain

pub line_zero : (h : Header) (place : Issued) (r0 r1 : Log) (now until idle n k m most more left : ℕ) → Adds h place r0 r1 now → Lines h r0 r1 now until idle n k m most → place.clock < next_due h r0 + 3 * h.timing.nrefi
    → others (place ∷ r0) + others r1 + excess h (place ∷ r0) + excess h r1 + left ≤ 16 + 5 * more → (next : ℕ) → excess h (place ∷ r0) + excess h r1 ≤ next → Lines h (place ∷ r0) r1 (place.clock + 1) until idle more (suc k) left next
line_zero h place r0 r1 now until idle n k m most more left a l soon few next one =
    let b = l.lined.between in
    let p : Plain h place r0 r1 now = record { fast = a.fast; before = l.zero_side.before; rest_before = l.one_side.before; at = a.at; plain = a.plain } in
    record {
      zero_side = side_of h place r0 r1 now a l.zero_side soon;
      one_side = side_later h r1 now (place.clock + 1) (let x = a.at.not_before in omega arith) l.one_side;
      by_until = (let x = budget_plain h place r0 r1 idle a.plain in let y = l.by_until in omega arith);
      lined = record { between = between_zero h place r0 r1 now idle n k m more left p b few; few = one };
    }

pub line_one : (h : Header) (place : Issued) (r0 r1 : Log) (now until idle n k m most more left : ℕ) → Adds h place r1 r0 now → Lines h r0 r1 now until idle n k m most → place.clock < next_due h r1 + 3 * h.timing.nrefi
    → others r0 + others (place ∷ r1) + excess h r0 + excess h (place ∷ r1) + left ≤ 16 + 5 * more → (next : ℕ) → excess h r0 + excess h (place ∷ r1) ≤ next → Lines h r0 (place ∷ r1) (place.clock + 1) until idle more (suc k) left next
line_one h place r0 r1 now until idle n k m most more left a l soon few next one =
    let b = l.lined.between in
    let p : Plain h place r1 r0 now = record { fast = a.fast; before = l.one_side.before; rest_before = l.zero_side.before; at = a.at; plain = a.plain } in
    record {
      zero_side = side_later h r0 now (place.clock + 1) (let x = a.at.not_before in omega arith) l.zero_side;
      one_side = side_of h place r1 r0 now a l.one_side soon;
      by_until = (let x = budget_plain h place r1 r0 idle a.plain in let y = l.by_until in let u = budget_swap h r0 r1 idle in let v = budget_swap h r0 (place ∷ r1) idle in omega arith);
      lined = record { between = between_one h place r0 r1 now idle n k m more left p b few; few = one };
    }

soon_zero : (h : Header) (place : Issued) (r0 r1 : Log) (now until idle n k m most : ℕ) → Adds h place r0 r1 now → Lines h r0 r1 now until idle n k m most → k ≤ 3 → place.clock < next_due h r0 + 3 * h.timing.nrefi
soon_zero h place r0 r1 now until idle n k m most a l low =
    zero_soon h place r0 r1 now idle n k m (record { fast = a.fast; before = l.zero_side.before; rest_before = l.one_side.before; at = a.at; plain = a.plain }) l.lined.between low

soon_one : (h : Header) (place : Issued) (r0 r1 : Log) (now until idle n k m most : ℕ) → Adds h place r1 r0 now → Lines h r0 r1 now until idle n k m most → k ≤ 3 → place.clock < next_due h r1 + 3 * h.timing.nrefi
soon_one h place r0 r1 now until idle n k m most a l low =
    one_soon h place r0 r1 now idle n k m (record { fast = a.fast; before = l.one_side.before; rest_before = l.zero_side.before; at = a.at; plain = a.plain }) l.lined.between low

-- one that is no ACT
more_zero : (h : Header) (place : Issued) (r0 r1 : Log) (now until idle n k left most : ℕ) → Adds h place r0 r1 now → Lines h r0 r1 now until idle n k (suc left) most → k ≤ 3 → is_act place.command ≡ false → Lines h (place ∷ r0) r1 (place.clock + 1) until idle n (suc k) left most
more_zero h place r0 r1 now until idle n k left most a l low other =
    let e = excess_other h place r0 other in
    let o = others_plain place r0 a.plain in
    let f = l.lined.between.few in
    let g = l.lined.few in
    line_zero h place r0 r1 now until idle n k (suc left) most n left a l (soon_zero h place r0 r1 now until idle n k (suc left) most a l low) (omega arith) most (omega arith)

more_one : (h : Header) (place : Issued) (r0 r1 : Log) (now until idle n k left most : ℕ) → Adds h place r1 r0 now → Lines h r0 r1 now until idle n k (suc left) most → k ≤ 3 → is_act place.command ≡ false → Lines h r0 (place ∷ r1) (place.clock + 1) until idle n (suc k) left most
more_one h place r0 r1 now until idle n k left most a l low other =
    let e = excess_other h place r1 other in
    let o = others_plain place r1 a.plain in
    let f = l.lined.between.few in
    let g = l.lined.few in
    line_one h place r0 r1 now until idle n k (suc left) most n left a l (soon_one h place r0 r1 now until idle n k (suc left) most a l low) (omega arith) most (omega arith)

act_zero : (h : Header) (place : Issued) (r0 r1 : Log) (now until idle n : ℕ) → Adds h place r0 r1 now → Lines h r0 r1 now until idle n 0 0 0 → is_act place.command ≡ true → Lines h (place ∷ r0) r1 (place.clock + 1) until idle (suc n) 1 3 1
act_zero h place r0 r1 now until idle n a l act =
    let e = excess_act h place r0 act in
    let o = others_plain place r0 a.plain in
    let f = l.lined.between.few in
    let g = l.lined.few in
    line_zero h place r0 r1 now until idle n 0 0 0 (suc n) 3 a l (soon_zero h place r0 r1 now until idle n 0 0 0 a l (omega arith)) (omega arith) 1 (omega arith)

act_one : (h : Header) (place : Issued) (r0 r1 : Log) (now until idle n : ℕ) → Adds h place r1 r0 now → Lines h r0 r1 now until idle n 0 0 0 → is_act place.command ≡ true → Lines h r0 (place ∷ r1) (place.clock + 1) until idle (suc n) 1 3 1
act_one h place r0 r1 now until idle n a l act =
    let e = excess_act h place r1 act in
    let o = others_plain place r1 a.plain in
    let f = l.lined.between.few in
    let g = l.lined.few in
    line_one h place r0 r1 now until idle n 0 0 0 (suc n) 3 a l (soon_one h place r0 r1 now until idle n 0 0 0 a l (omega arith)) (omega arith) 1 (omega arith)

-- ---- Steps of a request

lines_of : (h : Header) (bus : BusLog) (now until idle n : ℕ) (phase : Phase) (k m most : ℕ) → Holds h bus now until idle n phase → Lined h (part Zero bus) (part One bus) now idle n k m most → Lines h (part Zero bus) (part One bus) now until idle n k m most
lines_of h bus now until idle n phase k m most x l = record { zero_side = x.zero_side; one_side = x.one_side; by_until = x.by_until; lined = l }

pub activates : (h : Header) (bus : BusLog) (now until idle n : ℕ) (rank : Rank) (clock : ℕ) (command : Command) → Fast h → Keeps h bus now until idle n Resting → is_act command ≡ true
    → IsEarliest h (part rank bus) (part (other rank) bus) now command clock → Keeps h (record { rank = rank; clock = clock; command = command } ∷ bus) (clock + 1) until idle (suc n) (Opened rank)
activates h bus now until idle n Zero clock command fast keeps act at =
    let x = opened h bus now until idle n Resting keeps in
    let s = x.state in
    let place : Issued = record { clock = clock; command = command } in
    let a : Adds h place (part Zero bus) (part One bus) now = record { fast = fast; at = at; plain = act_plain command act; thirteenth = rule_13_calm h clock (part Zero bus) s.1.first } in
    let l = act_zero h place (part Zero bus) (part One bus) now until idle n a (lines_of h bus now until idle n Resting 0 0 0 x s.0) act in
    shut h (record { rank = Zero; clock = clock; command = command } ∷ bus) (clock + 1) until idle (suc n) (Opened Zero) (record {
      zero_side = l.zero_side;
      one_side = l.one_side;
      by_until = l.by_until;
      state = (l.lined, record { first = stays_calm h place (part Zero bus) (act_no_precharge command act) s.1.first; second = s.1.second });
    })
activates h bus now until idle n One clock command fast keeps act at =
    let x = opened h bus now until idle n Resting keeps in
    let s = x.state in
    let place : Issued = record { clock = clock; command = command } in
    let a : Adds h place (part One bus) (part Zero bus) now = record { fast = fast; at = at; plain = act_plain command act; thirteenth = rule_13_calm h clock (part One bus) s.1.second } in
    let l = act_one h place (part Zero bus) (part One bus) now until idle n a (lines_of h bus now until idle n Resting 0 0 0 x s.0) act in
    shut h (record { rank = One; clock = clock; command = command } ∷ bus) (clock + 1) until idle (suc n) (Opened One) (record {
      zero_side = l.zero_side;
      one_side = l.one_side;
      by_until = l.by_until;
      state = (l.lined, record { first = s.1.first; second = stays_calm h place (part One bus) (act_no_precharge command act) s.1.second });
    })

pub accesses : (h : Header) (bus : BusLog) (now until idle n : ℕ) (rank : Rank) (clock : ℕ) (command : Command) → Fast h → Keeps h bus now until idle n (Opened rank) → is_column command ≡ true
    → IsEarliest h (part rank bus) (part (other rank) bus) now command clock → Keeps h (record { rank = rank; clock = clock; command = command } ∷ bus) (clock + 1) until idle n (Accessed rank)
accesses h bus now until idle n Zero clock command fast keeps column at =
    let x = opened h bus now until idle n (Opened Zero) keeps in
    let s = x.state in
    let kind = column_kind command column in
    let place : Issued = record { clock = clock; command = command } in
    let a : Adds h place (part Zero bus) (part One bus) now = record { fast = fast; at = at; plain = kind.0; thirteenth = rule_13_calm h clock (part Zero bus) s.1.first } in
    let l = more_zero h place (part Zero bus) (part One bus) now until idle n 1 2 1 a (lines_of h bus now until idle n (Opened Zero) 1 3 1 x s.0) (omega arith) kind.1 in
    shut h (record { rank = Zero; clock = clock; command = command } ∷ bus) (clock + 1) until idle n (Accessed Zero) (record {
      zero_side = l.zero_side;
      one_side = l.one_side;
      by_until = l.by_until;
      state = (l.lined, record { first = stays_calm h place (part Zero bus) kind.2 s.1.first; second = s.1.second });
    })
accesses h bus now until idle n One clock command fast keeps column at =
    let x = opened h bus now until idle n (Opened One) keeps in
    let s = x.state in
    let kind = column_kind command column in
    let place : Issued = record { clock = clock; command = command } in
    let a : Adds h place (part One bus) (part Zero bus) now = record { fast = fast; at = at; plain = kind.0; thirteenth = rule_13_calm h clock (part One bus) s.1.second } in
    let l = more_one h place (part Zero bus) (part One bus) now until idle n 1 2 1 a (lines_of h bus now until idle n (Opened One) 1 3 1 x s.0) (omega arith) kind.1 in
    shut h (record { rank = One; clock = clock; command = command } ∷ bus) (clock + 1) until idle n (Accessed One) (record {
      zero_side = l.zero_side;
      one_side = l.one_side;
      by_until = l.by_until;
      state = (l.lined, record { first = s.1.first; second = stays_calm h place (part One bus) kind.2 s.1.second });
    })

-- an alert after a precharge is its own
fresh_after : (h : Header) (place : Issued) (log : Log) → alert h log ≡ None → IsFresh h (place ∷ log) (place.clock + 1)
fresh_after h place log none a raised = go (alert_new h a place log raised)
  where
    go : (alert h log ≡ Some a) ⊎ ((a ≡ place.clock) × (alert h log ≡ None)) → place.clock + 1 ≡ a + 1
    go (inl old) = absurd (cc)
    go (inr p) = let e = p.0 in omega arith

pub closes : (h : Header) (bus : BusLog) (now until idle n : ℕ) (rank : Rank) (clock : ℕ) (command : Command) → Fast h → Keeps h bus now until idle n (Accessed rank) → is_precharge command ≡ true
    → IsEarliest h (part rank bus) (part (other rank) bus) now command clock → Keeps h (record { rank = rank; clock = clock; command = command } ∷ bus) (clock + 1) until idle n (Closed rank)
closes h bus now until idle n Zero clock command fast keeps precharge at =
    let x = opened h bus now until idle n (Accessed Zero) keeps in
    let s = x.state in
    let kind = precharge_kind command precharge in
    let place : Issued = record { clock = clock; command = command } in
    let a : Adds h place (part Zero bus) (part One bus) now = record { fast = fast; at = at; plain = kind.0; thirteenth = rule_13_calm h clock (part Zero bus) s.1.first } in
    let l = more_zero h place (part Zero bus) (part One bus) now until idle n 2 1 1 a (lines_of h bus now until idle n (Accessed Zero) 2 2 1 x s.0) (omega arith) kind.1 in
    shut h (record { rank = Zero; clock = clock; command = command } ∷ bus) (clock + 1) until idle n (Closed Zero) (record {
      zero_side = l.zero_side;
      one_side = l.one_side;
      by_until = l.by_until;
      state = (l.lined, (fresh_after h place (part Zero bus) s.1.first, s.1.second));
    })
closes h bus now until idle n One clock command fast keeps precharge at =
    let x = opened h bus now until idle n (Accessed One) keeps in
    let s = x.state in
    let kind = precharge_kind command precharge in
    let place : Issued = record { clock = clock; command = command } in
    let a : Adds h place (part One bus) (part Zero bus) now = record { fast = fast; at = at; plain = kind.0; thirteenth = rule_13_calm h clock (part One bus) s.1.second } in
    let l = more_one h place (part Zero bus) (part One bus) now until idle n 2 1 1 a (lines_of h bus now until idle n (Accessed One) 2 2 1 x s.0) (omega arith) kind.1 in
    shut h (record { rank = One; clock = clock; command = command } ∷ bus) (clock + 1) until idle n (Closed One) (record {
      zero_side = l.zero_side;
      one_side = l.one_side;
      by_until = l.by_until;
      state = (l.lined, (fresh_after h place (part One bus) s.1.second, s.1.first));
    })

-- ---- Where a service begins

begun : (h : Header) (bus : BusLog) (now until idle n k m most : ℕ) → Fast h → Lines h (part Zero bus) (part One bus) now until idle n k m most → k ≤ 4 → most ≤ 1 → Calm h (part Zero bus) (part One bus) → Keeps h bus now until idle n (Serving Zero)
begun h bus now until idle n k m most fast l low one calm = shut h bus now until idle n (Serving Zero) (record {
  zero_side = l.zero_side;
  one_side = l.one_side;
  by_until = l.by_until;
  state = (service_begins h (part Zero bus) (part One bus) now idle n k m fast l.zero_side.before l.one_side.before l.lined.between low (let f = l.lined.few in omega arith), calm);
})

pub begins : (h : Header) (bus : BusLog) (now until idle n : ℕ) → Fast h → Keeps h bus now until idle n Resting → Keeps h bus now until idle n (Serving Zero)
begins h bus now until idle n fast keeps =
    let x = opened h bus now until idle n Resting keeps in
    begun h bus now until idle n 0 0 0 fast (lines_of h bus now until idle n Resting 0 0 0 x x.state.0) (omega arith) (omega arith) x.state.1

-- no alert was raised
pub unanswered : (h : Header) (bus : BusLog) (now until idle n : ℕ) (rank : Rank) → Fast h → Keeps h bus now until idle n (Closed rank) → alert h (part rank bus) ≡ None → Keeps h bus now until idle n (Serving Zero)
unanswered h bus now until idle n Zero fast keeps none =
    let x = opened h bus now until idle n (Closed Zero) keeps in
    let s = x.state in
    begun h bus now until idle n 3 1 1 fast (lines_of h bus now until idle n (Closed Zero) 3 1 1 x s.0) (omega arith) (omega arith) (record { first = none; second = s.1.1 })
unanswered h bus now until idle n One fast keeps none =
    let x = opened h bus now until idle n (Closed One) keeps in
    let s = x.state in
    begun h bus now until idle n 3 1 1 fast (lines_of h bus now until idle n (Closed One) 3 1 1 x s.0) (omega arith) (omega arith) (record { first = s.1.1; second = none })

alert_window : (h : Header) (place : Issued) (own rest : Log) (now : ℕ) → Plain h place own rest now → IsFresh h own now → rule_13 h place.clock own ≡ true
alert_window h place own rest now p fresh = go (alert h own) refl
  where
    go : (o : Option ℕ) → alert h own ≡ o → rule_13 h place.clock own ≡ true
    go None e = rule_13_calm h place.clock own e
    go (Some a) e =
        let here = plain_soon h place own rest now p in
        let k = fresh a e in
        rule_13_soon h place.clock a own e (omega arith)

-- an alert is answered by an RFMab
pub answers : (h : Header) (bus : BusLog) (now until idle n : ℕ) (rank : Rank) (clock : ℕ) (command : Command) → Fast h → Keeps h bus now until idle n (Closed rank) → command ≡ RfmAb
    → IsEarliest h (part rank bus) (part (other rank) bus) now command clock → Keeps h (record { rank = rank; clock = clock; command = command } ∷ bus) (clock + 1) until idle n (Serving Zero)
answers h bus now until idle n Zero clock command fast keeps is at =
    let x = opened h bus now until idle n (Closed Zero) keeps in
    let s = x.state in
    let kind = rfm_kind command is in
    let place : Issued = record { clock = clock; command = command } in
    let p : Plain h place (part Zero bus) (part One bus) now = record { fast = fast; before = x.zero_side.before; rest_before = x.one_side.before; at = at; plain = kind.0 } in
    let a : Adds h place (part Zero bus) (part One bus) now = record { fast = fast; at = at; plain = kind.0; thirteenth = alert_window h place (part Zero bus) (part One bus) now p s.1.0 } in
    let l = more_zero h place (part Zero bus) (part One bus) now until idle n 3 0 1 a (lines_of h bus now until idle n (Closed Zero) 3 1 1 x s.0) (omega arith) kind.1 in
    begun h (record { rank = Zero; clock = clock; command = command } ∷ bus) (clock + 1) until idle n 4 0 1 fast l (omega arith) (omega arith) (record { first = alert_ends h place (part Zero bus) (rw is refl); second = s.1.1 })
answers h bus now until idle n One clock command fast keeps is at =
    let x = opened h bus now until idle n (Closed One) keeps in
    let s = x.state in
    let kind = rfm_kind command is in
    let place : Issued = record { clock = clock; command = command } in
    let p : Plain h place (part One bus) (part Zero bus) now = record { fast = fast; before = x.one_side.before; rest_before = x.zero_side.before; at = at; plain = kind.0 } in
    let a : Adds h place (part One bus) (part Zero bus) now = record { fast = fast; at = at; plain = kind.0; thirteenth = alert_window h place (part One bus) (part Zero bus) now p s.1.0 } in
    let l = more_one h place (part Zero bus) (part One bus) now until idle n 3 0 1 a (lines_of h bus now until idle n (Closed One) 3 1 1 x s.0) (omega arith) kind.1 in
    begun h (record { rank = One; clock = clock; command = command } ∷ bus) (clock + 1) until idle n 4 0 1 fast l (omega arith) (omega arith) (record { first = s.1.1; second = alert_ends h place (part One bus) (rw is refl) })
