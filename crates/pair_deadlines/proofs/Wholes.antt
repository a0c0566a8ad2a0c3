-- The service, waits, register writes, the start and the end.
use Rattle.std.proofs.Common.{◌≡◌, ◌∙◌, ℕ, zero, suc, ◌+◌, ◌*◌, ◌/◌, ◌≤◌, ◌<◌, ◌^◌, Bool, true, false, ◌⊎◌, inl, inr, refl, sym, ap, arith, max, List, [], ◌∷◌, length, Option, Some, None}
use Rattle.std.proofs.Math.Nat.{mul-le-mul_right, div-le_self}
use Rattle.command_words.specs.declared.command.Command.{Command}
use Rattle.command_words.specs.declared.command.Command.TheVariants.{RefAb, RefSb, RfmSb, Ecs, Mrw}
use Rattle.speed_bin.specs.declared.header.Header.{Header}
use Rattle.speed_bin.specs.Alert.{alert}
use Rattle.speed_bin.specs.Below.{all_below}
use Rattle.speed_bin.specs.Gap.{n_max, n_close}
use Rattle.speed_bin.specs.Header.{IsAccepted}
use Rattle.command_words.specs.Kinds.{is_act, is_precharge, is_mrw}
use Rattle.speed_bin.specs.Log.{Issued, Log, refs, scrubs, raa}
use Rattle.speed_bin.specs.Rules.{is_on_time, rule_13}
use Rattle.deadlines.specs.Pace.{others}
use Rattle.deadlines.specs.Rounds.{next_due, ecs_due}
use Rattle.deadlines.specs.Standing.{AllInTime}
use Rattle.deadlines.proofs.Rounds.{is_plain, next_due_is}
use Rattle.refresh_plan.specs.Debts.{IsNothingDue}
use Rattle.deadlines.proofs.Refreshing.{ecs_true}
use Rattle.deadlines.proofs.Due.{before_due}
use Rattle.deadlines.proofs.Phases.{stays_calm}
use Rattle.rank_bus.specs.Buses.{BusLog, part, other, MayShare, IsEarliest}
use Rattle.pair_deadlines.specs.Before.{AllBefore}
use Rattle.pair_deadlines.specs.Budget.{Fast, budget, due, excess}
use Rattle.pair_deadlines.specs.Serving.{first_of, IsWhole, Stage, Whole, Scrubbing, Turning, Serves, Scrubs, RefreshesAll, RefreshesSame, ManagesSame, Looping}
use Rattle.pair_deadlines.specs.Standing.{RankKeeps, Between}
use Rattle.pair_deadlines.specs.Keeping.{Phase, Writing, Resting, Opened, Accessed, Closed, Serving, Calm, IsFresh, IsAlerted, Writes, Lined, lag_zero, joint_zero, chance_zero, lag_one, joint_one, chance_one, State, Holds, Keeps}
use Rattle.rank_bus.specs.Service.{IsServedBy}
use Rattle.rank_bus.specs.declared.rank.Rank.{Rank}
use Rattle.rank_bus.specs.declared.rank.Rank.TheVariants.{Zero, One}
use Rattle.pair_deadlines.proofs.Sharing.{before_more, earliest_soon, share_empty}
use Rattle.pair_deadlines.proofs.Measures.{due_is, due_whole, others_plain, budget_grows, budget_swap, budget_idle, excess_other, excess_none, none_excess}
use Rattle.pair_deadlines.proofs.Sides.{side_later, rule_13_calm, end_at}
use Rattle.pair_deadlines.proofs.Turns.{Step, Stepped, step_next}
use Rattle.pair_deadlines.proofs.Lines.{Plain, plain_soon, service_turns, service_ends, between_waits}
use Rattle.pair_deadlines.proofs.Named.{served, Unserved, unserved}
use Rattle.pair_deadlines.proofs.Ends.{budget_bound, fast_of, max_small, small_end}
use Rattle.pair_deadlines.proofs.Steps.{opened, shut, Lines, Adds, line_zero, line_one, write_kind, some_interval}

-- ---- The service

served_no_precharge : (h : Header) (log : Log) (now : ℕ) (c : Command) → Serves h log now c → is_precharge c ≡ false
served_no_precharge h log now c (Scrubs e is) = rw is refl
served_no_precharge h log now c (RefreshesAll e past mode is) = rw is refl
served_no_precharge h log now c (RefreshesSame g e past mode turn is) = rw is refl
served_no_precharge h log now c (ManagesSame g b e early is low manages wanted) = rw is refl

pub serves : (h : Header) (bus : BusLog) (now until idle n : ℕ) (rank : Rank) (clock : ℕ) (command : Command) → Fast h → Keeps h bus now until idle n (Serving rank) → IsServedBy h (part rank bus) now (Some command)
    → IsEarliest h (part rank bus) (part (other rank) bus) now command clock → Keeps h (record { rank = rank; clock = clock; command = command } ∷ bus) (clock + 1) until idle n (Serving rank)
serves h bus now until idle n Zero clock command fast keeps named at =
    let x = opened h bus now until idle n (Serving Zero) keeps in
    let place : Issued = record { clock = clock; command = command } in
    let v = served h (part Zero bus) now command (some_interval h fast) x.zero_side.rounds named in
    let s : Step h place (part Zero bus) (part One bus) now idle n (lag_zero h) (joint_zero h) (chance_zero h) = record {
      fast = fast;
      enough = (let q = fast.quick in omega arith);
      side = x.zero_side;
      rest_before = x.one_side.before;
      calm = x.state.1.first;
      at = at;
      loop = x.state.0;
    } in
    let d = step_next h place (part Zero bus) (part One bus) now idle n (lag_zero h) (joint_zero h) (chance_zero h) s v in
    shut h (record { rank = Zero; clock = clock; command = command } ∷ bus) (clock + 1) until idle n (Serving Zero) (record {
      zero_side = d.side;
      one_side = side_later h (part One bus) now (clock + 1) (let l = at.not_before in omega arith) x.one_side;
      by_until = (let g = budget_grows h place (part Zero bus) (part One bus) idle in let u = x.by_until in omega arith);
      state = (d.loop, record { first = stays_calm h place (part Zero bus) (served_no_precharge h (part Zero bus) now command v) x.state.1.first; second = x.state.1.second });
    })
serves h bus now until idle n One clock command fast keeps named at =
    let x = opened h bus now until idle n (Serving One) keeps in
    let place : Issued = record { clock = clock; command = command } in
    let v = served h (part One bus) now command (some_interval h fast) x.one_side.rounds named in
    let s : Step h place (part One bus) (part Zero bus) now idle n (lag_one h) (joint_one h) (chance_one h) = record {
      fast = fast;
      enough = (let q = fast.quick in omega arith);
      side = x.one_side;
      rest_before = x.zero_side.before;
      calm = x.state.1.second;
      at = at;
      loop = x.state.0;
    } in
    let d = step_next h place (part One bus) (part Zero bus) now idle n (lag_one h) (joint_one h) (chance_one h) s v in
    shut h (record { rank = One; clock = clock; command = command } ∷ bus) (clock + 1) until idle n (Serving One) (record {
      zero_side = side_later h (part Zero bus) now (clock + 1) (let l = at.not_before in omega arith) x.zero_side;
      one_side = d.side;
      by_until = (let g = budget_grows h place (part One bus) (part Zero bus) idle in let a = budget_swap h (part Zero bus) (part One bus) idle in let b = budget_swap h (part Zero bus) (place ∷ part One bus) idle in let u = x.by_until in omega arith);
      state = (d.loop, record { first = x.state.1.first; second = stays_calm h place (part One bus) (served_no_precharge h (part One bus) now command v) x.state.1.second }, x.state.2);
    })

-- rank 0 is served, and rank 1 is next
pub turns : (h : Header) (bus : BusLog) (now until idle n : ℕ) → Fast h → Keeps h bus now until idle n (Serving Zero) → IsServedBy h (part Zero bus) now None → Keeps h bus now until idle n (Serving One)
turns h bus now until idle n fast keeps none =
    let x = opened h bus now until idle n (Serving Zero) keeps in
    let u = unserved h (part Zero bus) now (some_interval h fast) none in
    shut h bus now until idle n (Serving One) (record {
      zero_side = x.zero_side;
      one_side = x.one_side;
      by_until = x.by_until;
      state = (service_turns h (part Zero bus) (part One bus) now idle n fast x.zero_side.before x.one_side.before x.state.0 u.scrubbed u.early, x.state.1, u.unwanted);
    })

-- both are served
pub rests : (h : Header) (bus : BusLog) (now until idle n : ℕ) → Fast h → Keeps h bus now until idle n (Serving One) → IsServedBy h (part One bus) now None → Keeps h bus now until idle n Resting
rests h bus now until idle n fast keeps none =
    let x = opened h bus now until idle n (Serving One) keeps in
    let u = unserved h (part One bus) now (some_interval h fast) none in
    shut h bus now until idle n Resting (record {
      zero_side = x.zero_side;
      one_side = x.one_side;
      by_until = x.by_until;
      state = (
        record {
          between = service_ends h (part Zero bus) (part One bus) now idle n fast x.state.0 u.scrubbed u.early;
          few = (let a = u.unwanted in let b = x.state.2 in omega arith);
        },
        x.state.1,
      );
    })

-- ---- Waits

waits_by : (h : Header) (bus : BusLog) (now until idle n clock : ℕ) → Keeps h bus now until idle n Resting → clock ≤ until → clock ≤ next_due h (part Zero bus) → clock ≤ next_due h (part One bus) → Keeps h bus (max now clock) until idle n Resting
waits_by h bus now until idle n clock keeps within first second =
    let x = opened h bus now until idle n Resting keeps in
    let b = x.state.0.between in
    shut h bus (max now clock) until idle n Resting (record {
      zero_side = side_later h (part Zero bus) now (max now clock) (omega arith) x.zero_side;
      one_side = side_later h (part One bus) now (max now clock) (omega arith) x.one_side;
      by_until = x.by_until;
      state = (
        record {
          between = between_waits h (part Zero bus) (part One bus) now clock idle n b (let u = x.by_until in omega arith) (let d = due_whole h (part Zero bus) b.zero_whole.complete in omega arith) (let d = due_whole h (part One bus) b.one_whole.complete in omega arith);
          few = x.state.0.few;
        },
        x.state.1,
      );
    })

-- before each clock at which nothing is due, a refresh is not due
up_to_due : (h : Header) (log : Log) (clock : ℕ) → 0 < h.timing.nrefi → ((u : ℕ) → u < clock → IsNothingDue h u log) → clock ≤ next_due h log
up_to_due h log zero some nothing = omega arith
up_to_due h log (suc u) some nothing = let k = before_due h u log some (nothing u (omega arith)) in omega arith

-- now moves on to a clock that is not after the idle target, and before which nothing is due in either rank
pub waits : (h : Header) (bus : BusLog) (now until idle n clock : ℕ) → Fast h → Keeps h bus now until idle n Resting → clock ≤ until
    → ((u : ℕ) → u < clock → IsNothingDue h u (part Zero bus) × IsNothingDue h u (part One bus)) → Keeps h bus (max now clock) until idle n Resting
waits h bus now until idle n clock fast keeps within nothing = waits_by h bus now until idle n clock keeps within
    (up_to_due h (part Zero bus) clock (some_interval h fast) (λ u low. (nothing u low).0)) (up_to_due h (part One bus) clock (some_interval h fast) (λ u low. (nothing u low).1))

-- an idle line sets its target
pub idles : (h : Header) (bus : BusLog) (now until idle n clocks : ℕ) → Keeps h bus now until idle n Resting → Keeps h bus now (now + clocks) (idle + clocks) n Resting
idles h bus now until idle n clocks keeps =
    let x = opened h bus now until idle n Resting keeps in
    let b = x.state.0.between in
    let g = budget_idle h (part Zero bus) (part One bus) idle clocks in
    shut h bus now (now + clocks) (idle + clocks) n Resting (record {
      zero_side = x.zero_side;
      one_side = x.one_side;
      by_until = (let p = b.pace in let w = b.by_now in omega arith);
      state = (
        record {
          between = record {
            y = b.y;
            by_now = b.by_now;
            zero_whole = b.zero_whole;
            one_whole = b.one_whole;
            pace = (let p = b.pace in omega arith);
            zero_late = b.zero_late;
            one_late = b.one_late;
            few = b.few;
          };
          few = x.state.0.few;
        },
        x.state.1,
      );
    })

-- ---- The start, and the register writes

side_start : (h : Header) → RankKeeps h [] 0
side_start h = record {
  before = tt;
  rounds = record { first = omega arith; second = omega arith; third = omega arith; whole = omega arith };
  not_early = omega arith;
  scrubbed = λ some. omega arith;
  scrubs_soon = λ some. (let d = div-le_self 0 h.settings.ecs_every in omega arith);
  alike = λ all. refl;
  meets = tt;
}

no_scrub_due : (h : Header) → ecs_due h [] ≡ false
no_scrub_due h = go (ecs_due h []) refl
  where
    go : (x : Bool) → ecs_due h [] ≡ x → x ≡ false
    go true e = let p = ecs_true h [] e in let q = p.1 in let d = div-le_self 0 h.settings.ecs_every in absurd (omega arith)
    go false e = refl

whole_start : (h : Header) → IsWhole h [] [] 0
whole_start h = record { complete = refl; scrubbed = no_scrub_due h; begins = share_empty h 0 (first_of h.settings.refresh) }

none_start : (h : Header) → Fast h → excess h [] ≡ 0
none_start h fast = let s = fast.some_raaimt in excess_none h [] (λ b low. omega arith)

pub starts : (h : Header) → Fast h → Keeps h [] 0 0 0 0 Writing
starts h fast =
    let e = none_start h fast in
    shut h [] 0 0 0 0 Writing (record {
      zero_side = side_start h;
      one_side = side_start h;
      by_until = omega arith;
      state = record {
        count = 0;
        left = 16;
        counted = refl;
        sixteen = refl;
        between = record {
          y = 0;
          by_now = omega arith;
          zero_whole = whole_start h;
          one_whole = whole_start h;
          pace = omega arith;
          zero_late = omega arith;
          one_late = omega arith;
          few = omega arith;
        };
        by = omega arith;
        calm = record { first = refl; second = refl };
        none = omega arith;
      };
    })

-- a register write comes long before a refresh is due
write_soon : (h : Header) (own rest : Log) (place : Issued) (now count left : ℕ) → Fast h → Plain h place own rest now → now ≤ count * n_max h.timing → count + left ≡ 16 → 1 ≤ left → place.clock < next_due h own + 3 * h.timing.nrefi
write_soon h own rest place now count left fast p by sixteen some =
    let here = plain_soon h place own rest now p in
    let m : count * n_max h.timing ≤ 15 * n_max h.timing = mul-le-mul_right (n_max h.timing) (omega arith) in
    let q = fast.quick in
    omega arith

pub writes : (h : Header) (bus : BusLog) (now until idle n : ℕ) (rank : Rank) (clock : ℕ) (command : Command) → Fast h → Keeps h bus now until idle n Writing → length (part Zero bus) + length (part One bus) < 16 → is_mrw command ≡ true
    → IsEarliest h (part rank bus) (part (other rank) bus) now command clock → Keeps h (record { rank = rank; clock = clock; command = command } ∷ bus) (clock + 1) until idle n Writing
writes h bus now until idle n Zero clock command fast keeps fewer mrw at =
    let x = opened h bus now until idle n Writing keeps in
    let s = x.state in
    let kind = write_kind command mrw in
    let place : Issued = record { clock = clock; command = command } in
    let p : Plain h place (part Zero bus) (part One bus) now = record { fast = fast; before = x.zero_side.before; rest_before = x.one_side.before; at = at; plain = kind.0 } in
    let a : Adds h place (part Zero bus) (part One bus) now = record { fast = fast; at = at; plain = kind.0; thirteenth = rule_13_calm h clock (part Zero bus) s.calm.first } in
    let e = excess_other h place (part Zero bus) kind.1 in
    let o = others_plain place (part Zero bus) kind.0 in
    let f = s.between.few in
    let g = s.none in
    let c = s.counted in
    let d = s.sixteen in
    let r = less s.left (omega arith) in
    let t = r.1 in
    let l = line_zero h place (part Zero bus) (part One bus) now until idle n s.count s.left 0 n r.0 a (record { zero_side = x.zero_side; one_side = x.one_side; by_until = x.by_until; lined = record { between = s.between; few = omega arith } })
    (write_soon h (part Zero bus) (part One bus) place now s.count s.left fast p s.by s.sixteen (omega arith)) (omega arith) 0 (omega arith) in
    let here = plain_soon h place (part Zero bus) (part One bus) now p in
    let by = s.by in
    let none = l.lined.few in
    shut h (record { rank = Zero; clock = clock; command = command } ∷ bus) (clock + 1) until idle n Writing (record {
      zero_side = l.zero_side;
      one_side = l.one_side;
      by_until = l.by_until;
      state = record {
        count = suc s.count;
        left = r.0;
        counted = omega arith;
        sixteen = omega arith;
        between = l.lined.between;
        by = omega arith;
        calm = record { first = stays_calm h place (part Zero bus) kind.2 s.calm.first; second = s.calm.second };
        none = omega arith;
      };
    })
  where
    less : (m : ℕ) → 1 ≤ m → (k : ℕ) × (m ≡ suc k)
    less (suc k) some = (k, refl)
    less zero some = absurd (omega arith)
writes h bus now until idle n One clock command fast keeps fewer mrw at =
    let x = opened h bus now until idle n Writing keeps in
    let s = x.state in
    let kind = write_kind command mrw in
    let place : Issued = record { clock = clock; command = command } in
    let p : Plain h place (part One bus) (part Zero bus) now = record { fast = fast; before = x.one_side.before; rest_before = x.zero_side.before; at = at; plain = kind.0 } in
    let a : Adds h place (part One bus) (part Zero bus) now = record { fast = fast; at = at; plain = kind.0; thirteenth = rule_13_calm h clock (part One bus) s.calm.second } in
    let e = excess_other h place (part One bus) kind.1 in
    let o = others_plain place (part One bus) kind.0 in
    let f = s.between.few in
    let g = s.none in
    let c = s.counted in
    let d = s.sixteen in
    let r = less s.left (omega arith) in
    let t = r.1 in
    let l = line_one h place (part Zero bus) (part One bus) now until idle n s.count s.left 0 n r.0 a (record { zero_side = x.zero_side; one_side = x.one_side; by_until = x.by_until; lined = record { between = s.between; few = omega arith } })
    (write_soon h (part One bus) (part Zero bus) place now s.count s.left fast p s.by s.sixteen (omega arith)) (omega arith) 0 (omega arith) in
    let here = plain_soon h place (part One bus) (part Zero bus) now p in
    let by = s.by in
    let none = l.lined.few in
    shut h (record { rank = One; clock = clock; command = command } ∷ bus) (clock + 1) until idle n Writing (record {
      zero_side = l.zero_side;
      one_side = l.one_side;
      by_until = l.by_until;
      state = record {
        count = suc s.count;
        left = r.0;
        counted = omega arith;
        sixteen = omega arith;
        between = l.lined.between;
        by = omega arith;
        calm = record { first = s.calm.first; second = stays_calm h place (part One bus) kind.2 s.calm.second };
        none = omega arith;
      };
    })
  where
    less : (m : ℕ) → 1 ≤ m → (k : ℕ) × (m ≡ suc k)
    less (suc k) some = (k, refl)
    less zero some = absurd (omega arith)

-- all sixteen are written
pub written : (h : Header) (bus : BusLog) (now until idle n : ℕ) → Fast h → Keeps h bus now until idle n Writing → Keeps h bus now until idle n Resting
written h bus now until idle n fast keeps =
    let x = opened h bus now until idle n Writing keeps in
    let s = x.state in
    let b = s.between in
    let by = s.by in
    let d = s.sixteen in
    let m : s.count * n_max h.timing ≤ 16 * n_max h.timing = mul-le-mul_right (n_max h.timing) (omega arith) in
    let q = fast.quick in
    let u = due_is h (part Zero bus) in
    let v = due_is h (part One bus) in
    shut h bus now until idle n Resting (record {
      zero_side = x.zero_side;
      one_side = x.one_side;
      by_until = x.by_until;
      state = (
        record {
          between = record {
            y = b.y;
            by_now = b.by_now;
            zero_whole = b.zero_whole;
            one_whole = b.one_whole;
            pace = b.pace;
            zero_late = omega arith;
            one_late = omega arith;
            few = (let f = b.few in omega arith);
          };
          few = (let g = s.none in omega arith);
        },
        s.calm,
      );
    })

-- ---- What they keep

pub rules_kept : (h : Header) (bus : BusLog) (now until idle n : ℕ) (phase : Phase) (rank : Rank) → Keeps h bus now until idle n phase → AllInTime h (part rank bus)
rules_kept h bus now until idle n phase Zero keeps = (opened h bus now until idle n phase keeps).zero_side.meets
rules_kept h bus now until idle n phase One keeps = (opened h bus now until idle n phase keeps).one_side.meets

pub no_alert : (h : Header) (bus : BusLog) (now until idle n : ℕ) (rank : Rank) → Keeps h bus now until idle n Resting → alert h (part rank bus) ≡ None
no_alert h bus now until idle n Zero keeps = (opened h bus now until idle n Resting keeps).state.1.first
no_alert h bus now until idle n One keeps = (opened h bus now until idle n Resting keeps).state.1.second

-- rolling counts are below RAAIMT
pub low_counts : (h : Header) (bus : BusLog) (now until idle n : ℕ) (rank : Rank) (b : ℕ) → Fast h → Keeps h bus now until idle n Resting → b < 32 → raa h b (part rank bus) < h.settings.raaimt
low_counts h bus now until idle n Zero b fast keeps low = let f = (opened h bus now until idle n Resting keeps).state.0.few in none_excess h b (part Zero bus) fast.some_raaimt low (omega arith)
low_counts h bus now until idle n One b fast keeps low = let f = (opened h bus now until idle n Resting keeps).state.0.few in none_excess h b (part One bus) fast.some_raaimt low (omega arith)

-- rule 6 at the end
pub ends_in_time : (h : Header) (bus : BusLog) (now until idle n : ℕ) (rank : Rank) → Fast h → Keeps h bus now until idle n Resting → all_below 4 (λ i. is_on_time h now i (part rank bus)) ≡ true
ends_in_time h bus now until idle n Zero fast keeps =
    let x = opened h bus now until idle n Resting keeps in
    let b = x.state.0.between in
    end_at h now (part Zero bus) (some_interval h fast) x.zero_side.rounds x.zero_side.not_early
    (let l = b.zero_late in let d = due_whole h (part Zero bus) b.zero_whole.complete in let s = some_interval h fast in omega arith)
ends_in_time h bus now until idle n One fast keeps =
    let x = opened h bus now until idle n Resting keeps in
    let b = x.state.0.between in
    end_at h now (part One bus) (some_interval h fast) x.one_side.rounds x.one_side.not_early
    (let l = b.one_late in let d = due_whole h (part One bus) b.one_whole.complete in let s = some_interval h fast in omega arith)

-- ---- The bound on the end

record Reach (h : Header) (r0 r1 : Log) (now idle n : ℕ) : Type 0 where
  by : now ≤ budget h r0 r1 idle
  few : others r0 + others r1 ≤ 16 + 5 * n

between_reach : (h : Header) (r0 r1 : Log) (now idle n k m : ℕ) → Between h r0 r1 now idle n k m → Reach h r0 r1 now idle n
between_reach h r0 r1 now idle n k m b = record { by = (let w = b.by_now in let p = b.pace in omega arith); few = (let f = b.few in omega arith) }

stage_by : (h : Header) (own rest : Log) (now y : ℕ) → Stage h own rest now y → now ≤ y
stage_by h own rest now y (Whole by w) = by
stage_by h own rest now y (Scrubbing x by room due may which) = omega arith
stage_by h own rest now y (Turning g x some by room mode free past turn may) = let i = turn.inside in omega arith

reach : (h : Header) (r0 r1 : Log) (now idle n : ℕ) (phase : Phase) → State h r0 r1 now idle n phase → Reach h r0 r1 now idle n
reach h r0 r1 now idle n Writing s = between_reach h r0 r1 now idle n s.count s.left s.between
reach h r0 r1 now idle n Resting s = between_reach h r0 r1 now idle n 0 0 s.0.between
reach h r0 r1 now idle n (Opened rank) s = between_reach h r0 r1 now idle n 1 3 s.0.between
reach h r0 r1 now idle n (Accessed rank) s = between_reach h r0 r1 now idle n 2 2 s.0.between
reach h r0 r1 now idle n (Closed rank) s = between_reach h r0 r1 now idle n 3 1 s.0.between
reach h r0 r1 now idle n (Serving Zero) s = let t = s.0 in let b = stage_by h r0 r1 now t.y t.stage in record { by = (let p = t.pace in omega arith); few = (let f = t.few in omega arith) }
reach h r0 r1 now idle n (Serving One) s = let t = s.0 in let b = stage_by h r1 r0 now t.y t.stage in record { by = (let p = t.pace in let e = budget_swap h r1 r0 idle in omega arith); few = (let f = t.few in omega arith) }

budget_most : (h : Header) (bus : BusLog) (now until idle n : ℕ) (phase : Phase) → Fast h → (x : Holds h bus now until idle n phase) → budget h (part Zero bus) (part One bus) idle ≤ 2 * (idle + 12 * n_max h.timing * (n + 4))
budget_most h bus now until idle n phase fast x =
    let r = reach h (part Zero bus) (part One bus) now idle n phase x.state in
    budget_bound h (part Zero bus) (part One bus) now (budget h (part Zero bus) (part One bus) idle) idle n fast r.few x.zero_side.not_early x.one_side.not_early r.by (omega arith)

pub end_bound : (h : Header) (bus : BusLog) (now until idle n : ℕ) (phase : Phase) → Fast h → Keeps h bus now until idle n phase → now ≤ 2 * (idle + 12 * n_max h.timing * (n + 4))
end_bound h bus now until idle n phase fast keeps =
    let x = opened h bus now until idle n phase keeps in
    let r = reach h (part Zero bus) (part One bus) now idle n phase x.state in
    let b = r.by in
    let m = budget_most h bus now until idle n phase fast x in
    omega arith

pub target_bound : (h : Header) (bus : BusLog) (now until idle n : ℕ) (phase : Phase) → Fast h → Keeps h bus now until idle n phase → until ≤ 2 * (idle + 12 * n_max h.timing * (n + 4))
target_bound h bus now until idle n phase fast keeps =
    let x = opened h bus now until idle n phase keeps in
    let b = x.by_until in
    let m = budget_most h bus now until idle n phase fast x in
    omega arith

-- ---- Clocks are small

pub comes_soon : (h : Header) (bus : BusLog) (now until idle n : ℕ) (phase : Phase) (rank : Rank) (clock : ℕ) (command : Command) → Fast h → Keeps h bus now until idle n phase
    → IsEarliest h (part rank bus) (part (other rank) bus) now command clock → clock + 1 ≤ now + n_max h.timing
comes_soon h bus now until idle n phase Zero clock command fast keeps at =
    let x = opened h bus now until idle n phase keeps in
    earliest_soon h now clock command (part Zero bus) (part One bus) fast x.zero_side.before x.one_side.before at
comes_soon h bus now until idle n phase One clock command fast keeps at =
    let x = opened h bus now until idle n phase keeps in
    earliest_soon h now clock command (part One bus) (part Zero bus) fast x.one_side.before x.zero_side.before at

pub now_small : (h : Header) (bus : BusLog) (now until idle n : ℕ) (phase : Phase) → IsAccepted h → 16 * (n_max h.timing + n_close h.timing) ≤ 2 * h.timing.nrefi → Keeps h bus now until idle n phase → n ≤ 1048576 → idle ≤ 4294967296 → now < 2 ^ 40
now_small h bus now until idle n phase ok time keeps few short =
    small_end (n_max h.timing) n idle now (max_small h ok time) few short (end_bound h bus now until idle n phase (fast_of h ok time) keeps)

pub target_small : (h : Header) (bus : BusLog) (now until idle n : ℕ) (phase : Phase) → IsAccepted h → 16 * (n_max h.timing + n_close h.timing) ≤ 2 * h.timing.nrefi → Keeps h bus now until idle n phase → n ≤ 1048576 → idle ≤ 4294967296 → until < 2 ^ 40
target_small h bus now until idle n phase ok time keeps few short =
    small_end (n_max h.timing) n idle until (max_small h ok time) few short (target_bound h bus now until idle n phase (fast_of h ok time) keeps)
