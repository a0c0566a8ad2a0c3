-- Between services: a request's three commands, and the RFMab that answers its alert; and where a service begins, goes over
-- to the other rank, and ends.
use Rattle.std.proofs.Common.{◌≡◌, ◌∙◌, ℕ, suc, ◌+◌, ◌*◌, ◌≤◌, ◌<◌, Bool, true, false, ◌⊎◌, inl, inr, refl, sym, ap, arith, max, cond, [], ◌∷◌, Option, Some, None}
use Rattle.std.proofs.Math.Nat.{mul-le-mul_right}
use Rattle.command_words.specs.declared.command.Command.{Command}
use Rattle.speed_bin.specs.declared.header.Header.{Header}
use Rattle.speed_bin.specs.Alert.{alert}
use Rattle.speed_bin.specs.Gap.{n_max}
use Rattle.command_words.specs.Kinds.{is_act}
use Rattle.speed_bin.specs.Log.{Issued, Log, refs, scrubs}
use Rattle.deadlines.specs.Pace.{others}
use Rattle.deadlines.specs.Rounds.{next_due, ecs_due, Rounds}
use Rattle.deadlines.proofs.Rounds.{is_plain, next_due_is, next_due_same, refs_plain, scrubs_plain}
use Rattle.deadlines.proofs.Refreshing.{ecs_same}
use Rattle.rank_bus.specs.Buses.{MayShare, IsEarliest}
use Rattle.pair_deadlines.specs.Before.{AllBefore}
use Rattle.pair_deadlines.specs.Budget.{Fast, budget, due, excess, spare}
use Rattle.pair_deadlines.specs.Serving.{first_of, IsWhole, Stage, Whole, Scrubbing, Turning, Looping}
use Rattle.pair_deadlines.specs.Standing.{RankKeeps, Between}
use Rattle.pair_deadlines.specs.Keeping.{lag_zero, joint_zero, chance_zero, lag_one, joint_one, chance_one}
use Rattle.pair_deadlines.proofs.Sharing.{before_more, may_soon, earliest_soon, share_later}
use Rattle.pair_deadlines.proofs.Measures.{due_is, due_same, due_whole, budget_plain, budget_swap, spare_swap, spare_most}

-- ---- A command that is neither REF nor ECS

pub record Plain (h : Header) (place : Issued) (own rest : Log) (now : ℕ) : Type 0 where
  pub fast : Fast h
  pub before : AllBefore now own
  pub rest_before : AllBefore now rest
  pub at : IsEarliest h own rest now place.command place.clock
  pub plain : is_plain place.command ≡ true

pub plain_soon : (h : Header) (place : Issued) (own rest : Log) (now : ℕ) → Plain h place own rest now → place.clock + 1 ≤ now + n_max h.timing
plain_soon h place own rest now p = earliest_soon h now place.clock place.command own rest p.fast p.before p.rest_before p.at

own_whole : (h : Header) (place : Issued) (own rest : Log) (now y : ℕ) → Plain h place own rest now → now ≤ y → IsWhole h own rest y → IsWhole h (place ∷ own) rest (y + 2 * n_max h.timing)
own_whole h place own rest now y p by w =
    let here = plain_soon h place own rest now p in
    let l = p.at.not_before in
    record {
      complete = refs_plain 0 place own p.plain ∙ w.complete ∙ sym (refs_plain 3 place own p.plain);
      scrubbed = ecs_same h place own (refs_plain 0 place own p.plain) (scrubs_plain place own p.plain) ∙ w.scrubbed;
      begins = may_soon h (place.clock + 1) (y + 2 * n_max h.timing) (first_of h.settings.refresh) (place ∷ own) rest p.fast
          (omega arith, before_more now (place.clock + 1) own (omega arith) p.before) (before_more now (place.clock + 1) rest (omega arith) p.rest_before) (omega arith);
    }

rest_whole : (h : Header) (place : Issued) (own rest : Log) (now y : ℕ) → Plain h place own rest now → now ≤ y → IsWhole h rest own y → IsWhole h rest (place ∷ own) (y + 2 * n_max h.timing)
rest_whole h place own rest now y p by w =
    let here = plain_soon h place own rest now p in
    let l = p.at.not_before in
    record {
      complete = w.complete;
      scrubbed = w.scrubbed;
      begins = may_soon h (place.clock + 1) (y + 2 * n_max h.timing) (first_of h.settings.refresh) rest (place ∷ own) p.fast
          (before_more now (place.clock + 1) rest (omega arith) p.rest_before) (omega arith, before_more now (place.clock + 1) own (omega arith) p.before) (omega arith);
    }

pub between_zero : (h : Header) (place : Issued) (r0 r1 : Log) (now idle n k m more left : ℕ) → Plain h place r0 r1 now → Between h r0 r1 now idle n k m
    → others (place ∷ r0) + others r1 + excess h (place ∷ r0) + excess h r1 + left ≤ 16 + 5 * more → Between h (place ∷ r0) r1 (place.clock + 1) idle more (suc k) left
between_zero h place r0 r1 now idle n k m more left p b few =
    let here = plain_soon h place r0 r1 now p in
    let by = b.by_now in
    record {
      y = b.y + 2 * n_max h.timing;
      by_now = omega arith;
      zero_whole = own_whole h place r0 r1 now b.y p b.by_now b.zero_whole;
      one_whole = rest_whole h place r0 r1 now b.y p b.by_now b.one_whole;
      pace = (let a = budget_plain h place r0 r1 idle p.plain in let c = b.pace in omega arith);
      zero_late = (let d = due_same h place r0 (refs_plain 0 place r0 p.plain) in let l = b.zero_late in omega arith);
      one_late = (let l = b.one_late in omega arith);
      few = few;
    }

pub between_one : (h : Header) (place : Issued) (r0 r1 : Log) (now idle n k m more left : ℕ) → Plain h place r1 r0 now → Between h r0 r1 now idle n k m
    → others r0 + others (place ∷ r1) + excess h r0 + excess h (place ∷ r1) + left ≤ 16 + 5 * more → Between h r0 (place ∷ r1) (place.clock + 1) idle more (suc k) left
between_one h place r0 r1 now idle n k m more left p b few =
    let here = plain_soon h place r1 r0 now p in
    let by = b.by_now in
    record {
      y = b.y + 2 * n_max h.timing;
      by_now = omega arith;
      zero_whole = rest_whole h place r1 r0 now b.y p b.by_now b.zero_whole;
      one_whole = own_whole h place r1 r0 now b.y p b.by_now b.one_whole;
      pace = (let a = budget_plain h place r1 r0 idle p.plain in let c = b.pace in let d = budget_swap h r0 r1 idle in let e = budget_swap h r0 (place ∷ r1) idle in omega arith);
      zero_late = (let l = b.zero_late in omega arith);
      one_late = (let d = due_same h place r1 (refs_plain 0 place r1 p.plain) in let l = b.one_late in omega arith);
      few = few;
    }

-- such a command comes in time for rule 6
few_commands : (h : Header) (k : ℕ) → k ≤ 3 → k * n_max h.timing ≤ 3 * n_max h.timing
few_commands h k low = mul-le-mul_right (n_max h.timing) low

pub zero_soon : (h : Header) (place : Issued) (r0 r1 : Log) (now idle n k m : ℕ) → Plain h place r0 r1 now → Between h r0 r1 now idle n k m → k ≤ 3 → place.clock < next_due h r0 + 3 * h.timing.nrefi
zero_soon h place r0 r1 now idle n k m p b low =
    let here = plain_soon h place r0 r1 now p in
    let l = b.zero_late in
    let d = due_whole h r0 b.zero_whole.complete in
    let q = p.fast.quick in
    let c = few_commands h k low in
    omega arith

pub one_soon : (h : Header) (place : Issued) (r0 r1 : Log) (now idle n k m : ℕ) → Plain h place r1 r0 now → Between h r0 r1 now idle n k m → k ≤ 3 → place.clock < next_due h r1 + 3 * h.timing.nrefi
one_soon h place r0 r1 now idle n k m p b low =
    let here = plain_soon h place r1 r0 now p in
    let l = b.one_late in
    let d = due_whole h r1 b.one_whole.complete in
    let q = p.fast.quick in
    let c = few_commands h k low in
    omega arith

-- ---- The service begins

-- the lesser of two clocks
record Lesser (a b : ℕ) : Type 0 where
  z : ℕ
  first : z ≤ a
  second : z ≤ b
  which : (z ≡ a) ⊎ (z ≡ b)

lesser : (a b : ℕ) → Lesser a b
lesser a b = go (cases a b)
  where
    cases : (m n : ℕ) → (m ≤ n) ⊎ (n ≤ m)
    cases m n = grind arith

    go : (a ≤ b) ⊎ (b ≤ a) → Lesser a b
    go (inl k) = record { z = a; first = omega arith; second = k; which = inl refl }
    go (inr k) = record { z = b; first = k; second = omega arith; which = inr refl }

whole_soon : (h : Header) (own rest : Log) (now y : ℕ) → Fast h → AllBefore now own → AllBefore now rest → IsWhole h own rest y → IsWhole h own rest (now + n_max h.timing)
whole_soon h own rest now y fast a b w = record {
  complete = w.complete;
  scrubbed = w.scrubbed;
  begins = may_soon h now (now + n_max h.timing) (first_of h.settings.refresh) own rest fast a b (omega arith);
}

-- a clock by which both can begin a round, and that is near to now
whole_lesser : (h : Header) (own rest : Log) (now y : ℕ) (l : Lesser y (now + n_max h.timing)) → Fast h → AllBefore now own → AllBefore now rest → IsWhole h own rest y → IsWhole h own rest l.z
whole_lesser h own rest now y l fast a b w = go l.which
  where
    go : (l.z ≡ y) ⊎ (l.z ≡ now + n_max h.timing) → IsWhole h own rest l.z
    go (inl e) = rw e w
    go (inr e) = rw e (whole_soon h own rest now y fast a b w)

by_lesser : (now y u : ℕ) → now ≤ y → (l : Lesser y (now + u)) → now ≤ l.z
by_lesser now y u by l = go l.which
  where
    go : (l.z ≡ y) ⊎ (l.z ≡ now + u) → now ≤ l.z
    go (inl e) = omega arith
    go (inr e) = omega arith

pub service_begins : (h : Header) (r0 r1 : Log) (now idle n k m : ℕ) → Fast h → AllBefore now r0 → AllBefore now r1 → Between h r0 r1 now idle n k m → k ≤ 4 → excess h r0 + excess h r1 ≤ 1
    → Looping h r0 r1 now idle n (lag_zero h) (joint_zero h) (chance_zero h)
service_begins h r0 r1 now idle n k m fast a b t few one_more = record {
  y = l.z;
  stage = Whole by (whole_lesser h r0 r1 now t.y l fast a b t.zero_whole);
  rest_whole = whole_lesser h r1 r0 now t.y l fast b a t.one_whole;
  pace = (let p = t.pace in omega (arith, first));
  late_whole = λ e. late;
  late = (let k = late in omega (arith, k));
  both_late = (let z = t.zero_late in let o = t.one_late in omega (arith, second, spared, commands));
  recent = inr (let o = t.one_late in omega (arith, second, spared, commands));
  few = (let f = t.few in omega arith);
  one = one_more;
}
  where
    l : Lesser t.y (now + n_max h.timing)
    l = lesser t.y (now + n_max h.timing)

    first : l.z ≤ t.y
    first = l.first

    second : l.z ≤ now + n_max h.timing
    second = l.second

    by : now ≤ l.z
    by = by_lesser now t.y (n_max h.timing) t.by_now l

    spared : spare h r0 r1 ≤ n_max h.timing
    spared = spare_most h r0 r1 one_more

    commands : k * n_max h.timing ≤ 4 * n_max h.timing
    commands = mul-le-mul_right (n_max h.timing) few

    late : 4 * l.z + 8 * spare h r0 r1 ≤ 4 * next_due h r0 + lag_zero h
    late = let z = t.zero_late in let d = due_whole h r0 t.zero_whole.complete in omega (arith, second, spared, commands)

-- ---- It goes over to the other rank, and ends

-- where neither an ECS nor a refresh is due, the round is complete
at_rest : (h : Header) (own rest : Log) (now y : ℕ) → ecs_due h own ≡ false → now < next_due h own → Stage h own rest now y → (now ≤ y) × IsWhole h own rest y
at_rest h own rest now y none early (Whole by w) = (by, w)
at_rest h own rest now y none early (Scrubbing x by room due may which) = absurd (cc)
at_rest h own rest now y none early (Turning g x some by room mode free past turn may) = absurd (omega arith)

pub service_turns : (h : Header) (r0 r1 : Log) (now idle n : ℕ) → Fast h → AllBefore now r0 → AllBefore now r1 → Looping h r0 r1 now idle n (lag_zero h) (joint_zero h) (chance_zero h)
    → ecs_due h r0 ≡ false → now < next_due h r0 → Looping h r1 r0 now idle n (lag_one h) (joint_one h) (chance_one h)
service_turns h r0 r1 now idle n fast a b t none early = record {
  y = l.z;
  stage = Whole by (whole_lesser h r1 r0 now t.y l fast b a t.rest_whole);
  rest_whole = whole_lesser h r0 r1 now t.y l fast a b rest.1;
  pace = (let p = t.pace in let e = budget_swap h r0 r1 idle in omega (arith, first));
  late_whole = λ e. late;
  late = (let k = late in omega (arith, k));
  both_late = (let k = late in omega (arith, second, spared, swapped, own_due, k, one_due));
  recent = inr (omega (arith, second, spared, swapped, own_due));
  few = (let f = t.few in omega arith);
  one = (let f = t.one in omega arith);
}
  where
    l : Lesser t.y (now + n_max h.timing)
    l = lesser t.y (now + n_max h.timing)

    rest : (now ≤ t.y) × IsWhole h r0 r1 t.y
    rest = at_rest h r0 r1 now t.y none early t.stage

    first : l.z ≤ t.y
    first = l.first

    second : l.z ≤ now + n_max h.timing
    second = l.second

    by : now ≤ l.z
    by = by_lesser now t.y (n_max h.timing) rest.0 l

    spared : spare h r0 r1 ≤ n_max h.timing
    spared = spare_most h r0 r1 t.one

    swapped : spare h r1 r0 ≡ spare h r0 r1
    swapped = spare_swap h r1 r0

    own_due : due h r0 ≡ next_due h r0
    own_due = due_whole h r0 rest.1.complete

    one_due : due h r1 ≡ next_due h r1
    one_due = due_whole h r1 t.rest_whole.complete

    quick : 8 * n_max h.timing + 64 ≤ h.timing.nrefi
    quick = fast.quick

    late : 4 * l.z + 8 * spare h r1 r0 ≤ 4 * next_due h r1 + lag_one h
    late = go t.recent
      where
        go : (due h r0 ≤ t.y + h.timing.nrefi) ⊎ (4 * t.y + 8 * spare h r0 r1 ≤ 4 * due h r1 + chance_zero h) → 4 * l.z + 8 * spare h r1 r0 ≤ 4 * next_due h r1 + lag_one h
        go (inl k) = let j = t.both_late in omega (arith, first, swapped, one_due, quick)
        go (inr k) = omega (arith, first, swapped, one_due, quick)

pub service_ends : (h : Header) (r0 r1 : Log) (now idle n : ℕ) → Fast h → Looping h r1 r0 now idle n (lag_one h) (joint_one h) (chance_one h)
    → ecs_due h r1 ≡ false → now < next_due h r1 → Between h r0 r1 now idle n 0 0
service_ends h r0 r1 now idle n fast t none early = record {
  y = t.y;
  by_now = rest.0;
  zero_whole = t.rest_whole;
  one_whole = rest.1;
  pace = (let p = t.pace in let e = budget_swap h r0 r1 idle in omega arith);
  zero_late = late t.recent;
  one_late = (let d = due_whole h r1 rest.1.complete in omega arith);
  few = (let f = t.few in omega arith);
}
  where
    rest : (now ≤ t.y) × IsWhole h r1 r0 t.y
    rest = at_rest h r1 r0 now t.y none early t.stage

    by : now ≤ t.y
    by = rest.0

    quick : 8 * n_max h.timing + 64 ≤ h.timing.nrefi
    quick = fast.quick

    late : (due h r1 ≤ t.y + h.timing.nrefi) ⊎ (4 * t.y + 8 * spare h r1 r0 ≤ 4 * due h r0 + chance_one h) → 4 * now ≤ 4 * due h r0 + 7 * h.timing.nrefi + 4 * (0 * n_max h.timing)
    late (inl k) = let j = t.both_late in omega (arith, by, quick)
    late (inr k) = omega (arith, by, quick)

-- ---- Waiting

pub between_waits : (h : Header) (r0 r1 : Log) (now clock idle n : ℕ) → Between h r0 r1 now idle n 0 0 → clock ≤ budget h r0 r1 idle → clock ≤ due h r0 → clock ≤ due h r1
    → Between h r0 r1 (max now clock) idle n 0 0
between_waits h r0 r1 now clock idle n b within early_zero early_one = record {
  y = max b.y clock;
  by_now = (let k = b.by_now in omega arith);
  zero_whole = later r0 r1 b.zero_whole;
  one_whole = later r1 r0 b.one_whole;
  pace = (let k = b.pace in omega arith);
  zero_late = (let k = b.zero_late in omega arith);
  one_late = (let k = b.one_late in omega arith);
  few = b.few;
}
  where
    later : (own rest : Log) → IsWhole h own rest b.y → IsWhole h own rest (max b.y clock)
    later own rest w = record { complete = w.complete; scrubbed = w.scrubbed; begins = share_later h b.y (max b.y clock) (first_of h.settings.refresh) own rest (omega arith) w.begins }
