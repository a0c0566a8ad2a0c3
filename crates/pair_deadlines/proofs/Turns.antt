-- One command of the service of a rank.
use Rattle.std.proofs.Common.{◌≡◌, ◌≢◌, ◌∙◌, ℕ, zero, suc, ◌+◌, ◌*◌, ◌≤◌, ◌<◌, Bool, true, false, ◌⊎◌, inl, inr, refl, sym, ap, subst, arith, max, [], ◌∷◌, Option, Some, None}
use Rattle.command_words.specs.declared.command.Command.{Command}
use Rattle.command_words.specs.declared.command.Command.TheVariants.{Act, Rd, Wr, RefAb, RefSb, RfmSb, RfmAb, Ecs, Mrw}
use Rattle.speed_bin.specs.declared.header.Header.{Header}
use Rattle.speed_bin.specs.declared.settings.RefreshMode.{RefreshMode}
use Rattle.speed_bin.specs.declared.settings.RefreshMode.TheVariants.{All, Same}
use Rattle.speed_bin.specs.Alert.{alert}
use Rattle.speed_bin.specs.Gap.{gap, n_max}
use Rattle.command_words.specs.Kinds.{Manages, effect, is_act, is_mrw, is_scrub, needs_closed}
use Rattle.speed_bin.specs.Log.{Issued, Log, refs, scrubs, raa}
use Rattle.deadlines.specs.Pace.{others, is_other}
use Rattle.deadlines.specs.Rounds.{next_due, ecs_due, Rounds}
use Rattle.deadlines.specs.Timely.{IsTurnOf}
use Rattle.deadlines.proofs.Rounds.{is_plain, next_due_is, next_due_same, next_due_more, refs_all, refs_own, refs_other, refs_plain, refs_scrub, scrubs_plain, scrubs_scrub, scrubs_all, scrubs_same}
use Rattle.deadlines.proofs.Refreshing.{ecs_same, ecs_done, NextTurn, next_turn, Complete, complete_same, complete_all, complete_rounds}
use Rattle.rank_bus.specs.Buses.{gap_to_any, bus_gap, MayShare, IsEarliest}
use Rattle.pair_deadlines.specs.Before.{AllBefore}
use Rattle.pair_deadlines.specs.Budget.{Fast, budget, due, excess, spare}
use Rattle.pair_deadlines.specs.Serving.{first_of, IsWhole, Stage, Whole, Scrubbing, Turning, Serves, Scrubs, RefreshesAll, RefreshesSame, ManagesSame, Looping}
use Rattle.pair_deadlines.specs.Standing.{RankKeeps}
use Rattle.pair_deadlines.proofs.Sharing.{before_more, may_soon, earliest_soon, share_later, share_own, share_rest, gap_apart}
use Rattle.pair_deadlines.proofs.Measures.{due_is, due_same, due_more, due_whole, others_plain, others_same, budget_plain, budget_first, budget_same, excess_other, excess_managed, spare_fewer, spare_one_fewer, spare_most}
use Rattle.pair_deadlines.proofs.Sides.{Fits, side_plain, side_scrub, side_refresh, rule_13_calm}

-- ---- Whose turn it is

turn_zero : (g : ℕ) (log : Log) → IsTurnOf g log → refs 0 log ≡ refs 3 log → g ≡ 0
turn_zero zero log t same = refl
turn_zero (suc g) log t same = absurd (let e = t.earlier 0 (omega arith) in omega arith)

turn_same : (g i : ℕ) (log : Log) → IsTurnOf g log → IsTurnOf i log → g ≡ i
turn_same g i log a b = go (cases g i)
  where
    cases : (m n : ℕ) → (m < n) ⊎ ((m ≡ n) ⊎ (n < m))
    cases m n = grind arith

    go : (g < i) ⊎ ((g ≡ i) ⊎ (i < g)) → g ≡ i
    go (inl low) = absurd (let e = b.earlier g low in let w = a.waits in omega arith)
    go (inr (inl e)) = e
    go (inr (inr low)) = absurd (let e = a.earlier i low in let w = b.waits in omega arith)

-- an address later in the round waits as well
waits_after : (g : ℕ) (log : Log) → Rounds log → IsTurnOf g log → g < 3 → refs (suc g) log ≡ refs 3 log
waits_after zero log r t low = let w = t.waits in let a = r.first in let b = r.second in let c = r.third in omega arith
waits_after (suc zero) log r t low = let w = t.waits in let a = r.first in let b = r.second in omega arith
waits_after (suc (suc zero)) log r t low = refl
waits_after (suc (suc (suc n))) log r t low = absurd (omega arith)

turn_next : (g : ℕ) (place : Issued) (log : Log) → Rounds log → IsTurnOf g log → g < 3 → place.command ≡ RefSb g → refs 3 (place ∷ log) ≡ refs 3 log → IsTurnOf (suc g) (place ∷ log)
turn_next g place log r t low is same = record {
  inside = omega arith;
  waits = refs_other (suc g) g place log is (λ e. omega arith) ∙ waits_after g log r t low ∙ sym same;
  earlier = λ i below. go i (cases i g below);
}
  where
    cases : (i n : ℕ) → i < suc n → (i ≡ n) ⊎ (i < n)
    cases i n below = grind arith

    go : (i : ℕ) → (i ≡ g) ⊎ (i < g) → refs i (place ∷ log) ≡ suc (refs 3 (place ∷ log))
    go i (inl e) = let w = t.waits in let o : refs i (place ∷ log) ≡ suc (refs i log) = refs_own i place log (rw e is) in let f : refs i log ≡ refs g log = ap (λ (n : ℕ). refs n log) e in omega arith
    go i (inr below) = let e = t.earlier i below in let o = refs_other i g place log is (λ k. omega arith) in omega arith

turn_kept : (g : ℕ) (place : Issued) (log : Log) → ((a : ℕ) → refs a (place ∷ log) ≡ refs a log) → IsTurnOf g log → IsTurnOf g (place ∷ log)
turn_kept g place log same t = record {
  inside = t.inside;
  waits = same g ∙ t.waits ∙ sym (same 3);
  earlier = λ i low. same i ∙ t.earlier i low ∙ ap (λ (n : ℕ). suc n) (sym (same 3));
}

-- ---- Kinds

first_closed : (m : RefreshMode) → is_act (first_of m) ≡ false
first_closed All = refl
first_closed Same = refl

begin_same : (h : Header) (y : ℕ) (own rest : Log) → h.settings.refresh ≡ Same → MayShare h y (RefSb 0) own rest → MayShare h y (first_of h.settings.refresh) own rest
begin_same h y own rest mode m = subst (λ (c : Command). MayShare h y c own rest) (sym (ap first_of mode)) m

-- what has one word leaves the next clock to the other rank
first_gap : (c : Command) (m : RefreshMode) → gap_to_any c ≤ 1 → bus_gap c (first_of m) ≤ 1
first_gap c All k = k
first_gap c Same k = k

-- ---- What a step of the service finds

pub record Step (h : Header) (place : Issued) (own rest : Log) (now idle n lag joint chance : ℕ) : Type 0 where
  pub fast : Fast h
  pub enough : lag + 8 * n_max h.timing + 12 < 12 * h.timing.nrefi
  pub side : RankKeeps h own now
  pub rest_before : AllBefore now rest
  pub calm : alert h own ≡ None
  pub at : IsEarliest h own rest now place.command place.clock
  pub loop : Looping h own rest now idle n lag joint chance

-- what it leaves
pub record Stepped (h : Header) (place : Issued) (own rest : Log) (idle n lag joint chance : ℕ) : Type 0 where
  pub side : RankKeeps h (place ∷ own) (place.clock + 1)
  pub loop : Looping h (place ∷ own) rest (place.clock + 1) idle n lag joint chance

fits : (h : Header) (place : Issued) (own rest : Log) (now idle n lag joint chance : ℕ) → Step h place own rest now idle n lag joint chance → place.clock < next_due h own + 3 * h.timing.nrefi → Fits h place own now
fits h place own rest now idle n lag joint chance s soon = record {
  side = s.side;
  some = (let q = s.fast.quick in omega arith);
  later = s.at.not_before;
  soon = soon;
  thirteenth = rule_13_calm h place.clock own s.calm;
}

own_before : (h : Header) (place : Issued) (own : Log) (now : ℕ) → RankKeeps h own now → now ≤ place.clock → AllBefore (place.clock + 1) (place ∷ own)
own_before h place own now s later = (omega arith, before_more now (place.clock + 1) own (omega arith) s.before)

rest_whole_next : (h : Header) (place : Issued) (own rest : Log) (y z : ℕ) → IsWhole h rest own y → y ≤ z → place.clock + bus_gap place.command (first_of h.settings.refresh) ≤ z → IsWhole h rest (place ∷ own) z
rest_whole_next h place own rest y z w more gap = record {
  complete = w.complete;
  scrubbed = w.scrubbed;
  begins = share_rest h y z (first_of h.settings.refresh) place rest own w.begins more gap;
}

-- ---- The first refresh of a round

-- what the numbers become
first_numbers : (h : Header) (place : Issued) (own rest : Log) (now idle n lag joint chance : ℕ) → (s : Step h place own rest now idle n lag joint chance)
    → place.clock ≤ s.loop.y → refs 0 own ≡ refs 3 own → next_due h own ≤ now → refs 0 (place ∷ own) ≡ suc (refs 0 own) → is_other place.command ≡ false → is_act place.command ≡ false
    → ((next_due h (place ∷ own) ≡ next_due h own) × (refs 0 (place ∷ own) ≡ refs 3 (place ∷ own) → ⊥)) ⊎ (next_due h (place ∷ own) ≡ next_due h own + h.timing.nrefi)
    → bus_gap place.command (first_of h.settings.refresh) ≤ 1
    → Stage h (place ∷ own) rest (place.clock + 1) (s.loop.y + 2 * n_max h.timing + 3) → Looping h (place ∷ own) rest (place.clock + 1) idle n lag joint chance
first_numbers h place own rest now idle n lag joint chance s here whole past first other act next one_word stage = record {
  y = s.loop.y + 2 * n_max h.timing + 3;
  stage = stage;
  rest_whole = rest_whole_next h place own rest s.loop.y (s.loop.y + 2 * n_max h.timing + 3) s.loop.rest_whole (omega arith) (omega arith);
  pace = (let b = budget_first h place own rest idle other first in let p = s.loop.pace in omega arith);
  late_whole = λ e. late_whole e next;
  late = late next;
  both_late = (let b = s.loop.both_late in let d = due_more h place own first in omega (arith, spared, quick));
  recent = inl (let d = due_more h place own first in let w = due_whole h own whole in let l = s.at.not_before in omega arith);
  few = (let f = s.loop.few in let o = others_same place own other in omega (arith, less));
  one = (let f = s.loop.one in omega (arith, less));
}
  where
    less : excess h (place ∷ own) ≤ excess h own
    less = excess_other h place own act

    spared : spare h (place ∷ own) rest ≤ spare h own rest
    spared = spare_fewer h place own rest less

    quick : 8 * n_max h.timing + 64 ≤ h.timing.nrefi
    quick = s.fast.quick

    on_time : 4 * s.loop.y + 8 * spare h own rest ≤ 4 * next_due h own + lag
    on_time = s.loop.late_whole whole

    late_whole : refs 0 (place ∷ own) ≡ refs 3 (place ∷ own) → ((next_due h (place ∷ own) ≡ next_due h own) × (refs 0 (place ∷ own) ≡ refs 3 (place ∷ own) → ⊥)) ⊎ (next_due h (place ∷ own) ≡ next_due h own + h.timing.nrefi) → 4 * (s.loop.y + 2 * n_max h.timing + 3) + 8 * spare h (place ∷ own) rest ≤ 4 * next_due h (place ∷ own) + lag
    late_whole e (inl k) = absurd (k.1 e)
    late_whole e (inr k) = omega (arith, spared, quick, on_time)

    late : ((next_due h (place ∷ own) ≡ next_due h own) × (refs 0 (place ∷ own) ≡ refs 3 (place ∷ own) → ⊥)) ⊎ (next_due h (place ∷ own) ≡ next_due h own + h.timing.nrefi) → 4 * (s.loop.y + 2 * n_max h.timing + 3) + 8 * spare h (place ∷ own) rest ≤ 4 * next_due h (place ∷ own) + lag + 8 * n_max h.timing + 12
    late (inl k) = let e = k.0 in omega (arith, spared, on_time)
    late (inr k) = omega (arith, spared, on_time)

begins_by : (h : Header) (place : Issued) (own rest : Log) (now idle n lag joint chance : ℕ) → (s : Step h place own rest now idle n lag joint chance) → place.command ≡ first_of h.settings.refresh → now ≤ s.loop.y → IsWhole h own rest s.loop.y → place.clock ≤ s.loop.y
begins_by h place own rest now idle n lag joint chance s is by w = s.at.least s.loop.y by (rw is w.begins)

first_soon : (h : Header) (place : Issued) (own rest : Log) (now idle n lag joint chance : ℕ) → (s : Step h place own rest now idle n lag joint chance) → place.clock ≤ s.loop.y → place.clock < next_due h own + 3 * h.timing.nrefi
first_soon h place own rest now idle n lag joint chance s here = let l = s.loop.late in let e = s.enough in omega arith

-- an ECS, or any refresh, can come nMax after the last command
soon_after : (h : Header) (place : Issued) (own rest : Log) (now idle n lag joint chance x : ℕ) (c : Command) → Step h place own rest now idle n lag joint chance → place.clock + n_max h.timing ≤ x → MayShare h x c (place ∷ own) rest
soon_after h place own rest now idle n lag joint chance x c s more =
    let l = s.at.not_before in
    may_soon h (place.clock + 1) x c (place ∷ own) rest s.fast (own_before h place own now s.side l) (before_more now (place.clock + 1) rest (omega arith) s.rest_before) (omega arith)

refresh_all : (h : Header) (place : Issued) (own rest : Log) (now idle n lag joint chance : ℕ) → (s : Step h place own rest now idle n lag joint chance) → now ≤ s.loop.y → IsWhole h own rest s.loop.y
    → next_due h own ≤ now → h.settings.refresh ≡ All → place.command ≡ RefAb → Stepped h place own rest idle n lag joint chance
refresh_all h place own rest now idle n lag joint chance s by w past mode is = record {
  side = side_refresh h place own now (fits h place own rest now idle n lag joint chance s (first_soon h place own rest now idle n lag joint chance s here))
      (rw is refl) w.scrubbed past (complete_rounds place own c) c.first (scrubs_all place own is) (inr (refs_all 0 place own is)) (λ m. c.first ∙ sym c.fourth);
  loop = first_numbers h place own rest now idle n lag joint chance s here w.complete past (refs_all 0 place own is) (rw is refl) (rw is refl) (inr (next_due_more h place own c.fourth)) (first_gap place.command h.settings.refresh (rw is (omega arith))) (stage (ecs_due h (place ∷ own)) refl);
}
  where
    here : place.clock ≤ s.loop.y
    here = begins_by h place own rest now idle n lag joint chance s (is ∙ ap first_of (sym mode)) by w

    c : Complete place own
    c = complete_all place own s.side.rounds w.complete is

    stage : (x : Bool) → ecs_due h (place ∷ own) ≡ x → Stage h (place ∷ own) rest (place.clock + 1) (s.loop.y + 2 * n_max h.timing + 3)
    stage true e = Scrubbing (place.clock + n_max h.timing) (let b = s.fast.bursts in omega arith) (omega (arith, here)) e
        (soon_after h place own rest now idle n lag joint chance (place.clock + n_max h.timing) Ecs s (omega arith)) (inl (c.first ∙ sym c.fourth))
    stage false e = Whole (omega (arith, here)) (record {
      complete = c.first ∙ sym c.fourth;
      scrubbed = e;
      begins = soon_after h place own rest now idle n lag joint chance (s.loop.y + 2 * n_max h.timing + 3) (first_of h.settings.refresh) s (omega (arith, here));
    })

refresh_first : (h : Header) (place : Issued) (own rest : Log) (now idle n lag joint chance : ℕ) → (s : Step h place own rest now idle n lag joint chance) → now ≤ s.loop.y → IsWhole h own rest s.loop.y
    → next_due h own ≤ now → h.settings.refresh ≡ Same → IsTurnOf 0 own → place.command ≡ RefSb 0 → Stepped h place own rest idle n lag joint chance
refresh_first h place own rest now idle n lag joint chance s by w past mode turn is = record {
  side = side_refresh h place own now (fits h place own rest now idle n lag joint chance s (first_soon h place own rest now idle n lag joint chance s here))
      (rw is refl) w.scrubbed past t.rounds t.whole (scrubs_same 0 place own is) (inr (refs_own 0 place own is)) (λ m. let e : All ≡ Same = sym m ∙ mode in absurd (cc));
  loop = first_numbers h place own rest now idle n lag joint chance s here w.complete past (refs_own 0 place own is) (rw is refl) (rw is refl)
      (inl (next_due_same h place own t.same, λ e. (let a = t.whole in let b = t.same in omega arith))) (first_gap place.command h.settings.refresh (rw is (omega arith))) (stage (ecs_due h (place ∷ own)) refl);
}
  where
    here : place.clock ≤ s.loop.y
    here = begins_by h place own rest now idle n lag joint chance s (is ∙ ap first_of (sym mode)) by w

    t : NextTurn h place own
    t = next_turn h 0 place own s.side.rounds turn (omega arith) is

    after : IsTurnOf 1 (place ∷ own)
    after = turn_next 0 place own s.side.rounds turn (omega arith) is t.same

    still : next_due h (place ∷ own) ≤ place.clock + 1
    still = let d = next_due_same h place own t.same in let l = s.at.not_before in omega arith

    stage : (x : Bool) → ecs_due h (place ∷ own) ≡ x → Stage h (place ∷ own) rest (place.clock + 1) (s.loop.y + 2 * n_max h.timing + 3)
    stage true e = Scrubbing (place.clock + n_max h.timing) (let b = s.fast.bursts in omega arith) (omega (arith, here)) e
        (soon_after h place own rest now idle n lag joint chance (place.clock + n_max h.timing) Ecs s (omega arith)) (inr (after, mode, still))
    stage false e = Turning 1 (place.clock + n_max h.timing) (omega arith) (let b = s.fast.bursts in omega arith) (omega (arith, here)) mode e still after
        (λ i k. soon_after h place own rest now idle n lag joint chance (place.clock + n_max h.timing) (RefSb i) s (omega arith))

-- ---- A command in a round

-- what the numbers become
more_numbers : (h : Header) (place : Issued) (own rest : Log) (now idle n lag joint chance : ℕ) → (s : Step h place own rest now idle n lag joint chance)
    → place.clock + 1 ≤ s.loop.y → refs 0 (place ∷ own) ≡ refs 0 own → is_other place.command ≡ false → is_act place.command ≡ false
    → ((next_due h (place ∷ own) ≡ next_due h own) × (refs 3 (place ∷ own) ≡ refs 3 own)) ⊎ (next_due h (place ∷ own) ≡ next_due h own + h.timing.nrefi)
    → bus_gap place.command (first_of h.settings.refresh) ≤ 1
    → Stage h (place ∷ own) rest (place.clock + 1) s.loop.y → Looping h (place ∷ own) rest (place.clock + 1) idle n lag joint chance
more_numbers h place own rest now idle n lag joint chance s here first other act next one_word stage = record {
  y = s.loop.y;
  stage = stage;
  rest_whole = rest_whole_next h place own rest s.loop.y s.loop.y s.loop.rest_whole (omega arith) (omega arith);
  pace = (let b = budget_same h place own rest idle other first in let p = s.loop.pace in omega arith);
  late_whole = λ e. late_whole e next;
  late = late next;
  both_late = (let b = s.loop.both_late in let d = due_same h place own first in omega (arith, spared));
  recent = recent s.loop.recent;
  few = (let f = s.loop.few in let o = others_same place own other in omega (arith, less));
  one = (let f = s.loop.one in omega (arith, less));
}
  where
    less : excess h (place ∷ own) ≤ excess h own
    less = excess_other h place own act

    spared : spare h (place ∷ own) rest ≤ spare h own rest
    spared = spare_fewer h place own rest less

    quick : 8 * n_max h.timing + 64 ≤ h.timing.nrefi
    quick = s.fast.quick

    late_any : 4 * s.loop.y + 8 * spare h own rest ≤ 4 * next_due h own + lag + 8 * n_max h.timing + 12
    late_any = s.loop.late

    late_whole : refs 0 (place ∷ own) ≡ refs 3 (place ∷ own) → ((next_due h (place ∷ own) ≡ next_due h own) × (refs 3 (place ∷ own) ≡ refs 3 own)) ⊎ (next_due h (place ∷ own) ≡ next_due h own + h.timing.nrefi) → 4 * s.loop.y + 8 * spare h (place ∷ own) rest ≤ 4 * next_due h (place ∷ own) + lag
    late_whole e (inl k) = let a = s.loop.late_whole (sym first ∙ e ∙ k.1) in let b = k.0 in omega (arith, spared)
    late_whole e (inr k) = omega (arith, spared, quick, late_any)

    late : ((next_due h (place ∷ own) ≡ next_due h own) × (refs 3 (place ∷ own) ≡ refs 3 own)) ⊎ (next_due h (place ∷ own) ≡ next_due h own + h.timing.nrefi) → 4 * s.loop.y + 8 * spare h (place ∷ own) rest ≤ 4 * next_due h (place ∷ own) + lag + 8 * n_max h.timing + 12
    late (inl k) = let b = k.0 in omega (arith, spared, late_any)
    late (inr k) = omega (arith, spared, late_any)

    recent : (due h own ≤ s.loop.y + h.timing.nrefi) ⊎ (4 * s.loop.y + 8 * spare h own rest ≤ 4 * due h rest + chance) → (due h (place ∷ own) ≤ s.loop.y + h.timing.nrefi) ⊎ (4 * s.loop.y + 8 * spare h (place ∷ own) rest ≤ 4 * due h rest + chance)
    recent (inl k) = inl (let d = due_same h place own first in omega arith)
    recent (inr k) = inr (omega (arith, spared))

scrub : (h : Header) (place : Issued) (own rest : Log) (now idle n lag joint chance x : ℕ) → (s : Step h place own rest now idle n lag joint chance) → now ≤ x → x + n_max h.timing + 3 ≤ s.loop.y → ecs_due h own ≡ true → MayShare h x Ecs own rest
    → (refs 0 own ≡ refs 3 own) ⊎ (IsTurnOf 1 own × (h.settings.refresh ≡ Same) × (next_due h own ≤ now)) → place.command ≡ Ecs → Stepped h place own rest idle n lag joint chance
scrub h place own rest now idle n lag joint chance x s by room due may which is = record {
  side = side_scrub h place own now (fits h place own rest now idle n lag joint chance s (first_soon h place own rest now idle n lag joint chance s (omega (arith, here)))) is due;
  loop = more_numbers h place own rest now idle n lag joint chance s (omega (arith, here)) (refs_scrub 0 place own is) (rw is refl) (rw is refl)
      (inl (next_due_same h place own (refs_scrub 3 place own is), refs_scrub 3 place own is)) (first_gap place.command h.settings.refresh (rw is (omega arith))) (stage which);
}
  where
    here : place.clock ≤ x
    here = s.at.least x by (rw is may)

    done : ecs_due h (place ∷ own) ≡ false
    done = ecs_done h place own is s.side.scrubs_soon

    stage : (refs 0 own ≡ refs 3 own) ⊎ (IsTurnOf 1 own × (h.settings.refresh ≡ Same) × (next_due h own ≤ now)) → Stage h (place ∷ own) rest (place.clock + 1) s.loop.y
    stage (inl e) = Whole (omega (arith, here)) (record {
      complete = refs_scrub 0 place own is ∙ e ∙ sym (refs_scrub 3 place own is);
      scrubbed = done;
      begins = soon_after h place own rest now idle n lag joint chance s.loop.y (first_of h.settings.refresh) s (omega (arith, here));
    })
    stage (inr p) = Turning 1 (place.clock + n_max h.timing) (omega arith) (let b = s.fast.bursts in omega arith) (omega (arith, here)) p.1 done
        (let d = next_due_same h place own (refs_scrub 3 place own is) in let l = s.at.not_before in let k = p.2 in omega arith)
        (turn_kept 1 place own (λ a. refs_scrub a place own is) p.0)
        (λ i k. soon_after h place own rest now idle n lag joint chance (place.clock + n_max h.timing) (RefSb i) s (omega arith))

-- what the refresh of one more address finds
record Turn (h : Header) (place : Issued) (own rest : Log) (now idle n lag joint chance g x : ℕ) : Type 0 where
  step : Step h place own rest now idle n lag joint chance
  later : 1 ≤ g
  by : now ≤ x
  mode : h.settings.refresh ≡ Same
  none : ecs_due h own ≡ false
  past : next_due h own ≤ now
  turn : IsTurnOf g own
  may : (i : ℕ) → (i ≡ 0) ⊎ (g ≤ i) → MayShare h x (RefSb i) own rest
  room : x + 4 ≤ step.loop.y + g
  is : place.command ≡ RefSb g

turn_here : (h : Header) (place : Issued) (own rest : Log) (now idle n lag joint chance g x : ℕ) → Turn h place own rest now idle n lag joint chance g x → place.clock ≤ x
turn_here h place own rest now idle n lag joint chance g x t = let m : MayShare h x (RefSb g) own rest = t.may g (inr (omega arith)) in t.step.at.least x t.by (rw t.is m)

turn_open : (h : Header) (place : Issued) (own rest : Log) (now idle n lag joint chance g x i : ℕ) → Turn h place own rest now idle n lag joint chance g x → (i ≡ 0) ⊎ (suc g ≤ i) → MayShare h (x + 1) (RefSb i) (place ∷ own) rest
turn_open h place own rest now idle n lag joint chance g x i t which =
    let here = turn_here h place own rest now idle n lag joint chance g x t in
    share_own h x (x + 1) (RefSb i) place own rest refl (t.may i (weaker which)) (one_later x) (close place.clock x place.command here (rw t.is (gap_apart h.timing g i (different which))))
  where
    one_later : (x : ℕ) → x ≤ x + 1
    one_later x = omega arith

    close : (t x : ℕ) (c : Command) → t ≤ x → gap h.timing c (RefSb i) ≤ 1 → t + gap h.timing c (RefSb i) ≤ x + 1
    close t x c a b = omega arith

    weaker : (i ≡ 0) ⊎ (suc g ≤ i) → (i ≡ 0) ⊎ (g ≤ i)
    weaker (inl e) = inl e
    weaker (inr k) = inr (omega arith)

    different : (i ≡ 0) ⊎ (suc g ≤ i) → g ≡ i → ⊥
    different (inl e) same = let k = t.later in omega arith
    different (inr k) same = omega arith

turn_first : (h : Header) (place : Issued) (own rest : Log) (now idle n lag joint chance g x : ℕ) → Turn h place own rest now idle n lag joint chance g x → refs 0 (place ∷ own) ≡ refs 0 own
turn_first h place own rest now idle n lag joint chance g x t = refs_other 0 g place own t.is (λ e. let k = t.later in omega arith)

turn_side : (h : Header) (place : Issued) (own rest : Log) (now idle n lag joint chance g x : ℕ) → (t : Turn h place own rest now idle n lag joint chance g x) → place.clock + 1 ≤ t.step.loop.y → Rounds (place ∷ own) → refs 0 (place ∷ own) ≡ suc (refs 3 own) → RankKeeps h (place ∷ own) (place.clock + 1)
turn_side h place own rest now idle n lag joint chance g x t room rounds whole =
    side_refresh h place own now (fits h place own rest now idle n lag joint chance t.step (first_soon h place own rest now idle n lag joint chance t.step (omega arith)))
    (rw t.is refl) t.none t.past rounds whole (scrubs_same g place own t.is) (inl (turn_first h place own rest now idle n lag joint chance g x t)) (λ m. let e : All ≡ Same = sym m ∙ t.mode in absurd (cc))

refresh_middle : (h : Header) (place : Issued) (own rest : Log) (now idle n lag joint chance g x : ℕ) → (t : Turn h place own rest now idle n lag joint chance g x) → g < 3 → Stepped h place own rest idle n lag joint chance
refresh_middle h place own rest now idle n lag joint chance g x t low = record {
  side = turn_side h place own rest now idle n lag joint chance g x t (omega (arith, here, room)) k.rounds k.whole;
  loop = more_numbers h place own rest now idle n lag joint chance t.step (omega (arith, here, room)) (turn_first h place own rest now idle n lag joint chance g x t) (rw t.is refl) (rw t.is refl)
      (inl (next_due_same h place own k.same, k.same)) (first_gap place.command h.settings.refresh (rw t.is (omega arith)))
      (Turning (suc g) (x + 1) (omega arith) (omega (arith, here)) (omega (arith, room)) t.mode
      (ecs_same h place own (turn_first h place own rest now idle n lag joint chance g x t) (scrubs_same g place own t.is) ∙ t.none)
      (let d = next_due_same h place own k.same in let l = t.step.at.not_before in let p = t.past in omega arith)
      (turn_next g place own t.step.side.rounds t.turn low t.is k.same)
      (λ i which. turn_open h place own rest now idle n lag joint chance g x i t which));
}
  where
    here : place.clock ≤ x
    here = turn_here h place own rest now idle n lag joint chance g x t

    room : x + 4 ≤ t.step.loop.y + g
    room = t.room

    k : NextTurn h place own
    k = next_turn h g place own t.step.side.rounds t.turn low t.is

refresh_last : (h : Header) (place : Issued) (own rest : Log) (now idle n lag joint chance x : ℕ) → (t : Turn h place own rest now idle n lag joint chance 3 x) → Stepped h place own rest idle n lag joint chance
refresh_last h place own rest now idle n lag joint chance x t = record {
  side = turn_side h place own rest now idle n lag joint chance 3 x t (omega (arith, here, room)) (complete_rounds place own c) c.first;
  loop = more_numbers h place own rest now idle n lag joint chance t.step (omega (arith, here, room)) (turn_first h place own rest now idle n lag joint chance 3 x t) (rw t.is refl) (rw t.is refl)
      (inr (next_due_more h place own c.fourth)) (first_gap place.command h.settings.refresh (rw t.is (omega arith)))
      (Whole (omega (arith, here, room)) (record {
        complete = c.first ∙ sym c.fourth;
        scrubbed = ecs_same h place own (turn_first h place own rest now idle n lag joint chance 3 x t) (scrubs_same 3 place own t.is) ∙ t.none;
        begins = begin_same h t.step.loop.y (place ∷ own) rest t.mode (share_later h (x + 1) t.step.loop.y (RefSb 0) (place ∷ own) rest (omega (arith, room)) (turn_open h place own rest now idle n lag joint chance 3 x 0 t (inl refl)));
      }));
}
  where
    here : place.clock ≤ x
    here = turn_here h place own rest now idle n lag joint chance 3 x t

    room : x + 4 ≤ t.step.loop.y + 3
    room = t.room

    c : Complete place own
    c = complete_same place own t.turn t.is

-- ---- An RFMsb

rfm_plain : (a : ℕ) → is_plain (RfmSb a) ≡ true
unfolding is_plain
rfm_plain a = refl

manage : (h : Header) (place : Issued) (own rest : Log) (now idle n lag joint chance g b : ℕ) → (s : Step h place own rest now idle n lag joint chance) → now ≤ s.loop.y → IsWhole h own rest s.loop.y
    → place.command ≡ RfmSb g → b < 32 → effect b (RfmSb g) ≡ Manages → h.settings.raaimt ≤ raa h b own → Stepped h place own rest idle n lag joint chance
manage h place own rest now idle n lag joint chance g b s by w is low manages wanted = record {
  side = side_plain h place own now (fits h place own rest now idle n lag joint chance s (let l = s.loop.late in let e = s.enough in omega (arith, here, fewer))) plain;
  loop = record {
    y = s.loop.y + 2 * n_max h.timing;
    stage = Whole (omega (arith, here)) (record {
      complete = refs_plain 0 place own plain ∙ w.complete ∙ sym (refs_plain 3 place own plain);
      scrubbed = ecs_same h place own (refs_plain 0 place own plain) (scrubs_plain place own plain) ∙ w.scrubbed;
      begins = soon_after h place own rest now idle n lag joint chance (s.loop.y + 2 * n_max h.timing) (first_of h.settings.refresh) s (omega (arith, here));
    });
    rest_whole = rest_whole_next h place own rest s.loop.y (s.loop.y + 2 * n_max h.timing) s.loop.rest_whole (omega arith) (let g = first_gap place.command h.settings.refresh (rw is (omega arith)) in omega (arith, here));
    pace = (let b = budget_plain h place own rest idle plain in let p = s.loop.pace in omega arith);
    late_whole = λ e. (let d = next_due_same h place own (refs_plain 3 place own plain) in let l = s.loop.late_whole w.complete in omega (arith, fewer));
    late = (let d = next_due_same h place own (refs_plain 3 place own plain) in let l = s.loop.late in omega (arith, fewer));
    both_late = (let d = due_same h place own (refs_plain 0 place own plain) in let l = s.loop.both_late in omega (arith, fewer));
    recent = recent s.loop.recent;
    few = (let f = s.loop.few in let o = others_plain place own plain in omega (arith, less));
    one = (let f = s.loop.one in omega (arith, less));
  };
}
  where
    plain : is_plain place.command ≡ true
    plain = rw is (rfm_plain g)

    less : suc (excess h (place ∷ own)) ≤ excess h own
    less = excess_managed h b place own s.fast.some_raaimt (rw is refl) low (rw is manages) wanted

    fewer : spare h (place ∷ own) rest + n_max h.timing ≤ spare h own rest
    fewer = spare_one_fewer h place own rest less

    here : place.clock + 1 ≤ now + n_max h.timing
    here = earliest_soon h now place.clock place.command own rest s.fast s.side.before s.rest_before s.at

    recent : (due h own ≤ s.loop.y + h.timing.nrefi) ⊎ (4 * s.loop.y + 8 * spare h own rest ≤ 4 * due h rest + chance) → (due h (place ∷ own) ≤ s.loop.y + 2 * n_max h.timing + h.timing.nrefi) ⊎ (4 * (s.loop.y + 2 * n_max h.timing) + 8 * spare h (place ∷ own) rest ≤ 4 * due h rest + chance)
    recent (inl k) = inl (let d = due_same h place own (refs_plain 0 place own plain) in omega arith)
    recent (inr k) = inr (omega (arith, fewer))

-- ---- Any command of the service

pub step_next : (h : Header) (place : Issued) (own rest : Log) (now idle n lag joint chance : ℕ) → Step h place own rest now idle n lag joint chance → Serves h own now place.command → Stepped h place own rest idle n lag joint chance
step_next h place own rest now idle n lag joint chance s v = go v s.loop.stage
  where
    middle_or_last : (g : ℕ) → g < 4 → (g < 3) ⊎ (g ≡ 3)
    middle_or_last g low = grind arith

    turning : (g x : ℕ) → Turn h place own rest now idle n lag joint chance g x → (g < 3) ⊎ (g ≡ 3) → Stepped h place own rest idle n lag joint chance
    turning g x t (inl low) = refresh_middle h place own rest now idle n lag joint chance g x t low
    turning g x t (inr e) = refresh_last h place own rest now idle n lag joint chance x (subst (λ (k : ℕ). Turn h place own rest now idle n lag joint chance k x) e t)

    go : Serves h own now place.command → Stage h own rest now s.loop.y → Stepped h place own rest idle n lag joint chance
    go (Scrubs e is) (Whole by w) = let k = w.scrubbed in absurd (cc)
    go (Scrubs e is) (Scrubbing x by room due may which) = scrub h place own rest now idle n lag joint chance x s by room due may which is
    go (Scrubs e is) (Turning g x some by room mode none past turn may) = absurd (cc)
    go (RefreshesAll e past mode is) (Whole by w) = refresh_all h place own rest now idle n lag joint chance s by w past mode is
    go (RefreshesAll e past mode is) (Scrubbing x by room due may which) = absurd (cc)
    go (RefreshesAll e past mode is) (Turning g x some by room other none before turn may) = let k : All ≡ Same = sym mode ∙ other in absurd (cc)
    go (RefreshesSame g e past mode turn is) (Whole by w) =
        let z = turn_zero g own turn w.complete in
        refresh_first h place own rest now idle n lag joint chance s by w past mode (subst (λ (k : ℕ). IsTurnOf k own) z turn) (is ∙ ap (λ (k : ℕ). RefSb k) z)
    go (RefreshesSame g e past mode turn is) (Scrubbing x by room due may which) = absurd (cc)
    go (RefreshesSame g e past mode turn is) (Turning i x some by room other none before own_turn may) =
        turning i x (record {
          step = s;
          later = some;
          by = by;
          mode = other;
          none = none;
          past = before;
          turn = own_turn;
          may = may;
          room = room;
          is = is ∙ ap (λ (k : ℕ). RefSb k) (turn_same g i own turn own_turn);
        }) (middle_or_last i own_turn.inside)
    go (ManagesSame g b e before is low manages wanted) (Whole by w) = manage h place own rest now idle n lag joint chance g b s by w is low manages wanted
    go (ManagesSame g b e before is low manages wanted) (Scrubbing x by room due may which) = absurd (cc)
    go (ManagesSame g b e before is low manages wanted) (Turning i x some by room other none past turn may) = absurd (omega arith)
