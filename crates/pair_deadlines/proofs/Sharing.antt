-- When a command can follow the logs of both ranks.
use Rattle.std.proofs.Common.{◌≡◌, ℕ, zero, suc, ◌+◌, ◌≤◌, ◌<◌, Bool, true, false, ◌&&◌, ◌⊎◌, inl, inr, refl, sym, ap, arith, cond, max, [], ◌∷◌, le-leb, leb-true, ltb-true, lt-ltb, nat_le, ◌==◌, eqb-true, ◌∙◌, ◌*◌}
use Rattle.command_words.specs.Command.{is_at, covers}
use Rattle.command_words.specs.declared.command.Command.{Command}
use Rattle.command_words.specs.declared.command.Command.TheVariants.{Act, Rd, Wr, Mrw, RefAb, RefSb, Ecs}
use Rattle.speed_bin.specs.declared.header.Header.{Header}
use Rattle.speed_bin.specs.declared.timing.Timing.{Timing}
use Rattle.speed_bin.specs.Log.{Issued, Log, last_clock}
use Rattle.speed_bin.specs.Gap.{gap, meet, n_max}
use Rattle.command_words.specs.Kinds.{is_act, is_rd, is_wr, needs_closed}
use Rattle.speed_bin.specs.Rules.{rule_3, MayFollow}
use Rattle.speed_bin.proofs.Tests.{joined, both, any_below_none}
use Rattle.deadlines.specs.Blocking.{AllUpTo}
use Rattle.deadlines.proofs.Following.{may_from, may_later, may_next}
use Rattle.deadlines.proofs.Stages.{some_max}
use Rattle.rank_bus.specs.Buses.{gap_to_any, gap_to_read, gap_to_write, bus_gap, shares, MayShare, IsEarliest}
use Rattle.pair_deadlines.specs.Before.{AllBefore}
use Rattle.pair_deadlines.specs.Budget.{Fast}

-- ---- Gaps of the bus

any_most : (c : Command) → gap_to_any c ≤ 2
any_most (Act b r) = omega arith
any_most (Rd b k) = omega arith
any_most (Wr b k) = omega arith
any_most (Mrw w) = omega arith
any_most c = omega arith

read_most : (c : Command) → gap_to_read c ≤ 12
read_most (Rd b k) = omega arith
read_most (Wr b k) = omega arith
read_most c = let w = any_most c in omega arith

write_most : (c : Command) → gap_to_write c ≤ 12
write_most (Rd b k) = omega arith
write_most (Wr b k) = omega arith
write_most c = let w = any_most c in omega arith

pub bus_most : (c e : Command) → bus_gap c e ≤ 12
bus_most c (Rd b k) = read_most c
bus_most c (Wr b k) = write_most c
bus_most c e = let w = any_most c in omega arith

-- ---- Before now

pub before_more : (s t : ℕ) (log : Log) → s ≤ t → AllBefore s log → AllBefore t log
before_more s t [] more k = tt
before_more s t (place ∷ log) more k = ((let a = k.0 in omega arith), before_more s t log more k.1)

before_up : (s : ℕ) (log : Log) → AllBefore (suc s) log → AllUpTo s log
before_up s [] k = tt
before_up s (place ∷ log) k = ((let a = k.0 in omega arith), before_up s log k.1)

last_before : (s : ℕ) (log : Log) → AllBefore (suc s) log → last_clock log ≤ s
last_before s [] k = omega arith
last_before s (place ∷ log) k = let a = k.0 in omega arith

no_window : (h : Header) (t : ℕ) (c : Command) → rule_3 h.timing t c [] ≡ true
no_window h t c = go (is_act c)
  where
    go : (x : Bool) → cond x true true ≡ true
    go true = refl
    go false = refl

follows_soon : (h : Header) (now t : ℕ) (c : Command) (log : Log) → AllBefore now log → now + n_max h.timing ≤ t + 1 → MayFollow h.timing t c log
follows_soon h zero t c [] k more = record { rises = refl; gaps = refl; window = no_window h t c }
follows_soon h zero t c (place ∷ log) k more = absurd (let a = k.0 in omega arith)
follows_soon h (suc s) t c log k more =
    let m = some_max h.timing in
    let l = last_before s log k in
    may_from h s t c log (before_up s log k) (omega arith) (omega arith)

pub share_empty : (h : Header) (t : ℕ) (c : Command) → MayShare h t c [] []
share_empty h t c = record { follows = record { rises = refl; gaps = refl; window = no_window h t c }; shares = refl }

bus_soon : (now t u : ℕ) (c : Command) (log : Log) → 12 ≤ u → AllBefore now log → now + u ≤ t + 1 → shares t c log ≡ true
bus_soon now t u c [] some k more = refl
bus_soon now t u c (place ∷ log) some k more =
    let a = k.0 in
    let g = bus_most place.command c in
    joined _ _ (le-leb _ _ (omega arith)) (bus_soon now t u c log some k.1 more)

-- whatever stands in both logs, it blocks a command for nMax at most
pub may_soon : (h : Header) (now t : ℕ) (c : Command) (own rest : Log) → Fast h → AllBefore now own → AllBefore now rest → now + n_max h.timing ≤ t + 1 → MayShare h t c own rest
may_soon h now t c own rest fast a b more = record {
  follows = follows_soon h now t c own a more;
  shares = bus_soon now t (n_max h.timing) c rest fast.bursts b more;
}

-- so it comes before nMax has passed
pub earliest_soon : (h : Header) (now t : ℕ) (c : Command) (own rest : Log) → Fast h → AllBefore now own → AllBefore now rest → IsEarliest h own rest now c t → t + 1 ≤ now + n_max h.timing
earliest_soon h now t c own rest fast a b at = go (n_max h.timing) refl
  where
    go : (u : ℕ) → n_max h.timing ≡ u → t + 1 ≤ now + u
    go zero e = let k = fast.bursts in absurd (omega arith)
    go (suc u) e = let low = at.least (now + u) (omega arith) (may_soon h now (now + u) c own rest fast a b (omega arith)) in omega arith

-- ---- Later, and after one more place

bus_later : (t u : ℕ) (c : Command) (log : Log) → t ≤ u → shares t c log ≡ true → shares u c log ≡ true
bus_later t u c [] more k = refl
bus_later t u c (place ∷ log) more k =
    let p = both (nat_le (place.clock + bus_gap place.command c) t) (shares t c log) k in
    let e : place.clock + bus_gap place.command c ≤ t = leb-true _ _ p.0 in
    joined _ _ (le-leb _ _ (omega arith)) (bus_later t u c log more p.1)

pub share_later : (h : Header) (t u : ℕ) (c : Command) (own rest : Log) → t ≤ u → MayShare h t c own rest → MayShare h u c own rest
share_later h t u c own rest more m = record { follows = may_later h t u c own more m.follows; shares = bus_later t u c rest more m.shares }

pub share_own : (h : Header) (t u : ℕ) (c : Command) (place : Issued) (own rest : Log) → is_act c ≡ false → MayShare h t c own rest → t ≤ u → place.clock + gap h.timing place.command c ≤ u → MayShare h u c (place ∷ own) rest
share_own h t u c place own rest other m more next = record { follows = may_next h t u c place own other m.follows more next; shares = bus_later t u c rest more m.shares }

pub share_rest : (h : Header) (t u : ℕ) (c : Command) (place : Issued) (own rest : Log) → MayShare h t c own rest → t ≤ u → place.clock + bus_gap place.command c ≤ u → MayShare h u c own (place ∷ rest)
share_rest h t u c place own rest m more next = record {
  follows = may_later h t u c own more m.follows;
  shares = joined _ _ (le-leb _ _ next) (bus_later t u c rest more m.shares);
}

-- ---- Refreshes of two addresses do not meet

apart : (g i b : ℕ) → (g ≡ i → ⊥) → (is_at g b && is_at i b) ≡ false
apart g i b other = go (is_at g b) refl (is_at i b) refl
  where
    go : (x : Bool) → is_at g b ≡ x → (y : Bool) → is_at i b ≡ y → (x && y) ≡ false
    go true e true f = absurd (other (sym (eqb-true _ _ e) ∙ eqb-true _ _ f))
    go true e false f = refl
    go false e y f = refl

pub gap_apart : (t : Timing) (g i : ℕ) → (g ≡ i → ⊥) → gap t (RefSb g) (RefSb i) ≤ 1
gap_apart t g i other =
    let m : meet (RefSb g) (RefSb i) ≡ false = any_below_none 32 (λ b. is_at g b && is_at i b) (λ b _. apart g i b other) in
    rw m (omega arith)
