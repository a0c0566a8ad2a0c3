-- How many commands a rank has, where the controller keeps its deadlines.
use Rattle.std.proofs.Common.{◌⊎◌, inl, inr, ◌≡◌, ℕ, suc, ◌+◌, ◌*◌, ◌/◌, ◌≤◌, ◌<◌, ◌==◌, ◌&&◌, Bool, true, false, cond, refl, subst, arith, List, [], ◌∷◌, length, leb-true, nat_le}
use Rattle.std.proofs.Math.Nat.{div-le_self}
use Rattle.std.proofs.lemmas.Bool.{and_parts}
use Rattle.std.proofs.lemmas.Nat.{le-div}
use Rattle.command_words.specs.declared.command.Command.{Command}
use Rattle.command_words.specs.declared.command.Command.TheVariants.{RefAb, RefSb, Ecs}
use Rattle.command_words.specs.Kinds.{is_scrub, refreshes}
use Rattle.ddr_text.specs.Ranges.{IsCommandOf}
use Rattle.ddr_text.specs.declared.lines.TraceLine.{TraceLine}
use Rattle.deadlines.proofs.Rounds.{refs_step, scrubs_step}
use Rattle.deadlines.specs.Pace.{is_other, others}
use Rattle.pair_deadlines.proofs.Steps.{opened}
use Rattle.pair_deadlines.specs.Keeping.{Holds, Keeps, Resting}
use Rattle.pair_deadlines.specs.Standing.{RankKeeps}
use Rattle.pair_reports.proofs.Parts.{part_is_log}
use Rattle.pair_reports.specs.Lines.{only}
use Rattle.pair_reports.specs.Runs.{PairRun, bus_of, run_of}
use Rattle.pair_reports.specs.declared.rank_line.RankLine.{RankLine}
use Rattle.rank_bus.specs.Buses.{BusLog, part}
use Rattle.rank_bus.specs.declared.rank.Rank.{Rank}
use Rattle.rank_bus.specs.declared.rank.Rank.TheVariants.{Zero, One}
use Rattle.reports.specs.Runs.{Issues, Flips, Run, log_of}
use Rattle.reports.specs.Sound.{Sound}
use Rattle.speed_bin.proofs.Audits.{all_pass}
use Rattle.speed_bin.specs.Header.{shape_of}
use Rattle.speed_bin.specs.Log.{Issued, Log, refs, scrubs}
use Rattle.speed_bin.specs.Rules.{rule_8, rules_at}
use Rattle.speed_bin.specs.declared.header.Header.{Header}

-- ---- Scrubs

scrub_kept : (h : Header) (log : Log) → rule_8 h Ecs log ≡ true → suc (scrubs log) ≤ refs 0 log
scrub_kept h log kept = go (h.settings.ecs_every == 0) kept
  where
    go : (b : Bool) → cond b false (nat_le (suc (scrubs log)) (refs 0 log / h.settings.ecs_every) && true) ≡ true → suc (scrubs log) ≤ refs 0 log
    go true k = absurd cc
    go false k =
        let low : suc (scrubs log) ≤ refs 0 log / h.settings.ecs_every = leb-true _ _ (and_parts (nat_le (suc (scrubs log)) (refs 0 log / h.settings.ecs_every)) true k).0 in
        let all = div-le_self (refs 0 log) h.settings.ecs_every in
        omega (arith, low, all)

scrubs_more : (scrub refreshed : Bool) (s r : ℕ) → s ≤ r → (scrub ≡ true → suc s ≤ r) → cond scrub 1 0 + s ≤ cond refreshed 1 0 + r
scrubs_more true true s r few more = omega (arith, few)
scrubs_more true false s r few more = let k = more refl in omega (arith, k)
scrubs_more false true s r few more = omega (arith, few)
scrubs_more false false s r few more = omega (arith, few)

own_scrub : (h : Header) (c : Command) (log : Log) → rule_8 h c log ≡ true → is_scrub c ≡ true → suc (scrubs log) ≤ refs 0 log
own_scrub h Ecs log kept is = scrub_kept h log kept
own_scrub h c log kept is = absurd cc

-- each ECS comes behind a refresh of address 0
scrubs_few : (h : Header) (trace : List TraceLine) (run : Run) → Sound h trace run → scrubs (log_of run) ≤ refs 0 (log_of run)
scrubs_few h trace [] sound = omega arith
scrubs_few h trace (Issues s ∷ run) sound =
    let log = log_of run in
    let command = s.issued.command in
    let k = all_pass 1 (rules_at h s.issued.clock command log) sound.0.rules in
    let a = scrubs_step s.issued log in
    let b = refs_step 0 s.issued log in
    let m = scrubs_more (is_scrub command) (refreshes 0 command) (scrubs log) (refs 0 log) (scrubs_few h trace run sound.1) (own_scrub h command log k.1.1.1.1.1.1.1.0) in
    omega (arith, a, b, m)
scrubs_few h trace (Flips number ∷ run) sound = scrubs_few h trace run sound.1

-- ---- All commands

four : (a : ℕ) → a < 4 → (a ≡ 0) ⊎ ((a ≡ 1) ⊎ ((a ≡ 2) ⊎ (a ≡ 3)))
four a low = grind (arith, low)

one_of_four : (a : ℕ) → (a ≡ 0) ⊎ ((a ≡ 1) ⊎ ((a ≡ 2) ⊎ (a ≡ 3))) → 1 ≤ 0 + (cond (a == 0) 1 0 + cond (a == 1) 1 0 + cond (a == 2) 1 0 + cond (a == 3) 1 0) + 0
one_of_four a (inl e) = rw e (omega arith)
one_of_four a (inr (inl e)) = rw e (omega arith)
one_of_four a (inr (inr (inl e))) = rw e (omega arith)
one_of_four a (inr (inr (inr e))) = rw e (omega arith)

-- a command is one of the others, an ECS, or a refresh of some address
kinds : (h : Header) (c : Command) → IsCommandOf (shape_of h) c
    → 1 ≤ cond (is_other c) 1 0 + (cond (refreshes 0 c) 1 0 + cond (refreshes 1 c) 1 0 + cond (refreshes 2 c) 1 0 + cond (refreshes 3 c) 1 0) + cond (is_scrub c) 1 0
kinds h RefAb inside = omega arith
kinds h (RefSb address) inside = one_of_four address (four address inside)
kinds h Ecs inside = omega arith
kinds h c inside = omega arith

others_step : (place : Issued) (log : Log) → others (place ∷ log) ≡ cond (is_other place.command) 1 0 + others log
others_step place log = go (is_other place.command)
  where
    go : (b : Bool) → cond b (suc (others log)) (others log) ≡ cond b 1 0 + others log
    go true = omega arith
    go false = omega arith

-- those of a log together
abbrev all_kinds : Log → ℕ
all_kinds log = others log + (refs 0 log + refs 1 log + refs 2 log + refs 3 log) + scrubs log

counted : (h : Header) (trace : List TraceLine) (run : Run) → Sound h trace run → length (log_of run) ≤ all_kinds (log_of run)
counted h trace [] sound = omega arith
counted h trace (Issues s ∷ run) sound =
    let log = log_of run in
    let k = kinds h s.issued.command sound.0.in_range in
    let o = others_step s.issued log in
    let a = refs_step 0 s.issued log in
    let b = refs_step 1 s.issued log in
    let d = refs_step 2 s.issued log in
    let e = refs_step 3 s.issued log in
    let f = scrubs_step s.issued log in
    let ih = counted h trace run sound.1 in
    omega (arith, k, o, a, b, d, e, f, ih)
counted h trace (Flips number ∷ run) sound = counted h trace run sound.1

-- ---- By what the controller keeps

by_rounds : (h : Header) (trace : List TraceLine) (run : Run) (now n : ℕ) → Sound h trace run → RankKeeps h (log_of run) now → others (log_of run) ≤ 16 + 5 * n → 1 ≤ h.timing.nrefi
    → length (log_of run) ≤ 16 + 5 * n + 5 * (now / h.timing.nrefi)
by_rounds h trace run now n sound side few some =
    let log = log_of run in
    let r = side.rounds in
    let first = r.first in
    let second = r.second in
    let third = r.third in
    let begun : refs 0 log ≤ now / h.timing.nrefi = le-div (refs 0 log) now h.timing.nrefi (omega (arith, some)) side.not_early in
    let scrubbed = scrubs_few h trace run sound in
    let all = counted h trace run sound in
    omega (arith, first, second, third, begun, scrubbed, all, few)

few_others : (h : Header) (bus : BusLog) (now until idle n : ℕ) (rank : Rank) → Holds h bus now until idle n Resting → others (part rank bus) ≤ 16 + 5 * n
few_others h bus now until idle n Zero x = let few = x.state.0.between.few in omega (arith, few)
few_others h bus now until idle n One x = let few = x.state.0.between.few in omega (arith, few)

side_of : (h : Header) (bus : BusLog) (now until idle n : ℕ) (rank : Rank) → Holds h bus now until idle n Resting → RankKeeps h (part rank bus) now
side_of h bus now until idle n Zero x = x.zero_side
side_of h bus now until idle n One x = x.one_side

pub few_commands : (h : Header) (trace : List RankLine) (run : PairRun) (now until idle n : ℕ) (rank : Rank) → Sound h (only rank trace) (run_of rank run) → Keeps h (bus_of run) now until idle n Resting → 1 ≤ h.timing.nrefi
    → length (log_of (run_of rank run)) ≤ 16 + 5 * n + 5 * (now / h.timing.nrefi)
few_commands h trace run now until idle n rank sound keeps some =
    let x = opened h (bus_of run) now until idle n Resting keeps in
    by_rounds h (only rank trace) (run_of rank run) now n sound
    (subst (λ (log : Log). RankKeeps h log now) (part_is_log rank run) (side_of h (bus_of run) now until idle n rank x))
    (subst (λ (log : Log). others log ≤ 16 + 5 * n) (part_is_log rank run) (few_others h (bus_of run) now until idle n rank x)) some
