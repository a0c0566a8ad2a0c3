-- A pair whose trace is done has a finished run.
use Rattle.std.proofs.Common.{◌≡◌, ℕ, ◌≤◌, ◌&&◌, true, refl, ap, subst, arith, List, [], ◌∷◌, length, Option, None, is_none, nat_le, le-leb, lt-ltb}
use Rattle.command_words.specs.Kinds.{is_act, is_nop}
use Rattle.pair_deadlines.specs.Before.{AllBefore}
use Rattle.pair_deadlines.specs.Keeping.{Resting}
use Rattle.rank_bus.specs.Buses.{part}
use Rattle.rank_bus.specs.Standing.{now_of}
use Rattle.reports.specs.Requests.{requests}
use Rattle.speed_bin.proofs.Tests.{all_below_from, joined}
use Rattle.speed_bin.specs.Alert.{alert}
use Rattle.speed_bin.specs.Below.{all_below}
use Rattle.speed_bin.specs.Counts.{commands}
use Rattle.speed_bin.specs.Log.{Log, open_at}
use Rattle.speed_bin.specs.Rules.{all_closed, broken_at_end, is_on_time, rule_1, rule_13}
use Rattle.speed_bin.specs.declared.header.Header.{Header}
use Rattle.pair_reports.proofs.Parts.{part_is_log}
use Rattle.pair_reports.specs.Lines.{only}
use Rattle.pair_reports.specs.Runs.{bus_of}
use Rattle.pair_reports.specs.Sound.{IsPairRun}
use Rattle.pair_reports.specs.declared.rank_line.RankLine.{RankLine}
use Rattle.rank_pair.specs.DeadlineLaws.{DeadlineLaws}
use Rattle.rank_pair.specs.FinishedLaws.{FinishedLaws}
use Rattle.rank_pair.specs.Under.{AllShut, IsUnder, asked_in, idle_in}
use Rattle.rank_pair.specs.declared.pair.Pair.{Pair}

first_rule : (now : ℕ) (log : Log) → AllBefore now log → rule_1 now log ≡ true
first_rule now [] b = refl
first_rule now (place ∷ log) b = lt-ltb place.clock now b.0

last_rule : (h : Header) (log : Log) → 8 ≤ length log → AllShut log → alert h log ≡ None → (nat_le 8 (length log) && (all_closed log && is_none (alert h log))) ≡ true
last_rule h log more shut none =
    joined (nat_le 8 (length log)) (all_closed log && is_none (alert h log)) (le-leb 8 (length log) more)
    (joined (all_closed log) (is_none (alert h log)) (all_below_from 32 (λ b. is_none (open_at b log)) (λ b low. ap is_none (shut b low))) (ap is_none none))

-- no rule is broken at the end
ends_well : (h : Header) (now : ℕ) (log : Log) → AllBefore now log → all_below 4 (λ address. is_on_time h now address log) ≡ true → 8 ≤ length log → AllShut log → alert h log ≡ None → broken_at_end h now log ≡ None
ends_well h now log before on_time more shut none =
    let thirteen : rule_13 h now log ≡ true = rw none refl in
    rw (first_rule now log before, on_time, thirteen, last_rule h log more shut none) refl

pub is_pair_run : DeadlineLaws → FinishedLaws → (p : Pair) (h : Header) (trace : List RankLine) (since until : ℕ) (before after : Option (List ℕ)) (u : IsUnder p h trace (record { front = trace; since = since }) until Resting before after) → IsPairRun h trace u.run (now_of p.bus)
is_pair_run l f p h trace since until before after u =
    let b = u.under.on_bus in
    let d = u.under.all_done in
    let run = u.run in
    record {
      sound = d.sound;
      shares = d.shares;
      in_order = d.in_order;
      ends = λ rank. subst (λ (log : Log). broken_at_end h (now_of p.bus) log ≡ None) (part_is_log rank run)
          (ends_well h (now_of p.bus) (part rank (bus_of run)) (b.logged rank).before
          (l.ends h (bus_of run) (now_of p.bus) until (idle_in trace) (asked_in trace) rank b.accepted b.time b.keeps) (b.logged rank).written (u.under.shut rank)
          (l.calm h (bus_of run) (now_of p.bus) until (idle_in trace) (asked_in trace) rank b.keeps));
      apart = d.paced.apart;
      idled = (let a = d.paced.idled in let c = u.under.past in omega (arith, a, c));
      short = record {
        activations = λ rank. subst (λ (log : Log). commands is_act log ≡ length (requests (only rank trace))) (part_is_log rank run) (b.logged rank).acts;
        commands = λ rank. f.few h trace run (now_of p.bus) until (idle_in trace) (asked_in trace) rank (d.sound rank) b.keeps b.accepted.timing.nrefi.0;
        no_nop = λ rank. subst (λ (log : Log). commands is_nop log ≡ 0) (part_is_log rank run) (b.logged rank).no_nop;
        end = l.bound h (bus_of run) (now_of p.bus) until (idle_in trace) (asked_in trace) Resting b.accepted b.time b.keeps;
      };
    }
