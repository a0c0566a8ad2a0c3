-- The numbers of the S lines and the clock of the E line are within their ranges.
use Rattle.std.proofs.Common.{◌≡◌, ℕ, suc, ◌+◌, ◌*◌, ◌%◌, ◌^◌, ◌<◌, ◌≤◌, ◌==◌, Bool, true, false, cond, List, [], ◌∷◌, length, sum, refl, arith}
use Rattle.std.specs.Prelude.{◌&&◌, is_none, is_some}
use Rattle.std.proofs.Math.Nat.{div-le_self, mul-le-mul_left}
use Rattle.std.proofs.lemmas.List.Sums.{count_by-le-length}
use Rattle.command_words.specs.Command.{bank_number}
use Rattle.command_words.specs.Geometry.{Shape}
use Rattle.command_words.specs.declared.command.Command.{Command}
use Rattle.command_words.specs.declared.command.Command.TheVariants.{Act, Rd, Wr, PrePb, PreSb, PreAb, RefAb, RefSb, RfmAb, RfmSb, Mrw, Ecs, Nop}
use Rattle.ddr_text.specs.declared.lines.TraceLine.{TraceLine}
use Rattle.ddr_text.specs.declared.lines.TraceLine.TheVariants.{Read, Write, Flip, Idle}
use Rattle.speed_bin.specs.Alert.{alert}
use Rattle.speed_bin.specs.Counters.{Counter, acts, acts_after, counters, is_row, mitigated}
use Rattle.speed_bin.specs.Counts.{alerts, acts_opened, commands, peak}
use Rattle.speed_bin.specs.Gap.{n_max}
use Rattle.speed_bin.specs.Header.{IsAccepted, shape_of}
use Rattle.command_words.specs.Kinds.{Effect, Opens, Closes, Manages, Refreshes, Leaves, effect, is_scrub}
use Rattle.speed_bin.specs.Log.{Log, scrubs as scrubs_in}
use Rattle.speed_bin.specs.declared.header.Header.{Header}
use Rattle.error_scrub.specs.Scrubbing.{Step as Visit, fixed_in, lost_in, found_of, lost_of, visit_length, visit_of, worst_of, is_fixed, is_lost, line_after}
use Rattle.device_core.specs.Steps.{Step as DeviceStep, Issues as Gives, Flips as Turns, log_of as device_log}
use Rattle.device_core.specs.Stored.{changes_of, scrub_counts, visits, words_after}
use Rattle.reports.specs.Barriers.{idle_clocks}
use Rattle.reports.specs.Requests.{requests, requests_from}
use Rattle.reports.specs.Runs.{Run, log_of}
use Rattle.reports.specs.Sound.{IsRun}

-- ---- Counts of a log

alerts-few : (h : Header) (log : Log) → alerts h log ≤ length log
alerts-few h [] = omega arith
alerts-few h (place ∷ log) = go (is_none (alert h log) && is_some (alert h (place ∷ log))) (alerts-few h log)
  where
    go : (b : Bool) → alerts h log ≤ length log → cond b (suc (alerts h log)) (alerts h log) ≤ suc (length log)
    go true le = omega (arith, le)
    go false le = omega (arith, le)

opened-few : (b : Bool) (before n : ℕ) → before ≤ n → cond b (suc before) before ≤ suc n
opened-few true before n le = omega (arith, le)
opened-few false before n le = omega (arith, le)

managed-few : (b : Bool) (before n : ℕ) → before ≤ n → cond b 0 before ≤ suc n
managed-few true before n le = omega arith
managed-few false before n le = omega (arith, le)

acts-step : (h : Header) (row : ℕ) (e : Effect) (cs : List Counter) (before n : ℕ) → before ≤ n → acts_after h row e cs before ≤ suc n
acts-step h row (Opens r) cs before n le = opened-few (r == row) before n le
acts-step h row Manages cs before n le = managed-few (is_row (mitigated h Manages cs) row) before n le
acts-step h row Closes cs before n le = omega (arith, le)
acts-step h row Refreshes cs before n le = omega (arith, le)
acts-step h row Leaves cs before n le = omega (arith, le)

acts-few : (h : Header) (b row : ℕ) (log : Log) → acts h b row log ≤ length log
acts-few h b row [] = omega arith
acts-few h b row (place ∷ log) = acts-step h row (effect b place.command) (counters h b log) (acts h b row log) (length log) (acts-few h b row log)

opens-few : (h : Header) (command : Command) (log : Log) → acts_opened h command log ≤ length log
opens-few h (Act bank row) log = acts-few h (bank_number bank) row log
opens-few h (Rd bank column) log = omega arith
opens-few h (Wr bank column) log = omega arith
opens-few h (PrePb bank) log = omega arith
opens-few h (PreSb address) log = omega arith
opens-few h PreAb log = omega arith
opens-few h RefAb log = omega arith
opens-few h (RefSb address) log = omega arith
opens-few h RfmAb log = omega arith
opens-few h (RfmSb address) log = omega arith
opens-few h (Mrw write) log = omega arith
opens-few h Ecs log = omega arith
opens-few h Nop log = omega arith

peak-few : (h : Header) (log : Log) → peak h log ≤ length log
peak-few h [] = omega arith
peak-few h (place ∷ log) = let a = opens-few h place.command (place ∷ log) in let b = peak-few h log in omega (arith, a, b)

pub commands-few : (kind : Command → Bool) (log : Log) → commands kind log ≤ length log
commands-few kind log = count_by-le-length (λ place. kind place.command) log

-- ---- Counts of a scrub

one-more : (b : Bool) (n m : ℕ) → n ≤ m → cond b 1 0 + n ≤ suc m
one-more true n m le = omega (arith, le)
one-more false n m le = omega (arith, le)

fixed-few : (words : Visit) → fixed_in words ≤ length words
fixed-few [] = omega arith
fixed-few (word ∷ words) = one-more (is_fixed word) (fixed_in words) (length words) (fixed-few words)

lost-few : (words : Visit) → lost_in words ≤ length words
lost-few [] = omega arith
lost-few (word ∷ words) = one-more (is_lost word) (lost_in words) (length words) (lost-few words)

-- the counts of some visits are at most so many
record AreFew (g : Shape) (most : ℕ) (log : List Visit) : Type 0 where
  found : found_of log ≤ most
  lost : lost_of log ≤ most
  visit : visit_of g log ≤ most
  worst : worst_of g log ≤ most

more-few : (g : Shape) (most later : ℕ) (log : List Visit) → most ≤ later → AreFew g most log → AreFew g later log
more-few g most later log le f = record { found = omega (arith, le, f.found); lost = omega (arith, le, f.lost); visit = omega (arith, le, f.visit); worst = omega (arith, le, f.worst) }

visit-step : (b : Bool) (words n most : ℕ) → words ≤ 8 → n ≤ most → words + cond b 0 n ≤ most + 8
visit-step true words n most le few = omega (arith, le, few)
visit-step false words n most le few = omega (arith, le, few)

step-few : (g : Shape) (most : ℕ) (words : Visit) (log : List Visit) → length words ≡ 4 → AreFew g most log → AreFew g (most + 8) (words ∷ log)
step-few g most words log four f =
    let fixed = fixed-few words in
    let lost = lost-few words in
    let visit : visit_of g (words ∷ log) ≤ most + 8 = visit-step (length log % visit_length g == 0) (fixed_in words + lost_in words) (visit_of g log) most (omega (arith, fixed, lost, four)) f.visit in
    record {
      found = omega (arith, fixed, four, f.found);
      lost = omega (arith, lost, four, f.lost);
      visit = visit;
      worst = omega (arith, visit, f.worst);
    }

scrub-step : (g : Shape) (b : Bool) (most : ℕ) (words : Visit) (log : List Visit) → length words ≡ 4 → AreFew g most log → AreFew g (most + 8) (cond b (words ∷ log) log)
scrub-step g true most words log four f = step-few g most words log four f
scrub-step g false most words log four f = more-few g most (most + 8) log (omega arith) f

visits-few : (h : Header) (steps : List DeviceStep) → AreFew (shape_of h) (8 * length (device_log steps)) (visits h steps)
visits-few h [] = record { found = omega arith; lost = omega arith; visit = omega arith; worst = omega arith }
visits-few h (Gives delivered ∷ steps) =
    more-few (shape_of h) (8 * length (device_log steps) + 8) (8 * suc (length (device_log steps))) (visits h (Gives delivered ∷ steps)) (omega arith)
    (scrub-step (shape_of h) (is_scrub delivered.issued.command) (8 * length (device_log steps)) (words_after (changes_of h steps) (line_after (shape_of h) (scrubs_in (device_log steps)))) (visits h steps) refl (visits-few h steps))
visits-few h (Turns place device bit ∷ steps) = visits-few h steps

-- the counts of the scrub that an S line tells are at most so many
pub record AreScrubsFew (h : Header) (most : ℕ) (steps : List DeviceStep) : Type 0 where
  pub found : (scrub_counts h steps).found ≤ most
  pub lost : (scrub_counts h steps).lost ≤ most
  pub worst : (scrub_counts h steps).worst ≤ most

pub scrubs-few : (h : Header) (steps : List DeviceStep) → AreScrubsFew h (8 * length (device_log steps)) steps
scrubs-few h steps = let k = visits-few h steps in record { found = k.found; lost = k.lost; worst = k.worst }

pub record AreCountsFew (h : Header) (log : Log) : Type 0 where
  pub alert : alerts h log ≤ length log
  pub peak : peak h log ≤ length log

pub counts-few : (h : Header) (log : Log) → AreCountsFew h log
counts-few h log = record { alert = alerts-few h log; peak = peak-few h log }

-- ---- The end

few-asked : (n : ℕ) (trace : List TraceLine) → length (requests_from n trace) ≤ length trace
few-asked n [] = omega arith
few-asked n (Read line ∷ trace) = let k = few-asked (suc n) trace in omega (arith, k)
few-asked n (Write line bytes ∷ trace) = let k = few-asked (suc n) trace in omega (arith, k)
few-asked n (Flip line device bit ∷ trace) = let k = few-asked (suc n) trace in omega (arith, k)
few-asked n (Idle clocks ∷ trace) = let k = few-asked (suc n) trace in omega (arith, k)

fast-gaps : (h : Header) → IsAccepted h → n_max h.timing ≤ 10922
fast-gaps h a = let k = a.checks.closing_within_two in let l = a.timing.nrefi.1 in omega (arith, k, l)

times : (a b c : ℕ) → b ≤ c → a * b ≤ a * c
times a b c le = mul-le-mul_left a le

end-below : (m n idle clock : ℕ) → clock ≤ 2 * (idle + 8 * m * (n + 3)) → m ≤ 10922 → n ≤ 1048576 → idle ≤ 4294967296 → clock < 2 ^ 40
end-below m n idle clock end gaps few short =
    let high : m * (n + 3) ≤ m * 1048579 = times m (n + 3) 1048579 (omega (arith, few)) in
    omega (arith, high, end, gaps, short)

pub end-low : (h : Header) (trace : List TraceLine) (run : Run) (clock : ℕ) → IsAccepted h → length trace ≤ 1048576 → sum (idle_clocks trace) ≤ 4294967296 → IsRun h trace run clock → clock < 2 ^ 40
end-low h trace run clock a few idle r =
    end-below (n_max h.timing) (length (requests trace)) (sum (idle_clocks trace)) clock r.short.end (fast-gaps h a) (let k = few-asked 1 trace in omega (arith, k, few)) idle

pub log-short : (h : Header) (trace : List TraceLine) (run : Run) (clock : ℕ) → IsAccepted h → length trace ≤ 1048576 → sum (idle_clocks trace) ≤ 4294967296 → IsRun h trace run clock → length (log_of run) < 2 ^ 48
log-short h trace run clock a few idle r =
    let low = end-low h trace run clock a few idle r in
    let made = r.short.commands in
    let requested = few-asked 1 trace in
    let intervals = div-le_self clock h.timing.nrefi in
    omega (arith, low, made, requested, intervals, few)
