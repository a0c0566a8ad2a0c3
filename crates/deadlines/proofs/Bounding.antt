-- How many commands a job takes, and until when.
use Rattle.std.proofs.Common.{◌≡◌, ◌∙◌, ℕ, suc, ◌+◌, ◌*◌, ◌/◌, ◌≤◌, ◌<◌, true, refl, ap, arith, cond, List, [], ◌∷◌, length, Option, ltb-true}
use Rattle.std.proofs.Math.Nat.{mul-le-mul_right}
use Rattle.std.proofs.lemmas.Nat.{le-div}
use Rattle.command_words.specs.declared.command.Command.{Command}
use Rattle.command_words.specs.declared.command.Command.TheVariants.{Act, Rd, Wr, PrePb, PreSb, PreAb, RefAb, RefSb, RfmAb, RfmSb, Mrw, Ecs, Nop}
use Rattle.speed_bin.specs.declared.header.Header.{Header}
use Rattle.speed_bin.specs.Log.{Log, refs, scrubs}
use Rattle.command_words.specs.Kinds.{is_act, is_precharge, is_rfm_all, is_rfm_same, is_mrw, is_nop, is_scrub}
use Rattle.speed_bin.specs.Gap.{n_max}
use Rattle.speed_bin.specs.Counts.{commands}
use Rattle.requests.specs.Owed.{is_column}
use Rattle.deadlines.specs.declared.task.Task.{Task}
use Rattle.deadlines.proofs.OneMore.{one_more}
use Rattle.deadlines.proofs.Moves.{Slack}
use Rattle.deadlines.specs.Rounds.{Rounds}
use Rattle.deadlines.specs.Standing.{Stands}
use Rattle.deadlines.specs.Pace.{is_other, others, WithinSpans}
use Rattle.deadlines.specs.Counts.{AllAddressed, is_addressed, Job}
use Rattle.deadlines.proofs.Rounds.{scrubs_step}
use Rattle.deadlines.proofs.Keeping.{few_scrubs, not_early_now, some_interval}
use Rattle.deadlines.proofs.Pace.{refs_sum, sum_all, sum_own, sum_grows, in_spans_bound}
use Rattle.deadlines.proofs.Counting.{precharges_most, rfm_all_most, rfm_same_most, acts_most, owed_waiting}

-- the commands that are neither REF nor ECS are of seven kinds
pub others_are : (log : Log) → others log ≡ commands is_mrw log + commands is_act log + commands is_column log + commands is_precharge log + commands is_rfm_all log + commands is_rfm_same log + commands is_nop log
others_are [] = refl
others_are (place ∷ log) = rw (one_more is_mrw place log, one_more is_act place log, one_more is_column place log, one_more is_precharge place log, one_more is_rfm_all place log, one_more is_rfm_same place log, one_more is_nop place log) (go place.command (others_are log))
  where
    go : (c : Command) → others log ≡ commands is_mrw log + commands is_act log + commands is_column log + commands is_precharge log + commands is_rfm_all log + commands is_rfm_same log + commands is_nop log → cond (is_other c) (suc (others log)) (others log) ≡ cond (is_mrw c) (suc (commands is_mrw log)) (commands is_mrw log) + cond (is_act c) (suc (commands is_act log)) (commands is_act log) + cond (is_column c) (suc (commands is_column log)) (commands is_column log) + cond (is_precharge c) (suc (commands is_precharge log)) (commands is_precharge log) + cond (is_rfm_all c) (suc (commands is_rfm_all log)) (commands is_rfm_all log) + cond (is_rfm_same c) (suc (commands is_rfm_same log)) (commands is_rfm_same log) + cond (is_nop c) (suc (commands is_nop log)) (commands is_nop log)
    go (Act b r) ih = omega arith
    go (Rd b c) ih = omega arith
    go (Wr b c) ih = omega arith
    go (PrePb b) ih = omega arith
    go (PreSb b) ih = omega arith
    go PreAb ih = omega arith
    go RefAb ih = omega arith
    go (RefSb b) ih = omega arith
    go RfmAb ih = omega arith
    go (RfmSb b) ih = omega arith
    go (Mrw w) ih = omega arith
    go Ecs ih = omega arith
    go Nop ih = omega arith

-- the refreshes and scrubs among the places
pub places_most : (log : Log) → AllAddressed log → length log ≤ others log + refs_sum log + scrubs log
unfolding refs_sum
places_most [] ok = omega arith
places_most (place ∷ log) ok = go place.command refl (places_most log ok.1)
  where
    go : (c : Command) → place.command ≡ c → length log ≤ others log + refs_sum log + scrubs log → suc (length log) ≤ cond (is_other c) (suc (others log)) (others log) + refs_sum (place ∷ log) + scrubs (place ∷ log)
    go RefAb is ih = let a = sum_all place log is in let s = scrubs_step place log in omega arith
    go (RefSb a) is ih =
        let low : a < 4 = ltb-true _ _ (let k : is_addressed (RefSb a) ≡ true = rw is at ok.0 in k) in
        let b = sum_own a place log low is in
        let s = scrubs_step place log in
        omega arith
    go Ecs is ih = let b = sum_grows place log in let s : scrubs (place ∷ log) ≡ 1 + scrubs log = scrubs_step place log ∙ ap (λ (c : Command). cond (is_scrub c) 1 0 + scrubs log) is in omega arith
    go (Act b r) is ih = let b = sum_grows place log in let s = scrubs_step place log in omega arith
    go (Rd b c) is ih = let b = sum_grows place log in let s = scrubs_step place log in omega arith
    go (Wr b c) is ih = let b = sum_grows place log in let s = scrubs_step place log in omega arith
    go (PrePb b) is ih = let b = sum_grows place log in let s = scrubs_step place log in omega arith
    go (PreSb b) is ih = let b = sum_grows place log in let s = scrubs_step place log in omega arith
    go PreAb is ih = let b = sum_grows place log in let s = scrubs_step place log in omega arith
    go RfmAb is ih = let b = sum_grows place log in let s = scrubs_step place log in omega arith
    go (RfmSb b) is ih = let b = sum_grows place log in let s = scrubs_step place log in omega arith
    go (Mrw w) is ih = let b = sum_grows place log in let s = scrubs_step place log in omega arith
    go Nop is ih = let b = sum_grows place log in let s = scrubs_step place log in omega arith

-- ---- The bounds

pub acts_bound : (h : Header) (log : Log) (waiting : List ℕ) (n : ℕ) → Job h log waiting n → commands is_act log ≤ n
acts_bound h log waiting n j =
    let a = acts_most h log j.work in
    let b = owed_waiting log waiting j.owes in
    let c = j.offered in
    omega arith

pub others_bound : (h : Header) (log : Log) (waiting : List ℕ) (n : ℕ) → Job h log waiting n → others log ≤ 8 + 5 * n
others_bound h log waiting n j =
    let a = acts_bound h log waiting n j in
    let b = precharges_most h log j.work in
    let c = rfm_all_most h log j.work in
    let d = rfm_same_most h log j.some_raaimt j.work in
    let e = others_are log in
    let f = j.offered in
    let g = j.writes in
    let i = j.no_nop in
    omega arith

-- the end of a job
pub end_bound : (h : Header) (log : Log) (waiting : List ℕ) (n now until idle : ℕ) → Slack h → Job h log waiting n → AllAddressed log → Rounds log → scrubs log ≤ refs 0 log → refs 0 log * h.timing.nrefi ≤ now → (p : WithinSpans h log now until idle) → p.y ≤ 2 * (idle + 8 * (n_max h.timing) * (n + 3))
end_bound h log waiting n now until idle slack j ok r few early p =
    let a = in_spans_bound h log now until idle slack ok r few early p in
    let b : others log * n_max h.timing ≤ (8 + 5 * n) * n_max h.timing = mul-le-mul_right (n_max h.timing) (others_bound h log waiting n j) in
    let c : (8 + 5 * n) * n_max h.timing ≤ (8 * (n + 3)) * n_max h.timing = mul-le-mul_right (n_max h.timing) (omega arith) in
    omega arith

pub places_bound : (h : Header) (log : Log) (waiting : List ℕ) (n now : ℕ) → 0 < h.timing.nrefi → Job h log waiting n → AllAddressed log → Rounds log → scrubs log ≤ refs 0 log → refs 0 log * h.timing.nrefi ≤ now → length log ≤ 8 + 5 * n + 5 * (now / h.timing.nrefi)
unfolding refs_sum
places_bound h log waiting n now some j ok r few early =
    let a = places_most log ok in
    let b = others_bound h log waiting n j in
    let c : refs 0 log ≤ now / h.timing.nrefi = le-div (refs 0 log) now h.timing.nrefi some early in
    let d = r.first in
    let e = r.second in
    let f = r.third in
    let s : refs_sum log ≡ refs 0 log + refs 1 log + refs 2 log + refs 3 log = refl in
    omega arith

pub end_law : (h : Header) (task : Option Task) (log : Log) (waiting : List ℕ) (n now until idle : ℕ) → Slack h → Stands h log task now → Job h log waiting n → AllAddressed log → (p : WithinSpans h log now until idle) → p.y ≤ 2 * (idle + 8 * n_max h.timing * (n + 3))
end_law h task log waiting n now until idle slack s j ok p = end_bound h log waiting n now until idle slack j ok s.timely.rounds (few_scrubs h task now log s) (not_early_now h task now log s) p

pub places_law : (h : Header) (task : Option Task) (log : Log) (waiting : List ℕ) (n now : ℕ) → Slack h → Stands h log task now → Job h log waiting n → AllAddressed log → length log ≤ 8 + 5 * n + 5 * (now / h.timing.nrefi)
places_law h task log waiting n now slack s j ok = places_bound h log waiting n now (some_interval h slack) j ok s.timely.rounds (few_scrubs h task now log s) (not_early_now h task now log s)
