-- Judging a part of the rules, beside judging all of them.
use Rattle.std.proofs.Common.{◌≡◌, ℕ, suc, Bool, true, false, Option, Some, None, List, [], ◌∷◌, refl}
use Rattle.command_words.specs.declared.command.Command.{Command}
use Rattle.speed_bin.specs.Log.{Log}
use Rattle.speed_bin.specs.Rules.{first_failing, verdict_after, rule_1, rule_2, rule_3, rule_4, rule_5, rule_6, rule_7, rule_8, rule_9, rule_10, rule_11, rule_12, rule_13, rule_14}
use Rattle.speed_bin.specs.Rules as all
use Rattle.speed_bin.specs.declared.header.Header.{Header}
use Rattle.speed_bin.proofs.Audits.{AllTrue, all_pass}
use Rattle.speed_bin.proofs.Tests.{both, joined}
use Rattle.judged_logs.proofs.Issuing.{unbroken}
use Rattle.judged_logs.specs.Verdicts.{broken, broken_at_end, everything, is_complete, rules_at, rules_at_end, verdict, verdict_at_end, where_judged}
use Rattle.judged_logs.specs.declared.judged.Judged.{Judged}

-- ---- All rules

same_broken : (h : Header) (clock : ℕ) (command : Command) (log : Log) → broken everything h clock command log ≡ all.broken h clock command log
unfolding broken
same_broken h clock command log = refl

same_broken_at_end : (h : Header) (clock : ℕ) (log : Log) → broken_at_end everything h clock log ≡ all.broken_at_end h clock log
unfolding broken_at_end
same_broken_at_end h clock log = refl

pub all_judged : (h : Header) (log : Log) → verdict everything h log ≡ all.verdict h log
all_judged h [] = refl
all_judged h (place ∷ log) = rw (all_judged h log, same_broken h place.clock place.command log) refl

pub all_judged_at_end : (h : Header) (clock : ℕ) (log : Log) → verdict_at_end everything h clock log ≡ all.verdict_at_end h clock log
all_judged_at_end h clock log = rw (all_judged h log, same_broken_at_end h clock log) refl

-- ---- Fewer rules

passes : (j t : Bool) → t ≡ true → where_judged j t ≡ true
passes true t e = e
passes false t e = refl

none_failing : (n : ℕ) (tests : List Bool) → AllTrue tests → first_failing n tests ≡ None
none_failing n [] k = refl
none_failing n (true ∷ tests) k = none_failing (suc n) tests k.1
none_failing n (false ∷ tests) k = absurd (never k.0)
  where
    never : false ≡ true → ⊥
    never e = cc

fine_here : (j : Judged) (h : Header) (clock : ℕ) (command : Command) (log : Log) → all.broken h clock command log ≡ None → broken j h clock command log ≡ None
unfolding broken
fine_here j h clock command log fine =
    let k = all_pass 1 (all.rules_at h clock command log) fine in
    let k6 = k.1.1.1.1.1 in
    let k9 = k6.1.1.1 in
    let k11 = k9.1.1 in
    none_failing 1 (rules_at j h clock command log) (k.0, (k.1.0, (k.1.1.0, (k.1.1.1.0, (k.1.1.1.1.0, (passes j.refresh _ k6.0, (passes j.refresh _ k6.1.0, (passes j.refresh _ k6.1.1.0, (passes j.management _ k9.0, (passes j.management _ k9.1.0, (passes j.backoff _ k11.0, (passes j.backoff _ k11.1.0, (passes j.backoff _ k11.1.1.0, (passes j.frame _ k11.1.1.1.0, tt))))))))))))))

complete : (j : Judged) (h : Header) (log : Log) → is_complete everything h log ≡ true → is_complete j h log ≡ true
complete j h log e =
    let p = both _ _ e in
    let q = both _ _ p.1 in
    joined _ _ p.0 (joined _ _ q.0 (passes j.backoff _ q.1))

fine_at_end : (j : Judged) (h : Header) (clock : ℕ) (log : Log) → all.broken_at_end h clock log ≡ None → broken_at_end j h clock log ≡ None
unfolding broken_at_end
fine_at_end j h clock log fine =
    let k = all_pass 1 (all.rules_at_end h clock log) fine in
    let k6 = k.1.1.1.1.1 in
    let k13 = k6.1.1.1.1.1.1.1 in
    none_failing 1 (rules_at_end j h clock log) (k.0, (refl, (refl, (refl, (refl, (passes j.refresh _ k6.0, (refl, (refl, (refl, (refl, (refl, (refl, (passes j.backoff _ k13.0, (passes j.frame _ (complete j h log k13.1.0), tt))))))))))))))

pub fine_is_fine : (j : Judged) (h : Header) (log : Log) → all.verdict h log ≡ None → verdict j h log ≡ None
fine_is_fine j h [] fine = refl
fine_is_fine j h (place ∷ log) fine =
    let p = unbroken (all.verdict h log) _ _ fine in
    rw (fine_is_fine j h log p.0, fine_here j h place.clock place.command log p.1) refl

pub fine_is_fine_at_end : (j : Judged) (h : Header) (clock : ℕ) (log : Log) → all.verdict_at_end h clock log ≡ None → verdict_at_end j h clock log ≡ None
fine_is_fine_at_end j h clock log fine =
    let p = unbroken (all.verdict h log) _ _ fine in
    rw (fine_is_fine j h log p.0, fine_at_end j h clock log p.1) refl
