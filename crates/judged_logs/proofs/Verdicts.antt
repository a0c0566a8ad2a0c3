-- The least judged rule that fails, by the groups of rules; and verdicts one place later.
use Rattle.std.proofs.Common.{◌≡◌, ◌∙◌, ℕ, suc, Bool, true, false, Option, Some, None, List, [], ◌∷◌, length, refl, sym, ap}
use Rattle.std.specs.Option.{option_or}
use Rattle.command_words.specs.declared.command.Command.{Command}
use Rattle.log_ledger.specs.Standing.{bank_rules}
use Rattle.speed_bin.specs.Log.{Log, Issued}
use Rattle.speed_bin.specs.Rules.{first_failing, rule_1, rule_2, rule_3, rule_4, rule_5, rule_6, rule_7, rule_8, rule_9, rule_10, rule_11, rule_12, rule_13, rule_14}
use Rattle.speed_bin.specs.declared.header.Header.{Header}
use Rattle.timing_rules.specs.Spaced.{spacing_rules}
use Rattle.judged_logs.specs.Verdicts.{alert_tests, broken, broken_at_end, count_tests, frame_tests, is_complete, is_refreshed, refresh_tests, verdict, verdict_at_end, where_judged}
use Rattle.judged_logs.specs.declared.judged.Judged.{Judged}

-- ---- Groups of tests

three : (n : ℕ) (a b c : Bool) (rest : List Bool) → first_failing n (a ∷ b ∷ c ∷ rest) ≡ option_or (first_failing n (a ∷ b ∷ c ∷ [])) (first_failing (suc (suc (suc n))) rest)
three n false b c rest = refl
three n true false c rest = refl
three n true true false rest = refl
three n true true true rest = refl

two : (n : ℕ) (a b : Bool) (rest : List Bool) → first_failing n (a ∷ b ∷ rest) ≡ option_or (first_failing n (a ∷ b ∷ [])) (first_failing (suc (suc n)) rest)
two n false b rest = refl
two n true false rest = refl
two n true true rest = refl

assoc : (x y z : Option ℕ) → option_or (option_or x y) z ≡ option_or x (option_or y z)
assoc None y z = refl
assoc (Some x) y z = refl

in_turn : (g b p c m w : Option ℕ) → option_or (option_or (option_or (option_or (option_or g b) p) c) m) w ≡ option_or g (option_or b (option_or p (option_or c (option_or m w))))
in_turn (Some g) b p c m w = refl
in_turn None (Some b) p c m w = refl
in_turn None None (Some p) c m w = refl
in_turn None None None c m w = assoc c m w

in_groups : (g1 g2 g3 b1 b2 p1 p2 p3 c1 c2 m1 m2 m3 w : Bool)
    → option_or (first_failing 1 (g1 ∷ g2 ∷ g3 ∷ [])) (option_or (first_failing 4 (b1 ∷ b2 ∷ [])) (option_or (first_failing 6 (p1 ∷ p2 ∷ p3 ∷ []))
    (option_or (first_failing 9 (c1 ∷ c2 ∷ [])) (option_or (first_failing 11 (m1 ∷ m2 ∷ m3 ∷ [])) (first_failing 14 (w ∷ []))))))
    ≡ first_failing 1 (g1 ∷ g2 ∷ g3 ∷ b1 ∷ b2 ∷ p1 ∷ p2 ∷ p3 ∷ c1 ∷ c2 ∷ m1 ∷ m2 ∷ m3 ∷ w ∷ [])
in_groups g1 g2 g3 b1 b2 p1 p2 p3 c1 c2 m1 m2 m3 w = sym (
    three 1 g1 g2 g3 (b1 ∷ b2 ∷ p1 ∷ p2 ∷ p3 ∷ c1 ∷ c2 ∷ m1 ∷ m2 ∷ m3 ∷ w ∷ [])
    ∙ ap (λ x. option_or (first_failing 1 (g1 ∷ g2 ∷ g3 ∷ [])) x) (
    two 4 b1 b2 (p1 ∷ p2 ∷ p3 ∷ c1 ∷ c2 ∷ m1 ∷ m2 ∷ m3 ∷ w ∷ [])
    ∙ ap (λ x. option_or (first_failing 4 (b1 ∷ b2 ∷ [])) x) (
    three 6 p1 p2 p3 (c1 ∷ c2 ∷ m1 ∷ m2 ∷ m3 ∷ w ∷ [])
    ∙ ap (λ x. option_or (first_failing 6 (p1 ∷ p2 ∷ p3 ∷ [])) x) (
    two 9 c1 c2 (m1 ∷ m2 ∷ m3 ∷ w ∷ [])
    ∙ ap (λ x. option_or (first_failing 9 (c1 ∷ c2 ∷ [])) x) (three 11 m1 m2 m3 (w ∷ [])))))
    )

same_groups : (g b p c m w g' b' p' c' m' w' : Option ℕ) → g ≡ g' → b ≡ b' → p ≡ p' → c ≡ c' → m ≡ m' → w ≡ w'
    → option_or g (option_or b (option_or p (option_or c (option_or m w)))) ≡ option_or g' (option_or b' (option_or p' (option_or c' (option_or m' w'))))
same_groups g b p c m w g' b' p' c' m' w' e1 e2 e3 e4 e5 e6 = rw (e1, e2, e3, e4, e5, e6) refl

pub broken_is : (j : Judged) (h : Header) (clock : ℕ) (command : Command) (log : Log) (g b p c m w : Option ℕ)
    → g ≡ first_failing 1 (spacing_rules h.timing clock command log)
    → b ≡ first_failing 4 (bank_rules command log)
    → p ≡ first_failing 6 (refresh_tests j.refresh h clock command log)
    → c ≡ first_failing 9 (count_tests j.management h command log)
    → m ≡ first_failing 11 (alert_tests j.backoff h clock command log)
    → w ≡ first_failing 14 (frame_tests j.frame h command log)
    → option_or (option_or (option_or (option_or (option_or g b) p) c) m) w ≡ broken j h clock command log
unfolding broken
broken_is j h clock command log g b p c m w e1 e2 e3 e4 e5 e6 = in_turn g b p c m w ∙ same_groups g b p c m w _ _ _ _ _ _ e1 e2 e3 e4 e5 e6
    ∙ in_groups (rule_1 clock log) (rule_2 h.timing clock command log) (rule_3 h.timing clock command log) (rule_4 command log) (rule_5 command log)
    (where_judged j.refresh (rule_6 h clock command log)) (where_judged j.refresh (rule_7 command log)) (where_judged j.refresh (rule_8 h command log))
    (where_judged j.management (rule_9 h command log)) (where_judged j.management (rule_10 h command log))
    (where_judged j.backoff (rule_11 h command log)) (where_judged j.backoff (rule_12 h clock command log)) (where_judged j.backoff (rule_13 h clock log))
    (where_judged j.frame (rule_14 h command log))

end_in_groups : (r1 r6 r13 r14 : Bool)
    → option_or (option_or (option_or (first_failing 1 (r1 ∷ [])) (first_failing 6 (r6 ∷ []))) (first_failing 13 (r13 ∷ []))) (first_failing 14 (r14 ∷ []))
    ≡ first_failing 1 (r1 ∷ true ∷ true ∷ true ∷ true ∷ r6 ∷ true ∷ true ∷ true ∷ true ∷ true ∷ true ∷ r13 ∷ r14 ∷ [])
end_in_groups false r6 r13 r14 = refl
end_in_groups true false r13 r14 = refl
end_in_groups true true false r14 = refl
end_in_groups true true true r14 = refl

pub end_broken_is : (j : Judged) (h : Header) (clock : ℕ) (log : Log) (x1 x6 x13 x14 : Bool) (a b c d : Option ℕ)
    → a ≡ first_failing 1 (x1 ∷ []) → b ≡ first_failing 6 (x6 ∷ []) → c ≡ first_failing 13 (x13 ∷ []) → d ≡ first_failing 14 (x14 ∷ [])
    → x1 ≡ rule_1 clock log → x6 ≡ where_judged j.refresh (is_refreshed h clock log) → x13 ≡ where_judged j.backoff (rule_13 h clock log)
    → x14 ≡ where_judged j.frame (is_complete j h log)
    → option_or (option_or (option_or a b) c) d ≡ broken_at_end j h clock log
unfolding broken_at_end
end_broken_is j h clock log x1 x6 x13 x14 a b c d e1 e2 e3 e4 f1 f2 f3 f4 =
    rw (e1, e2, e3, e4, f1, f2, f3, f4) (end_in_groups (rule_1 clock log) (where_judged j.refresh (is_refreshed h clock log)) (where_judged j.backoff (rule_13 h clock log)) (where_judged j.frame (is_complete j h log)))

-- ---- Verdicts, one place later

pub still_broken : (j : Judged) (h : Header) (place : Issued) (log : Log) (breach : ℕ × ℕ) → verdict j h log ≡ Some breach → verdict j h (place ∷ log) ≡ Some breach
still_broken j h place log breach e = rw e refl

pub still_ended : (j : Judged) (h : Header) (clock : ℕ) (log : Log) (breach : ℕ × ℕ) → verdict j h log ≡ Some breach → verdict_at_end j h clock log ≡ Some breach
still_ended j h clock log breach e = rw e refl

pub now_broken : (j : Judged) (h : Header) (clock : ℕ) (command : Command) (log : Log) (number : ℕ) → verdict j h log ≡ None → broken j h clock command log ≡ Some number → verdict j h (record { clock = clock; command = command } ∷ log) ≡ Some (suc (length log), number)
now_broken j h clock command log number e f = rw (e, f) refl

pub still_fine : (j : Judged) (h : Header) (clock : ℕ) (command : Command) (log : Log) → verdict j h log ≡ None → broken j h clock command log ≡ None → verdict j h (record { clock = clock; command = command } ∷ log) ≡ None
still_fine j h clock command log e f = rw (e, f) refl
