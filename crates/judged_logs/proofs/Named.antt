-- A verdict names no rule that is left out.
use Rattle.std.proofs.Common.{◌≡◌, ℕ, suc, Bool, true, false, Option, Some, None, List, [], ◌∷◌, length, refl, ap, subst}
use Rattle.command_words.specs.declared.command.Command.{Command}
use Rattle.speed_bin.specs.Log.{Log}
use Rattle.speed_bin.specs.Rules.{first_failing, verdict_after, rule_1, rule_2, rule_3, rule_4, rule_5, rule_6, rule_7, rule_8, rule_9, rule_10, rule_11, rule_12, rule_13, rule_14}
use Rattle.speed_bin.specs.declared.header.Header.{Header}
use Rattle.judged_logs.specs.Verdicts.{broken, broken_at_end, is_complete, is_judged, is_refreshed, rules_at, rules_at_end, verdict, verdict_at_end, where_judged}
use Rattle.judged_logs.specs.declared.judged.Judged.{Judged}

abbrev number_or : ℕ → Option ℕ → ℕ
number_or x None = x
number_or x (Some y) = y

abbrev breach_or : ℕ × ℕ → Option (ℕ × ℕ) → ℕ × ℕ
breach_or x None = x
breach_or x (Some y) = y

-- what is named of these tests, which are numbered from n, is judged
Names : Judged → ℕ → List Bool → Type 0
Names j n tests = (rule : ℕ) → first_failing n tests ≡ Some rule → is_judged j rule ≡ true

none_left : (j : Judged) (n : ℕ) → Names j n []
unfolding Names
none_left j n = λ rule e. absurd (never rule e)
  where
    never : (rule : ℕ) → None ≡ Some rule → ⊥
    never rule e = cc

next : (j : Judged) (n : ℕ) (judged test : Bool) (rest : List Bool) → (judged ≡ true → is_judged j n ≡ true) → Names j (suc n) rest → Names j n (where_judged judged test ∷ rest)
unfolding Names
next j n true false rest here later = λ rule e. subst (λ (r : ℕ). is_judged j r ≡ true) (ap (λ (o : Option ℕ). number_or n o) e) (here refl)
next j n true true rest here later = later
next j n false test rest here later = later

-- a rule of which nothing is asked
passed : (j : Judged) (n : ℕ) (rest : List Bool) → Names j (suc n) rest → Names j n (true ∷ rest)
unfolding Names
passed j n rest later = later

names : (j : Judged) (h : Header) (clock : ℕ) (command : Command) (log : Log) → Names j 1 (rules_at j h clock command log)
names j h clock command log =
    next j 1 true (rule_1 clock log) _ (λ is. refl)
    (next j 2 true (rule_2 h.timing clock command log) _ (λ is. refl)
    (next j 3 true (rule_3 h.timing clock command log) _ (λ is. refl)
    (next j 4 true (rule_4 command log) _ (λ is. refl)
    (next j 5 true (rule_5 command log) _ (λ is. refl)
    (next j 6 j.refresh (rule_6 h clock command log) _ (λ is. is)
    (next j 7 j.refresh (rule_7 command log) _ (λ is. is)
    (next j 8 j.refresh (rule_8 h command log) _ (λ is. is)
    (next j 9 j.management (rule_9 h command log) _ (λ is. is)
    (next j 10 j.management (rule_10 h command log) _ (λ is. is)
    (next j 11 j.backoff (rule_11 h command log) _ (λ is. is)
    (next j 12 j.backoff (rule_12 h clock command log) _ (λ is. is)
    (next j 13 j.backoff (rule_13 h clock log) _ (λ is. is)
    (next j 14 j.frame (rule_14 h command log) _ (λ is. is)
    (none_left j 15))))))))))))))

names_at_end : (j : Judged) (h : Header) (clock : ℕ) (log : Log) → Names j 1 (rules_at_end j h clock log)
names_at_end j h clock log =
    next j 1 true (rule_1 clock log) _ (λ is. refl)
    (passed j 2 _
    (passed j 3 _
    (passed j 4 _
    (passed j 5 _
    (next j 6 j.refresh (is_refreshed h clock log) _ (λ is. is)
    (passed j 7 _
    (passed j 8 _
    (passed j 9 _
    (passed j 10 _
    (passed j 11 _
    (passed j 12 _
    (next j 13 j.backoff (rule_13 h clock log) _ (λ is. is)
    (next j 14 j.frame (is_complete j h log) _ (λ is. is)
    (none_left j 15))))))))))))))

named_here : (j : Judged) (h : Header) (clock : ℕ) (command : Command) (log : Log) (rule : ℕ) → broken j h clock command log ≡ Some rule → is_judged j rule ≡ true
unfolding broken Names
named_here j h clock command log = names j h clock command log

named_at_the_end : (j : Judged) (h : Header) (clock : ℕ) (log : Log) (rule : ℕ) → broken_at_end j h clock log ≡ Some rule → is_judged j rule ≡ true
unfolding broken_at_end Names
named_at_the_end j h clock log = names_at_end j h clock log

one_of_both : (j : Judged) (before : Option (ℕ × ℕ)) (place : ℕ) (fails : Option ℕ) (breach : ℕ × ℕ) → ((earlier : ℕ × ℕ) → before ≡ Some earlier → is_judged j earlier.1 ≡ true) → ((rule : ℕ) → fails ≡ Some rule → is_judged j rule ≡ true) → verdict_after before place fails ≡ Some breach → is_judged j breach.1 ≡ true
one_of_both j (Some earlier) place fails breach old new e = old breach e
one_of_both j None place (Some rule) breach old new e = subst (λ (b : ℕ × ℕ). is_judged j b.1 ≡ true) (ap (λ (o : Option (ℕ × ℕ)). breach_or (place, rule) o) e) (new rule refl)
one_of_both j None place None breach old new e = absurd (cc)

pub named : (j : Judged) (h : Header) (log : Log) (breach : ℕ × ℕ) → verdict j h log ≡ Some breach → is_judged j breach.1 ≡ true
named j h [] breach e = absurd (cc)
named j h (place ∷ log) breach e = one_of_both j (verdict j h log) (suc (length log)) (broken j h place.clock place.command log) breach (named j h log) (named_here j h place.clock place.command log) e

pub named_at_end : (j : Judged) (h : Header) (clock : ℕ) (log : Log) (breach : ℕ × ℕ) → verdict_at_end j h clock log ≡ Some breach → is_judged j breach.1 ≡ true
named_at_end j h clock log breach e = one_of_both j (verdict j h log) (suc (length log)) (broken_at_end j h clock log) breach (named j h log) (named_at_the_end j h clock log) e
