-- The rules that a place keeps where none is broken.
use Rattle.std.proofs.Common.{◌≡◌, ℕ, zero, suc, Bool, true, false, Some, None, List, [], ◌∷◌, slice_get, refl, sym, ◌∙◌}
use Rattle.std.specs.Prelude.{IsTrue}
use Rattle.command_words.specs.declared.command.Command.{Command}
use Rattle.speed_bin.specs.Log.{Log}
use Rattle.speed_bin.specs.Rules.{rules_at, first_failing, broken, rule_1, rule_2, rule_4, rule_5, rule_12}
use Rattle.speed_bin.specs.declared.header.Header.{Header}

first-none : (n : ℕ) (test : Bool) (tests : List Bool) → first_failing n (test ∷ tests) ≡ None → (test ≡ true) × (first_failing (suc n) tests ≡ None)
first-none n true tests e = (refl, e)
first-none n false tests e = cc

each-true : (n : ℕ) (tests : List Bool) (k : ℕ) (t : Bool) → first_failing n tests ≡ None → slice_get tests k ≡ Some t → t ≡ true
each-true n [] k t e there = cc
each-true n (test ∷ tests) zero t e there = let f : test ≡ t = cc in sym f ∙ (first-none n test tests e).0
each-true n (test ∷ tests) (suc k) t e there = each-true (suc n) tests k t (first-none n test tests e).1 there

pub first-rule : (h : Header) (clock : ℕ) (command : Command) (log : Log) → broken h clock command log ≡ None → IsTrue (rule_1 clock log)
first-rule h clock command log e = each-true 1 (rules_at h clock command log) 0 (rule_1 clock log) e refl

pub second-rule : (h : Header) (clock : ℕ) (command : Command) (log : Log) → broken h clock command log ≡ None → IsTrue (rule_2 h.timing clock command log)
second-rule h clock command log e = each-true 1 (rules_at h clock command log) 1 (rule_2 h.timing clock command log) e refl

pub fourth-rule : (h : Header) (clock : ℕ) (command : Command) (log : Log) → broken h clock command log ≡ None → IsTrue (rule_4 command log)
fourth-rule h clock command log e = each-true 1 (rules_at h clock command log) 3 (rule_4 command log) e refl

pub fifth-rule : (h : Header) (clock : ℕ) (command : Command) (log : Log) → broken h clock command log ≡ None → IsTrue (rule_5 command log)
fifth-rule h clock command log e = each-true 1 (rules_at h clock command log) 4 (rule_5 command log) e refl

pub twelfth-rule : (h : Header) (clock : ℕ) (command : Command) (log : Log) → broken h clock command log ≡ None → IsTrue (rule_12 h clock command log)
twelfth-rule h clock command log e = each-true 1 (rules_at h clock command log) 11 (rule_12 h clock command log) e refl
