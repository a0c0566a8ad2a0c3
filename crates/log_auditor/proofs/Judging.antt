-- The least rule that fails, by what decides the rules; and what a log without a breach keeps.
use Rattle.std.proofs.Common.{◌*◌, lt-ltb, ◌≡◌, ◌∙◌, ℕ, suc, Bool, true, false, nat_lt, Option, Some, None, List, [], ◌∷◌, ◌++◌, length, refl, sym, ap, arith, ltb-true}
use Rattle.speed_bin.proofs.Tests.{both, joined}
use Rattle.command_words.specs.declared.place.Bank.{Bank}
use Rattle.command_words.specs.Command.{bank_number, IsBank, IsInRange}
use Rattle.std.specs.Option.{option_or}
use Rattle.command_words.specs.declared.command.Command.{Command}
use Rattle.command_words.specs.declared.command.Command.TheVariants.{Act, Rd, Wr, PrePb, PreSb, PreAb, RefAb, RefSb, RfmAb, RfmSb, Mrw, Ecs, Nop}
use Rattle.ddr_text.specs.ReportGrammar.{has_place}
use Rattle.speed_bin.specs.Log.{Log, Issued}
use Rattle.speed_bin.specs.Marks.{is_bank, stays_inside}
use Rattle.speed_bin.specs.Rules.{first_failing, rule_11, rule_12, rule_13, rule_14, rules_at_end, verdict, verdict_at_end}
use Rattle.speed_bin.specs.declared.header.Header.{Header}
use Rattle.speed_bin.specs.Header.{shape_of}
use Rattle.log_ledger.proofs.Grouped.{assoc, follows as follows_ten}
use Rattle.log_ledger.specs.Standing.{Follows, first_of_ten, ten_rules}
use Rattle.log_auditor.specs.Groups.{alert_rules, first_broken, first_broken_at_end}

-- ---- Groups of rules

-- the number of the test behind these
abbrev number_after : ℕ → List Bool → ℕ
number_after n [] = n
number_after n (test ∷ tests) = number_after (suc n) tests

-- of two lists of tests in a row, the first that fails is the first of the former, or else of the latter
split : (n : ℕ) (tests rest : List Bool) → first_failing n (tests ++ rest) ≡ option_or (first_failing n tests) (first_failing (number_after n tests) rest)
split n [] rest = refl
split n (false ∷ tests) rest = refl
split n (true ∷ tests) rest = split (suc n) tests rest

in_turn : (l m a w : Option ℕ) → option_or (option_or (option_or l m) a) w ≡ option_or l (option_or m (option_or a w))
in_turn None m a w = assoc m a w
in_turn (Some l) m a w = refl

same_groups : (l m a w l' m' a' w' : Option ℕ) → l ≡ l' → m ≡ m' → a ≡ a' → w ≡ w'
    → option_or l (option_or m (option_or a w)) ≡ option_or l' (option_or m' (option_or a' w'))
same_groups l m a w l' m' a' w' e1 e2 e3 e4 = rw (e1, e2, e3, e4) refl

in_groups : (ten : List Bool) (m a1 a2 w : Bool) → number_after 1 ten ≡ 11
    → option_or (first_failing 1 ten) (option_or (first_failing 11 (m ∷ [])) (option_or (first_failing 12 (a1 ∷ a2 ∷ [])) (first_failing 14 (w ∷ []))))
    ≡ first_failing 1 (ten ++ m ∷ a1 ∷ a2 ∷ w ∷ [])
in_groups ten m a1 a2 w eleven = sym (
    split 1 ten (m ∷ a1 ∷ a2 ∷ w ∷ [])
    ∙ ap (λ (k : ℕ). option_or (first_failing 1 ten) (first_failing k (m ∷ a1 ∷ a2 ∷ w ∷ []))) eleven
    ∙ ap (λ x. option_or (first_failing 1 ten) x) (
    split 11 (m ∷ []) (a1 ∷ a2 ∷ w ∷ [])
    ∙ ap (λ x. option_or (first_failing 11 (m ∷ [])) x) (split 12 (a1 ∷ a2 ∷ []) (w ∷ [])))
    )

pub broken_is : (h : Header) (clock : ℕ) (command : Command) (log : Log) (l m a w : Option ℕ)
    → l ≡ first_of_ten h clock command log
    → m ≡ first_failing 11 (rule_11 h command log ∷ [])
    → a ≡ first_failing 12 (alert_rules h clock command log)
    → w ≡ first_failing 14 (rule_14 h command log ∷ [])
    → option_or (option_or (option_or l m) a) w ≡ first_broken h clock command log
unfolding first_broken first_of_ten
broken_is h clock command log l m a w e1 e2 e3 e4 = in_turn l m a w ∙ same_groups l m a w _ _ _ _ e1 e2 e3 e4
    ∙ in_groups (ten_rules h clock command log) (rule_11 h command log) (rule_12 h clock command log) (rule_13 h clock log) (rule_14 h command log) refl

end_in_groups : (r1 r6 r13 r14 : Bool)
    → option_or (option_or (option_or (first_failing 1 (r1 ∷ [])) (first_failing 6 (r6 ∷ []))) (first_failing 13 (r13 ∷ []))) (first_failing 14 (r14 ∷ []))
    ≡ first_failing 1 (r1 ∷ true ∷ true ∷ true ∷ true ∷ r6 ∷ true ∷ true ∷ true ∷ true ∷ true ∷ true ∷ r13 ∷ r14 ∷ [])
end_in_groups false r6 r13 r14 = refl
end_in_groups true false r13 r14 = refl
end_in_groups true true false r14 = refl
end_in_groups true true true r14 = refl

pub end_broken_is : (h : Header) (clock : ℕ) (log : Log) (r1 r6 r13 r14 x1 x6 x13 x14 : Bool) (a b c d : Option ℕ)
    → a ≡ first_failing 1 (x1 ∷ []) → b ≡ first_failing 6 (x6 ∷ []) → c ≡ first_failing 13 (x13 ∷ []) → d ≡ first_failing 14 (x14 ∷ [])
    → x1 ≡ r1 → x6 ≡ r6 → x13 ≡ r13 → x14 ≡ r14
    → rules_at_end h clock log ≡ (r1 ∷ true ∷ true ∷ true ∷ true ∷ r6 ∷ true ∷ true ∷ true ∷ true ∷ true ∷ true ∷ r13 ∷ r14 ∷ [])
    → option_or (option_or (option_or a b) c) d ≡ first_broken_at_end h clock log
unfolding first_broken_at_end
end_broken_is h clock log r1 r6 r13 r14 x1 x6 x13 x14 a b c d e1 e2 e3 e4 f1 f2 f3 f4 rules =
    rw (e1, e2, e3, e4, f1, f2, f3, f4) (end_in_groups r1 r6 r13 r14) ∙ ap (λ tests. first_failing 1 tests) (sym rules)

-- ---- What a command that breaks no rule keeps

none_before : (x y : Option ℕ) → option_or x y ≡ None → x ≡ None
none_before None y e = refl
none_before (Some n) y e = e

pub follows : (h : Header) (clock : ℕ) (command : Command) (log : Log) → first_broken h clock command log ≡ None → Follows h clock command log
unfolding first_broken first_of_ten
follows h clock command log none =
    let rest = rule_11 h command log ∷ rule_12 h clock command log ∷ rule_13 h clock log ∷ rule_14 h command log ∷ [] in
    let ten : first_of_ten h clock command log ≡ None = none_before (first_failing 1 (ten_rules h clock command log)) (first_failing 11 rest) (sym (split 1 (ten_rules h clock command log) rest) ∙ none) in
    (follows_ten h clock command log ten).0

-- ---- Verdicts, one place later

pub still_broken : (h : Header) (place : Issued) (log : Log) (breach : ℕ × ℕ) → verdict h log ≡ Some breach → verdict h (place ∷ log) ≡ Some breach
still_broken h place log breach e = rw e refl

pub still_ended : (h : Header) (clock : ℕ) (log : Log) (breach : ℕ × ℕ) → verdict h log ≡ Some breach → verdict_at_end h clock log ≡ Some breach
still_ended h clock log breach e = rw e refl

pub now_broken : (h : Header) (clock : ℕ) (command : Command) (log : Log) (number : ℕ) → verdict h log ≡ None → first_broken h clock command log ≡ Some number → verdict h (record { clock = clock; command = command } ∷ log) ≡ Some (suc (length log), number)
unfolding first_broken
now_broken h clock command log number e f = rw (e, f) refl

pub still_fine : (h : Header) (clock : ℕ) (command : Command) (log : Log) → verdict h log ≡ None → first_broken h clock command log ≡ None → verdict h (record { clock = clock; command = command } ∷ log) ≡ None
unfolding first_broken
still_fine h clock command log e f = rw (e, f) refl

-- ---- Ranges

own_bank : (h : Header) (bank : Bank) → IsBank bank → nat_lt bank.group h.version.groups ≡ true → is_bank h bank ≡ true
own_bank h bank inside here = let low = ltb-true bank.group h.version.groups here in let a = inside.address in lt-ltb (bank_number bank) (h.version.groups * 4) (omega (arith, low, a))

pub in_range : (h : Header) (command : Command) → IsInRange command → has_place (shape_of h) command ≡ true → stays_inside h command ≡ true
in_range h (Act bank row) inside e =
    let p = both (nat_lt row h.settings.rows) (nat_lt bank.group h.version.groups) e in
    joined (nat_lt row h.settings.rows) (is_bank h bank) p.0 (own_bank h bank inside.0 p.1)
in_range h (Rd bank column) inside e = own_bank h bank inside.0 e
in_range h (Wr bank column) inside e = own_bank h bank inside.0 e
in_range h (PrePb bank) inside e = own_bank h bank inside e
in_range h (PreSb address) inside e = refl
in_range h PreAb inside e = refl
in_range h RefAb inside e = refl
in_range h (RefSb address) inside e = refl
in_range h RfmAb inside e = refl
in_range h (RfmSb address) inside e = refl
in_range h (Mrw write) inside e = refl
in_range h Ecs inside e = refl
in_range h Nop inside e = refl
