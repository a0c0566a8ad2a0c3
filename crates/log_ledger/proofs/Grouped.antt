-- The least of the rules 1 to 10 that fails, by the parts that keep them.
use Rattle.std.proofs.Common.{◌≡◌, ◌∙◌, ℕ, suc, Bool, true, false, Option, Some, None, IsNone, IsTrue, ◌↔◌, List, [], ◌∷◌, refl, sym, ap}
use Rattle.std.specs.Option.{option_or}
use Rattle.command_words.specs.declared.command.Command.{Command}
use Rattle.refresh_plan.specs.Standing.{refresh_rules}
use Rattle.rfm_counts.specs.Standing.{count_rules}
use Rattle.speed_bin.specs.Log.{Log}
use Rattle.speed_bin.specs.Rules.{first_failing, rule_1, rule_2, rule_3, rule_4, rule_5, rule_6, rule_7, rule_8, rule_9, rule_10}
use Rattle.speed_bin.specs.declared.header.Header.{Header}
use Rattle.timing_rules.specs.Spaced.{spacing_rules}
use Rattle.log_ledger.specs.Standing.{Follows, bank_rules, first_of_ten}

-- ---- Groups of tests

pub three : (n : ℕ) (a b c : Bool) (rest : List Bool) → first_failing n (a ∷ b ∷ c ∷ rest) ≡ option_or (first_failing n (a ∷ b ∷ c ∷ [])) (first_failing (suc (suc (suc n))) rest)
three n false b c rest = refl
three n true false c rest = refl
three n true true false rest = refl
three n true true true rest = refl

pub two : (n : ℕ) (a b : Bool) (rest : List Bool) → first_failing n (a ∷ b ∷ rest) ≡ option_or (first_failing n (a ∷ b ∷ [])) (first_failing (suc (suc n)) rest)
two n false b rest = refl
two n true false rest = refl
two n true true rest = refl

pub assoc : (x y z : Option ℕ) → option_or (option_or x y) z ≡ option_or x (option_or y z)
assoc None y z = refl
assoc (Some x) y z = refl

in_turn : (g b p c : Option ℕ) → option_or (option_or (option_or g b) p) c ≡ option_or g (option_or b (option_or p c))
in_turn None b p c = assoc b p c
in_turn (Some g) b p c = refl

in_groups : (g1 g2 g3 b1 b2 p1 p2 p3 c1 c2 : Bool)
    → option_or (first_failing 1 (g1 ∷ g2 ∷ g3 ∷ [])) (option_or (first_failing 4 (b1 ∷ b2 ∷ [])) (option_or (first_failing 6 (p1 ∷ p2 ∷ p3 ∷ [])) (first_failing 9 (c1 ∷ c2 ∷ []))))
    ≡ first_failing 1 (g1 ∷ g2 ∷ g3 ∷ b1 ∷ b2 ∷ p1 ∷ p2 ∷ p3 ∷ c1 ∷ c2 ∷ [])
in_groups g1 g2 g3 b1 b2 p1 p2 p3 c1 c2 = sym (
    three 1 g1 g2 g3 (b1 ∷ b2 ∷ p1 ∷ p2 ∷ p3 ∷ c1 ∷ c2 ∷ [])
    ∙ ap (λ x. option_or (first_failing 1 (g1 ∷ g2 ∷ g3 ∷ [])) x) (
    two 4 b1 b2 (p1 ∷ p2 ∷ p3 ∷ c1 ∷ c2 ∷ [])
    ∙ ap (λ x. option_or (first_failing 4 (b1 ∷ b2 ∷ [])) x) (three 6 p1 p2 p3 (c1 ∷ c2 ∷ [])))
    )

same_groups : (g b p c g' b' p' c' : Option ℕ) → g ≡ g' → b ≡ b' → p ≡ p' → c ≡ c'
    → option_or g (option_or b (option_or p c)) ≡ option_or g' (option_or b' (option_or p' c'))
same_groups g b p c g' b' p' c' e1 e2 e3 e4 = rw (e1, e2, e3, e4) refl

pub broken_is : (h : Header) (clock : ℕ) (command : Command) (log : Log) (g b p c : Option ℕ)
    → g ≡ first_failing 1 (spacing_rules h.timing clock command log)
    → b ≡ first_failing 4 (bank_rules command log)
    → p ≡ first_failing 6 (refresh_rules h clock command log)
    → c ≡ first_failing 9 (count_rules h command log)
    → option_or (option_or (option_or g b) p) c ≡ first_of_ten h clock command log
unfolding first_of_ten
broken_is h clock command log g b p c e1 e2 e3 e4 = in_turn g b p c ∙ same_groups g b p c _ _ _ _ e1 e2 e3 e4
    ∙ in_groups (rule_1 clock log) (rule_2 h.timing clock command log) (rule_3 h.timing clock command log) (rule_4 command log) (rule_5 command log)
    (rule_6 h clock command log) (rule_7 command log) (rule_8 h command log) (rule_9 h command log) (rule_10 h command log)

-- ---- Where none fails

passes : (n : ℕ) (test : Bool) (tests : List Bool) → first_failing n (test ∷ tests) ≡ None → (test ≡ true) × (first_failing (suc n) tests ≡ None)
passes n true tests h = (refl, h)
passes n false tests h = absurd cc

ten : (a b c d e f g h i j : Bool) → first_failing 1 (a ∷ b ∷ c ∷ d ∷ e ∷ f ∷ g ∷ h ∷ i ∷ j ∷ []) ≡ None
    → (a ≡ true) × (b ≡ true) × (c ≡ true) × (d ≡ true) × (e ≡ true) × (f ≡ true) × (g ≡ true) × (h ≡ true) × (i ≡ true) × (j ≡ true)
ten a b c d e f g h i j none =
    let k1 = passes 1 a (b ∷ c ∷ d ∷ e ∷ f ∷ g ∷ h ∷ i ∷ j ∷ []) none in
    let k2 = passes 2 b (c ∷ d ∷ e ∷ f ∷ g ∷ h ∷ i ∷ j ∷ []) k1.1 in
    let k3 = passes 3 c (d ∷ e ∷ f ∷ g ∷ h ∷ i ∷ j ∷ []) k2.1 in
    let k4 = passes 4 d (e ∷ f ∷ g ∷ h ∷ i ∷ j ∷ []) k3.1 in
    let k5 = passes 5 e (f ∷ g ∷ h ∷ i ∷ j ∷ []) k4.1 in
    let k6 = passes 6 f (g ∷ h ∷ i ∷ j ∷ []) k5.1 in
    let k7 = passes 7 g (h ∷ i ∷ j ∷ []) k6.1 in
    let k8 = passes 8 h (i ∷ j ∷ []) k7.1 in
    let k9 = passes 9 i (j ∷ []) k8.1 in
    let k10 = passes 10 j [] k9.1 in
    (k1.0, k2.0, k3.0, k4.0, k5.0, k6.0, k7.0, k8.0, k9.0, k10.0)

all_pass : (a b c d e f g h i j : Bool) → a ≡ true → b ≡ true → c ≡ true → d ≡ true → e ≡ true → f ≡ true → g ≡ true → h ≡ true → i ≡ true → j ≡ true
    → first_failing 1 (a ∷ b ∷ c ∷ d ∷ e ∷ f ∷ g ∷ h ∷ i ∷ j ∷ []) ≡ None
all_pass a b c d e f g h i j ea eb ec ed ee ef eg eh ei ej = rw (ea, eb, ec, ed, ee, ef, eg, eh, ei, ej) refl

pub follows : (h : Header) (clock : ℕ) (command : Command) (log : Log) → first_of_ten h clock command log ≡ None → Follows h clock command log × IsTrue (rule_10 h command log)
unfolding first_of_ten
follows h clock command log none =
    let k = ten (rule_1 clock log) (rule_2 h.timing clock command log) (rule_3 h.timing clock command log) (rule_4 command log) (rule_5 command log)
    (rule_6 h clock command log) (rule_7 command log) (rule_8 h command log) (rule_9 h command log) (rule_10 h command log) none in (
      record {
        spaced = record { rises = k.0; gaps = k.1; window = k.2 };
        fits = record { fourth = k.3; fifth = k.4 };
        allowed = record { refreshes_in_time = k.5; refreshes_evenly = k.6; scrubs_in_step = k.7 };
        counted = k.8;
      },
      k.9,
    )

pub breaks_none : (h : Header) (clock : ℕ) (command : Command) (log : Log) → Follows h clock command log → IsTrue (rule_10 h command log) → first_of_ten h clock command log ≡ None
unfolding first_of_ten
breaks_none h clock command log f tenth =
    all_pass (rule_1 clock log) (rule_2 h.timing clock command log) (rule_3 h.timing clock command log) (rule_4 command log) (rule_5 command log)
    (rule_6 h clock command log) (rule_7 command log) (rule_8 h command log) (rule_9 h command log) (rule_10 h command log)
    f.spaced.rises f.spaced.gaps f.spaced.window f.fits.fourth f.fits.fifth f.allowed.refreshes_in_time f.allowed.refreshes_evenly f.allowed.scrubs_in_step f.counted tenth

is_none_of : (o : Option ℕ) → o ≡ None → IsNone o
is_none_of None e = refl
is_none_of (Some n) e = absurd cc

none_of : (o : Option ℕ) → IsNone o → o ≡ None
none_of None e = refl
none_of (Some n) e = absurd cc

pub none_is : (h : Header) (clock : ℕ) (command : Command) (log : Log) (o : Option ℕ) → o ≡ first_of_ten h clock command log
    → (IsNone o ↔ (Follows h clock command log × IsTrue (rule_10 h command log)))
none_is h clock command log o is = (λ none. follows h clock command log (sym is ∙ none_of o none), λ keeps. is_none_of o (is ∙ breaks_none h clock command log keeps.0 keeps.1))
