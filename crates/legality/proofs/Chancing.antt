-- The least rule that fails at every clock.
use Rattle.std.proofs.Common.{◌≡◌, ◌∙◌, ℕ, suc, ◌+◌, ◌-◌, ◌<◌, ◌≤◌, ◌^◌, ◌⊎◌, Bool, true, false, not, List, [], ◌∷◌, map, Option, Some, None, refl, sym, ap, arith, le-leb, inl, inr}
use Rattle.std.specs.Option.{option_or}
use Rattle.command_words.specs.Kinds.{is_act}
use Rattle.command_words.specs.declared.command.Command.{Command}
use Rattle.refresh_plan.specs.Standing.{refresh_rules}
use Rattle.rfm_counts.specs.Standing.{count_rules}
use Rattle.speed_bin.specs.Alert.{alert}
use Rattle.speed_bin.specs.Gap.{n_tail}
use Rattle.speed_bin.specs.Log.{Log}
use Rattle.speed_bin.specs.Rules.{after, first_failing, until, rule_1, rule_2, rule_3, rule_4, rule_5, rule_6, rule_7, rule_8, rule_9, rule_10, rule_11, rule_12, rule_13, rule_14}
use Rattle.speed_bin.specs.declared.header.Header.{Header}
use Rattle.speed_bin.proofs.Tests.{or_right}
use Rattle.timing_rules.specs.Spaced.{spacing_rules}
use Rattle.legality.specs.Chances.{FailsForGood, HoldsOnce, IsFirstForGood, IsForbidden, Rule, rules_of}
use Rattle.legality.specs.Standing.{bank_rules, chances}
use Rattle.legality.proofs.Later.{gaps_later, rises_later, window_later}

-- ---- By what decides the rules

abbrev number_after : ℕ → List Bool → ℕ
number_after n [] = n
number_after n (test ∷ tests) = number_after (suc n) tests

three : (n : ℕ) (a b c : Bool) (rest : List Bool) → first_failing n (a ∷ b ∷ c ∷ rest) ≡ option_or (first_failing n (a ∷ b ∷ c ∷ [])) (first_failing (suc (suc (suc n))) rest)
three n false b c rest = refl
three n true false c rest = refl
three n true true false rest = refl
three n true true true rest = refl

two : (n : ℕ) (a b : Bool) (rest : List Bool) → first_failing n (a ∷ b ∷ rest) ≡ option_or (first_failing n (a ∷ b ∷ [])) (first_failing (suc (suc n)) rest)
two n false b rest = refl
two n true false rest = refl
two n true true rest = refl

one : (n : ℕ) (a : Bool) (rest : List Bool) → first_failing n (a ∷ rest) ≡ option_or (first_failing n (a ∷ [])) (first_failing (suc n) rest)
one n false rest = refl
one n true rest = refl

assoc : (x y z : Option ℕ) → option_or (option_or x y) z ≡ option_or x (option_or y z)
assoc None y z = refl
assoc (Some x) y z = refl

in_turn : (g b p c m w : Option ℕ) → option_or (option_or (option_or (option_or (option_or g b) p) c) m) w ≡ option_or g (option_or b (option_or p (option_or c (option_or m w))))
in_turn (Some g) b p c m w = refl
in_turn None (Some b) p c m w = refl
in_turn None None (Some p) c m w = refl
in_turn None None None c m w = assoc c m w

in_groups : (g1 g2 g3 b1 b2 p1 p2 p3 c1 c2 m w : Bool)
    → option_or (first_failing 1 (g1 ∷ g2 ∷ g3 ∷ [])) (option_or (first_failing 4 (b1 ∷ b2 ∷ [])) (option_or (first_failing 6 (p1 ∷ p2 ∷ p3 ∷ []))
    (option_or (first_failing 9 (c1 ∷ c2 ∷ [])) (option_or (first_failing 11 (m ∷ [])) (first_failing 14 (w ∷ []))))))
    ≡ first_failing 1 (g1 ∷ g2 ∷ g3 ∷ b1 ∷ b2 ∷ p1 ∷ p2 ∷ p3 ∷ c1 ∷ c2 ∷ m ∷ true ∷ true ∷ w ∷ [])
in_groups g1 g2 g3 b1 b2 p1 p2 p3 c1 c2 m w = sym (
    three 1 g1 g2 g3 (b1 ∷ b2 ∷ p1 ∷ p2 ∷ p3 ∷ c1 ∷ c2 ∷ m ∷ true ∷ true ∷ w ∷ [])
    ∙ ap (λ x. option_or (first_failing 1 (g1 ∷ g2 ∷ g3 ∷ [])) x) (
    two 4 b1 b2 (p1 ∷ p2 ∷ p3 ∷ c1 ∷ c2 ∷ m ∷ true ∷ true ∷ w ∷ [])
    ∙ ap (λ x. option_or (first_failing 4 (b1 ∷ b2 ∷ [])) x) (
    three 6 p1 p2 p3 (c1 ∷ c2 ∷ m ∷ true ∷ true ∷ w ∷ [])
    ∙ ap (λ x. option_or (first_failing 6 (p1 ∷ p2 ∷ p3 ∷ [])) x) (
    two 9 c1 c2 (m ∷ true ∷ true ∷ w ∷ [])
    ∙ ap (λ x. option_or (first_failing 9 (c1 ∷ c2 ∷ [])) x) (one 11 m (true ∷ true ∷ w ∷ [])))))
    )

same_groups : (g b p c m w g' b' p' c' m' w' : Option ℕ) → g ≡ g' → b ≡ b' → p ≡ p' → c ≡ c' → m ≡ m' → w ≡ w'
    → option_or g (option_or b (option_or p (option_or c (option_or m w)))) ≡ option_or g' (option_or b' (option_or p' (option_or c' (option_or m' w'))))
same_groups g b p c m w g' b' p' c' m' w' e1 e2 e3 e4 e5 e6 = rw (e1, e2, e3, e4, e5, e6) refl

pub chances_are : (h : Header) (last best : ℕ) (command : Command) (log : Log) (g b p c m w : Option ℕ)
    → g ≡ first_failing 1 (spacing_rules h.timing last command log)
    → b ≡ first_failing 4 (bank_rules command log)
    → p ≡ first_failing 6 (refresh_rules h best command log)
    → c ≡ first_failing 9 (count_rules h command log)
    → m ≡ first_failing 11 (rule_11 h command log ∷ [])
    → w ≡ first_failing 14 (rule_14 h command log ∷ [])
    → option_or (option_or (option_or (option_or (option_or g b) p) c) m) w ≡ first_failing 1 (chances h last best command log)
chances_are h last best command log g b p c m w e1 e2 e3 e4 e5 e6 = in_turn g b p c m w ∙ same_groups g b p c m w _ _ _ _ _ _ e1 e2 e3 e4 e5 e6
    ∙ in_groups (rule_1 last log) (rule_2 h.timing last command log) (rule_3 h.timing last command log) (rule_4 command log) (rule_5 command log)
    (rule_6 h best command log) (rule_7 command log) (rule_8 h command log) (rule_9 h command log) (rule_10 h command log) (rule_11 h command log) (rule_14 h command log)

-- ---- What the tests say of every clock

-- a test that decides a rule: where it fails, the rule fails at every clock, and where it passes, the rule holds at some
abbrev pub Decides : Bool → Rule → Type 0
Decides test rule = (test ≡ false → FailsForGood rule) × (test ≡ true → HoldsOnce rule)

-- the tests decide the rules, one by one
abbrev pub AllDecide : List Bool → List Rule → Type 0
AllDecide [] [] = Unit {0}
AllDecide (test ∷ tests) (rule ∷ rules) = Decides test rule × AllDecide tests rules
AllDecide _ _ = ⊥

first_is : (number : ℕ) (tests : List Bool) (rules : List Rule) → AllDecide tests rules → IsFirstForGood number rules (first_failing number tests)
first_is number [] [] d = refl
first_is number [] (rule ∷ rules) d = absurd d
first_is number (test ∷ tests) [] d = absurd d
first_is number (true ∷ tests) (rule ∷ rules) d = inr (d.0.1 refl, first_is (suc number) tests rules d.1)
first_is number (false ∷ tests) (rule ∷ rules) d = inl (d.0.0 refl, refl)

-- a rule that does not speak of the clock
same_always : (test : Bool) → Decides test (λ clock. test)
same_always test = (λ e. λ clock small. e, λ e. (0, omega arith, e))

-- a rule that holds later where it holds now, asked at the last clock
best_last : (rule : Rule) → ((clock : ℕ) → clock ≤ 2 ^ 48 - 1 → rule clock ≡ true → rule (2 ^ 48 - 1) ≡ true) → Decides (rule (2 ^ 48 - 1)) rule
best_last rule later = (λ e. λ clock small. go clock (rule clock) refl small e, λ e. (2 ^ 48 - 1, omega arith, e))
  where
    go : (clock : ℕ) (x : Bool) → rule clock ≡ x → clock < 2 ^ 48 → rule (2 ^ 48 - 1) ≡ false → rule clock ≡ false
    go clock false is small e = is
    go clock true is small e = let k = later clock (omega arith) is in absurd (cc)

-- a rule that holds at its best clock where it holds at any
best_at : (rule : Rule) (best : ℕ) → best < 2 ^ 48 → ((clock : ℕ) → clock < 2 ^ 48 → rule clock ≡ true → rule best ≡ true) → Decides (rule best) rule
best_at rule best low most = (λ e. λ clock small. go clock (rule clock) refl small e, λ e. (best, low, e))
  where
    go : (clock : ℕ) (x : Bool) → rule clock ≡ x → clock < 2 ^ 48 → rule best ≡ false → rule clock ≡ false
    go clock false is small e = is
    go clock true is small e = let k = most clock small is in absurd (cc)

-- a last clock is at least 0
at_once : (o : Option ℕ) → until 0 o ≡ true
at_once None = refl
at_once (Some last) = le-leb 0 last (omega arith)

once : (rule : Rule) → rule 0 ≡ true → Decides true rule
once rule e = (λ f. absurd cc, λ f. (0, omega arith, e))

pub is_forbidden : (h : Header) (best : ℕ) (command : Command) (log : Log) → best < 2 ^ 48
    → ((clock : ℕ) → clock < 2 ^ 48 → rule_6 h clock command log ≡ true → rule_6 h best command log ≡ true)
    → IsForbidden h command log (first_failing 1 (chances h (2 ^ 48 - 1) best command log))
is_forbidden h best command log low most = first_is 1 (chances h (2 ^ 48 - 1) best command log) (rules_of h command log) decided
  where
    decided : AllDecide (chances h (2 ^ 48 - 1) best command log) (rules_of h command log)
    decided = (
      best_last (λ clock. rule_1 clock log) (λ clock small e. rises_later clock (2 ^ 48 - 1) log small e),
      (
        best_last (λ clock. rule_2 h.timing clock command log) (λ clock small e. gaps_later h.timing clock (2 ^ 48 - 1) command log small e),
        (
          best_last (λ clock. rule_3 h.timing clock command log) (λ clock small e. window_later h.timing clock (2 ^ 48 - 1) command log small e),
          (
            same_always (rule_4 command log),
            (
              same_always (rule_5 command log),
              (
                best_at (λ clock. rule_6 h clock command log) best low most,
                (
                  same_always (rule_7 command log),
                  (
                    same_always (rule_8 h command log),
                    (
                      same_always (rule_9 h command log),
                      (
                        same_always (rule_10 h command log),
                        (
                          same_always (rule_11 h command log),
                          (
                            once (λ clock. rule_12 h clock command log) (or_right (not (is_act command)) (until 0 (after (alert h log) h.timing.nabo)) (at_once (after (alert h log) h.timing.nabo))),
                            (
                              once (λ clock. rule_13 h clock log) (at_once (after (alert h log) (h.timing.nabo + n_tail h.timing))),
                              (same_always (rule_14 h command log), tt),
                            ),
                          ),
                        ),
                      ),
                    ),
                  ),
                ),
              ),
            ),
          ),
        ),
      ),
    )

-- ---- What that says of a clock

-- a rule that fails at every clock fails at this one
pub some_fails : (number : ℕ) (rules : List Rule) (least clock : ℕ) → IsFirstForGood number rules (Some least) → clock < 2 ^ 48
    → first_failing number (map (λ (rule : Rule). rule clock) rules) ≡ None → ⊥
some_fails number [] least clock is small none = absurd (cc)
some_fails number (rule ∷ rules) least clock is small none = go (rule clock) refl is none (λ found e. some_fails (suc number) rules least clock found small e)
  where
    go : (x : Bool) → rule clock ≡ x → (FailsForGood rule × (Some least ≡ Some number)) ⊎ (HoldsOnce rule × IsFirstForGood (suc number) rules (Some least))
        → first_failing number (x ∷ map (λ (r : Rule). r clock) rules) ≡ None
        → (IsFirstForGood (suc number) rules (Some least) → first_failing (suc number) (map (λ (r : Rule). r clock) rules) ≡ None → ⊥) → ⊥
    go false e found none ih = absurd (cc)
    go true e (inl found) none ih = let f = found.0 clock small in absurd (cc)
    go true e (inr found) none ih = ih found.1 none

-- each rule holds at some clock
abbrev pub AllOnce : List Rule → Type 0
AllOnce [] = Unit {0}
AllOnce (rule ∷ rules) = HoldsOnce rule × AllOnce rules

pub all_once : (number : ℕ) (rules : List Rule) → IsFirstForGood number rules None → AllOnce rules
all_once number [] is = tt
all_once number (rule ∷ rules) (inl found) = let e : None ≡ Some number = found.1 in absurd (cc)
all_once number (rule ∷ rules) (inr found) = (found.0, all_once (suc number) rules found.1)
