-- At which clocks a command may be the next place of a log. A clock is one of the bus, below 2^48.
use Rattle.std.specs.Prelude.{ℕ, suc, ◌≡◌, ◌⊎◌, ◌<◌, ◌≤◌, ◌^◌, ◌↔◌, Bool, true, false, List, [], ◌∷◌, Option, Some, None}
use Rattle.command_words.specs.declared.command.Command.{Command}
use Rattle.speed_bin.specs.Log.{Log}
use Rattle.speed_bin.specs.Rules.{broken, rule_1, rule_2, rule_3, rule_4, rule_5, rule_6, rule_7, rule_8, rule_9, rule_10, rule_11, rule_12, rule_13, rule_14}
use Rattle.speed_bin.specs.declared.header.Header.{Header}

-- ---- Where it may come

-- it breaks none of the fourteen rules
abbrev pub MayCome : Header → Command → Log → ℕ → Type 0
MayCome h command log clock = broken h clock command log ≡ None

-- The command may come exactly at the clocks from the first to the last; and where there are none, at no clock.
abbrev pub IsLegal : Header → Command → Log → Option (ℕ × ℕ) → Type 0
IsLegal h command log None = (clock : ℕ) → clock < 2 ^ 48 → MayCome h command log clock → ⊥
IsLegal h command log (Some clocks) = (clocks.0 ≤ clocks.1) × (clocks.1 < 2 ^ 48)
    × ((clock : ℕ) → clock < 2 ^ 48 → (MayCome h command log clock ↔ ((clocks.0 ≤ clock) × (clock ≤ clocks.1))))

-- ---- What forbids it for good

-- a rule, as a test of the clock
abbrev pub Rule : Type 0
Rule = ℕ → Bool

-- whether each of the rules 1 to 14 holds of the command, by its clock
abbrev pub rules_of : Header → Command → Log → List Rule
rules_of h command log =
    (λ clock. rule_1 clock log) ∷ (λ clock. rule_2 h.timing clock command log) ∷ (λ clock. rule_3 h.timing clock command log)
    ∷ (λ clock. rule_4 command log) ∷ (λ clock. rule_5 command log) ∷ (λ clock. rule_6 h clock command log) ∷ (λ clock. rule_7 command log)
    ∷ (λ clock. rule_8 h command log) ∷ (λ clock. rule_9 h command log) ∷ (λ clock. rule_10 h command log) ∷ (λ clock. rule_11 h command log)
    ∷ (λ clock. rule_12 h clock command log) ∷ (λ clock. rule_13 h clock log) ∷ (λ clock. rule_14 h command log) ∷ []

-- it fails at every clock
abbrev pub FailsForGood : Rule → Type 0
FailsForGood rule = (clock : ℕ) → clock < 2 ^ 48 → rule clock ≡ false

-- it holds at some clock
abbrev pub HoldsOnce : Rule → Type 0
HoldsOnce rule = (clock : ℕ) × (clock < 2 ^ 48) × (rule clock ≡ true)

-- the number of the first rule that fails at every clock, in a list of rules numbered from the given number; each rule
-- before it holds at some clock
abbrev pub IsFirstForGood : ℕ → List Rule → Option ℕ → Type 0
IsFirstForGood number [] answer = answer ≡ None
IsFirstForGood number (rule ∷ rules) answer = (FailsForGood rule × (answer ≡ Some number)) ⊎ (HoldsOnce rule × IsFirstForGood (suc number) rules answer)

-- the least rule that forbids the command at every clock, if there is one
abbrev pub IsForbidden : Header → Command → Log → Option ℕ → Type 0
IsForbidden h command log answer = IsFirstForGood 1 (rules_of h command log) answer
