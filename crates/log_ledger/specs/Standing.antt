-- What a ledger says of a log.
use Rattle.std.specs.Prelude.{ℕ, Bool, List, [], ◌∷◌, Option, IsTrue}
use Rattle.bank_state.specs.Standing.{StandsFor as BanksStandFor, Fits}
use Rattle.command_words.specs.declared.command.Command.{Command}
use Rattle.refresh_plan.specs.Standing.{StandsFor as PlanStandsFor, IsAllowed}
use Rattle.rfm_counts.specs.Standing.{StandsFor as RaaStandsFor}
use Rattle.timing_rules.specs.Gate.{StandsFor as GateStandsFor}
use Rattle.speed_bin.specs.Log.{Log}
use Rattle.speed_bin.specs.Rules.{MayFollow, first_failing, rule_1, rule_2, rule_3, rule_4, rule_5, rule_6, rule_7, rule_8, rule_9, rule_10}
use Rattle.speed_bin.specs.declared.header.Header.{Header}
use Rattle.log_ledger.specs.Held.{Held}

-- each part stands for the log
pub record Keeps (ledger : Held) (h : Header) (log : Log) : Type 0 where
  pub gate : GateStandsFor ledger.gate h.timing log
  pub banks : BanksStandFor ledger.banks log
  pub plan : PlanStandsFor ledger.plan h log
  pub raa : RaaStandsFor ledger.raa h log

-- the ledger stands, under a header, for the log; how is its own affair
unfoldable pub StandsFor : Held → Header → Log → Type 0
StandsFor ledger h log = Keeps ledger h log

-- the ledger stands, under some header, for some log
abbrev pub StandsForSome : Held → Type 0
StandsForSome ledger = ∥ ((h : Header) × (log : Log) × StandsFor ledger h log) ∥₁

-- the command, issued at the clock after the log, keeps the rules 1 to 9
pub record Follows (h : Header) (clock : ℕ) (command : Command) (log : Log) : Type 0 where
  pub spaced : MayFollow h.timing clock command log
  pub fits : Fits command log
  pub allowed : IsAllowed h clock command log
  pub counted : IsTrue (rule_9 h command log)

-- the ledger stands, under some header, for some log that the command follows at the clock
abbrev pub MayIssue : Held → ℕ → Command → Type 0
MayIssue ledger clock command = ∥ ((h : Header) × (log : Log) × (StandsFor ledger h log) × Follows h clock command log) ∥₁

-- whether each of the rules 4 and 5 holds
abbrev pub bank_rules : Command → Log → List Bool
bank_rules command log = rule_4 command log ∷ rule_5 command log ∷ []

-- whether each of the rules 1 to 10 holds
abbrev pub ten_rules : Header → ℕ → Command → Log → List Bool
ten_rules h clock command log =
    rule_1 clock log ∷ rule_2 h.timing clock command log ∷ rule_3 h.timing clock command log ∷ rule_4 command log ∷ rule_5 command log
    ∷ rule_6 h clock command log ∷ rule_7 command log ∷ rule_8 h command log ∷ rule_9 h command log ∷ rule_10 h command log ∷ []

-- the least of the rules 1 to 10 that fails
unfoldable pub first_of_ten : Header → ℕ → Command → Log → Option ℕ
first_of_ten h clock command log = first_failing 1 (ten_rules h clock command log)
