-- What a log leaves for its next command.
use Rattle.std.specs.Prelude.{ℕ, ◌≡◌, ◌+◌, ◌<◌, ◌^◌, IsTrue, Bool, true, List, [], ◌∷◌, Option, Some, None, length, min}
use Rattle.bank_state.specs.Standing.{StandsFor as BanksFor}
use Rattle.command_words.specs.Command.{IsInRange}
use Rattle.command_words.specs.declared.command.Command.{Command}
use Rattle.command_words.specs.declared.command.Command.TheVariants.{Mrw as MrwCommand}
use Rattle.command_words.specs.declared.command.Mrw.{Mrw}
use Rattle.refresh_plan.specs.Standing.{StandsFor as PlanFor}
use Rattle.rfm_counts.specs.Standing.{StandsFor as RaaFor}
use Rattle.row_activity.specs.Standing.{StandsFor as ActivityFor}
use Rattle.speed_bin.specs.Gap.{n_tail}
use Rattle.speed_bin.specs.Header.{IsAccepted}
use Rattle.speed_bin.specs.Log.{Log}
use Rattle.speed_bin.specs.Marks.{stays_inside}
use Rattle.speed_bin.specs.Registers.{register_writes}
use Rattle.speed_bin.specs.Rules.{MayFollow, broken, rule_1, rule_2, rule_3, rule_4, rule_5, rule_6, rule_7, rule_8, rule_9, rule_10, rule_11, rule_12, rule_13, rule_14}
use Rattle.speed_bin.specs.declared.header.Header.{Header}
use Rattle.timing_rules.specs.Gate.{StandsFor as GateFor}
use Rattle.legality.specs.declared.prospects.Prospects.{Prospects}

-- each part is that of the log
pub record Keeps (it : Prospects) (h : Header) (log : Log) : Type 0 where
  pub accepted : IsAccepted h
  pub gate : GateFor it.gate h.timing log
  pub banks : BanksFor it.banks log
  pub plan : PlanFor it.plan h log
  pub raa : RaaFor it.raa h log
  pub activity : ActivityFor it.activity h log
  pub settings : it.settings ≡ h.settings
  pub interval : it.interval ≡ h.timing.nrefi
  pub window : it.window ≡ h.timing.nabo
  pub deadline : it.deadline ≡ h.timing.nabo + n_tail h.timing
  pub writes : it.writes.items ≡ register_writes h.settings
  pub places : it.places ≡ min 8 (length log)

-- they stand, under the header, for the log; how is their own affair
unfoldable pub StandsFor : Prospects → Header → Log → Type 0
StandsFor it h log = Keeps it h log

-- the command can be the next place of the log at this clock: its clock and its parts are in their ranges, and it breaks
-- no rule
pub record MayTake (h : Header) (clock : ℕ) (command : Command) (log : Log) : Type 0 where
  pub in_time : clock < 2 ^ 48
  pub in_range : IsInRange command
  pub inside : IsTrue (stays_inside h command)
  pub fine : broken h clock command log ≡ None

-- they stand for some log whose next place the command can be at this clock
abbrev pub MayIssue : Prospects → ℕ → Command → Type 0
MayIssue it clock command = ∥ ((h : Header) × (log : Log) × (StandsFor it h log) × MayTake h clock command log) ∥₁

-- they stand for some log
abbrev pub StandsForSome : Prospects → Type 0
StandsForSome it = ∥ ((h : Header) × (log : Log) × StandsFor it h log) ∥₁

-- ---- The rules, by what decides them

-- rules 4 and 5
abbrev pub bank_rules : Command → Log → List Bool
bank_rules command log = rule_4 command log ∷ rule_5 command log ∷ []

-- the register write that a command is
abbrev pub write_of : Command → Option Mrw
write_of (MrwCommand write) = Some write
write_of _ = None

-- what decides whether a rule fails at every clock: spacing gets better with the clock, so its rules are asked at the last
-- one; rule 6 is asked at the clock that is best for it; the alert's last clocks are never below every clock
abbrev pub chances : Header → ℕ → ℕ → Command → Log → List Bool
chances h last best command log =
    rule_1 last log ∷ rule_2 h.timing last command log ∷ rule_3 h.timing last command log ∷ rule_4 command log ∷ rule_5 command log
    ∷ rule_6 h best command log ∷ rule_7 command log ∷ rule_8 h command log ∷ rule_9 h command log ∷ rule_10 h command log
    ∷ rule_11 h command log ∷ true ∷ true ∷ rule_14 h command log ∷ []

-- the command keeps the rules that speak of the clock: 1 to 3, 6, 12 and 13
pub record Limits (h : Header) (clock : ℕ) (command : Command) (log : Log) : Type 0 where
  pub spaced : MayFollow h.timing clock command log
  pub refreshed : rule_6 h clock command log ≡ true
  pub in_window : rule_12 h clock command log ≡ true
  pub in_time : rule_13 h clock log ≡ true
