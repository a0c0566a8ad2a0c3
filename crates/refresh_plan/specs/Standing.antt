-- What a plan says of a log.
use Rattle.std.specs.Prelude.{◌≡◌, ℕ, ◌<◌, ◌^◌, Bool, List, [], ◌∷◌, length, slice_index, IsTrue, ⊤}
use Rattle.command_words.specs.declared.command.Command.{Command}
use Rattle.speed_bin.specs.declared.header.Header.{Header}
use Rattle.speed_bin.specs.Log.{Log, refs, scrubs}
use Rattle.speed_bin.specs.Rules.{rule_6, rule_7, rule_8}
use Rattle.refresh_plan.specs.Held.{Held}

-- rules 6, 7 and 8 hold of the command at the clock after the log
pub record IsAllowed (h : Header) (clock : ℕ) (command : Command) (log : Log) : Type 0 where
  pub refreshes_in_time : IsTrue (rule_6 h clock command log)
  pub refreshes_evenly : IsTrue (rule_7 command log)
  pub scrubs_in_step : IsTrue (rule_8 h command log)

-- whether each of them holds
abbrev pub refresh_rules : Header → ℕ → Command → Log → List Bool
refresh_rules h clock command log = rule_6 h clock command log ∷ rule_7 command log ∷ rule_8 h command log ∷ []

-- what a command meets that is issued at the clock after the log: the clock is one of the bus, and the rules hold
pub record IsMet (h : Header) (clock : ℕ) (command : Command) (log : Log) : Type 0 where
  pub small : clock < 2 ^ 48
  pub allowed : IsAllowed h clock command log

-- each place of the log met it
abbrev pub AllMet : Header → Log → Type 0
AllMet h [] = ⊤
AllMet h (place ∷ log) = AllMet h log × IsMet h place.clock place.command log

-- the numbers are the header's, the counts those of the log, and each place of it met what is asked of a command
pub record Keeps (it : Held) (h : Header) (log : Log) : Type 0 where
  pub interval : it.interval ≡ h.timing.nrefi
  pub mode : it.mode ≡ h.settings.refresh
  pub every : it.every ≡ h.settings.ecs_every
  pub addresses : length it.refreshes ≡ 4
  pub counts : (address : ℕ) → address < 4 → slice_index it.refreshes address ≡ refs address log
  pub scrubbed : it.scrubs ≡ scrubs log
  pub met : AllMet h log

-- the plan stands for the log; how is its own affair
unfoldable pub StandsFor : Held → Header → Log → Type 0
StandsFor it h log = Keeps it h log

-- the plan stands, under some header, for some log
abbrev pub StandsForSome : Held → Type 0
StandsForSome it = ∥ ((h : Header) × (log : Log) × StandsFor it h log) ∥₁

-- the plan stands, under some header, for some log after which the command is allowed at the clock
abbrev pub MayIssue : Held → ℕ → Command → Type 0
MayIssue it clock command = ∥ ((h : Header) × (log : Log) × (StandsFor it h log) × IsAllowed h clock command log) ∥₁
