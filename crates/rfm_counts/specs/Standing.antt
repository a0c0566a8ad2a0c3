-- What rolling counts say of a log.
use Rattle.std.specs.Prelude.{◌≡◌, ℕ, ◌<◌, Bool, List, [], ◌∷◌, length, slice_index, IsTrue, ⊤}
use Rattle.command_words.specs.declared.command.Command.{Command}
use Rattle.speed_bin.specs.declared.header.Header.{Header}
use Rattle.speed_bin.specs.Log.{Log, raa}
use Rattle.speed_bin.specs.Rules.{rule_9, rule_10}
use Rattle.rfm_counts.specs.Held.{Held}

-- rule 9 holds at each place of the log
abbrev pub AllAllowed : Header → Log → Type 0
AllAllowed h [] = ⊤
AllAllowed h (place ∷ log) = AllAllowed h log × IsTrue (rule_9 h place.command log)

-- whether each of the rules 9 and 10 holds
abbrev pub count_rules : Header → Command → Log → List Bool
count_rules h command log = rule_9 h command log ∷ rule_10 h command log ∷ []

-- the thresholds are the header's, and at each of the 32 numbers of banks stands the count of the log
pub record Keeps (it : Held) (h : Header) (log : Log) : Type 0 where
  pub raaimt : it.raaimt ≡ h.settings.raaimt
  pub raammt : it.raammt ≡ h.settings.raammt
  pub banks : length it.counts ≡ 32
  pub counts : (b : ℕ) → b < 32 → slice_index it.counts b ≡ raa h b log
  pub allowed : AllAllowed h log

-- the counts stand for the log; how is their own affair
unfoldable pub StandsFor : Held → Header → Log → Type 0
StandsFor it h log = Keeps it h log

-- the counts stand, under some header, for some log
abbrev pub StandsForSome : Held → Type 0
StandsForSome it = ∥ ((h : Header) × (log : Log) × StandsFor it h log) ∥₁

-- the counts stand, under some header, for some log after which rule 9 holds of the command
abbrev pub MayIssue : Held → Command → Type 0
MayIssue it command = ∥ ((h : Header) × (log : Log) × (StandsFor it h log) × IsTrue (rule_9 h command log)) ∥₁
