-- What the ledger says of a log.
use Rattle.std.specs.Prelude.{◌≡◌, ℕ, ◌<◌, ◌≤◌, Bool, false, List, length, min, slice_index_or}
use Rattle.command_words.specs.declared.command.Command.{Command}
use Rattle.speed_bin.specs.Header.{IsAccepted}
use Rattle.speed_bin.specs.Log.{Log}
use Rattle.speed_bin.specs.declared.header.Header.{Header}
use Rattle.deadlines.specs.Blocking.{AllUpTo}
use Rattle.log_ledger.specs.Standing.{Follows, StandsFor as LogStandsFor}
use Rattle.requests.specs.Owed.{owed, SparesOwed}
use Rattle.scheduler.specs.declared.ledger.Ledger.{Ledger}

-- the bank is owed
abbrev pub owes : List Bool → ℕ → Bool
owes banks b = slice_index_or banks b false

pub record StandsFor (ledger : Ledger) (h : Header) (log : Log) : Type 0 where
  pub accepted : IsAccepted h
  pub stands : LogStandsFor ledger.log h log
  pub owed : (b : ℕ) → b < 32 → owes ledger.owed b ≡ owed b log
  pub written : ledger.written ≡ min 8 (length log)
  pub later : AllUpTo ledger.from log

-- the command may follow the log at this clock, as far as the ledger is concerned
pub record Suits (ledger : Ledger) (h : Header) (log : Log) (clock : ℕ) (command : Command) : Type 0 where
  pub late : ledger.from ≤ clock
  pub follows : Follows h clock command log
  pub spares : SparesOwed command log

-- that of some log
abbrev pub MayIssue : Ledger → ℕ → Command → Type 0
MayIssue ledger clock command = ∥ ((h : Header) × (log : Log) × (StandsFor ledger h log) × Suits ledger h log clock command) ∥₁
