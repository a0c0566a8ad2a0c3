-- What a bus stands for: the list of the commands of both ranks.
use Rattle.std.specs.Prelude.{ℕ, ◌<◌, ◌≤◌, ◌^◌, IsTrue}
use Rattle.bank_state.specs.Standing.{Fits}
use Rattle.command_words.specs.declared.command.Command.{Command}
use Rattle.refresh_plan.specs.Standing.{IsAllowed}
use Rattle.speed_bin.specs.Log.{Log}
use Rattle.speed_bin.specs.Rules.{rule_9}
use Rattle.speed_bin.specs.declared.header.Header.{Header}
use Rattle.rank_bus.specs.Buses.{BusLog, part, other, IsEarliest}
use Rattle.rank_bus.specs.Held.{Held}
use Rattle.rank_bus.specs.Sides.{SidesStandFor}
use Rattle.rank_bus.specs.declared.rank.Rank.{Rank}

-- its sides stand for the list, and the clock before which no command is issued is one of the bus
pub record Keeps (bus : Held) (h : Header) (log : BusLog) : Type 0 where
  pub sides : SidesStandFor bus.sides h log
  pub small : bus.from ≤ 2 ^ 47

-- the bus stands, under a header, for the list; how is its own affair
unfoldable pub StandsFor : Held → Header → BusLog → Type 0
StandsFor bus h log = Keeps bus h log

-- it stands, under some header, for some list
abbrev pub StandsForSome : Held → Type 0
StandsForSome bus = ∥ ((h : Header) × (log : BusLog) × StandsFor bus h log) ∥₁

-- the clock before which no command is issued
unfoldable pub now_of : Held → ℕ
now_of bus = bus.from

-- the command at this clock keeps the rules 4 to 9 after the log of its rank
pub record Suits (h : Header) (log : Log) (clock : ℕ) (command : Command) : Type 0 where
  pub fits : Fits command log
  pub allowed : IsAllowed h clock command log
  pub counted : IsTrue (rule_9 h command log)

-- whichever clock is the earliest of the command, not below `from`: the command suits there, and it is one of the bus
pub record IsReady (h : Header) (own rest : Log) (from : ℕ) (command : Command) : Type 0 where
  pub suits : (clock : ℕ) → IsEarliest h own rest from command clock → Suits h own clock command
  pub small : (clock : ℕ) → IsEarliest h own rest from command clock → clock < 2 ^ 47

-- the bus stands, under some header, for some list after which the command of the rank may be issued at its earliest clock
abbrev pub MayIssue : Held → Rank → Command → Type 0
MayIssue bus rank command = ∥ ((h : Header) × (log : BusLog) × (StandsFor bus h log) × IsReady h (part rank log) (part (other rank) log) (now_of bus) command) ∥₁
