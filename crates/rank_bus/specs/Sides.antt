-- What is known of the commands of one rank, and of those of both.
use Rattle.std.specs.Prelude.{ℕ}
use Rattle.command_words.specs.declared.command.Command.{Command}
use Rattle.log_ledger.specs.Standing.{Follows, StandsFor as LedgerStandsFor}
use Rattle.speed_bin.specs.Log.{Log}
use Rattle.speed_bin.specs.declared.header.Header.{Header}
use Rattle.rank_bus.specs.Buses.{AllShare, BusLog, part}
use Rattle.rank_bus.specs.Clearing.{IsLeftBy}
use Rattle.rank_bus.specs.declared.rank.Rank.{Rank}
use Rattle.rank_bus.specs.declared.rank.Rank.TheVariants.{Zero, One}
use Rattle.rank_bus.specs.declared.side.Side.{Side}
use Rattle.rank_bus.specs.declared.sides.Sides.{Sides}

-- each part stands for the log of the rank
pub record SideStandsFor (side : Side) (h : Header) (log : Log) : Type 0 where
  pub ledger : LedgerStandsFor side.ledger h log
  pub clearance : IsLeftBy side.clearance log

-- it stands, under some header, for some log that the command follows at the clock
abbrev pub SideMayIssue : Side → ℕ → Command → Type 0
SideMayIssue side clock command = ∥ ((h : Header) × (log : Log) × (SideStandsFor side h log) × Follows h clock command log) ∥₁

-- each side stands for the log of its rank, and both together keep the gaps of the bus
pub record SidesStandFor (sides : Sides) (h : Header) (log : BusLog) : Type 0 where
  pub zero : SideStandsFor sides.zero h (part Zero log)
  pub one : SideStandsFor sides.one h (part One log)
  pub shares : AllShare log

-- they stand, under some header, for some list with a log of this rank that the command follows at the clock
abbrev pub MayIssueTo : Rank → Sides → ℕ → Command → Type 0
MayIssueTo rank sides clock command = ∥ ((h : Header) × (log : BusLog) × (SidesStandFor sides h log) × Follows h clock command (part rank log)) ∥₁
