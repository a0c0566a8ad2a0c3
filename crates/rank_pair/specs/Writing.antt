-- The register writes under way.
use Rattle.std.specs.Prelude.{ℕ, ◌≡◌, ◌<◌, ◌≤◌, Option, Some, List, [], length, slice_get}
use Rattle.command_words.specs.Kinds.{is_act, is_nop}
use Rattle.command_words.specs.declared.command.Mrw.{Mrw as Write}
use Rattle.pair_deadlines.specs.Before.{AllBefore}
use Rattle.pair_deadlines.specs.Budget.{HasTime}
use Rattle.pair_deadlines.specs.Keeping.{Keeps, Writing}
use Rattle.pair_reports.specs.Runs.{PairRun, bus_of}
use Rattle.rank_bus.specs.Buses.{part}
use Rattle.rank_bus.specs.Standing.{now_of}
use Rattle.rank_bus.specs.declared.rank.Rank.{Rank}
use Rattle.rank_bus.specs.declared.rank.Rank.TheVariants.{Zero, One}
use Rattle.speed_bin.specs.Counts.{commands}
use Rattle.speed_bin.specs.Header.{IsAccepted}
use Rattle.speed_bin.specs.Log.{Log}
use Rattle.speed_bin.specs.Registers.{register_writes}
use Rattle.speed_bin.specs.declared.header.Header.{Header}
use Rattle.rank_pair.specs.Pairs.{StandsFor}
use Rattle.rank_pair.specs.Under.{AllShut, IsDone, Wrote}
use Rattle.rank_pair.specs.declared.pair.Pair.{Pair}

-- how many writes stand in the log of each rank
pub record Counted : Type 0 where
  pub zero : ℕ
  pub one : ℕ

abbrev pub count_in : Rank → Counted → ℕ
count_in Zero counted = counted.zero
count_in One counted = counted.one

-- so many of this rank; those of rank 0 come first
abbrev pub written_after : Rank → ℕ → Counted
written_after Zero count = record { zero = count; one = 0 }
written_after One count = record { zero = 8; one = count }

abbrev pub written_before : Rank → Counted
written_before rank = written_after rank 0

-- the write is the one behind so many
pub record IsTurn (h : Header) (write : Write) (count : ℕ) : Type 0 where
  pub few : count < 8
  pub due : slice_get (register_writes h.settings) count ≡ Some write

-- what is kept of the log of a rank meanwhile: it has so many places, and none is an ACT or a NOP
pub record IsOfWrites (log : Log) (count now : ℕ) : Type 0 where
  pub counted : length log ≡ count
  pub acts : commands is_act log ≡ 0
  pub no_nop : commands is_nop log ≡ 0
  pub before : AllBefore now log
  pub few : length log ≤ now

-- so many registers are written, and nothing else was issued
pub record IsWritten (p : Pair) (h : Header) (counted : Counted) (before after : Option (List ℕ)) : Type 0 where
  pub run : PairRun
  pub accepted : IsAccepted h
  pub time : HasTime h
  pub stands : StandsFor p h [] run
  pub keeps : Keeps h (bus_of run) (now_of p.bus) 0 0 0 Writing
  pub logged : (rank : Rank) → IsOfWrites (part rank (bus_of run)) (count_in rank counted) (now_of p.bus)
  pub all_done : IsDone h [] run (now_of p.bus)
  pub shut : (rank : Rank) → AllShut (part rank (bus_of run))
  pub wrote : Wrote h [] run before after
