-- What a gate stands for: the list of the commands issued so far, newest first.
use Rattle.std.specs.Prelude.{ℕ, ◌≡◌, List, map, take}
use Rattle.std.specs.List.{filter}
use Rattle.circular_buffer.specs.Buffer.{buffer}
use Rattle.command_words.specs.declared.command.Command.{Command}
use Rattle.command_words.specs.Kinds.{is_act}
use Rattle.speed_bin.specs.Log.{Log}
use Rattle.speed_bin.specs.Rules.{MayFollow}
use Rattle.speed_bin.specs.Timing.{IsTiming}
use Rattle.speed_bin.specs.declared.timing.Timing.{Timing}
use Rattle.timing_rules.specs.Blocks.{bus_block, floor_block, act_block, rd_block, wr_block, act_group_block, rd_group_block, wr_group_block, act_bank_block, column_block, pre_block, closed_block}
use Rattle.timing_rules.specs.Kept.{last_of, is_any}
use Rattle.timing_rules.specs.Reach.{reach, KeepsTable}
use Rattle.timing_rules.specs.Spaced.{IsSpaced, AllSmall}
use Rattle.timing_rules.specs.declared.clocks.Clocks.{Clocks}

-- the clocks of the ACTs, newest first
abbrev pub act_clocks : Log → List ℕ
act_clocks log = map (λ place. place.clock) (filter (λ place. is_act place.command) log)

-- what the gate keeps of a list: each clock is the reach of what it speaks of, and the window has the last four ACTs
pub record Keeps (gate : Clocks) (t : Timing) (log : Log) : Type 0 where
  pub timing : gate.timing ≡ t
  pub timing_in_range : IsTiming gate.timing
  pub spaced : IsSpaced t log
  pub small : AllSmall log
  pub any : gate.any ≡ last_of is_any log
  pub bus : gate.bus ≡ reach bus_block log
  pub floor : gate.floor ≡ reach (floor_block gate.timing) log
  pub act : gate.act ≡ reach (act_block gate.timing) log
  pub rd : gate.rd ≡ reach (rd_block gate.timing) log
  pub wr : gate.wr ≡ reach (wr_block gate.timing) log
  pub act_groups : KeepsTable gate.act_groups 8 (act_group_block gate.timing) log
  pub rd_groups : KeepsTable gate.rd_groups 8 (rd_group_block gate.timing) log
  pub wr_groups : KeepsTable gate.wr_groups 8 (wr_group_block gate.timing) log
  pub act_banks : KeepsTable gate.act_banks 32 (act_bank_block gate.timing) log
  pub columns : KeepsTable gate.columns 32 (column_block gate.timing) log
  pub precharges : KeepsTable gate.precharges 32 (pre_block gate.timing) log
  pub closed : KeepsTable gate.closed 32 (closed_block gate.timing) log
  pub window : gate.window ≡ buffer (take 4 (act_clocks log)) 4

-- the gate stands for a list under a timing; what it keeps of it is its own affair
unfoldable pub StandsFor : Clocks → Timing → Log → Type 0
StandsFor gate t log = Keeps gate t log

-- it stands for some list
abbrev pub StandsForSome : Clocks → Type 0
StandsForSome gate = ∥ ((t : Timing) × (log : Log) × StandsFor gate t log) ∥₁

-- it stands for some list which the command may follow at this clock
abbrev pub MayIssue : Clocks → ℕ → Command → Type 0
MayIssue gate clock command = ∥ ((t : Timing) × (log : Log) × (StandsFor gate t log) × MayFollow t clock command log) ∥₁
