-- An I line under way.
use Rattle.std.specs.Prelude.{ℕ, ◌≡◌, ◌<◌, ◌≤◌, ◌↔◌, Option, List, [], ◌∷◌, ◌++◌}
use Rattle.ddr_text.specs.declared.lines.TraceLine.TheVariants.{Idle}
use Rattle.pair_deadlines.specs.Keeping.{Resting}
use Rattle.pair_reports.specs.declared.rank_line.RankLine.{RankLine}
use Rattle.rank_bus.specs.Buses.{BusLog, part}
use Rattle.rank_bus.specs.Held.{Held as Bus}
use Rattle.rank_bus.specs.Standing.{StandsFor as BusFor}
use Rattle.rank_bus.specs.declared.rank.Rank.TheVariants.{Zero, One}
use Rattle.refresh_plan.specs.Debts.{IsNothingDue}
use Rattle.speed_bin.specs.Header.{shape_of}
use Rattle.speed_bin.specs.declared.header.Header.{Header}
use Rattle.rank_pair.specs.Accessing.{IsThere}
use Rattle.rank_pair.specs.Job.{IsPairTrace}
use Rattle.rank_pair.specs.Under.{IsUnder, Mark}
use Rattle.rank_pair.specs.declared.pair.Pair.{Pair}

-- all lines are done, and the next one lets so many clocks pass
pub record MayIdle (p : Pair) (clocks : ℕ) (after : Option (List ℕ)) : Type 0 where
  pub h : Header
  pub front : List RankLine
  pub it : RankLine
  pub before : Option (List ℕ)
  pub there : IsThere p h front Resting before after
  pub idles : it.line ≡ Idle clocks
  pub traced : IsPairTrace (shape_of h) (front ++ it ∷ [])

-- a refresh is due at this clock, and in neither rank before it, whatever list the bus stands for
abbrev pub IsDueAt : Bus → ℕ → Type 0
IsDueAt bus due =
    (h : Header) (log : BusLog) (clock : ℕ) → BusFor bus h log → ((clock < due) ↔ (IsNothingDue h clock (part Zero log) × IsNothingDue h clock (part One log)))

-- the idle target is not before that clock
pub record MayServeAt (p : Pair) (due : ℕ) (after : Option (List ℕ)) : Type 0 where
  pub h : Header
  pub trace : List RankLine
  pub mark : Mark
  pub until : ℕ
  pub before : Option (List ℕ)
  pub under : IsUnder p h trace mark until Resting before after
  pub within : due ≤ until
  pub due_at : IsDueAt p.bus due
