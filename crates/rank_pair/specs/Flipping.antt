-- An F line.
use Rattle.std.specs.Prelude.{ℕ, Option, List, [], ◌∷◌, ◌++◌}
use Rattle.ddr_text.specs.declared.lines.TraceLine.TheVariants.{Flip}
use Rattle.pair_deadlines.specs.Keeping.{Resting}
use Rattle.pair_reports.specs.declared.rank_line.RankLine.{RankLine}
use Rattle.rank_bus.specs.declared.rank.Rank.{Rank}
use Rattle.speed_bin.specs.Header.{shape_of}
use Rattle.speed_bin.specs.declared.header.Header.{Header}
use Rattle.rank_pair.specs.Accessing.{IsThere}
use Rattle.rank_pair.specs.Job.{IsPairTrace}
use Rattle.rank_pair.specs.declared.pair.Pair.{Pair}

-- all lines are done, and the next one turns this bit of this rank
pub record MayFlip (p : Pair) (rank : Rank) (line device bit : ℕ) (after : Option (List ℕ)) : Type 0 where
  pub h : Header
  pub front : List RankLine
  pub before : Option (List ℕ)
  pub there : IsThere p h front Resting before after
  pub traced : IsPairTrace (shape_of h) (front ++ record { rank = rank; line = Flip line device bit } ∷ [])
