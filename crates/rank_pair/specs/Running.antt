-- How far a job is: which lines were read, carried out and written.
use Rattle.std.specs.Prelude.{ℕ, ◌≡◌, List, length, sum}
use Rattle.std.specs.declared.option.Option.{Option}
use Rattle.ddr_io.specs.declared.line_reader.Line.TheVariants.{Text}
use Rattle.pair_deadlines.specs.Keeping.{Resting}
use Rattle.reports.specs.Barriers.{idle_clocks}
use Rattle.speed_bin.specs.Header.{shape_of}
use Rattle.speed_bin.specs.declared.header.Header.{Header}
use Rattle.pair_reports.specs.Lines.{lines_of}
use Rattle.pair_reports.specs.declared.rank_line.RankLine.{RankLine}
use Rattle.rank_pair.specs.Accessing.{IsThere}
use Rattle.rank_pair.specs.Reading.{IsBehind, Place}
use Rattle.rank_pair.specs.declared.pair.Pair.{Pair}

-- the lines of the trace so far were read and carried out, and what they show was written
pub record RunsSoFar (h : Header) (start : Option (List ℕ)) (it : Place) (left : Option (List ℕ)) (p : Pair) (before after : Option (List ℕ)) : Type 0 where
  pub front : List RankLine
  pub there : IsThere p h front Resting before after
  pub is_behind : IsBehind start front it left
  pub shape : it.shape ≡ shape_of h
  pub lines : it.lines ≡ length front
  pub clocks : it.clocks ≡ sum (idle_clocks (lines_of front))
  pub last : it.reader.last ≡ Text
