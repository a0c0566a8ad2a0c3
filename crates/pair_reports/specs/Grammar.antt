-- The grammar of a line of a trace of two ranks.
use Rattle.std.specs.Prelude.{ℕ, ◌==◌, if◌then◌else◌, List, [], ◌∷◌, Option, Some, None, Result, Ok, Err}
use Rattle.command_words.specs.Geometry.{Shape}
use Rattle.ddr_text.specs.Grammar.{is_space, trace_line_of}
use Rattle.ddr_text.specs.declared.lines.LineFault.{LineFault}
use Rattle.ddr_text.specs.declared.lines.LineFault.TheVariants.{Empty, Letter}
use Rattle.ddr_text.specs.declared.lines.TraceLine.{TraceLine}
use Rattle.rank_bus.specs.declared.rank.Rank.{Rank}
use Rattle.rank_bus.specs.declared.rank.Rank.TheVariants.{Zero, One}
use Rattle.pair_reports.specs.declared.rank_line.RankLine.{RankLine}

-- the rank with this digit
abbrev pub rank_of : ℕ → Option Rank
rank_of digit = if digit == 48 then Some Zero else if digit == 49 then Some One else None

-- what was read for the rank, where there is one
abbrev pub for_rank : Option Rank → Result TraceLine LineFault → Result RankLine LineFault
for_rank None read = Err Letter
for_rank (Some rank) (Ok line) = Ok (record { rank = rank; line = line })
for_rank (Some rank) (Err fault) = Err fault

-- the digit of a rank, a space, and a line of a trace
abbrev pub rank_line_of : Shape → List ℕ → Result RankLine LineFault
rank_line_of g [] = Err Empty
rank_line_of g (digit ∷ []) = Err Letter
rank_line_of g (digit ∷ space ∷ rest) = if is_space space then for_rank (rank_of digit) (trace_line_of g rest) else Err Letter
