-- The lines of a trace of two ranks, for both and for one of them.
use Rattle.std.specs.Prelude.{ℕ, suc, if◌then◌else◌, List, [], ◌∷◌, ◌++◌, map}
use Rattle.ddr_text.specs.declared.lines.TraceLine.{TraceLine}
use Rattle.ddr_text.specs.declared.lines.TraceLine.TheVariants.{Read, Write, Flip, Idle}
use Rattle.rank_bus.specs.Buses.{is_same}
use Rattle.rank_bus.specs.declared.rank.Rank.{Rank}
use Rattle.pair_reports.specs.declared.rank_line.RankLine.{RankLine}

-- without their digits
abbrev pub lines_of : List RankLine → List TraceLine
lines_of trace = map (λ line. line.line) trace

-- a line as one rank has it: a line of the other rank lets no clock pass
abbrev pub line_for : Rank → RankLine → TraceLine
line_for rank line = if is_same rank line.rank then line.line else Idle 0

-- The trace of one rank. Each line keeps its number.
abbrev pub only : Rank → List RankLine → List TraceLine
only rank trace = map (line_for rank) trace

-- ---- What is to be done, in order

-- the number of a line that is an R, W or F line
abbrev pub deed_of : ℕ → TraceLine → List ℕ
deed_of n (Read line) = n ∷ []
deed_of n (Write line bytes) = n ∷ []
deed_of n (Flip line device bit) = n ∷ []
deed_of n (Idle clocks) = []

-- those of these trace lines, numbered from n
abbrev pub deeds_from : ℕ → List TraceLine → List ℕ
deeds_from n [] = []
deeds_from n (line ∷ trace) = deed_of n line ++ deeds_from (suc n) trace

-- the numbers of the R, W and F lines of a trace
abbrev pub deeds : List TraceLine → List ℕ
deeds trace = deeds_from 1 trace
