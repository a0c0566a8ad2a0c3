-- A line that is read is one of the subchannel.
use Rattle.std.proofs.Common.{◌≡◌, ℕ, Bool, true, false, refl, subst, Option, Some, None, List, [], ◌∷◌, Result, Ok, Err, if◌then◌else◌}
use Rattle.command_words.specs.Geometry.{Shape}
use Rattle.ddr_text.specs.Grammar.{is_space, trace_line_of}
use Rattle.ddr_text.specs.declared.lines.LineFault.{LineFault}
use Rattle.ddr_text.specs.declared.lines.LineFault.TheVariants.{Letter}
use Rattle.ddr_text.specs.declared.lines.TraceLine.{TraceLine}
use Rattle.rank_bus.specs.declared.rank.Rank.{Rank}
use Rattle.reports.specs.Delivered.{IsInside}
use Rattle.pair_reports.specs.Grammar.{for_rank, rank_line_of, rank_of}
use Rattle.pair_reports.specs.declared.rank_line.RankLine.{RankLine}

of_read : (g : Shape) (o : Option Rank) (read : Result TraceLine LineFault) (it : RankLine) → ((line : TraceLine) → read ≡ Ok line → IsInside g line) → for_rank o read ≡ Ok it → IsInside g it.line
of_read g None read it law k = absurd cc
of_read g (Some rank) (Ok line) it law k = let same : record { rank = rank; line = line } ≡ it = cc in subst (λ (x : RankLine). IsInside g x.line) same (law line refl)
of_read g (Some rank) (Err fault) it law k = absurd cc

by_space : (g : Shape) (t : Bool) (o : Option Rank) (read : Result TraceLine LineFault) (it : RankLine) → ((line : TraceLine) → read ≡ Ok line → IsInside g line)
    → (if t then for_rank o read else Err Letter) ≡ Ok it → IsInside g it.line
by_space g true o read it law k = of_read g o read it law k
by_space g false o read it law k = absurd cc

pub inside_line : ((g : Shape) (text : List ℕ) (line : TraceLine) → trace_line_of g text ≡ Ok line → IsInside g line) → (g : Shape) (text : List ℕ) (it : RankLine) → rank_line_of g text ≡ Ok it → IsInside g it.line
inside_line law g [] it e = absurd cc
inside_line law g (digit ∷ []) it e = absurd cc
inside_line law g (digit ∷ space ∷ rest) it e = by_space g (is_space space) (rank_of digit) (trace_line_of g rest) it (law g rest) e
