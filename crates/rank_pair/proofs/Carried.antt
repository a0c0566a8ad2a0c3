-- One line of a trace is carried out.
use Rattle.std.proofs.Common.{◌≡◌, ℕ, ◌+◌, refl, sym, ap, subst, List, [], ◌∷◌, ◌++◌, length, Some, None}
use Rattle.command_words.specs.Geometry.{Shape}
use Rattle.ddr_text.specs.declared.lines.TraceLine.{TraceLine}
use Rattle.ddr_text.specs.declared.lines.TraceLine.TheVariants.{Read, Write}
use Rattle.reports.specs.Delivered.{AreInside, IsInside, bytes_in}
use Rattle.reports.specs.Requests.{request_of}
use Rattle.speed_bin.specs.Header.{shape_of}
use Rattle.speed_bin.specs.declared.header.Header.{Header}
use Rattle.pair_reports.specs.Lines.{lines_of}
use Rattle.pair_reports.specs.declared.rank_line.RankLine.{RankLine}
use Rattle.rank_pair.specs.Accessing.{Asks}
use Rattle.rank_pair.specs.Job.{IsPairTrace}
use Rattle.rank_pair.specs.declared.pair.LineAccess.{LineAccess}

-- the last line is one of the subchannel
pub last_inside : (g : Shape) (front : List RankLine) (it : RankLine) → AreInside g (lines_of (front ++ it ∷ [])) → IsInside g it.line
last_inside g [] it inside = inside.0
last_inside g (first ∷ front) it inside = last_inside g front it inside.1

-- an R line asks for a read
pub asks_read : (h : Header) (front : List RankLine) (it : RankLine) (number line : ℕ) (access : LineAccess) → it.line ≡ Read line → access ≡ record { number = number; line = line; bytes = None } → number ≡ length front + 1 → IsPairTrace (shape_of h) (front ++ it ∷ [])
    → Asks h front it it.rank access
asks_read h front it number line access is made counted traced =
    subst (λ (a : LineAccess). Asks h front it it.rank a) (sym made) (record {
      traced = traced;
      of_rank = refl;
      numbered = counted;
      asks = ap (request_of number) is;
      brings = ap (λ (l : TraceLine). bytes_in (Some l)) is;
      inside = last_inside (shape_of h) front it traced.inside;
    })

-- a W line asks for a write
pub asks_write : (h : Header) (front : List RankLine) (it : RankLine) (number line : ℕ) (bytes : List ℕ) (access : LineAccess) → it.line ≡ Write line bytes → access ≡ record { number = number; line = line; bytes = Some bytes } → number ≡ length front + 1
    → IsPairTrace (shape_of h) (front ++ it ∷ []) → Asks h front it it.rank access
asks_write h front it number line bytes access is made counted traced =
    subst (λ (a : LineAccess). Asks h front it it.rank a) (sym made) (record {
      traced = traced;
      of_rank = refl;
      numbered = counted;
      asks = ap (request_of number) is;
      brings = ap (λ (l : TraceLine). bytes_in (Some l)) is;
      inside = last_inside (shape_of h) front it traced.inside;
    })

-- a line with this rank and this line
pub same_line : (it : RankLine) (line : TraceLine) → it.line ≡ line → it ≡ record { rank = it.rank; line = line }
same_line it line is = ap (λ (l : TraceLine). record { rank = it.rank; line = l }) is
