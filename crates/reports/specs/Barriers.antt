-- Lines of a trace that are no requests: what a report owes to its I lines and its F lines.
use Rattle.std.specs.Prelude.{ℕ, ◌+◌, ◌-◌, Bool, true, ◌&&◌, ◌≤◌, nat_lt, IsTrue, ⊤, Option, Some, None, List, [], ◌∷◌, sum, take, drop}
use Rattle.std.specs.List.{list_all}
use Rattle.ddr_text.specs.declared.lines.TraceLine.{TraceLine}
use Rattle.ddr_text.specs.declared.lines.TraceLine.TheVariants.{Read, Write, Flip, Idle}
use Rattle.ddr_text.specs.declared.lines.ReportLine.{ReportLine}
use Rattle.ddr_text.specs.declared.lines.ReportLine.TheVariants.{Issued as IssuedLine, Value as ValueLine, Flip as FlipLine, Stat as StatLine, End as EndLine, Refused as RefusedLine}
use Rattle.reports.specs.Requests.{Request}
use Rattle.reports.specs.Runs.{Issues, Flips, Run}

-- ---- I lines

-- the clocks of the I lines among these
abbrev pub idle_clocks : List TraceLine → List ℕ
idle_clocks [] = []
idle_clocks (Idle clocks ∷ trace) = clocks ∷ idle_clocks trace
idle_clocks (Read line ∷ trace) = idle_clocks trace
idle_clocks (Write line bytes ∷ trace) = idle_clocks trace
idle_clocks (Flip line device bit ∷ trace) = idle_clocks trace

-- those of the I lines between the lines with these numbers
abbrev pub idles_between : List TraceLine → ℕ → ℕ → List ℕ
idles_between trace earlier later = idle_clocks (take (later - 1 - earlier) (drop earlier trace))

-- a clock is more than the sum of these after another, where there are any
abbrev pub is_past : List ℕ → ℕ → ℕ → Bool
is_past [] before clock = true
is_past (first ∷ idles) before clock = nat_lt (before + sum (first ∷ idles)) clock

-- a request that was served, and its clock
pub record Serving : Type 0 where
  pub number : ℕ
  pub clock : ℕ

abbrev pub with_serving : Option Request → ℕ → List Serving → List Serving
with_serving None clock rest = rest
with_serving (Some r) clock rest = record { number = r.number; clock = clock } ∷ rest

-- the requests that a run serves, at their clocks
abbrev pub servings : Run → List Serving
servings [] = []
servings (Issues s ∷ run) = with_serving s.request s.issued.clock (servings run)
servings (Flips number ∷ run) = servings run

-- of two requests between which I lines stand, the one with the greater number is served more than their sum later
abbrev pub is_apart : List TraceLine → Serving → Serving → Bool
is_apart trace a b =
    is_past (idles_between trace a.number b.number) a.clock b.clock && is_past (idles_between trace b.number a.number) b.clock a.clock

-- each pair is apart
abbrev pub AreApart : List TraceLine → List Serving → Type 0
AreApart trace [] = ⊤
AreApart trace (a ∷ rest) = IsTrue (list_all (is_apart trace a) rest) × AreApart trace rest

-- The run waits at the I lines of the trace, and it ends at this clock.
pub record IsIdled (trace : List TraceLine) (run : Run) (clock : ℕ) : Type 0 where
  pub apart : AreApart trace (servings run)
  pub total : sum (idle_clocks trace) ≤ clock

-- ---- F lines

-- the stored bit that an F line turns
pub record Bit : Type 0 where
  pub line : ℕ
  pub device : ℕ
  pub bit : ℕ

-- the bits that the F lines of a trace turn, in order
abbrev pub bits_of : List TraceLine → List Bit
bits_of [] = []
bits_of (Flip line device bit ∷ trace) = record { line = line; device = device; bit = bit } ∷ bits_of trace
bits_of (Read line ∷ trace) = bits_of trace
bits_of (Write line bytes ∷ trace) = bits_of trace
bits_of (Idle clocks ∷ trace) = bits_of trace

-- the same of a report
abbrev pub turned_bits : List ReportLine → List Bit
turned_bits [] = []
turned_bits (FlipLine clock line device bit ∷ lines) = record { line = line; device = device; bit = bit } ∷ turned_bits lines
turned_bits (IssuedLine clock command ∷ lines) = turned_bits lines
turned_bits (ValueLine number line bytes state ∷ lines) = turned_bits lines
turned_bits (StatLine name number ∷ lines) = turned_bits lines
turned_bits (EndLine clock ∷ lines) = turned_bits lines
turned_bits (RefusedLine line reason ∷ lines) = turned_bits lines
