-- Which texts are lines of a trace: each is its letter and its numbers, spelled in the one way of `decimal`.
use Rattle.std.specs.Prelude.{ℕ, ◌≡◌, ◌≤◌, ◌<◌, ◌^◌, ◌++◌, List, codes, Ok}
use Rattle.hex.specs.Hex.{decode_sized}
use Rattle.command_words.specs.Geometry.{Shape, lines_of}
use Rattle.ddr_text.specs.declared.lines.TraceLine.{TraceLine}
use Rattle.ddr_text.specs.declared.lines.TraceLine.TheVariants.{Read, Write, Flip, Idle}
use Rattle.ddr_text.specs.Spelling.{spaced}
use Rattle.ddr_text.specs.Grammar.{trace_line_of}

-- the numbers of a line are within their ranges
abbrev pub IsTraceLine : Shape → TraceLine → Type 0
IsTraceLine g (Read line) = line < lines_of g
IsTraceLine g (Write line bytes) = line < lines_of g
IsTraceLine g (Flip line device bit) = (line < lines_of g) × (device < 4) × (bit < 136)
IsTraceLine g (Idle clocks) = clocks ≤ 4294967296

-- the text spells the line
abbrev pub SpellsTraceLine : List ℕ → TraceLine → Type 0
SpellsTraceLine text (Read line) = text ≡ codes "R" ++ spaced line
SpellsTraceLine text (Write line bytes) =
    (hex : List ℕ) × (text ≡ codes "W" ++ spaced line ++ (codes " " ++ hex)) × (decode_sized hex 64 ≡ Ok bytes)
SpellsTraceLine text (Flip line device bit) = text ≡ codes "F" ++ spaced line ++ spaced device ++ spaced bit
SpellsTraceLine text (Idle clocks) = text ≡ codes "I" ++ spaced clocks

-- a text is read as a line exactly where it spells it and the line's numbers are within their ranges
pub record TraceGrammar : Type 0 where
  pub reads : (g : Shape) (text : List ℕ) (line : TraceLine) → lines_of g ≤ 2 ^ 64 → IsTraceLine g line → SpellsTraceLine text line → trace_line_of g text ≡ Ok line
  pub only : (g : Shape) (text : List ℕ) (line : TraceLine) → trace_line_of g text ≡ Ok line → IsTraceLine g line × SpellsTraceLine text line
