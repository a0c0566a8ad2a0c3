-- A line that is read from a text is inside the subchannel, and a W line has 64 bytes.
use Rattle.std.proofs.Common.{◌≡◌, List, ℕ}
use Rattle.std.specs.Prelude.{Ok}
use Rattle.hex.specs.Hex.{decode_sized}
use Rattle.command_words.specs.Geometry.{Shape}
use Rattle.ondie_ecc.specs.Bits.{IsBytes}
use Rattle.ddr_text.specs.Accepted.{TraceGrammar}
use Rattle.ddr_text.specs.Grammar.{trace_line_of}
use Rattle.ddr_text.specs.declared.lines.TraceLine.{TraceLine}
use Rattle.ddr_text.specs.declared.lines.TraceLine.TheVariants.{Read, Write, Flip, Idle}
use Rattle.reports.specs.Delivered.{IsInside}

abbrev pub HexGivesBytes : Type 0
HexGivesBytes = (field bytes : List ℕ) → decode_sized field 64 ≡ Ok bytes → IsBytes 64 bytes

pub reads-inside : TraceGrammar → HexGivesBytes → (g : Shape) (text : List ℕ) (line : TraceLine) → trace_line_of g text ≡ Ok line → IsInside g line
reads-inside grammar hex g text (Read line) e = (grammar.only g text (Read line) e).0
reads-inside grammar hex g text (Write line bytes) e = let k = grammar.only g text (Write line bytes) e in (k.0, hex k.1.0 bytes k.1.2)
reads-inside grammar hex g text (Flip line device bit) e = (grammar.only g text (Flip line device bit) e).0
reads-inside grammar hex g text (Idle clocks) e = tt
