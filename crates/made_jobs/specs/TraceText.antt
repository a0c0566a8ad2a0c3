-- How a line of a trace is spelled. `docs/FORMATS.md` has the same in words.
use Rattle.std.specs.Prelude.{ℕ, List, ◌++◌, codes}
use Rattle.hex.specs.Hex.{encode_lower}
use Rattle.ddr_text.specs.declared.lines.TraceLine.{TraceLine}
use Rattle.ddr_text.specs.declared.lines.TraceLine.TheVariants.{Read, Write, Flip, Idle}
use Rattle.ddr_text.specs.Opening.{with_feed}
use Rattle.ddr_text.specs.Spelling.{spaced}

-- a line of a trace, without its line feed; the bytes of a write in lower-case digits, byte 0 first
unfoldable pub trace_text : TraceLine → List ℕ
trace_text (Read line) = codes "R" ++ spaced line
trace_text (Write line bytes) = codes "W" ++ spaced line ++ (codes " " ++ encode_lower bytes)
trace_text (Flip line device bit) = codes "F" ++ spaced line ++ spaced device ++ spaced bit
trace_text (Idle clocks) = codes "I" ++ spaced clocks

-- the same with its line feed
unfoldable pub spelled_line : TraceLine → List ℕ
spelled_line line = with_feed (trace_text line)
