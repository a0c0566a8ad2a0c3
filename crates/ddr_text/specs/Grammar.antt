-- The grammar of a line of a trace: what a text says, or its first fault. `docs/FORMATS.md` has the same in words.
use Rattle.std.specs.Prelude.{ℕ, ◌^◌, ◌==◌, ◌&&◌, not, nat_lt, bytes_eq, Bool, false, if◌then◌else◌, List, [], ◌∷◌, codes, Result, Ok, Err}
use Rattle.std.specs.List.{slice_split}
use Rattle.std.specs.Str.{all_ascii_digits}
use Rattle.std.specs.Str.Parse.{digits_value}
use Rattle.hex.specs.Hex.{decode_sized}
use Rattle.hex.specs.declared.error.FromHexError.{FromHexError}
use Rattle.command_words.specs.Geometry.{Shape, lines_of}
use Rattle.ddr_text.specs.declared.lines.TraceLine.{TraceLine}
use Rattle.ddr_text.specs.declared.lines.TraceLine.TheVariants.{Read, Write, Flip, Idle}
use Rattle.ddr_text.specs.declared.lines.LineFault.{LineFault}
use Rattle.ddr_text.specs.declared.lines.LineFault.TheVariants.{Empty, Letter, Fields, Number, Range, Hex}

-- the next step, where this one gave a value; else its fault
infixl 10 ◌>>=◌
abbrev pub ◌>>=◌ : {A B : Type 0} → Result A LineFault → (A → Result B LineFault) → Result B LineFault
(Ok x) >>= f = f x
(Err fault) >>= f = Err fault

abbrev pub is_space : ℕ → Bool
is_space byte = byte == 32

-- The fields of a text: its parts between single spaces. Each space ends a field, so two spaces, or one at an end, make an empty field.
unfoldable pub fields_of : List ℕ → List (List ℕ)
fields_of text = slice_split is_space text

-- fields that are to be so many
abbrev pub one_field : List (List ℕ) → Result (List ℕ) LineFault
one_field [] = Err Fields
one_field (first ∷ []) = Ok first
one_field (first ∷ second ∷ more) = Err Fields

abbrev pub two_fields : List (List ℕ) → Result (List ℕ × List ℕ) LineFault
two_fields [] = Err Fields
two_fields (first ∷ rest) = do
  second ← one_field rest
  Ok (first, second)

abbrev pub three_fields : List (List ℕ) → Result (List ℕ × List ℕ × List ℕ) LineFault
three_fields [] = Err Fields
three_fields (first ∷ rest) = do
  more ← two_fields rest
  Ok (first, more.0, more.1)

abbrev pub four_fields : List (List ℕ) → Result (List ℕ × List ℕ × List ℕ × List ℕ) LineFault
four_fields [] = Err Fields
four_fields (first ∷ rest) = do
  more ← three_fields rest
  Ok (first, more.0, more.1, more.2)

-- decimal digits, without a leading zero but in `0` itself
abbrev pub is_numeral : List ℕ → Bool
is_numeral [] = false
is_numeral (first ∷ []) = all_ascii_digits (first ∷ [])
is_numeral (first ∷ second ∷ rest) = not (first == 48) && all_ascii_digits (first ∷ second ∷ rest)

-- the number that a field spells, at most 2^64 - 1
unfoldable pub number_of : List ℕ → Result ℕ LineFault
number_of field =
    if is_numeral field && nat_lt (digits_value 10 field) (2 ^ 64) then Ok (digits_value 10 field) else Err Number

-- a number that is to be below the limit
abbrev pub below : ℕ → ℕ → Result ℕ LineFault
below limit number = if nat_lt number limit then Ok number else Err Range

abbrev pub or_hex : Result (List ℕ) FromHexError → Result (List ℕ) LineFault
or_hex (Ok bytes) = Ok bytes
or_hex (Err fault) = Err Hex

-- the 64 bytes that a field of 128 hexadecimal digits spells, in either case, byte 0 first
unfoldable pub bytes_of : List ℕ → Result (List ℕ) LineFault
bytes_of field = or_hex (decode_sized field 64)

-- `R addr`
unfoldable pub read_line_of : Shape → List (List ℕ) → Result TraceLine LineFault
read_line_of g fields = do
  addr ← one_field fields
  number ← number_of addr
  line ← below (lines_of g) number
  Ok (Read line)

-- `W addr hex`
unfoldable pub write_line_of : Shape → List (List ℕ) → Result TraceLine LineFault
write_line_of g fields = do
  both ← two_fields fields
  number ← number_of both.0
  line ← below (lines_of g) number
  bytes ← bytes_of both.1
  Ok (Write line bytes)

-- `F addr device bit`
unfoldable pub flip_line_of : Shape → List (List ℕ) → Result TraceLine LineFault
flip_line_of g fields = do
  three ← three_fields fields
  number ← number_of three.0
  device ← number_of three.1
  bit ← number_of three.2
  line ← below (lines_of g) number
  device_in ← below 4 device
  bit_in ← below 136 bit
  Ok (Flip line device_in bit_in)

-- `I clocks`
unfoldable pub idle_line_of : List (List ℕ) → Result TraceLine LineFault
idle_line_of fields = do
  clocks ← one_field fields
  number ← number_of clocks
  clocks_in ← below 4294967297 number
  Ok (Idle clocks_in)

-- the line of these fields, by its letter
unfoldable pub line_of_fields : Shape → List (List ℕ) → Result TraceLine LineFault
line_of_fields g [] = Err Letter
line_of_fields g (letter ∷ fields) =
    if bytes_eq letter (codes "R") then read_line_of g fields
    else if bytes_eq letter (codes "W") then write_line_of g fields
    else if bytes_eq letter (codes "F") then flip_line_of g fields
    else if bytes_eq letter (codes "I") then idle_line_of fields
    else Err Letter

-- the line of a trace that a text spells, or its first fault
unfoldable pub trace_line_of : Shape → List ℕ → Result TraceLine LineFault
trace_line_of g [] = Err Empty
trace_line_of g (byte ∷ bytes) = line_of_fields g (fields_of (byte ∷ bytes))
