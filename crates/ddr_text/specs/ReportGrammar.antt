-- The grammar of a line of a report: what a text says, or its first fault. `docs/FORMATS.md` has the same in words.
use Rattle.std.specs.Prelude.{ℕ, ◌^◌, ◌&&◌, ◌||◌, nat_lt, nat_le, bytes_eq, Bool, true, if◌then◌else◌, List, [], ◌∷◌, codes, Option, Some, None, Result, Ok, Err}
use Rattle.std.specs.Int.{w16, from_be_bytes}
use Rattle.std.specs.List.{find, list_all}
use Rattle.hex.specs.Hex.{decode_sized}
use Rattle.command_words.specs.Geometry.{Shape, lines_of}
use Rattle.command_words.specs.declared.words.Words.{Words}
use Rattle.command_words.specs.declared.words.WordFault.{WordFault}
use Rattle.command_words.specs.declared.command.Command.{Command}
use Rattle.command_words.specs.declared.command.Command.TheVariants.{Act as ActCommand, Rd as RdCommand, Wr as WrCommand, PrePb as PrePbCommand, PreSb as PreSbCommand, PreAb as PreAbCommand, RefAb as RefAbCommand, RefSb as RefSbCommand, RfmAb as RfmAbCommand, RfmSb as RfmSbCommand, Mrw as MrwCommand, Ecs as EcsCommand, Nop as NopCommand}
use Rattle.command_words.specs.Decode.{decode_of}
use Rattle.ondie_ecc.specs.declared.state.ReadState.{ReadState}
use Rattle.ondie_ecc.specs.declared.state.ReadState.TheVariants.{Clean, Fixed, Lost as LostState}
use Rattle.ddr_text.specs.declared.lines.ReportLine.{ReportLine}
use Rattle.ddr_text.specs.declared.lines.ReportLine.TheVariants.{Issued, Value, Flip, Stat, End, Refused}
use Rattle.ddr_text.specs.declared.lines.StatName.{StatName}
use Rattle.ddr_text.specs.declared.lines.StatName.TheVariants.{Act, Rd, Wr, Pre, RefAb, RefSb, RfmAb, RfmSb, Ecs, Alert, Peak, Found, Lost, Worst}
use Rattle.ddr_text.specs.declared.lines.LineFault.{LineFault}
use Rattle.ddr_text.specs.declared.lines.LineFault.TheVariants.{Empty, Letter, Fields, Range, Hex, Word}
use Rattle.ddr_text.specs.Spelling.{state_name, stat_name}
use Rattle.ddr_text.specs.Grammar.{◌>>=◌, fields_of, one_field, two_fields, four_fields, number_of, below, or_hex}

abbrev pub is_lower_digit : ℕ → Bool
is_lower_digit digit = (nat_le 48 digit && nat_le digit 57) || (nat_le 97 digit && nat_le digit 102)

-- so many bytes, two lower-case hexadecimal digits for each
unfoldable pub lower_bytes_of : ℕ → List ℕ → Result (List ℕ) LineFault
lower_bytes_of count field = if list_all is_lower_digit field then or_hex (decode_sized field count) else Err Hex

-- the word of four lower-case hexadecimal digits
unfoldable pub word_of : List ℕ → Result ℕ LineFault
word_of field = do
  bytes ← lower_bytes_of 2 field
  Ok (from_be_bytes w16 bytes)

abbrev pub or_fields : {A : Type 0} → Option A → Result A LineFault
or_fields (Some found) = Ok found
or_fields None = Err Fields

-- the state with this name
unfoldable pub state_of : List ℕ → Result ReadState LineFault
state_of field = or_fields (find (λ state. bytes_eq field (state_name state)) (Clean ∷ Fixed ∷ LostState ∷ []))

abbrev pub stat_names : List StatName
stat_names = Act ∷ Rd ∷ Wr ∷ Pre ∷ RefAb ∷ RefSb ∷ RfmAb ∷ RfmSb ∷ Ecs ∷ Alert ∷ Peak ∷ Found ∷ Lost ∷ Worst ∷ []

-- the count with this name
unfoldable pub stat_of : List ℕ → Result StatName LineFault
stat_of field = or_fields (find (λ name. bytes_eq field (stat_name name)) stat_names)

-- a clock is at most 281,474,976,710,655
abbrev pub clock_of : ℕ → Result ℕ LineFault
clock_of number = below (2 ^ 48) number

abbrev pub or_word : Result Command WordFault → Result Command LineFault
or_word (Ok command) = Ok command
or_word (Err fault) = Err (Word fault)

-- the command that words spell
unfoldable pub command_of : Words → Result Command LineFault
command_of words = or_word (decode_of words)

-- the subchannel has what the command names: the group of its one bank, and the row of an activation
abbrev pub has_place : Shape → Command → Bool
has_place g (ActCommand bank row) = nat_lt row g.rows && nat_lt bank.group g.groups
has_place g (RdCommand bank column) = nat_lt bank.group g.groups
has_place g (WrCommand bank column) = nat_lt bank.group g.groups
has_place g (PrePbCommand bank) = nat_lt bank.group g.groups
has_place g (PreSbCommand address) = true
has_place g PreAbCommand = true
has_place g RefAbCommand = true
has_place g (RefSbCommand address) = true
has_place g RfmAbCommand = true
has_place g (RfmSbCommand address) = true
has_place g (MrwCommand write) = true
has_place g EcsCommand = true
has_place g NopCommand = true

-- the command, where the subchannel has its place
abbrev pub in_place : Shape → Command → Result Command LineFault
in_place g command = if has_place g command then Ok command else Err Range

-- one field more, or none
abbrev pub optional_field : List (List ℕ) → Result (Option (List ℕ)) LineFault
optional_field [] = Ok None
optional_field (only ∷ []) = Ok (Some only)
optional_field (first ∷ second ∷ more) = Err Fields

-- a clock, a word, and a second word or none
abbrev pub word_fields : List (List ℕ) → Result (List ℕ × Option (List ℕ)) LineFault
word_fields [] = Err Fields
word_fields (first ∷ rest) = do
  second ← optional_field rest
  Ok (first, second)

abbrev pub command_fields : List (List ℕ) → Result (List ℕ × List ℕ × Option (List ℕ)) LineFault
command_fields [] = Err Fields
command_fields (clock ∷ rest) = do
  words ← word_fields rest
  Ok (clock, words.0, words.1)

abbrev pub optional_word : Option (List ℕ) → Result (Option ℕ) LineFault
optional_word None = Ok None
optional_word (Some field) = do
  word ← word_of field
  Ok (Some word)

-- the words of two fields
unfoldable pub words_in : List ℕ → Option (List ℕ) → Result Words LineFault
words_in first second = do
  word ← word_of first
  next ← optional_word second
  Ok (record { first = word; second = next })

-- `C clock word` and `C clock word word`
unfoldable pub issued_line_of : Shape → List (List ℕ) → Result ReportLine LineFault
issued_line_of g fields = do
  parts ← command_fields fields
  number ← number_of parts.0
  clock ← clock_of number
  words ← words_in parts.1 parts.2
  command ← command_of words
  held ← in_place g command
  Ok (Issued clock held)

-- `D number addr hex state`
unfoldable pub value_line_of : Shape → List (List ℕ) → Result ReportLine LineFault
value_line_of g fields = do
  parts ← four_fields fields
  state ← state_of parts.3
  number ← number_of parts.0
  addr ← number_of parts.1
  line ← below (lines_of g) addr
  bytes ← lower_bytes_of 64 parts.2
  Ok (Value number line bytes state)

-- `F clock addr device bit`
unfoldable pub flipped_line_of : Shape → List (List ℕ) → Result ReportLine LineFault
flipped_line_of g fields = do
  parts ← four_fields fields
  number ← number_of parts.0
  addr ← number_of parts.1
  device ← number_of parts.2
  bit ← number_of parts.3
  clock ← clock_of number
  line ← below (lines_of g) addr
  device_in ← below 4 device
  bit_in ← below 136 bit
  Ok (Flip clock line device_in bit_in)

-- `S name number`
unfoldable pub stat_line_of : List (List ℕ) → Result ReportLine LineFault
stat_line_of fields = do
  parts ← two_fields fields
  name ← stat_of parts.0
  number ← number_of parts.1
  Ok (Stat name number)

-- `E clock`
unfoldable pub end_line_of : List (List ℕ) → Result ReportLine LineFault
end_line_of fields = do
  field ← one_field fields
  number ← number_of field
  clock ← clock_of number
  Ok (End clock)

-- `X line reason`
unfoldable pub refused_line_of : List (List ℕ) → Result ReportLine LineFault
refused_line_of fields = do
  parts ← two_fields fields
  line ← number_of parts.0
  number ← number_of parts.1
  reason ← below 256 number
  Ok (Refused line reason)

-- the line of these fields, by its letter
unfoldable pub report_line_of_fields : Shape → List (List ℕ) → Result ReportLine LineFault
report_line_of_fields g [] = Err Letter
report_line_of_fields g (letter ∷ fields) =
    if bytes_eq letter (codes "C") then issued_line_of g fields
    else if bytes_eq letter (codes "D") then value_line_of g fields
    else if bytes_eq letter (codes "F") then flipped_line_of g fields
    else if bytes_eq letter (codes "S") then stat_line_of fields
    else if bytes_eq letter (codes "E") then end_line_of fields
    else if bytes_eq letter (codes "X") then refused_line_of fields
    else Err Letter

-- the line of a report that a text spells, or its first fault
unfoldable pub report_line_of : Shape → List ℕ → Result ReportLine LineFault
report_line_of g [] = Err Empty
report_line_of g (byte ∷ bytes) = report_line_of_fields g (fields_of (byte ∷ bytes))
