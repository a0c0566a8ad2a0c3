-- Which command words spell, and why other words spell none.
use Rattle.std.specs.Prelude.{ℕ, ◌+◌, ◌*◌, ◌/◌, ◌%◌, Bool, true, false, not, ◌&&◌, ◌==◌, if◌then◌else◌, Option, None, Some, Result, Ok, Err, is_some, is_none, unwrap_or, option_map}
use Rattle.command_words.specs.Words.{words_of}
use Rattle.command_words.specs.declared.place.Bank.{Bank}
use Rattle.command_words.specs.declared.command.Command.{Command}
use Rattle.command_words.specs.declared.command.Command.TheVariants.{Act, Rd, Wr, PrePb, PreSb, PreAb, RefAb, RefSb, RfmAb, RfmSb, Mrw, Ecs, Nop}
use Rattle.command_words.specs.declared.words.Words.{Words}
use Rattle.command_words.specs.declared.words.WordFault.{WordFault}
use Rattle.command_words.specs.declared.words.WordFault.TheVariants.{Unknown, SecondMissing, SecondExtra, Reserved, Range}

-- the low 14 bits of a word
abbrev pub low : ℕ → ℕ
low word = word % 0x4000

-- a bit of a word, for the number of which it is worth so much
abbrev pub has_bit : ℕ → ℕ → Bool
has_bit worth word = word / worth % 2 == 1

-- the bank address in bits 7..6
abbrev pub address_in : ℕ → ℕ
address_in word = word / 64 % 4

-- the bank address in bits 7..6, and the group in bits 10..8
abbrev pub bank_in : ℕ → Bank
bank_in word = record { group = word / 256 % 8; address = address_in word }

-- the row whose low four bits stand in bits 5..2 of a first word, and whose others in bits 11..0 of a second
abbrev pub row_in : ℕ → ℕ → ℕ
row_in first second = 16 * (second % 0x1000) + first / 4 % 16

-- the column in bits 7..2 of a second word
abbrev pub column_in : ℕ → ℕ
column_in second = second / 4 % 64

-- bit 10 is set for one address
abbrev pub precharge_in : ℕ → Command
precharge_in first = if has_bit 1024 first then PreSb (address_in first) else PreAb

-- the refreshes and the managements: bit 10 is set for one address, bit 9 for a refresh
abbrev pub managed_in : ℕ → Command
managed_in first = if has_bit 1024 first
    then (if has_bit 512 first then RefSb (address_in first) else RfmSb (address_in first))
    else (if has_bit 512 first then RefAb else RfmAb)

-- the command whose kind the low five bits of a first word give, where bits 1..0 are not 00
abbrev pub kind_in : ℕ → ℕ → ℕ → Option Command
kind_in five first second =
    if five == 0x1d then Some (Rd (bank_in first) (column_in second))
    else (if five == 0x0d then Some (Wr (bank_in first) (column_in second))
    else (if five == 0x05 then Some (Mrw (record { address = first / 32 % 256; value = second % 256 }))
    else (if five == 0x1b then Some (PrePb (bank_in first))
    else (if five == 0x0b then Some (precharge_in first)
    else (if five == 0x1f then Some Nop
    else (if five == 0x13 then Some (managed_in first)
    else (if (five == 0x0f && first / 32 % 256 == 0x0c) then Some Ecs else None)))))))

-- The command of the kind that the low 14 bits of a first word give, with its parts from the bits that name them. A
-- part whose word is missing is read as 0.
unfoldable pub named_in : ℕ → ℕ → Option Command
named_in first second =
    if first % 4 == 0 then Some (Act (bank_in first) (row_in first second)) else kind_in (first % 32) first second

-- the low 14 bits of both words
abbrev pub low_words : Words → Words
low_words words = record { first = low words.first; second = option_map low words.second }

abbrev pub named : Words → Option Command
named words = named_in (low_words words).first (unwrap_or (low_words words).second 0)

-- the command has a second word, and there is none
abbrev pub lacks_second : Command → Words → Bool
lacks_second command words = is_some (words_of command).second && is_none words.second

-- the command has no second word, and there is one
abbrev pub has_extra : Command → Words → Bool
has_extra command words = is_none (words_of command).second && is_some words.second

abbrev pub is_next : Option ℕ → Option ℕ → Bool
is_next (Some word) (Some other) = word == other
is_next None None = true
is_next (Some word) None = false
is_next None (Some other) = false

abbrev pub are_equal : Words → Words → Bool
are_equal words others = words.first == others.first && is_next words.second others.second

-- The faults, in their order: the low 14 bits of the words are not those of the command's words where a bit that is
-- fixed, or that is not named, has another value; and they are not the words themselves where a word has more bits.
abbrev pub judged : Words → Option Command → Result Command WordFault
judged words None = Err Unknown
judged words (Some command) =
    if lacks_second command words then Err SecondMissing
    else (if has_extra command words then Err SecondExtra
    else (if not (are_equal (words_of command) (low_words words)) then Err Reserved
    else (if not (are_equal (low_words words) words) then Err Range else Ok command)))

-- the command that words spell, or their first fault
abbrev pub decode_of : Words → Result Command WordFault
decode_of words = judged words (named words)
