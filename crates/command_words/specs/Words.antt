-- The spelling of each command: a list of cases over whole words.
use Rattle.std.specs.Prelude.{ℕ, ◌≡◌, ◌+◌, ◌*◌, ◌/◌, ◌%◌, None, Some}
use Rattle.command_words.specs.declared.place.Bank.{Bank}
use Rattle.command_words.specs.declared.command.Command.{Command}
use Rattle.command_words.specs.declared.command.Command.TheVariants.{Act, Rd, Wr, PrePb, PreSb, PreAb, RefAb, RefSb, RfmAb, RfmSb, Mrw, Ecs, Nop}
use Rattle.command_words.specs.declared.words.Words.{Words}

-- the bank address in bits 7..6, and the group in bits 10..8
abbrev pub at_bank : Bank → ℕ
at_bank bank = 64 * bank.address + 256 * bank.group

-- a first word alone
abbrev pub one : ℕ → Words
one word = record { first = word; second = None }

-- a first and a second word
abbrev pub two : ℕ → ℕ → Words
two word next = record { first = word; second = Some next }

-- the words of a command
abbrev pub words_of : Command → Words
words_of (Act bank row) = two (4 * (row % 16) + at_bank bank) (row / 16)
words_of (Rd bank column) = two (0x3d + at_bank bank) (0x400 + 4 * column)
words_of (Wr bank column) = two (0x2d + at_bank bank) (0xc00 + 4 * column)
words_of (Mrw write) = two (0x05 + 32 * write.address) write.value
words_of (PrePb bank) = one (0x1b + at_bank bank)
words_of (PreSb address) = one (0x40b + 64 * address)
words_of PreAb = one 0x00b
words_of RefAb = one 0x213
words_of (RefSb address) = one (0x613 + 64 * address)
words_of RfmAb = one 0x013
words_of (RfmSb address) = one (0x413 + 64 * address)
words_of Ecs = one 0x18f
words_of Nop = one 0x01f

-- these words spell the command: they are its words
abbrev pub Spells : Command → Words → Type 0
Spells command words = (words.first ≡ (words_of command).first) × (words.second ≡ (words_of command).second)
