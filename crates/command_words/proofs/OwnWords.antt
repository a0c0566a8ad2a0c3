-- The words of a command in range give the command back.
use Rattle.std.proofs.Common.{◌≡◌, ◌∙◌, ap, ℕ, ◌<◌, ◌+◌, ◌*◌, ◌/◌, ◌%◌, ◌==◌, true, Some, Ok, arith, refl}
use Rattle.std.proofs.lemmas.Bool.Decides.{nat_tests}
use Rattle.command_words.specs.Command.{IsInRange}
use Rattle.command_words.specs.Words.{Spells, words_of, one, two}
use Rattle.command_words.specs.Decode.{decode_of, judged, named, named_in}
use Rattle.command_words.specs.declared.command.Command.{Command}
use Rattle.command_words.specs.declared.command.Command.TheVariants.{Act, Rd, Wr, PrePb, PreSb, PreAb, RefAb, RefSb, RfmAb, RfmSb, Mrw, Ecs, Nop}
use Rattle.command_words.specs.declared.words.Words.{Words}
use Rattle.command_words.proofs.Spelling.{words_of-from_spells}

-- the parts of a first word that has a bank above bits 5..0
record HasBank (base a g word : ℕ) : Type 0 where
  low : word % 0x4000 ≡ word
  five : word % 32 ≡ base % 32
  two : word % 4 ≡ base % 4
  address : word / 64 % 4 ≡ a
  group : word / 256 % 8 ≡ g

has_bank : (base a g : ℕ) → base < 64 → a < 4 → g < 8 → HasBank base a g (base + (64 * a + 256 * g))
has_bank base a g small address group = record {
  low = omega arith;
  five = omega arith;
  two = omega arith;
  address = omega arith;
  group = omega arith;
}

-- the parts of a first word that has a bank address among other bits
record HasAddress (base a word : ℕ) : Type 0 where
  low : word % 0x4000 ≡ word
  five : word % 32 ≡ base % 32
  two : word % 4 ≡ base % 4
  address : word / 64 % 4 ≡ a

named-own : (command : Command) → IsInRange command → named (words_of command) ≡ Some command
unfolding named_in
named-own (Act bank row) (is_bank, below) =
    let f = has_bank (4 * (row % 16)) bank.address bank.group (omega arith) is_bank.address is_bank.group in
    let even : (4 * (row % 16)) % 4 ≡ 0 = omega arith in
    let second : row / 16 % 0x4000 ≡ row / 16 = omega arith in
    let back : 16 * (row / 16 % 0x1000) + (4 * (row % 16) + (64 * bank.address + 256 * bank.group)) / 4 % 16 ≡ row = omega arith in
    rw (f.low, second, f.two, even, f.address, f.group, back) refl
named-own (Rd bank column) (is_bank, below) =
    let f = has_bank 0x3d bank.address bank.group (omega arith) is_bank.address is_bank.group in
    let second : (0x400 + 4 * column) % 0x4000 ≡ 0x400 + 4 * column = omega arith in
    let back : (0x400 + 4 * column) / 4 % 64 ≡ column = omega arith in
    rw (f.low, second, f.two, f.five, f.address, f.group, back) refl
named-own (Wr bank column) (is_bank, below) =
    let f = has_bank 0x2d bank.address bank.group (omega arith) is_bank.address is_bank.group in
    let second : (0xc00 + 4 * column) % 0x4000 ≡ 0xc00 + 4 * column = omega arith in
    let back : (0xc00 + 4 * column) / 4 % 64 ≡ column = omega arith in
    rw (f.low, second, f.two, f.five, f.address, f.group, back) refl
named-own (PrePb bank) is_bank =
    let f = has_bank 0x1b bank.address bank.group (omega arith) is_bank.address is_bank.group in
    rw (f.low, f.two, f.five, f.address, f.group) refl
named-own (PreSb address) below =
    let f : HasAddress 0x40b address (0x40b + 64 * address) = record { low = omega arith; five = omega arith; two = omega arith; address = omega arith } in
    let ten : (0x40b + 64 * address) / 1024 % 2 ≡ 1 = omega arith in
    rw (f.low, f.two, f.five, ten, f.address) refl
named-own PreAb in_range = refl
named-own RefAb in_range = refl
named-own (RefSb address) below =
    let f : HasAddress 0x613 address (0x613 + 64 * address) = record { low = omega arith; five = omega arith; two = omega arith; address = omega arith } in
    let ten : (0x613 + 64 * address) / 1024 % 2 ≡ 1 = omega arith in
    let nine : (0x613 + 64 * address) / 512 % 2 ≡ 1 = omega arith in
    rw (f.low, f.two, f.five, ten, nine, f.address) refl
named-own RfmAb in_range = refl
named-own (RfmSb address) below =
    let f : HasAddress 0x413 address (0x413 + 64 * address) = record { low = omega arith; five = omega arith; two = omega arith; address = omega arith } in
    let ten : (0x413 + 64 * address) / 1024 % 2 ≡ 1 = omega arith in
    let nine : (0x413 + 64 * address) / 512 % 2 ≡ 0 = omega arith in
    rw (f.low, f.two, f.five, ten, nine, f.address) refl
named-own (Mrw write) (address, value) =
    let low : (0x05 + 32 * write.address) % 0x4000 ≡ 0x05 + 32 * write.address = omega arith in
    let second : write.value % 0x4000 ≡ write.value = omega arith in
    let two : (0x05 + 32 * write.address) % 4 ≡ 1 = omega arith in
    let five : (0x05 + 32 * write.address) % 32 ≡ 5 = omega arith in
    let register : (0x05 + 32 * write.address) / 32 % 256 ≡ write.address = omega arith in
    let contents : write.value % 256 ≡ write.value = omega arith in
    rw (low, second, two, five, register, contents) refl
named-own Ecs in_range = refl
named-own Nop in_range = refl

-- a word below 2 ^ 14 is its own low bits
kept : (word : ℕ) → word < 0x4000 → (word == word % 0x4000) ≡ true
kept word below = grind (arith, nat_tests)

narrow : (word : ℕ) → word < 0x4000 → (word % 0x4000 == word) ≡ true
narrow word below = grind (arith, nat_tests)

one-own : (command : Command) (word : ℕ) → word < 0x4000 → words_of command ≡ one word → judged (words_of command) (Some command) ≡ Ok command
one-own command word below is = rw (is, kept word below, narrow word below) refl

two-own : (command : Command) (word next : ℕ) → word < 0x4000 → next < 0x4000 → words_of command ≡ two word next → judged (words_of command) (Some command) ≡ Ok command
two-own command word next below next_below is = rw (is, kept word below, narrow word below, kept next next_below, narrow next next_below) refl

-- the bits of a command's own words are kept, and none is too wide
judged-own : (command : Command) → IsInRange command → judged (words_of command) (Some command) ≡ Ok command
judged-own (Act bank row) (is_bank, below) = two-own (Act bank row) _ _ (omega (arith, is_bank.address, is_bank.group)) (omega arith) refl
judged-own (Rd bank column) (is_bank, below) = two-own (Rd bank column) _ _ (omega (arith, is_bank.address, is_bank.group)) (omega arith) refl
judged-own (Wr bank column) (is_bank, below) = two-own (Wr bank column) _ _ (omega (arith, is_bank.address, is_bank.group)) (omega arith) refl
judged-own (PrePb bank) is_bank = one-own (PrePb bank) _ (omega (arith, is_bank.address, is_bank.group)) refl
judged-own (PreSb address) below = one-own (PreSb address) _ (omega arith) refl
judged-own PreAb in_range = refl
judged-own RefAb in_range = refl
judged-own (RefSb address) below = one-own (RefSb address) _ (omega arith) refl
judged-own RfmAb in_range = refl
judged-own (RfmSb address) below = one-own (RfmSb address) _ (omega arith) refl
judged-own (Mrw write) (address, value) = two-own (Mrw write) _ _ (omega arith) (omega arith) refl
judged-own Ecs in_range = refl
judged-own Nop in_range = refl

-- words that spell a command in range are read as that command
pub decoded_from_spells : (command : Command) (words : Words) → IsInRange command → Spells command words → decode_of words ≡ Ok command
decoded_from_spells command words in_range spells =
    rw (words_of-from_spells command words spells) (ap (judged (words_of command)) (named-own command in_range) ∙ judged-own command in_range)
