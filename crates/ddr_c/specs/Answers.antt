-- The numbers that C is told. `c/ddr_c.h` has the same table.
use Rattle.std.specs.Prelude.{ℕ, ◌+◌, min, Result, Ok, Err}
use Rattle.command_words.specs.declared.words.WordFault.{WordFault}
use Rattle.command_words.specs.declared.words.WordFault.TheVariants.{Unknown, SecondMissing, SecondExtra, Reserved, Range}
use Rattle.speed_bin.specs.declared.fault.HeaderFault.{HeaderFault}
use Rattle.speed_bin.specs.declared.fault.HeaderFault.TheVariants.{NotToml, Key, Kind, Range as OutsideRange, NoBin, Check, OutOfMemory}
use Rattle.ddr_c.specs.declared.answers.Refusal.{Refusal}
use Rattle.ddr_c.specs.declared.answers.Refusal.TheVariants.{Breaks, OutOfRange, NoCommand, NoMemory}

-- why words spell no command
abbrev pub word_code : WordFault → ℕ
word_code Unknown = 131
word_code SecondMissing = 132
word_code SecondExtra = 133
word_code Reserved = 134
word_code Range = 135

-- the rule, or why a call is not carried out
abbrev pub refusal_code : Refusal → ℕ
refusal_code (Breaks rule) = rule.0
refusal_code OutOfRange = 105
refusal_code (NoCommand fault) = word_code fault
refusal_code NoMemory = 254

-- 0 where all is well
abbrev pub code_of : Result Unit Refusal → ℕ
code_of (Ok done) = 0
code_of (Err refusal) = refusal_code refusal

-- why a header is refused
abbrev pub header_code : HeaderFault → ℕ
header_code NotToml = 11
header_code Key = 12
header_code Kind = 13
header_code OutsideRange = 14
header_code NoBin = 15
header_code (Check check) = min (check + 20) 255
header_code OutOfMemory = 254
