-- How a line of a report is spelled. `docs/FORMATS.md` has the same in words.
use Rattle.std.specs.Prelude.{ℕ, List, [], ◌∷◌, ◌++◌, ◌/◌, ◌%◌, codes, Some, None}
use Rattle.std.specs.declared.option.Option.{Option}
use Rattle.std.specs.Fmt.{decimal}
use Rattle.hex.specs.Hex.{encode_lower}
use Rattle.command_words.specs.declared.words.Words.{Words}
use Rattle.command_words.specs.Words.{words_of}
use Rattle.ondie_ecc.specs.declared.state.ReadState.{ReadState}
use Rattle.ondie_ecc.specs.declared.state.ReadState.TheVariants.{Clean, Fixed, Lost as LostState}
use Rattle.ddr_text.specs.declared.lines.ReportLine.{ReportLine}
use Rattle.ddr_text.specs.declared.lines.ReportLine.TheVariants.{Issued, Value, Flip, Stat, End, Refused}
use Rattle.ddr_text.specs.declared.lines.StatName.{StatName}
use Rattle.ddr_text.specs.declared.lines.StatName.TheVariants.{Act, Rd, Wr, Pre, RefAb, RefSb, RfmAb, RfmSb, Ecs, Alert, Peak, Found, Lost, Worst}

-- a space, and the number in decimal digits
abbrev pub spaced : ℕ → List ℕ
spaced number = codes " " ++ decimal number

-- a space, and the word in four hexadecimal digits, the highest first
abbrev pub spaced_word : ℕ → List ℕ
spaced_word word = codes " " ++ encode_lower (word / 256 ∷ word % 256 ∷ [])

abbrev pub spaced_second : Option ℕ → List ℕ
spaced_second None = []
spaced_second (Some word) = spaced_word word

-- the words of a command, each after a space
abbrev pub spaced_words : Words → List ℕ
spaced_words words = spaced_word words.first ++ spaced_second words.second

-- the name of a state
abbrev pub state_name : ReadState → List ℕ
state_name Clean = codes "ok"
state_name Fixed = codes "fixed"
state_name LostState = codes "lost"

-- the name of a count
abbrev pub stat_name : StatName → List ℕ
stat_name Act = codes "act"
stat_name Rd = codes "rd"
stat_name Wr = codes "wr"
stat_name Pre = codes "pre"
stat_name RefAb = codes "refab"
stat_name RefSb = codes "refsb"
stat_name RfmAb = codes "rfmab"
stat_name RfmSb = codes "rfmsb"
stat_name Ecs = codes "ecs"
stat_name Alert = codes "alert"
stat_name Peak = codes "peak"
stat_name Found = codes "found"
stat_name Lost = codes "lost"
stat_name Worst = codes "worst"

-- a line of a report, without its line feed
unfoldable pub report_text : ReportLine → List ℕ
report_text (Issued clock command) = codes "C" ++ spaced clock ++ spaced_words (words_of command)
report_text (Value number line bytes state) =
    codes "D" ++ spaced number ++ spaced line ++ (codes " " ++ encode_lower bytes) ++ (codes " " ++ state_name state)
report_text (Flip clock line device bit) = codes "F" ++ spaced clock ++ spaced line ++ spaced device ++ spaced bit
report_text (Stat name number) = codes "S" ++ (codes " " ++ stat_name name) ++ spaced number
report_text (End clock) = codes "E" ++ spaced clock
report_text (Refused line reason) = codes "X" ++ spaced line ++ spaced reason

-- the same with its line feed
unfoldable pub spelled : ReportLine → List ℕ
spelled line = report_text line ++ codes "\n"
