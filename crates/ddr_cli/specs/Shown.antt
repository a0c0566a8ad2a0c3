-- A report in readable form. `docs/FORMATS.md` has the same in words.
use Rattle.std.specs.Prelude.{ℕ, ◌≡◌, ⊤, List, [], ◌++◌, codes, Some, None}
use Rattle.std.specs.declared.option.Option.{Option}
use Rattle.std.specs.Fmt.{decimal}
use Rattle.command_words.specs.declared.command.Command.{Command}
use Rattle.command_words.specs.declared.command.Command.TheVariants.{Act, Rd, Wr, PrePb, PreSb, PreAb, RefAb, RefSb, RfmAb, RfmSb, Mrw, Ecs, Nop}
use Rattle.command_words.specs.declared.place.Bank.{Bank}
use Rattle.ddr_io.specs.declared.status.Status.{Status}
use Rattle.ddr_text.specs.Io.{Io}
use Rattle.ddr_text.specs.Opening.{Opens, Accepts, Refuses as RefusesOpening, opening_of, parts_of}
use Rattle.ddr_text.specs.declared.lines.ReportLine.{ReportLine}
use Rattle.ddr_text.specs.declared.lines.ReportLine.TheVariants.{Issued, Value, Flip, Stat, End, Refused}
use Rattle.speed_bin.specs.Header.{shape_of}
use Rattle.ddr_text.specs.ReportReading.{lines_in}
use Rattle.ddr_text.specs.declared.report_reader.Stage.TheVariants.{Body}
use Rattle.ddr_text.specs.Outcome.{AnswersAs, Outcome, refused_opening}
use Rattle.ddr_cli.specs.Behind.{outcome_behind}

-- ---- Commands

abbrev pub shown_bank : Bank → List ℕ
shown_bank bank = (codes " g" ++ decimal bank.group) ++ (codes " b" ++ decimal bank.address)

-- a command, behind a space
unfoldable pub shown_command : Command → List ℕ
shown_command (Act bank row) = codes " ACT" ++ shown_bank bank ++ (codes " r" ++ decimal row)
shown_command (Rd bank column) = codes " RD" ++ shown_bank bank ++ (codes " c" ++ decimal column)
shown_command (Wr bank column) = codes " WR" ++ shown_bank bank ++ (codes " c" ++ decimal column)
shown_command (PrePb bank) = codes " PREPB" ++ shown_bank bank
shown_command (PreSb address) = codes " PRESB b" ++ decimal address
shown_command PreAb = codes " PREAB"
shown_command RefAb = codes " REFAB"
shown_command (RefSb address) = codes " REFSB b" ++ decimal address
shown_command RfmAb = codes " RFMAB"
shown_command (RfmSb address) = codes " RFMSB b" ++ decimal address
shown_command (Mrw write) = (codes " MRW m" ++ decimal write.address) ++ (codes " v" ++ decimal write.value)
shown_command Ecs = codes " ECS"
shown_command Nop = codes " NOP"

-- the clock and the command of a C line; nothing of another line
unfoldable pub shown_line : ReportLine → List ℕ
shown_line (Issued clock command) = decimal clock ++ shown_command command ++ codes "\n"
shown_line (Value number line bytes state) = []
shown_line (Flip clock line device bit) = []
shown_line (Stat name number) = []
shown_line (End clock) = []
shown_line (Refused line reason) = []

-- ---- Reports

abbrev pub shown_in : Opens → Outcome
shown_in (Accepts h text rest) = outcome_behind shown_line (lines_in (shape_of h) Body 1 (parts_of rest))
shown_in (RefusesOpening reason) = refused_opening reason

-- what is shown of the bytes of a report
abbrev pub shown : List ℕ → Outcome
shown bytes = shown_in (opening_of bytes)

-- that is what is shown of the bytes, where they are known
abbrev pub IsShown : Option (List ℕ) → Outcome → Type 0
IsShown None it = ⊤
IsShown (Some bytes) it = shown bytes ≡ it

-- What `show` answers.
abbrev pub ShowAnswers : Status → Io → Type 0
ShowAnswers answer io = AnswersAs (IsShown io.had) answer io
