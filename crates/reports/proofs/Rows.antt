-- Worked rows: what the definitions say of small jobs, by computing.
use Rattle.std.proofs.Common.{◌≡◌, ℕ, true, false, Some, None, List, [], ◌∷◌, map, replicate, refl}
use Rattle.command_words.specs.declared.place.Bank.{Bank}
use Rattle.command_words.specs.declared.command.Command.{Command}
use Rattle.command_words.specs.declared.command.Command.TheVariants.{Act, Rd, Wr, PrePb, PreAb, Mrw, RefAb, Ecs}
use Rattle.error_scrub.specs.Changes.{wrote, turns, scrubs}
use Rattle.error_scrub.specs.Tame.{is_tame}
use Rattle.speed_bin.specs.Below.{all_below, any_below}
use Rattle.speed_bin.specs.Gap.{n_tail, n_max, n_close}
use Rattle.speed_bin.specs.Page.{keeps_page}
use Rattle.speed_bin.specs.Rules.{verdict_at_end}
use Rattle.speed_bin.specs.Timing.{tiny}
use Rattle.speed_bin.specs.declared.header.Header.{Header}
use Rattle.speed_bin.specs.declared.settings.RefreshMode.TheVariants.{All}
use Rattle.requests.specs.declared.request.Kind.TheVariants.{Read as Reads, Write as Writes}
use Rattle.ddr_text.specs.declared.lines.TraceLine.{TraceLine}
use Rattle.ddr_text.specs.declared.lines.TraceLine.TheVariants.{Read, Write, Flip, Idle}
use Rattle.ddr_text.specs.declared.lines.ReportLine.{ReportLine}
use Rattle.ddr_text.specs.declared.lines.ReportLine.TheVariants.{Issued as IssuedLine, Value as ValueLine, Flip as FlipLine, Stat as StatLine, End as EndLine, Refused as RefusedLine}
use Rattle.reports.specs.Requests.{Request}
use Rattle.reports.specs.Runs.{Step, Issues, Flips, Run, log_of}
use Rattle.reports.specs.Barriers.{is_apart}
use Rattle.reports.specs.Readings.{changes_before}
use Rattle.reports.specs.Report.{report}
use Rattle.reports.specs.Window.{window}

-- the header with the bin tiny and 16 rows, and an ECS after each so many refreshes
abbrev scrubbing : ℕ → Header
scrubbing every = record { timing = tiny; settings = record { rows = 16; ath = 5; eth = 3; raaimt = 8; raammt = 16; refresh = All; ecs_every = every }; version = record { cycle = 4; groups = 8 } }

abbrev header : Header
header = scrubbing 0

abbrev bank : Bank
bank = record { group = 0; address = 0 }

abbrev plain : ℕ → Command → Step
plain clock command = Issues (record { issued = record { clock = clock; command = command }; request = None })

abbrev serves : ℕ → Command → Request → Step
serves clock command r = Issues (record { issued = record { clock = clock; command = command }; request = Some r })

abbrev register : ℕ → ℕ → Command
register address value = Mrw (record { address = address; value = value })

-- the eight register writes
abbrev registers : ℕ → Run
registers every =
    plain 28 (register 71 every) ∷ plain 24 (register 70 16) ∷ plain 20 (register 69 8) ∷ plain 16 (register 68 0)
    ∷ plain 12 (register 67 3) ∷ plain 8 (register 66 5) ∷ plain 4 (register 65 0) ∷ plain 0 (register 64 15) ∷ []

-- 17 and then 63 zeros, 34 and then 63 zeros, 64 zeros
abbrev data_p : List ℕ
data_p = 17 ∷ replicate 63 0

abbrev data_q : List ℕ
data_q = 34 ∷ replicate 63 0

abbrev data_z : List ℕ
data_z = replicate 64 0

abbrev reads : ℕ → ℕ → Request
reads number line = record { number = number; line = line; kind = Reads }

abbrev writes : ℕ → ℕ → Request
writes number line = record { number = number; line = line; kind = Writes }

-- a line of a report by its letter and its first number: C and F lines by their clock, D lines by the trace line
pub data Mark : Type 0 where
  C : ℕ → Mark
  D : ℕ → Mark
  F : ℕ → Mark
  Other : Mark

abbrev mark : ReportLine → Mark
mark (IssuedLine clock command) = C clock
mark (ValueLine number line bytes state) = D number
mark (FlipLine clock line device bit) = F clock
mark (StatLine name number) = Other
mark (EndLine clock) = Other
mark (RefusedLine line reason) = Other

-- ---- An empty trace

pub empty_ends : verdict_at_end header 29 (log_of (registers 0)) ≡ None
unfolding all_below any_below n_tail n_max n_close
empty_ends = refl

-- ---- Reordering: line 0 is written, another row read, line 0 written and read

abbrev trace_8 : List TraceLine
trace_8 = Write 0 data_p ∷ Read 2048 ∷ Write 0 data_q ∷ Read 0 ∷ []

abbrev opened_8 : Run
opened_8 = plain 32 (Act bank 0) ∷ registers 0

abbrev three_8 : Run
three_8 = serves 63 (Rd bank 0) (reads 4 0) ∷ serves 47 (Wr bank 0) (writes 3 0) ∷ serves 35 (Wr bank 0) (writes 1 0) ∷ opened_8

abbrev run_8 : Run
run_8 = plain 76 PreAb ∷ serves 73 (Rd bank 0) (reads 2 2048) ∷ plain 70 (Act bank 1) ∷ plain 66 (PrePb bank) ∷ three_8

pub keeps_rules_8 : verdict_at_end header 77 (log_of run_8) ≡ None
unfolding all_below any_below n_tail n_max n_close
keeps_rules_8 = refl

pub keeps_page_8 : keeps_page (log_of run_8) ≡ true
unfolding all_below any_below
keeps_page_8 = refl

pub marks_8 : map mark (report header trace_8 run_8) ≡
    (C 0 ∷ C 4 ∷ C 8 ∷ C 12 ∷ C 16 ∷ C 20 ∷ C 24 ∷ C 28 ∷ C 32 ∷ C 35 ∷ C 47 ∷ C 63 ∷ C 66 ∷ C 70 ∷ C 73 ∷ D 2 ∷ D 4 ∷ C 76 ∷ [])
marks_8 = refl

-- the read of line 0 sees both writes, that of line 2048 none of its own
pub changes_8 : changes_before header trace_8 run_8 (reads 4 0) ≡ wrote 0 data_q ∷ wrote 0 data_p ∷ []
changes_8 = refl

pub window_8 : map (λ w. w.id) (window header trace_8 opened_8) ≡ 1 ∷ 2 ∷ 3 ∷ 4 ∷ []
window_8 = refl

pub last_8 : map (λ w. w.id) (window header trace_8 three_8) ≡ 2 ∷ []
last_8 = refl

pub none_8 : map (λ w. w.id) (window header trace_8 run_8) ≡ []
none_8 = refl

-- ---- One turned bit in each codeword

abbrev trace_9 : List TraceLine
trace_9 = Write 0 data_p ∷ Flip 0 0 0 ∷ Flip 0 1 63 ∷ Flip 0 2 127 ∷ Flip 0 3 135 ∷ Read 0 ∷ []

abbrev run_9 : Run
run_9 = plain 54 PreAb ∷ serves 51 (Rd bank 0) (reads 6 0) ∷ Flips 5 ∷ Flips 4 ∷ Flips 3 ∷ Flips 2 ∷ serves 35 (Wr bank 0) (writes 1 0) ∷ plain 32 (Act bank 0) ∷ registers 0

pub marks_9 : map mark (report header trace_9 run_9) ≡
    (C 0 ∷ C 4 ∷ C 8 ∷ C 12 ∷ C 16 ∷ C 20 ∷ C 24 ∷ C 28 ∷ C 32 ∷ C 35 ∷ F 35 ∷ F 35 ∷ F 35 ∷ F 35 ∷ C 51 ∷ D 6 ∷ C 54 ∷ [])
marks_9 = refl

pub changes_9 : changes_before header trace_9 run_9 (reads 6 0) ≡ turns 0 3 135 ∷ turns 0 2 127 ∷ turns 0 1 63 ∷ turns 0 0 0 ∷ wrote 0 data_p ∷ []
changes_9 = refl

pub tame_9 : map (is_tame (changes_before header trace_9 run_9 (reads 6 0)) 0) (0 ∷ 1 ∷ 2 ∷ 3 ∷ []) ≡ true ∷ true ∷ true ∷ true ∷ []
tame_9 = refl

-- ---- Scrub between two turned bits, and none

abbrev trace_10 : List TraceLine
trace_10 = Write 0 data_z ∷ Flip 0 0 2 ∷ Idle 2500 ∷ Flip 0 0 4 ∷ Read 0 ∷ []

abbrev refreshed_10 : ℕ → Run
refreshed_10 every = plain 2004 RefAb ∷ plain 2000 PreAb ∷ Flips 2 ∷ serves 35 (Wr bank 0) (writes 1 0) ∷ plain 32 (Act bank 0) ∷ registers every

abbrev ended_10 : Run → Run
ended_10 run = plain 2542 PreAb ∷ serves 2539 (Rd bank 0) (reads 5 0) ∷ plain 2536 (Act bank 0) ∷ Flips 4 ∷ run

pub keeps_rules_10 : verdict_at_end (scrubbing 1) 2543 (log_of (ended_10 (plain 2024 Ecs ∷ refreshed_10 1))) ≡ None
unfolding all_below any_below n_tail n_max n_close
keeps_rules_10 = refl

pub marks_10 : map mark (report (scrubbing 1) trace_10 (ended_10 (plain 2024 Ecs ∷ refreshed_10 1))) ≡
    (C 0 ∷ C 4 ∷ C 8 ∷ C 12 ∷ C 16 ∷ C 20 ∷ C 24 ∷ C 28 ∷ C 32 ∷ C 35 ∷ F 35 ∷ C 2000 ∷ C 2004 ∷ C 2024 ∷ F 2024 ∷ C 2536 ∷ C 2539 ∷ D 5 ∷ C 2542 ∷ [])
marks_10 = refl

pub scrubbed_10 : changes_before (scrubbing 1) trace_10 (ended_10 (plain 2024 Ecs ∷ refreshed_10 1)) (reads 5 0) ≡ turns 0 0 4 ∷ scrubs 0 ∷ turns 0 0 2 ∷ wrote 0 data_z ∷ []
scrubbed_10 = refl

pub tame_10 : is_tame (changes_before (scrubbing 1) trace_10 (ended_10 (plain 2024 Ecs ∷ refreshed_10 1)) (reads 5 0)) 0 0 ≡ true
tame_10 = refl

pub not_tame_10 : is_tame (changes_before header trace_10 (ended_10 (refreshed_10 0)) (reads 5 0)) 0 0 ≡ false
not_tame_10 = refl

-- the second read comes more than 2500 clocks after the first request
pub apart_10 : map (is_apart trace_10 (record { number = 5; clock = 2539 })) (record { number = 1; clock = 35 } ∷ record { number = 1; clock = 39 } ∷ []) ≡ true ∷ false ∷ []
apart_10 = refl
