-- What an auditor says of the log of the lines that it took.
use Rattle.std.specs.Prelude.{ℕ, ◌≡◌, Bool, true, false, ◌∷◌, length, min, Option, Some, None}
use Rattle.command_words.specs.declared.command.Command.{Command}
use Rattle.command_words.specs.declared.command.Command.TheVariants.{Mrw as MrwCommand}
use Rattle.command_words.specs.declared.command.Mrw.{Mrw}
use Rattle.ddr_text.specs.declared.lines.ReportLine.{ReportLine}
use Rattle.ddr_text.specs.declared.lines.ReportLine.TheVariants.{Issued, Value, Flip, Stat, End, Refused}
use Rattle.command_words.specs.Geometry.{Shape}
use Rattle.speed_bin.specs.Header.{IsAccepted, shape_of}
use Rattle.speed_bin.specs.Log.{Log}
use Rattle.speed_bin.specs.Marks.{RowsInRange}
use Rattle.speed_bin.specs.Registers.{register_writes}
use Rattle.speed_bin.specs.Rules.{verdict, verdict_at_end}
use Rattle.speed_bin.specs.Timing.{IsTiming}
use Rattle.speed_bin.specs.declared.header.Header.{Header}
use Rattle.row_activity.specs.Standing.{StandsFor as ActivityFor}
use Rattle.log_ledger.specs.Standing.{StandsFor as LedgerFor}
use Rattle.log_auditor.specs.declared.judge.Judge.{Judge}
use Rattle.log_auditor.specs.declared.judge.State.{State}
use Rattle.log_auditor.specs.declared.judge.State.TheVariants.{Open, Broken, Ended}
use Rattle.log_auditor.specs.declared.verdict.Verdict.{Verdict}
use Rattle.log_auditor.specs.declared.verdict.Verdict.TheVariants.{Fine, Breaks}

-- ---- Verdicts

-- a verdict tells the rule of the first breach, and not its place
abbrev pub told : Option (ℕ × ℕ) → Verdict
told None = Fine
told (Some breach) = Breaks (record { 0 = breach.1 })

abbrev pub state_of : Option (ℕ × ℕ) → State
state_of None = Open
state_of (Some breach) = Broken (record { 0 = breach.1 })

abbrev pub told_state : State → Verdict
told_state Open = Fine
told_state (Broken rule) = Breaks rule
told_state Ended = Fine

abbrev pub is_open : State → Bool
is_open Open = true
is_open (Broken rule) = false
is_open Ended = false

abbrev pub is_ended : State → Bool
is_ended Open = false
is_ended (Broken rule) = false
is_ended Ended = true

abbrev pub is_end : ReportLine → Bool
is_end (Issued clock command) = false
is_end (Value number line bytes state) = false
is_end (Flip clock line device bit) = false
is_end (Stat name number) = false
is_end (End clock) = true
is_end (Refused line reason) = false

-- the register write that a command is
abbrev pub write_of : Command → Option Mrw
write_of (MrwCommand write) = Some write
write_of _ = None

-- ---- Standing for a log

-- the parts are those of the log
pub record Parts (it : Judge) (h : Header) (log : Log) : Type 0 where
  pub timing : it.timing ≡ h.timing
  pub settings : it.settings ≡ h.settings
  pub writes : it.writes.items ≡ register_writes h.settings
  pub places : it.places ≡ min 8 (length log)
  pub ledger : LedgerFor it.ledger h log
  pub activity : ActivityFor it.activity h log

-- the state is the verdict on the log; and where no rule was broken, the parts are those of the log
pub record Keeps (it : Judge) (h : Header) (log : Log) : Type 0 where
  pub accepted : IsAccepted h
  pub shape : it.geometry ≡ shape_of h
  pub rows : RowsInRange h log
  pub state : it.state ≡ state_of (verdict h log)
  pub parts : verdict h log ≡ None → Parts it h log

-- the auditor stands for the log of the lines that it took; how is its own affair
unfoldable pub StandsFor : Judge → Header → Log → Type 0
StandsFor it h log = Keeps it h log

-- it stands for some log
abbrev pub StandsForSome : Judge → Type 0
StandsForSome it = ∥ ((h : Header) × (log : Log) × StandsFor it h log) ∥₁

-- What is true between any two lines: the timing numbers are in range, and as long as no rule is broken and no end was
-- taken, there is a log of which it judges the next line. Behind an end that breaks a rule it does not stand for the log
-- of the lines before, which is fine without that end.
pub record IsSound (it : Judge) : Type 0 where
  pub timing : IsTiming it.timing
  pub some : is_open it.state ≡ true → StandsForSome it

-- What every line keeps. Only an E line ends a log, and behind an E line it is no longer open.
pub record Kept (line : ReportLine) (old new : Judge) : Type 0 where
  pub sound : IsSound new
  pub geometry : new.geometry ≡ old.geometry
  pub stays : is_open old.state ≡ false → new.state ≡ old.state
  pub ended : is_ended new.state ≡ true → is_end line ≡ true
  pub shut : is_end line ≡ true → is_open new.state ≡ false

-- ---- What a caller sees of it

-- the shape of the subchannel
abbrev pub geometry_of : Judge → Shape
geometry_of it = it.geometry

-- an end was taken, and no rule was broken
abbrev pub has_ended : Judge → Bool
has_ended it = is_ended it.state

-- what was said of the last line
abbrev pub verdict_so_far : Judge → Verdict
verdict_so_far it = told_state it.state

-- ---- Lines

-- What a line does: a C line is the next place of the log, and an E line its end, behind which no line is taken. The
-- answer is the verdict on the log with this line.
abbrev pub Taken : ReportLine → Judge → Header → Log → Verdict → Type 0
Taken (Issued clock command) new h log answer =
    StandsFor new h (record { clock = clock; command = command } ∷ log) × (answer ≡ told (verdict h (record { clock = clock; command = command } ∷ log)))
Taken (End clock) new h log answer = answer ≡ told (verdict_at_end h clock log)
Taken (Value number line bytes state) new h log answer = StandsFor new h log × (answer ≡ told (verdict h log))
Taken (Flip clock line device bit) new h log answer = StandsFor new h log × (answer ≡ told (verdict h log))
Taken (Stat name number) new h log answer = StandsFor new h log × (answer ≡ told (verdict h log))
Taken (Refused line reason) new h log answer = StandsFor new h log × (answer ≡ told (verdict h log))
