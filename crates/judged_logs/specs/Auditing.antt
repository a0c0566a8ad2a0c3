-- What an auditor of some groups of rules says of the log of the lines that it took.
use Rattle.std.specs.Prelude.{ℕ, suc, ◌≡◌, ◌≤◌, ◌<◌, ◌^◌, Bool, true, false, List, ◌∷◌, length, min, Option, Some, None, IfSome, IsTrue, ⊤}
use Rattle.bank_state.specs.Standing.{StandsFor as BanksFor}
use Rattle.command_words.specs.Command.{IsInRange}
use Rattle.command_words.specs.Geometry.{Shape}
use Rattle.command_words.specs.declared.command.Command.{Command}
use Rattle.ddr_text.specs.declared.lines.ReportLine.{ReportLine}
use Rattle.ddr_text.specs.declared.lines.ReportLine.TheVariants.{Issued, Value, Flip, Stat, End, Refused}
use Rattle.log_auditor.specs.Auditing.{is_end, told}
use Rattle.log_auditor.specs.declared.verdict.Verdict.{Verdict}
use Rattle.log_auditor.specs.declared.verdict.Verdict.TheVariants.{Fine, Breaks}
use Rattle.refresh_plan.specs.Held.{Held as Plan}
use Rattle.refresh_plan.specs.Standing.{StandsFor as PlanFor, MayIssue as PlanMayIssue}
use Rattle.row_activity.specs.Standing.{StandsFor as ActivityFor, MayIssue as ActivityMayIssue}
use Rattle.row_activity.specs.declared.activity.Activity.{Activity}
use Rattle.speed_bin.specs.Header.{IsAccepted, shape_of}
use Rattle.speed_bin.specs.Log.{Log, last_clock}
use Rattle.speed_bin.specs.Marks.{RowsInRange, stays_inside}
use Rattle.speed_bin.specs.Registers.{register_writes}
use Rattle.speed_bin.specs.Timing.{IsTiming}
use Rattle.speed_bin.specs.declared.header.Header.{Header}
use Rattle.timing_rules.specs.Gate.{StandsFor as GateFor}
use Rattle.judged_logs.specs.Rolling.{RollingFor}
use Rattle.judged_logs.specs.Verdicts.{broken, verdict, verdict_at_end}
use Rattle.judged_logs.specs.declared.judge.Judge.{Judge}
use Rattle.judged_logs.specs.declared.judge.State.{State}
use Rattle.judged_logs.specs.declared.judge.State.TheVariants.{Open, Broken, Ended}
use Rattle.judged_logs.specs.declared.judged.Judged.{Judged}

-- ---- Verdicts

abbrev pub state_of : Option (ℕ × ℕ) → State
state_of None = Open
state_of (Some breach) = Broken (record { 0 = breach.1 })

abbrev pub told_state : State → Verdict
told_state Open = Fine
told_state (Broken rule) = Breaks rule
told_state Ended = Fine

abbrev pub is_open : State → Bool
is_open Open = true
is_open (Broken rule) = false
is_open Ended = false

abbrev pub is_ended : State → Bool
is_ended Open = false
is_ended (Broken rule) = false
is_ended Ended = true

-- ---- Parts that are there where their group is judged

abbrev pub PlanWhere : Bool → Option Plan → Header → Log → Type 0
PlanWhere true (Some plan) h log = PlanFor plan h log
PlanWhere true None h log = ⊥
PlanWhere false (Some plan) h log = ⊥
PlanWhere false None h log = ⊤

abbrev pub ActivityWhere : Bool → Option Activity → Header → Log → Type 0
ActivityWhere true (Some activity) h log = ActivityFor activity h log
ActivityWhere true None h log = ⊥
ActivityWhere false (Some activity) h log = ⊥
ActivityWhere false None h log = ⊤

-- a plan that is there may take the command
abbrev pub MayPlan : Option Plan → ℕ → Command → Type 0
MayPlan plan clock command = IfSome plan (λ it. PlanMayIssue it clock command)

-- row counters that are there may count it
abbrev pub MayCountRows : Option Activity → List (Option ℕ) → ℕ → Command → Type 0
MayCountRows activity rows clock command = IfSome activity (λ it. ActivityMayIssue it rows clock command)

-- ---- Standing for a log

-- the parts are those of the log
pub record Parts (it : Judge) (j : Judged) (h : Header) (log : Log) : Type 0 where
  pub timing : it.timing ≡ h.timing
  pub settings : it.settings ≡ h.settings
  pub writes : it.writes.items ≡ register_writes h.settings
  pub places : it.places ≡ min 8 (length log)
  pub gate : GateFor it.gate h.timing log
  pub banks : BanksFor it.banks log
  pub plan : PlanWhere j.refresh it.plan h log
  pub rolling : RollingFor it.rolling h log
  pub activity : ActivityWhere j.backoff it.activity h log
  -- clocks rise, so that no log has more places than there are clocks
  pub short : length log ≤ suc (last_clock log)
  pub in_time : last_clock log < 2 ^ 48

-- the state is the verdict on the log; and where no judged rule was broken, the parts are those of the log
pub record Keeps (it : Judge) (j : Judged) (h : Header) (log : Log) : Type 0 where
  pub accepted : IsAccepted h
  pub shape : it.geometry ≡ shape_of h
  pub judged : it.judged ≡ j
  pub rows : RowsInRange h log
  pub state : it.state ≡ state_of (verdict j h log)
  pub parts : verdict j h log ≡ None → Parts it j h log

-- the auditor stands for the log of the lines that it took, of which these rules are judged; how is its own affair
unfoldable pub StandsFor : Judge → Judged → Header → Log → Type 0
StandsFor it j h log = Keeps it j h log

-- it stands for some log
abbrev pub StandsForSome : Judge → Type 0
StandsForSome it = ∥ ((j : Judged) × (h : Header) × (log : Log) × StandsFor it j h log) ∥₁

-- the command can be the next place of the log at this clock: its clock and its parts are in their ranges, and it breaks
-- no judged rule
pub record MayTake (j : Judged) (h : Header) (clock : ℕ) (command : Command) (log : Log) : Type 0 where
  pub in_time : clock < 2 ^ 48
  pub in_range : IsInRange command
  pub inside : IsTrue (stays_inside h command)
  pub fine : broken j h clock command log ≡ None

-- the parts are those of some log whose next place the command can be at this clock
abbrev pub MayAppend : Judge → ℕ → Command → Type 0
MayAppend it clock command = ∥ ((j : Judged) × (h : Header) × (log : Log) × (Parts it j h log) × MayTake j h clock command log) ∥₁

-- What is true between any two lines: the timing numbers are in range, and as long as no judged rule is broken and no end
-- was taken, there is a log of which it judges the next line.
pub record IsSound (it : Judge) : Type 0 where
  pub timing : IsTiming it.timing
  pub some : is_open it.state ≡ true → StandsForSome it

-- What every line keeps. Only an E line ends a log, and behind an E line it is no longer open.
pub record Kept (line : ReportLine) (old new : Judge) : Type 0 where
  pub sound : IsSound new
  pub geometry : new.geometry ≡ old.geometry
  pub judged : new.judged ≡ old.judged
  pub stays : is_open old.state ≡ false → new.state ≡ old.state
  pub ended : is_ended new.state ≡ true → is_end line ≡ true
  pub shut : is_end line ≡ true → is_open new.state ≡ false

-- ---- What a caller sees of it

abbrev pub geometry_of : Judge → Shape
geometry_of it = it.geometry

abbrev pub judged_of : Judge → Judged
judged_of it = it.judged

-- an end was taken, and no judged rule was broken
abbrev pub has_ended : Judge → Bool
has_ended it = is_ended it.state

-- what was said of the last line
abbrev pub verdict_so_far : Judge → Verdict
verdict_so_far it = told_state it.state

-- ---- Lines

-- What a line does: a C line is the next place of the log, and an E line its end, behind which no line is taken. The
-- answer is the verdict on the log with this line.
abbrev pub Taken : ReportLine → Judge → Judged → Header → Log → Verdict → Type 0
Taken (Issued clock command) new j h log answer =
    StandsFor new j h (record { clock = clock; command = command } ∷ log) × (answer ≡ told (verdict j h (record { clock = clock; command = command } ∷ log)))
Taken (End clock) new j h log answer = answer ≡ told (verdict_at_end j h clock log)
Taken (Value number line bytes state) new j h log answer = StandsFor new j h log × (answer ≡ told (verdict j h log))
Taken (Flip clock line device bit) new j h log answer = StandsFor new j h log × (answer ≡ told (verdict j h log))
Taken (Stat name number) new j h log answer = StandsFor new j h log × (answer ≡ told (verdict j h log))
Taken (Refused line reason) new j h log answer = StandsFor new j h log × (answer ≡ told (verdict j h log))
