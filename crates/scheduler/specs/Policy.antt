-- The controller's policy, after the numbered steps of `docs/POLICY.md`: what a controller keeps between turns beside its
-- waiting requests and its log, and what a turn answers and leaves of that. The waiting requests stand with the oldest first.
use Rattle.std.specs.Prelude.{ℕ, ◌+◌, ◌<◌, ◌≤◌, ◌≡◌, Bool, true, false, ◌&&◌, Option, Some, None, List, length, max, slice_get, IsTrue, IsSome}
use Rattle.command_words.specs.declared.command.Command.{Command}
use Rattle.command_words.specs.declared.command.Command.TheVariants.{Mrw, PreAb, RfmAb, RfmSb}
use Rattle.command_words.specs.declared.command.Mrw.{Mrw as Write}
use Rattle.speed_bin.specs.Alert.{alert}
use Rattle.speed_bin.specs.Log.{Log, open_at}
use Rattle.speed_bin.specs.Registers.{register_writes}
use Rattle.speed_bin.specs.Rules.{all_closed, is_wanted}
use Rattle.speed_bin.specs.declared.header.Header.{Header}
use Rattle.speed_bin.specs.declared.settings.RefreshMode.{RefreshMode}
use Rattle.speed_bin.specs.declared.settings.RefreshMode.TheVariants.{All, Same}
use Rattle.refresh_plan.specs.Debts.{IsNothingDue, IsMostBehind}
use Rattle.requests.specs.Choice.{IsSoonest}
use Rattle.requests.specs.Owed.{owed}
use Rattle.requests.specs.Queue.{in_bank, hits, oldest}
use Rattle.requests.specs.declared.request.RequestId.{RequestId}
use Rattle.requests.specs.declared.waiting.Waiting.{Waiting}
use Rattle.deadlines.specs.Tasks.{task_covers, precharge_of, command_of}
use Rattle.deadlines.specs.Turns.{IsEcsDue, IsNextDue}
use Rattle.deadlines.specs.declared.task.Task.{Task}
use Rattle.deadlines.specs.declared.task.Task.TheVariants.{RfmAll, Ecs, RefAll, RefSame, RfmSame}
use Rattle.scheduler.specs.Backoff.{IsPressed}
use Rattle.scheduler.specs.Choice.{IsLess, command_for, rank}
use Rattle.scheduler.specs.declared.choice.Class.{Class}
use Rattle.scheduler.specs.declared.choice.Class.TheVariants.{Column, Activate, Precharge}
use Rattle.scheduler.specs.declared.task.Errand.{Errand}
use Rattle.scheduler.specs.declared.turn.Turn.{Turn}
use Rattle.scheduler.specs.declared.turn.Turn.TheVariants.{Issue, Idle, Done}

-- ---- Between turns

-- What is kept beside the waiting requests and the log. How many register writes are left is seen from the log.
pub record Hidden : Type 0 where
  -- the task that is set
  pub task : Option Task
  -- no more commands come before this clock
  pub from : ℕ
  -- the idle target
  pub until : ℕ
  -- the end was announced
  pub finished : Bool

-- that of a new controller
abbrev pub at_first : Hidden
at_first = record { task = None; from = 0; until = 0; finished = false }

-- what so many idle clocks leave
abbrev pub idled : Hidden → ℕ → Hidden
idled s clocks = record s { until = s.from + clocks }

-- what the announcement of the end leaves
abbrev pub ended : Hidden → Hidden
ended s = record s { finished = true }

-- what a command at this clock leaves, with this task
abbrev pub after_command : Hidden → ℕ → Option Task → Hidden
after_command s clock left = record s { task = left; from = clock + 1 }

-- what waiting up to this clock leaves
abbrev pub waited_until : Hidden → ℕ → Hidden
waited_until s clock = record s { from = clock }

-- ---- What a turn issues

-- this command at its e from this clock on, and it leaves this task
pub record IssuesSoonest (h : Header) (log : Log) (from : ℕ) (command : Command) (s : Hidden) (left : Option Task) (turn : Turn) (next : Hidden) : Type 0 where
  pub clock : ℕ
  pub soonest : IsSoonest h log from command clock
  pub issues : turn ≡ Issue clock command None
  pub leaves : next ≡ after_command s clock left

-- ---- Step 1: register writes

-- the next of the eight register writes
pub record WritesRegister (h : Header) (s : Hidden) (log : Log) (turn : Turn) (next : Hidden) : Type 0 where
  pub few : length log < 8
  pub write : Write
  pub due : slice_get (register_writes h.settings) (length log) ≡ Some write
  pub issues : IssuesSoonest h log s.from (Mrw write) s None turn next

-- ---- Step 2: candidates

-- what a bank asks for, for which waiting request, and at which clock
pub record Candidate : Type 0 where
  pub need : Class
  pub request : Waiting
  pub clock : ℕ

-- open and with a hit, a bank asks for the RD or WR of its oldest hit; closed, for the ACT of the row of its oldest waiting
-- request; open and without a hit, for PREpb
abbrev pub Asks : Class → List Waiting → Log → ℕ → Waiting → Type 0
Asks Column ws log b w = oldest (hits b (open_at b log)) ws ≡ Some w
Asks Activate ws log b w = (open_at b log ≡ None) × (oldest (in_bank b) ws ≡ Some w)
Asks Precharge ws log b w = IsSome (open_at b log) × (oldest (hits b (open_at b log)) ws ≡ None) × (oldest (in_bank b) ws ≡ Some w)

-- the candidate of a bank, at its e from this clock on
pub record IsCandidateOf (h : Header) (ws : List Waiting) (log : Log) (from b : ℕ) (candidate : Candidate) : Type 0 where
  pub asks : Asks candidate.need ws log b candidate.request
  pub soonest : IsSoonest h log from (command_for candidate.need candidate.request) candidate.clock

-- The one with the lesser e comes before the other; at one e an RD or WR comes before an ACT and an ACT before a PREpb, and
-- of the same kind that of the older request.
abbrev pub ComesBefore : Candidate → Candidate → Type 0
ComesBefore a b = IsLess a.clock (rank a.need) a.request.id b.clock (rank b.need) b.request.id

-- of the banks that are asked, one has this candidate, and none has one that comes before it
pub record IsFirst (h : Header) (ws : List Waiting) (log : Log) (from : ℕ) (asked : ℕ → Bool) (candidate : Candidate) : Type 0 where
  pub bank : ℕ
  pub low : bank < 32
  pub is_asked : asked bank ≡ true
  pub own : IsCandidateOf h ws log from bank candidate
  pub first : (b : ℕ) → b < 32 → asked b ≡ true → (other : Candidate) → IsCandidateOf h ws log from b other → ComesBefore other candidate → ⊥

-- the first candidate of the banks that are asked; there is none where no request of such a bank waits
abbrev pub Chooses : Header → List Waiting → Log → ℕ → (ℕ → Bool) → Option Candidate → Type 0
Chooses h ws log from asked None = (b : ℕ) → b < 32 → asked b ≡ true → oldest (in_bank b) ws ≡ None
Chooses h ws log from asked (Some candidate) = IsFirst h ws log from asked candidate

abbrev pub every_bank : ℕ → Bool
every_bank b = true

-- ---- Step 3: e0

-- the least e among the candidates, and where there are none the greater of `now` and the idle target
abbrev pub e0_of : Option Candidate → Hidden → ℕ
e0_of None s = max s.from s.until
e0_of (Some candidate) s = candidate.clock

-- ---- Steps 4 and 5: the task

-- no alert is raised, or it is and there is no reason to stop serving requests
abbrev pub IsUnpressed : Header → Hidden → List Waiting → Log → Type 0
IsUnpressed h s ws log = (raised : ℕ) → alert h log ≡ Some raised → IsPressed h ws log s.from s.task raised → ⊥

-- the refresh that is due at the clock, by the header's mode: that of all banks, or that of the address most behind, the
-- least of several
abbrev pub IsRefresh : RefreshMode → Header → ℕ → Log → Task → Type 0
IsRefresh All h clock log task = task ≡ RefAll
IsRefresh Same h clock log task = (address : ℕ) × (IsMostBehind h clock log address) × (task ≡ RefSame address)

-- the least address with a bank at RAAIMT
pub record IsFirstWanted (h : Header) (log : Log) (address : ℕ) : Type 0 where
  pub wanted : IsTrue (is_wanted h (RfmSb address) log)
  pub first : (other : ℕ) → other < address → is_wanted h (RfmSb other) log ≡ false

-- which task is set where none is, and the clock from which it is served; the first of these that applies
pub data Sets (h : Header) (log : Log) (now e0 : ℕ) (errand : Option Errand) : Type 0 where
  -- an ECS is due
  SetsScrub : IsEcsDue h log → errand ≡ Some (record { task = Ecs; start = now }) → Sets h log now e0 errand
  -- a refresh is due at e0: it is served from the least clock on at which it is due, or from `now` where that is later
  SetsRefresh : (task : Task) (due : ℕ) → (IsEcsDue h log → ⊥) → (IsNothingDue h e0 log → ⊥) → IsRefresh h.settings.refresh h e0 log task → IsNextDue h log due
      → errand ≡ Some (record { task = task; start = max now due }) → Sets h log now e0 errand
  -- an RFM is wanted
  SetsManagement : (address : ℕ) → (IsEcsDue h log → ⊥) → IsNothingDue h e0 log → IsFirstWanted h log address
      → errand ≡ Some (record { task = RfmSame address; start = now }) → Sets h log now e0 errand
  -- nothing is due
  SetsNone : (IsEcsDue h log → ⊥) → IsNothingDue h e0 log → is_wanted h RfmAb log ≡ false → errand ≡ None → Sets h log now e0 errand

-- the task that the turn serves, if it serves one, and the clock from which it is served
pub data Decides (h : Header) (s : Hidden) (ws : List Waiting) (log : Log) (e0 : ℕ) (errand : Option Errand) : Type 0 where
  -- the alert is raised, and there is a reason to stop: RFM of all banks, in place of any other task
  BacksOff : (raised : ℕ) → alert h log ≡ Some raised → IsPressed h ws log s.from s.task raised → errand ≡ Some (record { task = RfmAll; start = s.from }) → Decides h s ws log e0 errand
  -- a task that is set stays set
  GoesOn : (task : Task) → IsUnpressed h s ws log → s.task ≡ Some task → errand ≡ Some (record { task = task; start = s.from }) → Decides h s ws log e0 errand
  -- none is set
  SetsTask : IsUnpressed h s ws log → s.task ≡ None → Sets h log s.from e0 errand → Decides h s ws log e0 errand

-- ---- Step 6: serving a task

-- the task covers the bank, which is owed
abbrev pub is_owed_for : Task → Log → ℕ → Bool
is_owed_for task log b = owed b log && task_covers task b

-- it covers no such bank
abbrev pub NoneOwed : Task → Log → Type 0
NoneOwed task log = (b : ℕ) → b < 32 → task_covers task b ≡ true → owed b log ≡ false

-- it covers an open bank
pub record CoversOpen (task : Task) (log : Log) : Type 0 where
  pub bank : ℕ
  pub low : bank < 32
  pub covered : task_covers task bank ≡ true
  pub is_open : IsSome (open_at bank log)

-- it covers closed banks alone
abbrev pub AreClosed : Task → Log → Type 0
AreClosed task log = (b : ℕ) → b < 32 → task_covers task b ≡ true → open_at b log ≡ None

-- what is issued for a candidate, with the number of the request that it serves
abbrev pub number_for : Class → Waiting → Option RequestId
number_for Column w = Some (record { 0 = w.id })
number_for Activate w = None
number_for Precharge w = None

pub record IssuesFor (candidate : Candidate) (s : Hidden) (left : Option Task) (turn : Turn) (next : Hidden) : Type 0 where
  pub issues : turn ≡ Issue candidate.clock (command_for candidate.need candidate.request) (number_for candidate.need candidate.request)
  pub leaves : next ≡ after_command s candidate.clock left

-- the command of a turn that serves a task; the first of these that applies
pub data ServesTask (h : Header) (s : Hidden) (ws : List Waiting) (log : Log) (errand : Errand) (turn : Turn) (next : Hidden) : Type 0 where
  -- it covers an owed bank: of the RD or WR that such banks ask for, the first
  PaysColumn : (candidate : Candidate) → IsFirst h ws log errand.start (is_owed_for errand.task log) candidate → candidate.need ≡ Column → IssuesFor candidate s (Some errand.task) turn next
      → ServesTask h s ws log errand turn next
  -- it covers an open bank: PREab for a task that covers all banks, else PREsb of the task's address
  Shuts : NoneOwed errand.task log → CoversOpen errand.task log → IssuesSoonest h log errand.start (precharge_of errand.task) s (Some errand.task) turn next → ServesTask h s ws log errand turn next
  -- otherwise its own command, after which no task is set
  EndsTask : NoneOwed errand.task log → AreClosed errand.task log → IssuesSoonest h log errand.start (command_of errand.task) s None turn next → ServesTask h s ws log errand turn next

-- ---- Step 8: nothing to do

pub data RestsAt (h : Header) (s : Hidden) (log : Log) (turn : Turn) (next : Hidden) : Type 0 where
  -- more requests may come
  Idles : s.finished ≡ false → turn ≡ Idle → next ≡ waited_until s (max s.from s.until) → RestsAt h s log turn next
  -- no more come, and a bank is open
  ShutsAll : s.finished ≡ true → all_closed log ≡ false → IssuesSoonest h log (max s.from s.until) PreAb s None turn next → RestsAt h s log turn next
  -- no more come, and all banks are closed
  IsOver : s.finished ≡ true → all_closed log ≡ true → turn ≡ Done → next ≡ waited_until s (max s.from s.until) → RestsAt h s log turn next

-- ---- A turn

-- Steps 6 to 8: a task is served; where there is none, the first candidate; where there is none of these either, there is
-- nothing to do.
abbrev pub Acts : Option Errand → Option Candidate → Header → Hidden → List Waiting → Log → Turn → Hidden → Type 0
Acts (Some errand) choice h s ws log turn next = ServesTask h s ws log errand turn next
Acts None (Some candidate) h s ws log turn next = IssuesFor candidate s None turn next
Acts None None h s ws log turn next = RestsAt h s log turn next

-- the turn is what the policy asks for after this log, where these requests wait; it leaves this
pub data IsTurn (h : Header) (s : Hidden) (ws : List Waiting) (log : Log) (turn : Turn) (next : Hidden) : Type 0 where
  -- Step 1
  Starts : WritesRegister h s log turn next → IsTurn h s ws log turn next
  -- Steps 2 to 8
  Follows : (choice : Option Candidate) (errand : Option Errand) → 8 ≤ length log → Chooses h ws log s.from every_bank choice → Decides h s ws log (e0_of choice s) errand
      → Acts errand choice h s ws log turn next → IsTurn h s ws log turn next
