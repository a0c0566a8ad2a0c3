-- Under a raised alert: the reasons to stop serving requests, and what a turn that stops does. `from` is the clock before
-- which no command comes, and the waiting requests stand with the oldest first.
use Rattle.std.specs.Prelude.{ℕ, ◌+◌, ◌<◌, ◌≤◌, ◌≡◌, ◌⊎◌, Bool, true, false, Option, Some, None, List, [], IsTrue, IsSome}
use Rattle.command_words.specs.Command.{bank_number}
use Rattle.command_words.specs.Kinds.{is_rfm_all}
use Rattle.command_words.specs.declared.command.Command.{Command}
use Rattle.command_words.specs.declared.command.Command.TheVariants.{Act, PrePb, RfmAb}
use Rattle.speed_bin.specs.Log.{Log, open_at}
use Rattle.speed_bin.specs.Rules.{MayFollow, is_wanted}
use Rattle.speed_bin.specs.declared.header.Header.{Header}
use Rattle.refresh_plan.specs.Debts.{IsNothingDue}
use Rattle.requests.specs.Choice.{IsMissed, IsSoonest, column_for}
use Rattle.requests.specs.Queue.{in_bank, hits, oldest}
use Rattle.requests.specs.declared.waiting.Waiting.{Waiting}
use Rattle.deadlines.specs.Turns.{IsEcsDue}
use Rattle.deadlines.specs.declared.task.Task.{Task}
use Rattle.deadlines.specs.declared.task.Task.TheVariants.{RfmAll}
use Rattle.scheduler.specs.declared.turn.Turn.{Turn}
use Rattle.scheduler.specs.declared.turn.Turn.TheVariants.{Issue, Idle, Done}

-- ---- Candidates

-- the command is the candidate of a bank, that of this waiting request of it
pub data Offers (ws : List Waiting) (log : Log) (command : Command) : Type 0 where
  -- the RD or WR of its oldest hit
  OffersColumn : (w : Waiting) → oldest (hits (bank_number w.place.bank) (open_at (bank_number w.place.bank) log)) ws ≡ Some w → command ≡ column_for w.request.kind w.place → Offers ws log command
  -- the bank is closed: the ACT of the row of its oldest request
  OffersActivate : (w : Waiting) → open_at (bank_number w.place.bank) log ≡ None → oldest (in_bank (bank_number w.place.bank)) ws ≡ Some w → command ≡ Act w.place.bank w.place.row → Offers ws log command
  -- the bank is open and has no hit: PREpb
  OffersPrecharge : (w : Waiting) → IsMissed ws (bank_number w.place.bank) (open_at (bank_number w.place.bank) log) → oldest (in_bank (bank_number w.place.bank)) ws ≡ Some w → command ≡ PrePb w.place.bank → Offers ws log command

-- e0, where there is a candidate: the least clock at which one may be issued
pub record IsFirstClock (h : Header) (ws : List Waiting) (log : Log) (from e0 : ℕ) : Type 0 where
  pub command : Command
  pub offered : Offers ws log command
  pub soonest : IsSoonest h log from command e0
  pub least : (other : Command) → Offers ws log other → (clock : ℕ) → from ≤ clock → MayFollow h.timing clock other log → e0 ≤ clock

-- ---- The six reasons

-- a reason to stop serving requests, where the alert was raised at this clock and this task is set
pub data IsPressed (h : Header) (ws : List Waiting) (log : Log) (from : ℕ) (task : Option Task) (raised : ℕ) : Type 0 where
  -- a task is set already
  TaskIsSet : IsSome task → IsPressed h ws log from task raised
  -- there is no candidate
  NoneWaits : ws ≡ [] → IsPressed h ws log from task raised
  -- e0 is above the end of the alert's window
  WindowEnds : (e0 : ℕ) → IsFirstClock h ws log from e0 → raised + h.timing.nabo < e0 → IsPressed h ws log from task raised
  -- an ECS is due
  ScrubIsDue : IsEcsDue h log → IsPressed h ws log from task raised
  -- a refresh is due at e0
  RefreshIsDue : (e0 : ℕ) → IsFirstClock h ws log from e0 → (IsNothingDue h e0 log → ⊥) → IsPressed h ws log from task raised
  -- an RFM is wanted
  RfmIsWanted : IsTrue (is_wanted h RfmAb log) → IsPressed h ws log from task raised

-- ---- What a turn does then

abbrev pub issues_rfm_all : Turn → Bool
issues_rfm_all (Issue clock command id) = is_rfm_all command
issues_rfm_all Idle = false
issues_rfm_all Done = false

-- the turn served the RFM of all banks: it issued RFMab, or a command for that task, which is set then
abbrev pub AnswersAlert : Turn → Option Task → Type 0
AnswersAlert turn next = (issues_rfm_all turn ≡ true) ⊎ (next ≡ Some RfmAll)
