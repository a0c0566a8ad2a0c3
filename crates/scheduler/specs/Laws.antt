-- The laws that a turn rests on: those of the deadlines and of the requests, as one record.
use Rattle.std.specs.Prelude.{◌≡◌, ℕ, ◌+◌, ◌/◌, ◌<◌, ◌≤◌, ◌^◌, ◌⊎◌, Bool, true, false, Option, Some, None, List, [], ◌∷◌, length, max, slice_get, IsTrue}
use Rattle.std.specs.List.{remove}
use Rattle.command_words.specs.Command.{bank_number, covers}
use Rattle.command_words.specs.declared.command.Command.{Command}
use Rattle.command_words.specs.declared.command.Command.TheVariants.{Act, PrePb, Mrw}
use Rattle.command_words.specs.declared.command.Mrw.{Mrw as Write}
use Rattle.command_words.specs.declared.place.Bank.{Bank}
use Rattle.speed_bin.specs.Alert.{alert}
use Rattle.speed_bin.specs.Below.{all_below}
use Rattle.speed_bin.specs.Gap.{n_max}
use Rattle.speed_bin.specs.Header.{IsAccepted}
use Rattle.command_words.specs.Kinds.{is_mrw, is_precharge, is_rfm_all, needs_closed, refreshes}
use Rattle.speed_bin.specs.Log.{Issued, Log, open_at, refs}
use Rattle.speed_bin.specs.Rules.{is_on_time, rule_5, rule_6, rule_7, rule_8, rule_13}
use Rattle.speed_bin.specs.declared.header.Header.{Header}
use Rattle.refresh_plan.specs.Debts.{IsNothingDue}
use Rattle.requests.specs.Choice.{column_for, IsOldestRow, IsMissed, IsSoonest}
use Rattle.requests.specs.Owed.{owed, SparesOwed}
use Rattle.requests.specs.Page.{Excuses}
use Rattle.requests.specs.Queue.{Step, places, hits, oldest}
use Rattle.requests.specs.Requested.{Requested, IsQueued}
use Rattle.requests.specs.declared.request.Request.{Request}
use Rattle.requests.specs.declared.waiting.Waiting.{Waiting}
use Rattle.deadlines.specs.Standing.{Keeps}
use Rattle.deadlines.specs.Turns.{Turn}
use Rattle.deadlines.specs.declared.task.Task.{Task}

-- what a turn that issues a place gives
pub record Kept (h : Header) (log : Log) (next : Option Task) (until idle : ℕ) (later : List ℕ) (n : ℕ) (place : Issued) : Type 0 where
  pub keeps : Keeps h (place ∷ log) next (place.clock + 1) until idle later n
  pub refreshes_in_time : IsTrue (rule_6 h place.clock place.command log)
  pub refreshes_evenly : IsTrue (rule_7 place.command log)
  pub scrubs_in_step : IsTrue (rule_8 h place.command log)
  pub answers_the_alert : IsTrue (rule_13 h place.clock log)
  pub raised : is_rfm_all place.command ≡ true → alert h log ≡ None → ⊥
  pub owing : (address : ℕ) → address < 4 → refreshes address place.command ≡ true → refs address log + 2 ≤ place.clock / h.timing.nrefi

pub record DeadlineLaws : Type 0 where
  pub start : (h : Header) → IsAccepted h → Keeps h [] None 0 0 0 [] 0
  pub turn : (h : Header) (log : Log) (task next : Option Task) (now until idle : ℕ) (waiting later : List ℕ) (n : ℕ) (place : Issued) → IsAccepted h
      → Keeps h log task now until idle waiting n → Turn h log task now until waiting place next later → Kept h log next until idle later n place
  pub within : (h : Header) (log : Log) (task : Option Task) (now until idle : ℕ) (waiting : List ℕ) (n : ℕ) → IsAccepted h
      → Keeps h log task now until idle waiting n → (start clock : ℕ) (command : Command) → now ≤ start
      → IsSoonest h log start command clock → clock ≤ start + n_max h.timing
  pub small : (h : Header) → IsAccepted h → n_max h.timing < 2 ^ 14
  pub rest : (h : Header) (log : Log) (now until idle : ℕ) (waiting : List ℕ) (n : ℕ) → IsAccepted h
      → Keeps h log None now until idle waiting n → 8 ≤ length log → alert h log ≡ None → IsNothingDue h (max now until) log
      → Keeps h log None (max now until) until idle waiting n
  pub at_end : (h : Header) (log : Log) (now until idle : ℕ) (waiting : List ℕ) (n : ℕ) → IsAccepted h
      → Keeps h log None now until idle waiting n → alert h log ≡ None → IsNothingDue h (max now until) log
      → IsTrue (all_below 4 (λ address. is_on_time h (max now until) address log))

pub record RequestLaws : Type 0 where
  pub excuse : (h : Header) (offered : List Request) (log : List Step) (queue : List Waiting) (excused later : ℕ → Bool)
      → Requested h offered log queue excused → Excuses excused later → Requested h offered log queue later
  pub column : (h : Header) (offered : List Request) (log : List Step) (queue : List Waiting) (excused later : ℕ → Bool)
      (clock at b : ℕ) (command : Command) (w : Waiting)
      → Requested h offered log queue excused → command ≡ column_for w.request.kind w.place
      → slice_get queue at ≡ Some w → oldest (hits b (open_at b (places log))) queue ≡ Some w → Excuses excused later
      → Requested h offered (record { issued = record { clock = clock; command = command }; id = Some w.id } ∷ log) (remove queue at) later
  pub activate : (h : Header) (offered : List Request) (log : List Step) (queue : List Waiting) (excused later : ℕ → Bool)
      (clock : ℕ) (bank : Bank) (row : ℕ)
      → Requested h offered log queue excused → bank_number bank < 32 → open_at (bank_number bank) (places log) ≡ None
      → IsOldestRow queue (bank_number bank) row → excused (bank_number bank) ≡ false → Excuses excused later
      → Requested h offered (record { issued = record { clock = clock; command = Act bank row }; id = None } ∷ log) queue later
  pub precharge : (h : Header) (offered : List Request) (log : List Step) (queue : List Waiting) (excused later : ℕ → Bool)
      (clock : ℕ) (bank : Bank)
      → Requested h offered log queue excused → IsMissed queue (bank_number bank) (open_at (bank_number bank) (places log)) → Excuses excused later
      → Requested h offered (record { issued = record { clock = clock; command = PrePb bank }; id = None } ∷ log) queue later
  pub closing : (h : Header) (offered : List Request) (log : List Step) (queue : List Waiting) (excused later : ℕ → Bool)
      (clock : ℕ) (command : Command)
      → Requested h offered log queue excused → IsTrue (is_precharge command) → SparesOwed command (places log)
      → ((b : ℕ) → b < 32 → IsTrue (covers command b) → later b ≡ true) → Excuses excused later
      → Requested h offered (record { issued = record { clock = clock; command = command }; id = None } ∷ log) queue later
  pub management : (h : Header) (offered : List Request) (log : List Step) (queue : List Waiting) (excused later : ℕ → Bool)
      (clock : ℕ) (command : Command)
      → Requested h offered log queue excused → IsTrue (needs_closed command) → is_mrw command ≡ false → IsTrue (rule_5 command (places log))
      → ((b : ℕ) → b < 32 → excused b ≡ true → (later b ≡ true) ⊎ IsTrue (covers command b))
      → Requested h offered (record { issued = record { clock = clock; command = command }; id = None } ∷ log) queue later
  pub write : (h : Header) (offered : List Request) (log : List Step) (queue : List Waiting) (excused later : ℕ → Bool)
      (clock : ℕ) (write : Write)
      → Requested h offered log queue excused → IsTrue (rule_5 (Mrw write) (places log)) → Excuses excused later
      → Requested h offered (record { issued = record { clock = clock; command = Mrw write }; id = None } ∷ log) queue later
  pub missed : (h : Header) (offered : List Request) (log : List Step) (queue : List Waiting) (excused : ℕ → Bool) (b : ℕ)
      → Requested h offered log queue excused → b < 32 → oldest (hits b (open_at b (places log))) queue ≡ None → owed b (places log) ≡ false
  pub closed : (h : Header) (offered : List Request) (log : List Step) (queue : List Waiting) (excused : ℕ → Bool) (b : ℕ)
      → Requested h offered log queue excused → b < 32 → open_at b (places log) ≡ None → owed b (places log) ≡ false
  pub queued : (h : Header) (offered : List Request) (log : List Step) (queue : List Waiting) (excused : ℕ → Bool) (at : ℕ) (w : Waiting)
      → Requested h offered log queue excused → slice_get queue at ≡ Some w → IsQueued h offered log w

-- both
pub record Laws : Type 0 where
  pub deadlines : DeadlineLaws
  pub requests : RequestLaws
