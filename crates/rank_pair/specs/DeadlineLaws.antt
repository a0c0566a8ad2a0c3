-- The laws of the deadlines of two ranks, as one record.
use Rattle.std.specs.Prelude.{ℕ, suc, ◌≡◌, ◌+◌, ◌*◌, ◌<◌, ◌≤◌, ◌^◌, true, IsTrue, Some, None, max, [], ◌∷◌, length}
use Rattle.command_words.specs.Kinds.{is_act, is_mrw, is_precharge}
use Rattle.command_words.specs.declared.command.Command.{Command}
use Rattle.command_words.specs.declared.command.Command.TheVariants.{RfmAb}
use Rattle.deadlines.specs.Standing.{AllInTime}
use Rattle.pair_deadlines.specs.Budget.{HasTime}
use Rattle.pair_deadlines.specs.Keeping.{Accessed, Closed, Keeps, Opened, Phase, Resting, Serving, Writing}
use Rattle.rank_bus.specs.Buses.{BusLog, IsEarliest, other, part}
use Rattle.rank_bus.specs.Service.{IsServedBy}
use Rattle.rank_bus.specs.declared.rank.Rank.{Rank}
use Rattle.rank_bus.specs.declared.rank.Rank.TheVariants.{Zero, One}
use Rattle.refresh_plan.specs.Debts.{IsNothingDue}
use Rattle.requests.specs.Owed.{is_column}
use Rattle.speed_bin.specs.Alert.{alert}
use Rattle.speed_bin.specs.Below.{all_below}
use Rattle.speed_bin.specs.Gap.{n_max}
use Rattle.speed_bin.specs.Header.{IsAccepted}
use Rattle.speed_bin.specs.Log.{raa}
use Rattle.speed_bin.specs.Rules.{is_on_time}
use Rattle.speed_bin.specs.declared.header.Header.{Header}

-- the command of this rank comes at its earliest clock, not before `now`
abbrev pub Comes : Header → BusLog → ℕ → Rank → ℕ → Command → Type 0
Comes h bus now rank clock command = IsEarliest h (part rank bus) (part (other rank) bus) now command clock

-- the deadlines are kept behind it, at this phase
abbrev pub KeepsMore : Header → BusLog → ℕ → ℕ → ℕ → Rank → ℕ → Command → Phase → Type 0
KeepsMore h bus until idle n rank clock command phase = Keeps h (record { rank = rank; clock = clock; command = command } ∷ bus) (clock + 1) until idle n phase

pub record DeadlineLaws : Type 0 where
  pub start : (h : Header) → IsAccepted h → HasTime h → Keeps h [] 0 0 0 0 Writing
  pub writes : (h : Header) (bus : BusLog) (now until idle n : ℕ) (rank : Rank) (clock : ℕ) (command : Command) → IsAccepted h → HasTime h → Keeps h bus now until idle n Writing
      → length (part Zero bus) + length (part One bus) < 16 → is_mrw command ≡ true → Comes h bus now rank clock command → KeepsMore h bus until idle n rank clock command Writing
  pub written : (h : Header) (bus : BusLog) (now until idle n : ℕ) → IsAccepted h → HasTime h → Keeps h bus now until idle n Writing
      → length (part Zero bus) + length (part One bus) ≡ 16 → Keeps h bus now until idle n Resting
  pub activates : (h : Header) (bus : BusLog) (now until idle n : ℕ) (rank : Rank) (clock : ℕ) (command : Command) → IsAccepted h → HasTime h → Keeps h bus now until idle n Resting
      → is_act command ≡ true → Comes h bus now rank clock command → KeepsMore h bus until idle (suc n) rank clock command (Opened rank)
  pub accesses : (h : Header) (bus : BusLog) (now until idle n : ℕ) (rank : Rank) (clock : ℕ) (command : Command) → IsAccepted h → HasTime h → Keeps h bus now until idle n (Opened rank)
      → is_column command ≡ true → Comes h bus now rank clock command → KeepsMore h bus until idle n rank clock command (Accessed rank)
  pub closes : (h : Header) (bus : BusLog) (now until idle n : ℕ) (rank : Rank) (clock : ℕ) (command : Command) → IsAccepted h → HasTime h → Keeps h bus now until idle n (Accessed rank)
      → is_precharge command ≡ true → Comes h bus now rank clock command → KeepsMore h bus until idle n rank clock command (Closed rank)
  pub answers : (h : Header) (bus : BusLog) (now until idle n : ℕ) (rank : Rank) (clock : ℕ) (command : Command) → IsAccepted h → HasTime h → Keeps h bus now until idle n (Closed rank)
      → command ≡ RfmAb → Comes h bus now rank clock command → KeepsMore h bus until idle n rank clock command (Serving Zero)
  pub unanswered : (h : Header) (bus : BusLog) (now until idle n : ℕ) (rank : Rank) → IsAccepted h → HasTime h → Keeps h bus now until idle n (Closed rank)
      → alert h (part rank bus) ≡ None → Keeps h bus now until idle n (Serving Zero)
  pub begins : (h : Header) (bus : BusLog) (now until idle n : ℕ) → IsAccepted h → HasTime h → Keeps h bus now until idle n Resting → Keeps h bus now until idle n (Serving Zero)
  pub serves : (h : Header) (bus : BusLog) (now until idle n : ℕ) (rank : Rank) (clock : ℕ) (command : Command) → IsAccepted h → HasTime h → Keeps h bus now until idle n (Serving rank)
      → IsServedBy h (part rank bus) now (Some command) → Comes h bus now rank clock command → KeepsMore h bus until idle n rank clock command (Serving rank)
  pub turns : (h : Header) (bus : BusLog) (now until idle n : ℕ) → IsAccepted h → HasTime h → Keeps h bus now until idle n (Serving Zero)
      → IsServedBy h (part Zero bus) now None → Keeps h bus now until idle n (Serving One)
  pub rests : (h : Header) (bus : BusLog) (now until idle n : ℕ) → IsAccepted h → HasTime h → Keeps h bus now until idle n (Serving One)
      → IsServedBy h (part One bus) now None → Keeps h bus now until idle n Resting
  pub waits : (h : Header) (bus : BusLog) (now until idle n : ℕ) (clock : ℕ) → IsAccepted h → HasTime h → Keeps h bus now until idle n Resting → clock ≤ until
      → ((earlier : ℕ) → earlier < clock → IsNothingDue h earlier (part Zero bus) × IsNothingDue h earlier (part One bus)) → Keeps h bus (max now clock) until idle n Resting
  pub idles : (h : Header) (bus : BusLog) (now until idle n : ℕ) (clocks : ℕ) → Keeps h bus now until idle n Resting → Keeps h bus now (now + clocks) (idle + clocks) n Resting
  pub meets : (h : Header) (bus : BusLog) (now until idle n : ℕ) (phase : Phase) (rank : Rank) → Keeps h bus now until idle n phase → AllInTime h (part rank bus)
  pub calm : (h : Header) (bus : BusLog) (now until idle n : ℕ) (rank : Rank) → Keeps h bus now until idle n Resting → alert h (part rank bus) ≡ None
  pub low : (h : Header) (bus : BusLog) (now until idle n : ℕ) (rank : Rank) (b : ℕ) → IsAccepted h → HasTime h → Keeps h bus now until idle n Resting → b < 32
      → raa h b (part rank bus) < h.settings.raaimt
  pub ends : (h : Header) (bus : BusLog) (now until idle n : ℕ) (rank : Rank) → IsAccepted h → HasTime h → Keeps h bus now until idle n Resting
      → IsTrue (all_below 4 (λ address. is_on_time h now address (part rank bus)))
  pub bound : (h : Header) (bus : BusLog) (now until idle n : ℕ) (phase : Phase) → IsAccepted h → HasTime h → Keeps h bus now until idle n phase
      → now ≤ 2 * (idle + 12 * n_max h.timing * (n + 4))
  pub within : (h : Header) (bus : BusLog) (now until idle n : ℕ) (phase : Phase) (rank : Rank) (clock : ℕ) (command : Command) → IsAccepted h → HasTime h → Keeps h bus now until idle n phase
      → Comes h bus now rank clock command → clock + 1 ≤ now + n_max h.timing
  pub small : (h : Header) → IsAccepted h → HasTime h → n_max h.timing < 2 ^ 13
  pub small_now : (h : Header) (bus : BusLog) (now until idle n : ℕ) (phase : Phase) → IsAccepted h → HasTime h → Keeps h bus now until idle n phase → n ≤ 1048576 → idle ≤ 4294967296 → now < 2 ^ 40
  pub small_target : (h : Header) (bus : BusLog) (now until idle n : ℕ) (phase : Phase) → IsAccepted h → HasTime h → Keeps h bus now until idle n phase → n ≤ 1048576 → idle ≤ 4294967296 → until < 2 ^ 40
