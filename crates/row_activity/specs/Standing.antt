-- What the row counters of all banks, the alert and the peak say of a log.
use Rattle.std.specs.Prelude.{ℕ, ◌≡◌, ◌<◌, nat_le, false, List, length, slice_index_or, Option, Some, None, ⊤}
use Rattle.command_words.specs.declared.command.Command.{Command}
use Rattle.command_words.specs.Kinds.{Effect, Opens, Closes, Manages, Refreshes, Leaves, is_mrw}
use Rattle.speed_bin.specs.declared.header.Header.{Header}
use Rattle.speed_bin.specs.declared.settings.Settings.{Settings}
use Rattle.speed_bin.specs.Header.{IsAccepted}
use Rattle.speed_bin.specs.Log.{Log}
use Rattle.speed_bin.specs.Counters.{counters, count_of, tracked}
use Rattle.speed_bin.specs.Counts.{peak}
use Rattle.bank_state.specs.Standing.{StandsFor as BanksFor}
use Rattle.row_counts.specs.Held.{Held, MayClose, MayMitigate, no_rows}
use Rattle.row_counts.specs.Standing.{StandsFor as CountsFor}
use Rattle.backoff.specs.Standing.{StandsFor as AlertFor}
use Rattle.row_activity.specs.Counted.{AllCounted, MayCount}
use Rattle.row_activity.specs.declared.activity.Activity.{Activity}
use Rattle.row_activity.specs.declared.bank_rows.BankRows.{BankRows}
use Rattle.row_activity.specs.declared.bank_rows.Touch.{Touch}
use Rattle.row_activity.specs.declared.bank_rows.Touch.TheVariants.{Counts, Mitigates, Spares}

-- ---- One bank

-- the greatest counter of a bank
abbrev pub greatest_count : Header → ℕ → Log → ℕ
greatest_count h b log = count_of (counters h b log) (tracked (counters h b log))

-- the counters are those of the bank in the log, and it is known whether one of them is at least ATH
pub record BankFor (rows : BankRows) (h : Header) (b : ℕ) (log : Log) : Type 0 where
  pub counts : CountsFor rows.counts h b log
  pub is_hot : rows.is_hot ≡ nat_le h.settings.ath (greatest_count h b log)

-- what an effect does to the counters of its bank
abbrev pub touch_of : Effect → Touch
touch_of (Opens row) = Spares
touch_of Closes = Counts
touch_of Manages = Mitigates
touch_of Refreshes = Spares
touch_of Leaves = Spares

-- one more change of the counters can be counted
abbrev pub MayTouch : Touch → Option ℕ → Held → Type 0
MayTouch Counts (Some row) it = MayClose it row
MayTouch Counts None it = ⊤
MayTouch Mitigates opened it = MayMitigate it
MayTouch Spares opened it = ⊤

-- ---- All banks

-- the bank with this number
abbrev pub bank_at : List BankRows → ℕ → BankRows
bank_at banks b = slice_index_or banks b (record { counts = no_rows; is_hot = false })

pub record Keeps (it : Activity) (h : Header) (log : Log) : Type 0 where
  pub accepted : IsAccepted h
  pub counted : AllCounted h log
  pub banks : length it.banks.items ≡ 32
  pub counts : (b : ℕ) → b < 32 → BankFor (bank_at it.banks.items b) h b log
  pub alert : AlertFor it.alert h log
  pub peak : it.peak ≡ peak h log

-- the activity stands for the log; how is its own affair
unfoldable pub StandsFor : Activity → Header → Log → Type 0
StandsFor it h log = Keeps it h log

-- it and the open rows stand for some log, behind which the command can be counted
abbrev pub MayIssue : Activity → List (Option ℕ) → ℕ → Command → Type 0
MayIssue it open_rows clock command = ∥ ((h : Header) × (log : Log) × (StandsFor it h log) × (BanksFor open_rows log) × MayCount h clock command log) ∥₁

-- it stands for some log whose header has the row
abbrev pub HoldsRow : Activity → ℕ → Type 0
HoldsRow it row = ∥ ((h : Header) × (log : Log) × (StandsFor it h log) × (row < h.settings.rows)) ∥₁

-- the thresholds are those of the header, unless the command is a register write, before which there may be none
abbrev pub AreTold : Option Settings → Header → Command → Type 0
AreTold thresholds h command = is_mrw command ≡ false → thresholds ≡ Some h.settings

-- the counters and the alert, as a log leaves them
pub record Tracks (it : Activity) (h : Header) (log : Log) : Type 0 where
  pub counts : (b : ℕ) → b < 32 → BankFor (bank_at it.banks.items b) h b log
  pub alert : AlertFor it.alert h log
