-- What holds of each place of a log for the counts of its commands.
use Rattle.std.specs.Prelude.{ℕ, ◌+◌, ◌<◌, ◌≤◌, ◌≡◌, Bool, true, false, nat_lt, List, [], ◌∷◌, length, Option, Some, None, is_some, IsTrue, ⊤}
use Rattle.command_words.specs.Command.{bank_number}
use Rattle.command_words.specs.declared.place.Bank.{Bank}
use Rattle.command_words.specs.declared.command.Command.{Command}
use Rattle.command_words.specs.declared.command.Command.TheVariants.{Act, RefSb}
use Rattle.speed_bin.specs.Alert.{alert}
use Rattle.speed_bin.specs.Counts.{commands}
use Rattle.command_words.specs.Kinds.{Closes, Manages, effect, is_precharge, is_rfm_all, is_rfm_same, is_mrw, is_nop}
use Rattle.speed_bin.specs.Log.{Log, Issued, open_at, raa}
use Rattle.speed_bin.specs.Weights.{sum_below}
use Rattle.speed_bin.specs.declared.header.Header.{Header}
use Rattle.requests.specs.Owed.{is_column, owed, count_below}
use Rattle.deadlines.specs.Turns.{has_request}

-- how many banks are open
unfoldable pub open_count : Log → ℕ
open_count log = count_below 32 (λ b. is_some (open_at b log))

-- 1 where an alert is raised
abbrev pub flag : Option ℕ → ℕ
flag None = 0
flag (Some raised) = 1

-- the rolling counts of all banks together
unfoldable pub raa_sum : Header → Log → ℕ
raa_sum h log = sum_below 32 (λ b. raa h b log)

-- what the policy says of a place
pub record Works (h : Header) (place : Issued) (log : Log) : Type 0 where
  -- an ACT is of a closed bank
  pub act : (bank : Bank) (row : ℕ) → place.command ≡ Act bank row → (bank_number bank < 32) × (open_at (bank_number bank) log ≡ None)
  -- a precharge closes an open bank, and none that is owed
  pub precharge : is_precharge place.command ≡ true → (b : ℕ) × (b < 32) × (effect b place.command ≡ Closes) × (open_at b log ≡ None → ⊥)
  pub unowed : (b : ℕ) → b < 32 → effect b place.command ≡ Closes → owed b log ≡ false
  -- RFMab follows an alert
  pub rfm_all : is_rfm_all place.command ≡ true → alert h log ≡ None → ⊥
  -- RFMsb is wanted
  pub rfm_same : is_rfm_same place.command ≡ true → (b : ℕ) × (b < 32) × (effect b place.command ≡ Manages) × (h.settings.raaimt ≤ raa h b log)

-- that of each place
abbrev pub AllWork : Header → Log → Type 0
AllWork h [] = ⊤
AllWork h (place ∷ log) = Works h place log × AllWork h log

-- a refresh of one address is of one of the four
abbrev pub is_addressed : Command → Bool
is_addressed (RefSb address) = nat_lt address 4
is_addressed command = true

-- that of each place
abbrev pub AllAddressed : Log → Type 0
AllAddressed [] = ⊤
AllAddressed (place ∷ log) = IsTrue (is_addressed place.command) × AllAddressed log

-- n requests were offered: those that a column served, and those that wait; each owed bank has one that waits
pub record Job (h : Header) (log : Log) (waiting : List ℕ) (n : ℕ) : Type 0 where
  pub work : AllWork h log
  pub owes : (b : ℕ) → b < 32 → owed b log ≡ true → has_request waiting b ≡ true
  pub offered : commands is_column log + length waiting ≤ n
  pub writes : commands is_mrw log ≤ 8
  pub no_nop : commands is_nop log ≡ 0
  pub some_raaimt : 1 ≤ h.settings.raaimt
