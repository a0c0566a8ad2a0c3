-- A log of commands, and the state of the banks that it leaves.
-- A log stands newest first: its head is the last place, and its tail is the log before that place. So "at i" or "up
-- to i" is the log of the first i places, the number of a place is the length of the log that ends with it, and each
-- definition says what one more command does. A bank is spoken of by its number, group * 4 + address, below 32.
use Rattle.std.specs.Prelude.{ℕ, ◌+◌, ◌-◌, ◌/◌, List, [], ◌∷◌, count_by, Option, Some, None}
use Rattle.command_words.specs.declared.command.Command.{Command}
use Rattle.command_words.specs.Kinds.{Effect, Opens, Closes, Manages, Refreshes, Leaves, effect, refreshes, is_scrub}
use Rattle.speed_bin.specs.declared.header.Header.{Header}

-- one place of a log: a command and the clock at which it was issued
pub record Issued : Type 0 where
  pub clock : ℕ
  pub command : Command

abbrev pub Log : Type 0
Log = List Issued

-- the clock of the last place, 0 where there is none
abbrev pub last_clock : Log → ℕ
last_clock [] = 0
last_clock (place ∷ log) = place.clock

-- ---- Open rows

-- the open row of a bank after a command with this effect, with the one before it
abbrev pub open_after : Effect → Option ℕ → Option ℕ
open_after (Opens row) before = Some row
open_after Closes before = None
open_after Manages before = before
open_after Refreshes before = before
open_after Leaves before = before

-- the open row of a bank: that of its last ACT, unless a precharge that covers the bank stands after it
abbrev pub open_at : ℕ → Log → Option ℕ
open_at b [] = None
open_at b (place ∷ log) = open_after (effect b place.command) (open_at b log)

-- ---- Refreshes and scrubs

-- the refreshes of the banks with this address
abbrev pub refs : ℕ → Log → ℕ
refs address log = count_by (λ place. refreshes address place.command) log

-- the ECS commands (error check and scrub), each of one line
abbrev pub scrubs : Log → ℕ
scrubs log = count_by (λ place. is_scrub place.command) log

-- ---- Rolling counts: the rolling accumulated ACT (RAA) counts of refresh management

-- an ACT adds 1, an RFM takes RAAIMT, a REF takes half of it rounded down, and none goes below 0
abbrev pub raa_after : Header → Effect → ℕ → ℕ
raa_after h (Opens row) before = before + 1
raa_after h Closes before = before
raa_after h Manages before = before - h.settings.raaimt
raa_after h Refreshes before = before - h.settings.raaimt / 2
raa_after h Leaves before = before

-- the RAA count of a bank
abbrev pub raa : Header → ℕ → Log → ℕ
raa h b [] = 0
raa h b (place ∷ log) = raa_after h (effect b place.command) (raa h b log)
