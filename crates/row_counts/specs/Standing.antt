-- What a bank's row counters say of a log.
use Rattle.std.specs.Prelude.{◌≡◌, ◌≤◌, ◌<◌, ◌+◌, ◌^◌, ◌⊎◌, ℕ, nat_lt, if◌then◌else◌, Option, Some, None, is_some, List, [], ◌∷◌, length, slice_index_or, ⊤}
use Rattle.command_words.specs.declared.command.Command.{Command}
use Rattle.command_words.specs.Kinds.{Effect, Opens, Closes, Manages, Refreshes, Leaves, effect}
use Rattle.row_order.specs.Entries.{Entry, times}
use Rattle.row_order.specs.Standing.{StandsFor as OrderStandsFor}
use Rattle.speed_bin.specs.declared.header.Header.{Header}
use Rattle.speed_bin.specs.Header.{bound}
use Rattle.speed_bin.specs.Log.{Log, open_at}
use Rattle.speed_bin.specs.Counters.{Counter, counters, count_of, mitigated}
use Rattle.row_counts.specs.Held.{Held}

-- the number of the place that last closed or mitigated the row; 0 if none did
abbrev pub stamp_of : List Counter → ℕ → ℕ
stamp_of cs row = (slice_index_or cs row (record { count = 0; stamp = 0 })).stamp

-- the row was changed before the other; of two that never were, it is the lesser
abbrev pub IsEarlier : List Counter → ℕ → ℕ → Type 0
IsEarlier cs row other = (stamp_of cs row < stamp_of cs other) ⊎ ((stamp_of cs row ≡ stamp_of cs other) × (row < other))

-- each entry has the property
abbrev pub Each : (Entry → Type 0) → List Entry → Type 0
Each P [] = Unit {0}
Each P (e ∷ es) = P e × Each P es

abbrev pub IsInOrder : List Counter → List Entry → Type 0
IsInOrder cs [] = Unit {0}
IsInOrder cs (e ∷ es) = Each (λ f. IsEarlier cs e.row f.row) es × IsInOrder cs es

-- the list has each row once, with the count of its counter, in the order of the last changes, of which none has a
-- greater number than this one
pub record IsListOf (cs : List Counter) (last : ℕ) (es : List Entry) : Type 0 where
  pub once : (row : ℕ) → times row es ≡ (if nat_lt row (length cs) then 1 else 0)
  pub counts : Each (λ e. e.count ≡ count_of cs e.row) es
  pub order : IsInOrder cs es
  pub stamps : (row : ℕ) → stamp_of cs row ≤ last

-- the row, if it is one of so many
abbrev pub among : ℕ → Option ℕ → Option ℕ
among rows None = None
among rows (Some row) = if nat_lt row rows then Some row else None

-- the row whose counter a place changes: of the bank's rows the one that it closes or mitigates
abbrev pub row_changed : Header → Effect → Option ℕ → List Counter → Option ℕ
row_changed h Closes opened cs = among (length cs) opened
row_changed h Manages opened cs = among (length cs) (mitigated h Manages cs)
row_changed h (Opens row) opened cs = None
row_changed h Refreshes opened cs = None
row_changed h Leaves opened cs = None

abbrev pub changed_at : Header → ℕ → Command → Log → Option ℕ
changed_at h b command log = row_changed h (effect b command) (open_at b log) (counters h b log)

-- how many closings and mitigations of the bank's rows the log has
abbrev pub changes_in : Header → ℕ → Log → ℕ
changes_in h b [] = 0
changes_in h b (place ∷ log) = (if is_some (changed_at h b place.command log) then 1 else 0) + changes_in h b log

-- what a place met: a change of a row comes after fewer than 2^48 changes, and a closing while the row's counter is below the bound
abbrev pub IsMet : Header → Effect → List Counter → ℕ → Option ℕ → Type 0
IsMet h e cs before None = ⊤
IsMet h e cs before (Some row) = (before < 2 ^ 48) × (e ≡ Closes → count_of cs row < bound h)

abbrev pub AllMet : Header → ℕ → Log → Type 0
AllMet h b [] = ⊤
AllMet h b (place ∷ log) = AllMet h b log × IsMet h (effect b place.command) (counters h b log) (changes_in h b log) (changed_at h b place.command log)

-- the thresholds, the rows and the levels are the header's, and the row order stands for a list of the bank's counters
-- in the log, each change of which met its conditions
pub record Keeps (it : Held) (h : Header) (b : ℕ) (log : Log) : Type 0 where
  pub ath : it.ath ≡ h.settings.ath
  pub eth : it.eth ≡ h.settings.eth
  pub rows : it.order.rows ≡ h.settings.rows
  pub levels : it.order.levels ≡ bound h + 1
  pub list : List Entry
  pub stands : OrderStandsFor it.order list
  pub counters : IsListOf (counters h b log) (length log) list
  pub changes : it.changes ≡ changes_in h b log
  pub met : AllMet h b log

-- the counters stand for those of the bank in the log; how is their own affair
unfoldable pub StandsFor : Held → Header → ℕ → Log → Type 0
StandsFor it h b log = Keeps it h b log
