-- What the bound on activations speaks of: logs that keep five of the rules, and the marks of a bank.
use Rattle.std.specs.Prelude.{◌≡◌, ◌<◌, ℕ, suc, Bool, true, ◌&&◌, ◌||◌, nat_lt, if◌then◌else◌, [], ◌∷◌, IsTrue, ⊤}
use Rattle.command_words.specs.Command.{bank_number}
use Rattle.command_words.specs.declared.place.Bank.{Bank}
use Rattle.command_words.specs.declared.command.Command.{Command}
use Rattle.command_words.specs.declared.command.Command.TheVariants.{Act}
use Rattle.speed_bin.specs.Below.{all_below}
use Rattle.command_words.specs.Kinds.{Effect, Opens, Closes, Manages, Refreshes, Leaves, effect, is_rfm_all}
use Rattle.speed_bin.specs.Log.{Issued, Log}
use Rattle.speed_bin.specs.Present.{has_bank, is_present}
use Rattle.speed_bin.specs.Counters.{acts}
use Rattle.speed_bin.specs.Rules.{rule_1, rule_2, rule_4, rule_5, rule_12}
use Rattle.speed_bin.specs.declared.header.Header.{Header}

-- the bank is one of the header's groups
abbrev pub is_bank : Header → Bank → Bool
is_bank h bank = is_present h.version.groups bank

-- an ACT opens a row of the header
abbrev pub opens_inside : Header → Command → Bool
opens_inside h (Act bank row) = nat_lt row h.settings.rows
opens_inside h _ = true

-- and a command that names one bank names one of the header's
abbrev pub stays_inside : Header → Command → Bool
stays_inside h command = opens_inside h command && has_bank h.version.groups command

-- each command of the log is within the header's ranges
abbrev pub RowsInRange : Header → Log → Type 0
RowsInRange h [] = ⊤
RowsInRange h (place ∷ log) = RowsInRange h log × IsTrue (stays_inside h place.command)

-- each ACT of the log opens a row of one of the 32 banks
abbrev pub BanksInRange : Log → Type 0
BanksInRange [] = ⊤
BanksInRange (place ∷ log) = BanksInRange log × ((bank : Bank) (row : ℕ) → place.command ≡ Act bank row → bank_number bank < 32)

-- a place that keeps rules 1, 2, 4, 5 and 12
pub record KeepsAt (h : Header) (place : Issued) (log : Log) : Type 0 where
  pub in_range : IsTrue (stays_inside h place.command)
  pub first : IsTrue (rule_1 place.clock log)
  pub second : IsTrue (rule_2 h.timing place.clock place.command log)
  pub fourth : IsTrue (rule_4 place.command log)
  pub fifth : IsTrue (rule_5 place.command log)
  pub twelfth : IsTrue (rule_12 h place.clock place.command log)

abbrev pub Keeps : Header → Log → Type 0
Keeps h [] = ⊤
Keeps h (place ∷ log) = Keeps h log × KeepsAt h place log

-- all rows of the bank have fewer than ATH activations
abbrev pub is_calm : Header → ℕ → Log → Bool
is_calm h b log = all_below h.settings.rows (λ row. nat_lt (acts h b row log) h.settings.ath)

-- a mark of a bank: RFMab, or a place at which the bank is calm
abbrev pub is_mark : Header → ℕ → Log → Bool
is_mark h b [] = true
is_mark h b (place ∷ log) = is_rfm_all place.command || is_calm h b (place ∷ log)

abbrev pub opens_one : Effect → ℕ → ℕ
opens_one (Opens row) n = suc n
opens_one Closes n = n
opens_one Manages n = n
opens_one Refreshes n = n
opens_one Leaves n = n

-- the ACTs of the bank since its last mark
abbrev pub acts_since_mark : Header → ℕ → Log → ℕ
acts_since_mark h b [] = 0
acts_since_mark h b (place ∷ log) = if is_mark h b (place ∷ log) then 0 else opens_one (effect b place.command) (acts_since_mark h b log)
