-- The banks that a command covers, as a set.
use Rattle.std.specs.Prelude.{ℕ, ◌<◌, Bool, true, false, ◌==◌}
use Rattle.command_words.specs.Command.{is_at}
use Rattle.timing_rules.specs.declared.scope.Scope.{Scope}
use Rattle.timing_rules.specs.declared.scope.Scope.TheVariants.{Bank, Address, All, Nothing}

-- the bank with this number is one of them
abbrev pub is_within : Scope → ℕ → Bool
is_within (Bank own) b = own == b
is_within (Address own) b = is_at own b
is_within All b = true
is_within Nothing b = false

-- the number of a bank is below 32, with 4 groups too, and a bank address below 4
abbrev pub IsScope : Scope → Type 0
IsScope (Bank own) = own < 32
IsScope (Address own) = own < 4
IsScope All = Unit {0}
IsScope Nothing = Unit {0}

-- some bank is in both
abbrev pub overlap_of : Scope → Scope → Bool
overlap_of (Bank own) (Bank other) = own == other
overlap_of (Bank own) (Address other) = is_at other own
overlap_of (Bank own) All = true
overlap_of (Bank own) Nothing = false
overlap_of (Address own) (Bank other) = is_at own other
overlap_of (Address own) (Address other) = own == other
overlap_of (Address own) All = true
overlap_of (Address own) Nothing = false
overlap_of All (Bank other) = true
overlap_of All (Address other) = true
overlap_of All All = true
overlap_of All Nothing = false
overlap_of Nothing second = false
