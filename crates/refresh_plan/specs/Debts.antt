-- Debts of refreshes.
use Rattle.std.specs.Prelude.{ℕ, ◌/◌, ◌<◌, ℤ, pos, ◌-ℤ◌, ◌≤ℤ◌, ◌<ℤ◌}
use Rattle.speed_bin.specs.declared.header.Header.{Header}
use Rattle.speed_bin.specs.Log.{Log, refs}
use Rattle.refresh_plan.specs.declared.due_refresh.Due.{Due}
use Rattle.refresh_plan.specs.declared.due_refresh.Due.TheVariants.{All, Same}

-- the refresh intervals that passed before the clock, less the refreshes of the address
abbrev pub debt : Header → ℕ → ℕ → Log → ℤ
debt h clock address log = pos (clock / h.timing.nrefi) -ℤ pos (refs address log)

-- every debt is below 2
abbrev pub IsNothingDue : Header → ℕ → Log → Type 0
IsNothingDue h clock log = (address : ℕ) → address < 4 → debt h clock address log <ℤ pos 2

-- the address has the greatest debt, and is the first that has it
pub record IsMostBehind (h : Header) (clock : ℕ) (log : Log) (address : ℕ) : Type 0 where
  pub in_range : address < 4
  pub greatest : (other : ℕ) → other < 4 → debt h clock other log ≤ℤ debt h clock address log
  pub first : (other : ℕ) → other < address → debt h clock other log <ℤ debt h clock address log

-- due are the banks with that address
abbrev pub IsDueFirst : Header → ℕ → Log → Due → Type 0
IsDueFirst h clock log All = ⊥
IsDueFirst h clock log (Same address) = IsMostBehind h clock log address
