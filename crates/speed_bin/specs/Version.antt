-- What the separator of a job states of its header: the activations of one bank in a back-off cycle, and the bank groups.
use Rattle.std.specs.Prelude.{ℕ, ◌≤◌}
use Rattle.command_words.specs.Geometry.{IsGroups}

-- what a contract sees of a `Version`
pub record Figures : Type 0 where
  pub cycle : ℕ
  pub groups : ℕ

-- a cycle of 2 to 5 activations, and 4 or 8 bank groups
abbrev pub IsVersion : Figures → Type 0
IsVersion v = (2 ≤ v.cycle) × (v.cycle ≤ 5) × IsGroups v.groups

-- those of a separator that states none: a cycle of 4 activations, and 8 bank groups
abbrev pub plain : Figures
plain = record { cycle = 4; groups = 8 }
