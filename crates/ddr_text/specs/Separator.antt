-- The line that ends a header: `---`, or `--- 2 A G`, which states the activations of a back-off cycle and the bank groups.
use Rattle.std.specs.Prelude.{ℕ, ◌==◌, ◌&&◌, ◌||◌, nat_le, bytes_eq, if◌then◌else◌, List, [], ◌∷◌, codes, Option, Some, None, Result, Ok, Err}
use Rattle.speed_bin.specs.Version.{Figures, plain}
use Rattle.ddr_text.specs.Grammar.{fields_of, number_of, three_fields}
use Rattle.ddr_text.specs.declared.lines.LineFault.{LineFault}

-- what a line is: the separator of a header with this version; one that begins so and is none; or a line of the header
pub data Role : Type 0 where
  Ends : Figures → Role
  Faulty : Role
  Text : Role

-- the version of a cycle of 2 to 5 activations and of 4 or 8 bank groups
abbrev pub version_of : ℕ → ℕ → Option Figures
version_of cycle groups = if (nat_le 2 cycle && nat_le cycle 5) && (groups == 4 || groups == 8) then Some (record { cycle = cycle; groups = groups }) else None

abbrev pub version_if : Result ℕ LineFault → Result ℕ LineFault → Option Figures
version_if (Ok cycle) (Ok groups) = version_of cycle groups
version_if (Ok cycle) (Err fault) = None
version_if (Err fault) groups = None

abbrev pub version_at : Result (List ℕ × List ℕ × List ℕ) LineFault → Option Figures
version_at (Ok (two, cycle, groups)) = if bytes_eq two (codes "2") then version_if (number_of cycle) (number_of groups) else None
version_at (Err fault) = None

-- the version that the fields behind `---` state: `2`, the cycle and the groups
unfoldable pub version_in : List (List ℕ) → Option Figures
version_in fields = version_at (three_fields fields)

abbrev pub ends_or_faulty : Option Figures → Role
ends_or_faulty (Some version) = Ends version
ends_or_faulty None = Faulty

-- behind `---`: no field, or those of a version
abbrev pub role_behind : List (List ℕ) → Role
role_behind [] = Ends plain
role_behind (field ∷ more) = ends_or_faulty (version_in (field ∷ more))

abbrev pub role_of : List (List ℕ) → Role
role_of [] = Text
role_of (first ∷ rest) = if bytes_eq first (codes "---") then role_behind rest else Text

-- what a line before a header's end is, by its fields between single spaces
unfoldable pub role_of_line : List ℕ → Role
role_of_line line = role_of (fields_of line)
