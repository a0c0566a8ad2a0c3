-- The lines of one rank in the bytes of a report of two.
use Rattle.std.specs.Prelude.{ℕ, ◌==◌, if◌then◌else◌, List, [], ◌∷◌}
use Rattle.std.specs.List.{flat_map}
use Rattle.ddr_text.specs.Opening.{parts_of, with_feed}

-- where a line begins with this digit, what stands behind it and the byte that follows it
abbrev pub own_line : ℕ → List ℕ → List ℕ
own_line digit [] = []
own_line digit (first ∷ []) = []
own_line digit (first ∷ space ∷ rest) = if first == digit then with_feed rest else []

-- the lines of some bytes that begin with this digit, without their first two bytes
abbrev pub own_lines : ℕ → List ℕ → List ℕ
own_lines digit bytes = flat_map (own_line digit) (parts_of bytes)
