-- Clocks without a gap between them.
use Rattle.std.specs.Prelude.{ℕ, ◌≤◌, nat_le, if◌then◌else◌, Option, Some, None}
use Rattle.legality.specs.declared.span.Span.{Span}

abbrev pub IsWithin : Span → ℕ → Type 0
IsWithin span clock = (span.first ≤ clock) × (clock ≤ span.last)

-- its first and its last clock, where it has any
abbrev pub clocks_of : Span → Option (ℕ × ℕ)
clocks_of span = if nat_le span.first span.last then Some (span.first, span.last) else None
