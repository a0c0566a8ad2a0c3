-- Digits, their values, and the bytes of pairs of them, index by index.
use Rattle.std.specs.Prelude.{ℕ, ◌+◌, ◌*◌, ◌<◌, ◌≡◌, true, List, Some, slice_index}
use Rattle.hex.specs.Hex.{hex_digit_value}
use Rattle.ddr_text.specs.ReportGrammar.{is_lower_digit}

-- the first n digits have these values
abbrev pub HaveValues : List ℕ → List ℕ → ℕ → Type 0
HaveValues field values n = (j : ℕ) → j < n → hex_digit_value (slice_index field j) ≡ Some (slice_index values j)

-- the first n digits are lower-case ones
abbrev pub AreLower : List ℕ → ℕ → Type 0
AreLower field n = (j : ℕ) → j < n → is_lower_digit (slice_index field j) ≡ true

-- the first n bytes are pairs of these values
abbrev pub ArePairs : List ℕ → List ℕ → ℕ → Type 0
ArePairs values bytes n = (j : ℕ) → j < n → slice_index bytes j ≡ slice_index values (2 * j) * 16 + slice_index values (2 * j + 1)
