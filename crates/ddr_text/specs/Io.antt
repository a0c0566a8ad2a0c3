-- What a call that reads and writes found, and what it left.
use Rattle.std.specs.Prelude.{ℕ, List}
use Rattle.std.specs.declared.option.Option.{Option}

-- the bytes that its source had before the call and has left after it, and those that were written to its sink before the
-- call and after it; each where they are told
pub record Io : Type 0 where
  pub had : Option (List ℕ)
  pub left : Option (List ℕ)
  pub written_before : Option (List ℕ)
  pub written_after : Option (List ℕ)

abbrev pub io : Option (List ℕ) → Option (List ℕ) → Option (List ℕ) → Option (List ℕ) → Io
io had left before after = record { had = had; left = left; written_before = before; written_after = after }
