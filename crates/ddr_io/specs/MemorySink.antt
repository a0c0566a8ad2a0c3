-- What a sink into memory takes, with faults at listed calls.
use Rattle.std.specs.Prelude.{ℕ, ◌≡◌, List, Bool, true, false}
use Rattle.ddr_io.specs.Sink.{TakesAllOrNone}
use Rattle.ddr_io.specs.Calls.{Calling}
use Rattle.ddr_io.specs.declared.sink.Put.{Put}
use Rattle.ddr_io.specs.declared.sink.Put.TheVariants.{Failed}

-- the bytes that were written, and its calls of `write`
pub record Taking : Type 0 where
  pub written : List ℕ
  pub calls : Calling

-- a write that fails takes nothing; any other takes the whole piece, or has no memory for it
abbrev pub WritesOrFails : Bool → List ℕ → List ℕ → Put → List ℕ → Type 0
WritesOrFails true old new put piece = (put ≡ Failed) × (new ≡ old)
WritesOrFails false old new put piece = TakesAllOrNone old new put piece
