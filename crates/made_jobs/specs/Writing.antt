-- What a call has written of a piece, by its answer.
use Rattle.std.specs.Prelude.{ℕ, List}
use Rattle.std.specs.declared.option.Option.{Option}
use Rattle.std.specs.Io.KnownBytes.{Appends}
use Rattle.ddr_io.specs.Sink.{AppendsPrefix}
use Rattle.ddr_io.specs.declared.status.Status.{Status}
use Rattle.ddr_io.specs.declared.status.Status.TheVariants as status

-- the whole piece at Ok, a prefix of it after a write fault or for want of memory, and no other answer
abbrev pub Writes : Status → Option (List ℕ) → Option (List ℕ) → List ℕ → Type 0
Writes status.Ok before after piece = Appends before after piece
Writes status.WriteFault before after piece = AppendsPrefix before after piece
Writes status.OutOfMemory before after piece = AppendsPrefix before after piece
Writes status.Refused before after piece = ⊥
Writes status.Usage before after piece = ⊥
Writes status.ReadFault before after piece = ⊥
Writes status.Broken before after piece = ⊥
