-- What ends the reading of a trace, by the counts of faults of its source and of its sink before and after.
use Rattle.std.specs.Prelude.{ℕ, ◌≡◌}
use Rattle.ddr_io.specs.Faults.{Rose}
use Rattle.foreign_traces.specs.declared.stop.Stop.{Stop}
use Rattle.foreign_traces.specs.declared.stop.Stop.TheVariants.{Line, LineTooLong, LineUnended, ReadFault, WriteFault, OutOfMemory}

-- what only writes tells a fault of writing where its sink counted one, and nothing else is counted
abbrev pub IsWriteCause : {F : Type 0} → ℕ → ℕ → Stop F → Type 0
IsWriteCause wrote wrote_after (Line number fault) = wrote_after ≡ wrote
IsWriteCause wrote wrote_after (LineTooLong number) = wrote_after ≡ wrote
IsWriteCause wrote wrote_after (LineUnended number) = wrote_after ≡ wrote
IsWriteCause wrote wrote_after ReadFault = ⊥
IsWriteCause wrote wrote_after WriteFault = Rose wrote wrote_after
IsWriteCause wrote wrote_after OutOfMemory = wrote_after ≡ wrote

-- a fault is told where the source or the sink counted one, and nothing else is counted
abbrev pub IsCause : {F : Type 0} → ℕ → ℕ → ℕ → ℕ → Stop F → Type 0
IsCause read read_after wrote wrote_after (Line number fault) = (read_after ≡ read) × (wrote_after ≡ wrote)
IsCause read read_after wrote wrote_after (LineTooLong number) = (read_after ≡ read) × (wrote_after ≡ wrote)
IsCause read read_after wrote wrote_after (LineUnended number) = (read_after ≡ read) × (wrote_after ≡ wrote)
IsCause read read_after wrote wrote_after ReadFault = Rose read read_after × (wrote_after ≡ wrote)
IsCause read read_after wrote wrote_after WriteFault = (read_after ≡ read) × Rose wrote wrote_after
IsCause read read_after wrote wrote_after OutOfMemory = (read_after ≡ read) × (wrote_after ≡ wrote)
