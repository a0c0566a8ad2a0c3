-- The cause of a stop.
use Rattle.std.proofs.Common.{ℕ, ◌≡◌, ◌∙◌, subst}
use Rattle.ddr_io.specs.Faults.{Rose}
use Rattle.foreign_traces.specs.Ending.{IsCause, IsWriteCause}
use Rattle.foreign_traces.specs.declared.stop.Stop.{Stop}
use Rattle.foreign_traces.specs.declared.stop.Stop.TheVariants.{Line, LineTooLong, LineUnended, ReadFault, WriteFault, OutOfMemory}

-- what stops a write in a run that counted no fault before stops the run
pub write_causes : {F : Type 0} (read read_after wrote wrote_now wrote_after : ℕ) (stop : Stop F) → IsWriteCause wrote_now wrote_after stop
    → wrote_now ≡ wrote → read_after ≡ read → IsCause read read_after wrote wrote_after stop
write_causes read read_after wrote wrote_now wrote_after (Line number fault) cause kept same = (same, cause ∙ kept)
write_causes read read_after wrote wrote_now wrote_after (LineTooLong number) cause kept same = (same, cause ∙ kept)
write_causes read read_after wrote wrote_now wrote_after (LineUnended number) cause kept same = (same, cause ∙ kept)
write_causes read read_after wrote wrote_now wrote_after ReadFault cause kept same = absurd cause
write_causes read read_after wrote wrote_now wrote_after WriteFault cause kept same = (same, subst (λ (count : ℕ). Rose count wrote_after) kept cause)
write_causes read read_after wrote wrote_now wrote_after OutOfMemory cause kept same = (same, cause ∙ kept)
