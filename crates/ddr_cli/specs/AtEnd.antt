-- The status that the program ends with.
use Rattle.std.specs.Prelude.{ℕ, ◌≡◌, ◌⊎◌, Bool, if◌then◌else◌}
use Rattle.ddr_io.specs.declared.Status.{Status}
use Rattle.ddr_io.specs.declared.Status.TheVariants as status

-- a failed flush is a write fault, but behind another fault
abbrev pub status_at_end : Status → Bool → Status
status_at_end status.Ok flushed = if flushed then status.Ok else status.WriteFault
status_at_end status.Refused flushed = if flushed then status.Refused else status.WriteFault
status_at_end status.Broken flushed = if flushed then status.Broken else status.WriteFault
status_at_end status.Usage flushed = status.Usage
status_at_end status.ReadFault flushed = status.ReadFault
status_at_end status.WriteFault flushed = status.WriteFault
status_at_end status.OutOfMemory flushed = status.OutOfMemory

-- the statuses that are no fault: the input was read and answered
abbrev pub IsAnswer : Status → Type 0
IsAnswer it = (it ≡ status.Ok) ⊎ (it ≡ status.Refused) ⊎ (it ≡ status.Broken)

-- the number that the process ends with
abbrev pub number_of : Status → ℕ
number_of status.Ok = 0
number_of status.Refused = 1
number_of status.Usage = 2
number_of status.ReadFault = 3
number_of status.WriteFault = 4
number_of status.OutOfMemory = 5
number_of status.Broken = 6
