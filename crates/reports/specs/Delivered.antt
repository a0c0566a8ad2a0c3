-- What a run is to a device: commands, each WR with the bytes of the W line that it serves, and stored bits that are turned.
use Rattle.std.specs.Prelude.{ℕ, ◌-◌, ◌<◌, Option, Some, None, List, [], ◌∷◌, slice_get, ⊤}
use Rattle.command_words.specs.Geometry.{Shape, lines_of}
use Rattle.command_words.specs.Place.{place_of}
use Rattle.speed_bin.specs.declared.header.Header.{Header}
use Rattle.ondie_ecc.specs.Bits.{IsBytes}
use Rattle.device_core.specs.Steps.{Step as DeviceStep, Issues as Gives, Flips as Turns}
use Rattle.speed_bin.specs.Header.{shape_of}
use Rattle.ddr_text.specs.declared.lines.TraceLine.{TraceLine}
use Rattle.ddr_text.specs.declared.lines.TraceLine.TheVariants.{Read, Write, Flip, Idle}
use Rattle.reports.specs.Requests.{Request}
use Rattle.reports.specs.Runs.{Run, Issues, Flips}

-- the bytes that a trace line brings: those of a W line
abbrev pub bytes_in : Option TraceLine → Option (List ℕ)
bytes_in (Some (Write line bytes)) = Some bytes
bytes_in (Some (Read line)) = None
bytes_in (Some (Flip line device bit)) = None
bytes_in (Some (Idle clocks)) = None
bytes_in None = None

-- the bytes for a request
abbrev pub bytes_for : List TraceLine → Option Request → Option (List ℕ)
bytes_for trace None = None
bytes_for trace (Some r) = bytes_in (slice_get trace (r.number - 1))

-- one step more, where the trace line is an F line: it turns a stored bit
abbrev pub with_flip : Shape → Option TraceLine → List DeviceStep → List DeviceStep
with_flip g (Some (Flip line device bit)) steps = Turns (place_of line g) device bit ∷ steps
with_flip g (Some (Read line)) steps = steps
with_flip g (Some (Write line bytes)) steps = steps
with_flip g (Some (Idle clocks)) steps = steps
with_flip g None steps = steps

-- the steps of a device
abbrev pub device_steps : Header → List TraceLine → Run → List DeviceStep
device_steps h trace [] = []
device_steps h trace (Issues s ∷ run) = Gives (record { issued = s.issued; bytes = bytes_for trace s.request }) ∷ device_steps h trace run
device_steps h trace (Flips number ∷ run) = with_flip (shape_of h) (slice_get trace (number - 1)) (device_steps h trace run)

-- ---- Traces of a subchannel

-- the line is one of the subchannel, a W line has 64 bytes, and an F line names one of four devices and a bit of a codeword
abbrev pub IsInside : Shape → TraceLine → Type 0
IsInside g (Read line) = line < lines_of g
IsInside g (Write line bytes) = (line < lines_of g) × IsBytes 64 bytes
IsInside g (Flip line device bit) = (line < lines_of g) × (device < 4) × (bit < 136)
IsInside g (Idle clocks) = ⊤

abbrev pub AreInside : Shape → List TraceLine → Type 0
AreInside g [] = ⊤
AreInside g (line ∷ trace) = IsInside g line × AreInside g trace
