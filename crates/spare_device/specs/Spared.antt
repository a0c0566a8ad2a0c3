-- What `spare` writes of the bytes of a script. `docs/FORMATS.md` has the same in words.
use Rattle.std.specs.Prelude.{ℕ, ◌≡◌, ⊤, Option, Some, None, List, []}
use Rattle.ddr_text.specs.Opening.{opening_of}
use Rattle.ddr_text.specs.Outcome.{Outcome}
use Rattle.device_core.specs.Stored.{changes_of}
use Rattle.device_exec.specs.Executed.{executed_in}
use Rattle.device_exec.specs.Scripts.{Devices}
use Rattle.spare_device.specs.Spare.{spare_reading}

-- five devices of which this one is dead: what their readings find, and no counts
abbrev pub five_devices : ℕ → Devices
five_devices dead = record {
  count = 5;
  reading = λ h steps line. spare_reading dead (changes_of h steps) line;
  counts = λ h steps. [];
}

-- what is written of the bytes of a script
abbrev pub spared : ℕ → List ℕ → Outcome
spared dead bytes = executed_in (five_devices dead) (opening_of bytes)

-- that is what is written of the bytes, where they are known
abbrev pub IsSpared : ℕ → Option (List ℕ) → Outcome → Type 0
IsSpared dead None it = ⊤
IsSpared dead (Some bytes) it = spared dead bytes ≡ it
