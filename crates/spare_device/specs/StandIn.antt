-- The spare stands in the place of the dead device: what four devices hold then is all that a reading of the five can show.
use Rattle.std.specs.Prelude.{ℕ, ◌==◌, ◌++◌, List, [], ◌∷◌, option_map, if◌then◌else◌}
use Rattle.device_core.specs.Steps.{Step, Issues, Flips}
use Rattle.error_scrub.specs.Changes.{Change, wrote, turns, scrubs}
use Rattle.error_scrub.specs.declared.cells.LineRead.{LineRead}
use Rattle.spare_device.specs.Spare.{part_of, spare_of}

-- a device's part of some bytes, and where it is dead the exclusive-or of the four parts
abbrev pub standing_part : ℕ → List ℕ → ℕ → List ℕ
standing_part dead bytes device = if device == dead then spare_of bytes else part_of bytes device

-- The bytes with the exclusive-or of their four parts in the place of the dead device's. Of the bytes of a line this is what the
-- live devices hold; of what they hold, it is the line.
unfoldable pub stood_in : ℕ → List ℕ → List ℕ
stood_in dead bytes = standing_part dead bytes 0 ++ standing_part dead bytes 1 ++ standing_part dead bytes 2 ++ standing_part dead bytes 3

abbrev pub restored : ℕ → LineRead → LineRead
restored dead read = record { bytes = stood_in dead read.bytes; state = read.state }

-- the place of a live device: that of the dead one for the spare
abbrev pub place_for : ℕ → ℕ → ℕ
place_for dead device = if device == 4 then dead else device

-- what the live devices are given of these changes
abbrev pub stood_changes : ℕ → List Change → List Change
stood_changes dead [] = []
stood_changes dead (wrote at bytes ∷ changes) = wrote at (stood_in dead bytes) ∷ stood_changes dead changes
stood_changes dead (turns at of bit ∷ changes) = if of == dead then stood_changes dead changes else turns at (place_for dead of) bit ∷ stood_changes dead changes
stood_changes dead (scrubs at ∷ changes) = scrubs at ∷ stood_changes dead changes

-- and of these steps
abbrev pub stood_steps : ℕ → List Step → List Step
stood_steps dead [] = []
stood_steps dead (Issues delivered ∷ steps) = Issues (record { issued = delivered.issued; bytes = option_map (stood_in dead) delivered.bytes }) ∷ stood_steps dead steps
stood_steps dead (Flips place of bit ∷ steps) = if of == dead then stood_steps dead steps else Flips place (place_for dead of) bit ∷ stood_steps dead steps
