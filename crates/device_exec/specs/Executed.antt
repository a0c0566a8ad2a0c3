-- What `exec` writes of the bytes of a script. `docs/FORMATS.md` has the same in words.
use Rattle.std.specs.Prelude.{ℕ, ◌≡◌, ⊤, Option, Some, None, List, [], ◌∷◌}
use Rattle.ddr_io.specs.declared.status.Status.TheVariants as status
use Rattle.ddr_text.specs.Opening.{Opens, Accepts, Refuses, opening_of, parts_of}
use Rattle.ddr_text.specs.Spelling.{spelled}
use Rattle.ddr_text.specs.declared.lines.ReportLine.TheVariants.{Stat as StatLine, Refused as RefusedLine}
use Rattle.ddr_text.specs.declared.lines.StatName.TheVariants.{Peak, Found, Lost, Worst}
use Rattle.device_core.specs.Steps.{log_of}
use Rattle.device_core.specs.Stored.{changes_of, reading, scrub_counts}
use Rattle.speed_bin.specs.Counts.{peak}
use Rattle.speed_bin.specs.Header.{shape_of}
use Rattle.speed_bin.specs.declared.header.Header.{Header}
use Rattle.ddr_text.specs.Outcome.{Outcome}
use Rattle.device_exec.specs.Reading.{Lines, lines_in}
use Rattle.device_exec.specs.Scripts.{Devices, Execution, begun, outcome_of, ran}
use Rattle.device_exec.specs.declared.script_reader.Stage.TheVariants.{Body}

-- a device model's four devices: what its readings find, and its peak and the counts of its scrub
abbrev pub four_devices : Devices
four_devices = record {
  count = 4;
  reading = λ h steps line. reading (changes_of h steps) line;
  counts = λ h steps.
      StatLine Peak (peak h (log_of steps)) ∷ StatLine Found (scrub_counts h steps).found
      ∷ StatLine Lost (scrub_counts h steps).lost ∷ StatLine Worst (scrub_counts h steps).worst ∷ [];
}

-- the lines of a script for so many devices, behind its opening
abbrev pub script_lines : ℕ → Header → List ℕ → Lines
script_lines count h rest = lines_in (shape_of h) count Body 1 (parts_of rest)

-- what comes of a script behind its opening
abbrev pub execution : Devices → Header → List ℕ → Execution
execution d h rest = ran d h begun (script_lines d.count h rest)

-- what is written of a script that is opened so, and with which status
abbrev pub executed_in : Devices → Opens → Outcome
executed_in d (Accepts h text rest) = outcome_of text (execution d h rest)
executed_in d (Refuses reason) = record { text = spelled (RefusedLine 0 reason); status = status.Refused }

-- what is written of the bytes of a script
abbrev pub executed : List ℕ → Outcome
executed bytes = executed_in four_devices (opening_of bytes)

-- that is what is written of the bytes, where they are known
abbrev pub IsExecuted : Option (List ℕ) → Outcome → Type 0
IsExecuted None it = ⊤
IsExecuted (Some bytes) it = executed bytes ≡ it
