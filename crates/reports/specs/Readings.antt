-- What the RD that serves a read finds in the stored words.
use Rattle.std.specs.Prelude.{ℕ, if◌then◌else◌, List, [], ◌∷◌}
use Rattle.speed_bin.specs.declared.header.Header.{Header}
use Rattle.error_scrub.specs.Changes.{Change}
use Rattle.error_scrub.specs.declared.cells.LineRead.{LineRead}
use Rattle.device_core.specs.Stored.{changes_of, reading}
use Rattle.ddr_text.specs.declared.lines.TraceLine.{TraceLine}
use Rattle.reports.specs.Requests.{Request}
use Rattle.reports.specs.Runs.{Run, is_served}
use Rattle.reports.specs.Delivered.{device_steps}

-- what a run did to the stored words: lines written, bits turned, lines scrubbed
abbrev pub changes : Header → List TraceLine → Run → List Change
changes h trace run = changes_of h (device_steps h trace run)

-- The run before the step that serves the request with this number. Later steps change nothing of it.
abbrev pub before : ℕ → Run → Run
before number [] = []
before number (step ∷ run) = if is_served number run then before number run else run

-- what was done to the stored words before the request was served
abbrev pub changes_before : Header → List TraceLine → Run → Request → List Change
changes_before h trace run r = changes h trace (before r.number run)

-- the reading of the request's line then
abbrev pub reading_of : Header → List TraceLine → Run → Request → LineRead
reading_of h trace run r = reading (changes_before h trace run r) r.line
