-- The lines of a report, as a function of a trace and a run of it.
use Rattle.std.specs.Prelude.{ℕ, ◌-◌, Bool, true, false, Option, Some, None, List, [], ◌∷◌, ◌++◌, map, filter, slice_get}
use Rattle.speed_bin.specs.Log.{Issued, Log, last_clock}
use Rattle.speed_bin.specs.declared.header.Header.{Header}
use Rattle.ddr_text.specs.declared.lines.TraceLine.{TraceLine}
use Rattle.ddr_text.specs.declared.lines.TraceLine.TheVariants.{Read, Write, Flip, Idle}
use Rattle.ddr_text.specs.declared.lines.ReportLine.{ReportLine}
use Rattle.ddr_text.specs.declared.lines.ReportLine.TheVariants.{Issued as IssuedLine, Value as ValueLine, Flip as FlipLine, Stat as StatLine, End as EndLine, Refused as RefusedLine}
use Rattle.reports.specs.Requests.{Request, requests, reads}
use Rattle.reports.specs.Runs.{Step, Issues, Flips, Run, log_of, ready, held}
use Rattle.reports.specs.Readings.{reading_of}

-- the D line of an R line that the run serves: what its RD found
abbrev pub answer : Header → List TraceLine → Run → Request → ReportLine
answer h trace run r = ValueLine r.number r.line (reading_of h trace run r).bytes (reading_of h trace run r).state

-- the D lines of those that read
abbrev pub answers : Header → List TraceLine → Run → List Request → List ReportLine
answers h trace run rs = map (answer h trace run) (reads rs)

abbrev pub issued_line : Issued → ReportLine
issued_line issued = IssuedLine issued.clock issued.command

-- the F line of a trace's F line, at this clock
abbrev pub flip_lines : ℕ → Option TraceLine → List ReportLine
flip_lines clock (Some (Flip line device bit)) = FlipLine clock line device bit ∷ []
flip_lines clock (Some (Read line)) = []
flip_lines clock (Some (Write line bytes)) = []
flip_lines clock (Some (Idle clocks)) = []
flip_lines clock None = []

-- The lines that one more step makes. A command makes its C line, and behind it the D lines of the reads that become due
-- with it: those before which no request is unserved any more, in the order of the trace.
abbrev pub latest : Header → List TraceLine → Run → Step → List ReportLine
latest h trace run (Issues s) =
    issued_line s.issued ∷ answers h trace (Issues s ∷ run) (ready (held (requests trace) run) (Issues s ∷ run))
latest h trace run (Flips number) = flip_lines (last_clock (log_of run)) (slice_get trace (number - 1))

-- the C, D and F lines of a run
abbrev pub report : Header → List TraceLine → Run → List ReportLine
report h trace [] = []
report h trace (step ∷ run) = report h trace run ++ latest h trace run step

abbrev pub is_value : ReportLine → Bool
is_value (ValueLine number line bytes state) = true
is_value (IssuedLine clock command) = false
is_value (FlipLine clock line device bit) = false
is_value (StatLine name number) = false
is_value (EndLine clock) = false
is_value (RefusedLine line reason) = false

-- the D lines among these
abbrev pub values : List ReportLine → List ReportLine
values lines = filter is_value lines
