-- Plain memory, and what the requests that a run served leave in it.
use Rattle.std.specs.Prelude.{ℕ, ◌-◌, ◌==◌, if◌then◌else◌, Option, Some, None, List, [], ◌∷◌, replicate, take, slice_get}
use Rattle.ddr_text.specs.declared.lines.TraceLine.{TraceLine}
use Rattle.ddr_text.specs.declared.lines.TraceLine.TheVariants.{Read, Write, Flip, Idle}
use Rattle.reports.specs.Requests.{Request}
use Rattle.reports.specs.Runs.{Run, served}

-- 64 zero bytes
abbrev pub zeros : List ℕ
zeros = replicate 64 0

-- what a line holds after a trace line: the data of a W line of it, and otherwise what it held before
abbrev pub written : ℕ → TraceLine → List ℕ → List ℕ
written x (Read line) before = before
written x (Write line bytes) before = if line == x then bytes else before
written x (Flip line device bit) before = before
written x (Idle clocks) before = before

-- what it holds after these trace lines, in order
abbrev pub last_write : ℕ → List ℕ → List TraceLine → List ℕ
last_write x before [] = before
last_write x before (line ∷ trace) = last_write x (written x line before) trace

-- Plain memory: the data of the last W line of line x with a number below k, and 64 zero bytes where there is none.
abbrev pub memory : List TraceLine → ℕ → ℕ → List ℕ
memory trace k x = last_write x zeros (take (k - 1) trace)

-- ---- The requests in the order in which a run serves them

-- what a line holds after the trace line with this number was served
abbrev pub after_line : ℕ → Option TraceLine → List ℕ → List ℕ
after_line x None before = before
after_line x (Some line) before = written x line before

-- what line x holds after these requests, the newest first
abbrev pub stored_by : List TraceLine → ℕ → List Request → List ℕ
stored_by trace x [] = zeros
stored_by trace x (r ∷ rs) = after_line x (slice_get trace (r.number - 1)) (stored_by trace x rs)

-- what a run left in line x: the data of the last WR of it, and 64 zero bytes where there is none
abbrev pub stored : List TraceLine → ℕ → Run → List ℕ
stored trace x run = stored_by trace x (served run)
