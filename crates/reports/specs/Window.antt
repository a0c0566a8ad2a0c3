-- The window of a trace: of the requests that a controller may be offered before the next barrier, those that it looks at.
use Rattle.std.specs.Prelude.{ℕ, suc, ◌-◌, List, [], ◌∷◌, ◌++◌, map, take, drop, ⊤}
use Rattle.speed_bin.specs.declared.header.Header.{Header}
use Rattle.requests.specs.Choice.{IsChosen}
use Rattle.requests.specs.Queue.{waiting_as}
use Rattle.speed_bin.specs.Header.{shape_of}
use Rattle.requests.specs.Window.{window as window_of}
use Rattle.requests.specs.declared.request.Kind.TheVariants.{Read as Reads, Write as Writes}
use Rattle.requests.specs.declared.waiting.Waiting.{Waiting}
use Rattle.ddr_text.specs.declared.lines.TraceLine.{TraceLine}
use Rattle.ddr_text.specs.declared.lines.TraceLine.TheVariants.{Read, Write, Flip, Idle}
use Rattle.reports.specs.Requests.{Request, requests}
use Rattle.reports.specs.Runs.{Run, Issues, Flips, Served, log_of, unserved, ready, held}
use Rattle.reports.specs.Offered.{asked, rank, rank_of, controller_steps}

-- the requests of these trace lines, numbered from n, up to the first F or I line
abbrev pub up_to_barrier : ℕ → List TraceLine → List Request
up_to_barrier n [] = []
up_to_barrier n (Read line ∷ trace) = record { number = n; line = line; kind = Reads } ∷ up_to_barrier (suc n) trace
up_to_barrier n (Write line bytes ∷ trace) = record { number = n; line = line; kind = Writes } ∷ up_to_barrier (suc n) trace
up_to_barrier n (Flip line device bit ∷ trace) = []
up_to_barrier n (Idle clocks ∷ trace) = []

-- those from the first of these requests on
abbrev pub block_from : List TraceLine → List Request → List Request
block_from trace [] = []
block_from trace (r ∷ rs) = up_to_barrier r.number (drop (r.number - 1) trace)

-- these lines are R and W lines
abbrev pub AreRequests : List TraceLine → Type 0
AreRequests [] = ⊤
AreRequests (Read line ∷ trace) = AreRequests trace
AreRequests (Write line bytes ∷ trace) = AreRequests trace
AreRequests (Flip line device bit ∷ trace) = ⊥
AreRequests (Idle clocks ∷ trace) = ⊥

-- the requests before the first F or I line that stands after the first unserved request
abbrev pub reach : List TraceLine → Run → List Request
reach trace run = ready (requests trace) run ++ block_from trace (held (requests trace) run)

-- Of these, the unserved ones that stand at most 63 behind the first unserved one, and of those the first 32. They have
-- the numbers that they have by their order.
abbrev pub window : Header → List TraceLine → Run → List Waiting
window h trace run = window_of h (map asked (reach trace run)) (controller_steps trace run)

-- The same by the trace's lines: of the requests with the numbers k to k + 63, where k is that of the first unserved one,
-- which stand before the first F or I line after k, the first 32 unserved ones.
abbrev pub candidates : List TraceLine → Run → List Request → List Request
candidates trace run [] = []
candidates trace run (first ∷ rest) = take 32 (unserved (take 64 (block_from trace (first ∷ rest))) run)

-- a request as it waits in a queue
abbrev pub queued : Header → List TraceLine → Request → Waiting
queued h trace r = waiting_as (shape_of h) (rank trace r.number) (asked r)

-- The command is what the window asks for: an RD or WR serves its first request that lies in the bank's open row, an ACT
-- opens the row of the bank's first request, and at a PREpb the window has a request of the bank and none in the open row.
-- Of the other commands, a REF comes at a debt of 2 or more, an RFMab under a raised alert, a PREsb or PREab covers an open
-- bank, and there is no NOP.
abbrev pub IsAskedFor : Header → List TraceLine → Run → Served → Type 0
IsAskedFor h trace run s = IsChosen h (window h trace run) (log_of run) s.issued.clock s.issued.command (rank_of trace s.request)

-- each command was so when it was issued
abbrev pub KeepsWindow : Header → List TraceLine → Run → Type 0
KeepsWindow h trace [] = ⊤
KeepsWindow h trace (Issues s ∷ run) = IsAskedFor h trace run s × KeepsWindow h trace run
KeepsWindow h trace (Flips number ∷ run) = KeepsWindow h trace run
