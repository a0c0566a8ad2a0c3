-- What a trace and a run are to a controller, which numbers the requests that it is offered 1, 2, 3 and so on, while a
-- trace numbers its lines.
use Rattle.std.specs.Prelude.{ℕ, ◌-◌, Option, Some, None, option_map, List, [], ◌∷◌, map, length, take, slice_get}
use Rattle.requests.specs.Queue.{Step as NumberedStep}
use Rattle.requests.specs.declared.request.Request.{Request as Asked}
use Rattle.ddr_text.specs.declared.lines.TraceLine.{TraceLine}
use Rattle.reports.specs.Requests.{Request, requests}
use Rattle.reports.specs.Runs.{Run, Issues, Flips}

-- the request without its number
abbrev pub asked : Request → Asked
asked r = record { line = r.line; kind = r.kind }

-- the requests of a trace, in the order in which they are offered
abbrev pub offered : List TraceLine → List Asked
offered trace = map asked (requests trace)

-- the number of a request by its order, where it has this number as a line of the trace
abbrev pub rank : List TraceLine → ℕ → ℕ
rank trace number = length (requests (take number trace))

abbrev pub rank_of : List TraceLine → Option Request → Option ℕ
rank_of trace request = option_map (λ r. rank trace r.number) request

-- the request that has this number by its order
abbrev pub ranked : List TraceLine → Option ℕ → Option Request
ranked trace None = None
ranked trace (Some id) = slice_get (requests trace) (id - 1)

-- the steps of a controller: the commands, with the numbers that the requests have by their order
abbrev pub controller_steps : List TraceLine → Run → List NumberedStep
controller_steps trace [] = []
controller_steps trace (Issues s ∷ run) = record { issued = s.issued; id = rank_of trace s.request } ∷ controller_steps trace run
controller_steps trace (Flips number ∷ run) = controller_steps trace run
