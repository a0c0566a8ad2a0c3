-- The window: of the requests before the next barrier, the first 32 unserved ones that stand at most 63 behind the first.
use Rattle.std.specs.Prelude.{ℕ, ◌+◌, nat_lt, List, [], ◌∷◌, take, filter}
use Rattle.speed_bin.specs.declared.header.Header.{Header}
use Rattle.requests.specs.declared.request.Request.{Request}
use Rattle.requests.specs.declared.waiting.Waiting.{Waiting}
use Rattle.requests.specs.Queue.{Step, waiting}

abbrev pub first_id : List Waiting → ℕ
first_id [] = 0
first_id (w ∷ ws) = w.id

-- those that stand at most 63 behind the first
abbrev pub near : List Waiting → List Waiting
near ws = filter (λ w. nat_lt w.id (first_id ws + 64)) ws

-- `reach` has the requests before the next barrier
abbrev pub window : Header → List Request → List Step → List Waiting
window h reach log = take 32 (near (waiting h reach log))
