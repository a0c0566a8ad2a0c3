-- What tests know of a controller: how many requests it was offered at the most.
use Rattle.std.specs.Prelude.{ℕ, ◌≤◌, List, length}
use Rattle.speed_bin.specs.declared.header.Header.{Header}
use Rattle.requests.specs.Queue.{Step}
use Rattle.requests.specs.declared.request.Request.{Request}
use Rattle.scheduler.specs.Controller.{StandsFor}
use Rattle.scheduler.specs.declared.state.State.{State}

-- the controller stands for at most so many requests
abbrev pub HasTaken : Header → State → ℕ → Type 0
HasTaken h c n = (offered : List Request) × (idle : ℕ) × (log : List Step) × (StandsFor h c offered idle log) × (length offered ≤ n)
