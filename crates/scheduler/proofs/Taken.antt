-- What a turn leaves of a controller that was offered at most so many requests.
use Rattle.std.proofs.Common.{◌≡◌, ℕ, ◌≤◌, Bool, false, Option, None, is_some, List, ◌∷◌, length, sym, ap}
use Rattle.speed_bin.specs.Alert.{alert}
use Rattle.speed_bin.specs.Log.{Log}
use Rattle.speed_bin.specs.declared.header.Header.{Header}
use Rattle.requests.specs.Queue.{Step}
use Rattle.requests.specs.declared.request.Request.{Request}
use Rattle.scheduler.specs.Controller.{After, number_of}
use Rattle.scheduler.specs.Testing.{HasTaken}
use Rattle.scheduler.specs.declared.state.State.{State}
use Rattle.scheduler.specs.declared.turn.Turn.{Turn}
use Rattle.scheduler.specs.declared.turn.Turn.TheVariants.{Issue, Idle, Done}

pub taken_after : (turn : Turn) (from until : ℕ) (finished : Bool) (h : Header) (new : State) (offered : List Request) (idle : ℕ) (log : List Step) (n : ℕ) → After turn from until finished h new offered idle log → length offered ≤ n → HasTaken h new n
taken_after (Issue clock command id) from until finished h new offered idle log n a le = (offered, idle, record { issued = record { clock = clock; command = command }; id = number_of id } ∷ log, a.stands, le)
taken_after Idle from until finished h new offered idle log n a le = (offered, idle, log, a.0.stands, le)
taken_after Done from until finished h new offered idle log n a le = (offered, idle, log, a.0.stands, le)

pub not_raised : (h : Header) (log : Log) → alert h log ≡ None → false ≡ is_some (alert h log)
not_raised h log e = sym (ap (λ (o : Option ℕ). is_some o) e)
