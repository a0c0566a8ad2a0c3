-- What one turn of the controller leaves of a replay.
use Rattle.std.specs.Prelude.{◌≡◌, List, ⊤}
use Rattle.command_words.specs.Command.{IsInRange}
use Rattle.speed_bin.specs.declared.header.Header.{Header}
use Rattle.scheduler.specs.declared.turn.Turn.{Turn}
use Rattle.scheduler.specs.declared.turn.Turn.TheVariants.{Issue, Idle, Done}
use Rattle.ddr_text.specs.declared.lines.TraceLine.{TraceLine}
use Rattle.reports.specs.Runs.{Run}
use Rattle.reports.specs.Sound.{IsRun}
use Rattle.reports.specs.Underway.{Ended}
use Rattle.trace_replay.specs.Coupled.{from_of}
use Rattle.trace_replay.specs.ReplayState.{LoopInvariant, IsIssuing, IsResting, following}
use Rattle.trace_replay.specs.declared.replay_state.ReplayState.{ReplayState}

-- a command that a turn issues is one that words spell
abbrev pub IsSpelled : Turn → Type 0
IsSpelled (Issue clock command id) = IsInRange command
IsSpelled Idle = ⊤
IsSpelled Done = ⊤

-- no line is left, and the run is finished
pub record IsDone (h : Header) (p : ReplayState) (trace : List TraceLine) (run : Run) : Type 0 where
  pub holds : LoopInvariant h p trace run
  pub last : following p.ahead ≡ Ended
  pub finished : IsRun h trace run (from_of p.coupled)

-- a command is pending, or no request waits, or the run is finished
abbrev pub Turned : Turn → Header → ReplayState → List TraceLine → Run → Type 0
Turned (Issue clock command id) h p trace run = IsIssuing h p trace run clock command id
Turned Idle h p trace run = IsResting h p trace run
Turned Done h p trace run = IsDone h p trace run
