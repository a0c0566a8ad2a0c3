-- One rank's end of the bus: its device, and what its commands come to.
use Rattle.std.specs.Prelude.{ℕ, ◌≡◌, ◌-◌, ◌<◌, ◌^◌, Option, Some, List, length, slice_get}
use Rattle.command_words.specs.Place.{place_of}
use Rattle.command_words.specs.declared.command.Command.{Command}
use Rattle.command_words.specs.declared.geometry.Place.{Place}
use Rattle.ddr_text.specs.declared.lines.TraceLine.{TraceLine}
use Rattle.ddr_text.specs.declared.lines.TraceLine.TheVariants.{Flip}
use Rattle.device_core.specs.Standing.{StandsFor as DeviceFor}
use Rattle.log_counts.specs.Counts.{counts_of}
use Rattle.reports.specs.Delivered.{AreInside, bytes_for, device_steps}
use Rattle.reports.specs.Requests.{Request}
use Rattle.reports.specs.Runs.{Run, Served, log_of}
use Rattle.reports.specs.Sound.{IsSoundPlace}
use Rattle.speed_bin.specs.Header.{IsAccepted, shape_of}
use Rattle.speed_bin.specs.Log.{last_clock}
use Rattle.speed_bin.specs.declared.header.Header.{Header}
use Rattle.rank_pair.specs.declared.rank_end.RankEnd.{RankEnd}

-- it stands for a run of a trace of its rank: its device was given the steps of that run
pub record EndStandsFor (it : RankEnd) (h : Header) (trace : List TraceLine) (run : Run) : Type 0 where
  pub device : DeviceFor it.device h (device_steps h trace run)
  pub counts : it.counts ≡ counts_of h (log_of run)
  pub last : it.last ≡ last_clock (log_of run)

-- a command at this clock that serves this request, or none
abbrev pub served : ℕ → Command → Option Request → Served
served clock command request = record { issued = record { clock = clock; command = command }; request = request }

-- it stands for a run behind which the command is right, with these bytes
pub record MayTake (it : RankEnd) (h : Header) (trace : List TraceLine) (run : Run) (clock : ℕ) (command : Command) (request : Option Request) (bytes : Option (List ℕ)) : Type 0 where
  pub accepted : IsAccepted h
  pub stands : EndStandsFor it h trace run
  pub sound : IsSoundPlace h trace run (served clock command request)
  pub bytes_are : bytes_for trace request ≡ bytes
  pub few : length (log_of run) < 2 ^ 48

-- that is so of some run
abbrev pub MayTakeSome : RankEnd → ℕ → Command → Option (List ℕ) → Type 0
MayTakeSome it clock command bytes =
    (h : Header) × (trace : List TraceLine) × (run : Run) × (request : Option Request) × MayTake it h trace run clock command request bytes

-- it stands for a run of a trace in which the line with this number turns this bit of this line
pub record MayTurn (it : RankEnd) (h : Header) (trace : List TraceLine) (run : Run) (number line device bit : ℕ) (place : Place) : Type 0 where
  pub accepted : IsAccepted h
  pub stands : EndStandsFor it h trace run
  pub inside : AreInside (shape_of h) trace
  pub line_is : slice_get trace (number - 1) ≡ Some (Flip line device bit)
  pub place_is : place ≡ place_of line (shape_of h)

abbrev pub MayTurnSome : RankEnd → Place → ℕ → ℕ → Type 0
MayTurnSome it place device bit =
    (h : Header) × (trace : List TraceLine) × (run : Run) × (number : ℕ) × (line : ℕ) × MayTurn it h trace run number line device bit place
