-- A rank's end takes a command, or turns a bit.
use Rattle.std.proofs.Common.{◌≡◌, ◌∙◌, ℕ, ◌-◌, ap, sym, subst, Bool, Option, Some, List, ◌∷◌, is_some, slice_get, Result, Ok, Err, OnOk}
use Rattle.command_words.specs.Place.{place_of}
use Rattle.command_words.specs.Words.{Spells}
use Rattle.command_words.specs.declared.command.Command.{Command}
use Rattle.command_words.specs.declared.geometry.Place.{Place}
use Rattle.command_words.specs.declared.words.Words.{Words}
use Rattle.ddr_text.specs.declared.lines.TraceLine.{TraceLine}
use Rattle.ddr_text.specs.declared.lines.TraceLine.TheVariants.{Flip}
use Rattle.device_core.specs.Held.{Held}
use Rattle.device_core.specs.Standing.{IsGiven, MayFollow, StandsFor as DeviceFor, with_command}
use Rattle.device_core.specs.Steps.{Step, Flips as Turns, log_of as device_log}
use Rattle.reports.specs.Delivered.{bytes_for, device_steps}
use Rattle.reports.specs.Requests.{Request}
use Rattle.reports.specs.Runs.{Flips, Issues, Run, Served, log_of}
use Rattle.reports.specs.Sound.{IsSoundPlace}
use Rattle.speed_bin.specs.Alert.{alert}
use Rattle.speed_bin.specs.Header.{IsAccepted, shape_of}
use Rattle.speed_bin.specs.Log.{Log}
use Rattle.speed_bin.specs.declared.header.Header.{Header}
use Rattle.rank_pair.specs.RankEnds.{EndStandsFor, MayTake, MayTurn, served}
use Rattle.rank_pair.specs.declared.rank_end.RankEnd.{RankEnd}

-- ---- A command

abbrev pub Given : Type 0
Given = (h : Header) (trace : List TraceLine) (run : Run) (s : Served) → IsAccepted h → IsSoundPlace h trace run s → IsGiven h s.issued.clock s.issued.command (bytes_for trace s.request) (device_steps h trace run)

pub follows : Given → (it : RankEnd) (h : Header) (trace : List TraceLine) (run : Run) (clock : ℕ) (command : Command) (request : Option Request) (bytes : Option (List ℕ)) (words : Words)
    → MayTake it h trace run clock command request bytes → Spells command words → MayFollow h clock command words bytes (device_steps h trace run)
follows law it h trace run clock command request bytes words m spelled = record {
  spelled = spelled;
  given = subst (λ (b : Option (List ℕ)). IsGiven h clock command b (device_steps h trace run)) m.bytes_are (law h trace run (served clock command request) m.accepted m.sound);
}

pub took : (h : Header) (trace : List TraceLine) (run : Run) (clock : ℕ) (command : Command) (request : Option Request) (bytes : Option (List ℕ)) (device : Held)
    → bytes_for trace request ≡ bytes → DeviceFor device h (with_command clock command bytes (device_steps h trace run)) → DeviceFor device h (device_steps h trace (Issues (served clock command request) ∷ run))
took h trace run clock command request bytes device same stands =
    subst (λ (b : Option (List ℕ)). DeviceFor device h (with_command clock command b (device_steps h trace run))) (sym same) stands

pub raised : (h : Header) (trace : List TraceLine) (run : Run) (clock : ℕ) (command : Command) (bytes : Option (List ℕ)) (told : Bool)
    → device_log (device_steps h trace run) ≡ log_of run → told ≡ is_some (alert h (device_log (with_command clock command bytes (device_steps h trace run)))) → told ≡ is_some (alert h (record { clock = clock; command = command } ∷ log_of run))
raised h trace run clock command bytes told same is = is ∙ ap (λ (log : Log). is_some (alert h (record { clock = clock; command = command } ∷ log))) same

-- ---- A bit

abbrev pub TurnsLaw : Type 0
TurnsLaw = (h : Header) (trace : List TraceLine) (run : Run) (number line device bit : ℕ) → slice_get trace (number - 1) ≡ Some (Flip line device bit)
    → device_steps h trace (Flips number ∷ run) ≡ Turns (place_of line (shape_of h)) device bit ∷ device_steps h trace run

pub turned_by : TurnsLaw → {E : Type 0} (r : Result Unit E) (it : RankEnd) (device : Held) (place : Place) (chip bit : ℕ)
    → OnOk r ((h : Header) (steps : List Step) → DeviceFor it.device h steps → DeviceFor device h (Turns place chip bit ∷ steps))
    → OnOk r ((h : Header) (trace : List TraceLine) (run : Run) (number line : ℕ) → MayTurn it h trace run number line chip bit place
    → EndStandsFor (record { device = device; counts = it.counts; last = it.last }) h trace (Flips number ∷ run))
turned_by law (Err e) it device place chip bit turns = tt
turned_by law (Ok x) it device place chip bit turns = λ h trace run number line m. record {
  device = subst (λ (steps : List Step). DeviceFor device h steps) (sym (law h trace run number line chip bit m.line_is))
      (subst (λ (p : Place). DeviceFor device h (Turns p chip bit ∷ device_steps h trace run)) m.place_is (turns h (device_steps h trace run) m.stands.device));
  counts = m.stands.counts;
  last = m.stands.last;
}
