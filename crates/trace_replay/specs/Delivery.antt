-- The laws that a delivery rests on: those of the controller, of both ends, and of reports, as one record.
use Rattle.std.specs.Prelude.{ℕ, ◌≡◌, ◌+◌, ◌<◌, ◌≤◌, false, true, Option, Some, List, ◌∷◌, ◌++◌, length, slice_get}
use Rattle.command_words.specs.declared.command.Command.{Command}
use Rattle.speed_bin.specs.Header.{IsAccepted}
use Rattle.speed_bin.specs.declared.header.Header.{Header}
use Rattle.device_core.specs.Standing.{IsGiven}
use Rattle.device_core.specs.Stored.{answer as device_answer}
use Rattle.ddr_text.specs.declared.lines.TraceLine.{TraceLine}
use Rattle.requests.specs.Order.{IsServing}
use Rattle.requests.specs.Queue.{Step as NumberedStep, places}
use Rattle.requests.specs.declared.request.Kind.TheVariants.{Read as Reads}
use Rattle.requests.specs.declared.request.Request.{Request as Asked}
use Rattle.scheduler.specs.Controller.{StandsFor as ControllerFor}
use Rattle.scheduler.specs.declared.state.State.{State as Controller}
use Rattle.reports.specs.Accesses.{IsColumn}
use Rattle.reports.specs.Delivered.{bytes_for, device_steps}
use Rattle.reports.specs.Offered.{offered, ranked, controller_steps}
use Rattle.reports.specs.Readings.{reading_of}
use Rattle.reports.specs.Requests.{Request, requests}
use Rattle.reports.specs.Runs.{Run, Served, Step as RunStep, Issues, IsNext, log_of, is_served, ready, held}
use Rattle.reports.specs.Sound.{Sound, IsSoundPlace}
use Rattle.reports.specs.Underway.{Ahead as Following, IsUnderway, IsIssued, issue}
use Rattle.trace_replay.specs.Coupled.{Step, StandsFor, controller_of, pending_of, with_pending, controller_steps as numbered_steps}
use Rattle.trace_replay.specs.declared.ends.Ends.{Ends as Coupled}

pub record DeliveryLaws : Type 0 where
  pub agrees : (c : Coupled) (h : Header) (offers : List Asked) (idle : ℕ) (steps : List Step) → StandsFor c h offers idle steps → ControllerFor h (controller_of c) offers idle (with_pending (pending_of c) (numbered_steps steps))
  pub places_limit : (h : Header) (c : Controller) (offers : List Asked) (idle : ℕ) (log : List NumberedStep) → ControllerFor h c offers idle log → length offers ≤ 1048576 → idle ≤ 4294967296 → length log < 2200000000
  pub kept : (h : Header) (trace : List TraceLine) (n now later : ℕ) (run : Run) (ahead : Following) (clock : ℕ) (command : Command) (id : Option ℕ) → IsUnderway h trace n now run ahead → IsIssued h trace run ahead now clock command id → now ≤ later → clock < later
      → IsUnderway h trace n later (issue trace clock command id ∷ run) ahead
  pub steps : (h : Header) (trace : List TraceLine) (run : Run) (clock : ℕ) (command : Command) (id : Option ℕ) → Sound h trace run → IsServing h (offered trace) (controller_steps trace run) command id
      → controller_steps trace (issue trace clock command id ∷ run) ≡ record { issued = record { clock = clock; command = command }; id = id } ∷ controller_steps trace run
  pub log : (trace : List TraceLine) (run : Run) → places (controller_steps trace run) ≡ log_of run
  pub given : (h : Header) (trace : List TraceLine) (run : Run) (s : Served) → IsAccepted h → IsSoundPlace h trace run s → IsGiven h s.issued.clock s.issued.command (bytes_for trace s.request) (device_steps h trace run)
  pub column : (h : Header) (trace : List TraceLine) (run : Run) (s : Served) (r : Request) → IsSoundPlace h trace run s → s.request ≡ Some r → IsColumn r.kind s.issued.command
  pub next : (h : Header) (trace : List TraceLine) (run : Run) (r : Request) → Sound h trace run → IsNext (requests trace) run r → is_served r.number run ≡ false
  pub numbers : (trace : List TraceLine) (run : Run) (i id : ℕ) → id ≡ length (ready (requests trace) run) + i + 1 → ranked trace (Some id) ≡ slice_get (held (requests trace) run) i
  pub apart : (trace : List TraceLine) (i j : ℕ) (r q : Request) → slice_get (requests trace) i ≡ Some r → slice_get (requests trace) j ≡ Some q → r.number ≡ q.number → i ≡ j
  pub parts : (rs : List Request) (run : Run) → ready rs run ++ held rs run ≡ rs
  pub answered : (h : Header) (trace : List TraceLine) (run : Run) (s : Served) (r : Request) → Sound h trace (Issues s ∷ run) → s.request ≡ Some r → r.kind ≡ Reads → device_answer h s.issued.command (device_steps h trace run) ≡ Some (reading_of h trace (Issues s ∷ run) r)
  pub stays : (h : Header) (trace : List TraceLine) (step : RunStep) (run : Run) (r : Request) → is_served r.number run ≡ true → reading_of h trace (step ∷ run) r ≡ reading_of h trace run r
