-- What a slot stands for: the steps that its device was given, and what may come next.
use Rattle.std.specs.Prelude.{ℕ, ◌≡◌, ⊤, Option, Some, None, List}
use Rattle.device_core.specs.Steps.{Step}
use Rattle.device_exec.specs.Scripts.{Ready, Waits}
use Rattle.device_exec.specs.Standing.{StandsFor, geometry_of, place_in}
use Rattle.device_exec.specs.declared.checked_device.CheckedDevice.{CheckedDevice}
use Rattle.log_auditor.specs.declared.verdict.Rule.{Rule}
use Rattle.speed_bin.specs.Header.{shape_of}
use Rattle.speed_bin.specs.Log.{Issued as Place}
use Rattle.speed_bin.specs.declared.header.Header.{Header}
use Rattle.ddr_c.specs.declared.session.Session.{Session}
use Rattle.ddr_c.specs.declared.session.State.{State}
use Rattle.ddr_c.specs.declared.session.State.TheVariants as state

-- What may come next: any call, the WR again for whose bytes there was no memory, or nothing behind a broken rule.
pub data Stage : Type 0 where
  Going : Stage
  Awaits : Place → Stage
  Broken : Rule → Stage

abbrev pub stage_in : State → Stage
stage_in state.Going = Going
stage_in (state.Awaits waiting) = Awaits (place_in waiting)
stage_in (state.Broken rule) = Broken rule

-- the device goes on, or waits for the bytes of a WR; behind a broken rule nothing is said of it
abbrev pub Drives : CheckedDevice → Header → List Step → Stage → Type 0
Drives device h steps Going = StandsFor device h steps Ready
Drives device h steps (Awaits place) = StandsFor device h steps (Waits place)
Drives device h steps (Broken rule) = ⊤

-- the session's device was given these steps under this header, and this may come next
pub record SessionFor (it : Session) (h : Header) (steps : List Step) (stage : Stage) : Type 0 where
  pub stage_is : stage_in it.state ≡ stage
  pub shape : geometry_of it.device ≡ shape_of h
  pub device : Drives it.device h steps stage

-- the session stands for some steps
abbrev pub Stands : Session → Type 0
Stands it = (h : Header) × (steps : List Step) × (stage : Stage) × SessionFor it h steps stage

-- the slot is empty, or its session stands for some steps
abbrev pub Sits : Option Session → Type 0
Sits None = ⊤
Sits (Some it) = Stands it

-- the slot has a session, which stands for these steps
abbrev pub Holds : Option Session → Header → List Step → Stage → Type 0
Holds None h steps stage = ⊥
Holds (Some it) h steps stage = SessionFor it h steps stage
