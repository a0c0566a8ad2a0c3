-- What is in a slot behind a call still stands for some steps.
use Rattle.std.proofs.Common.{◌≡◌, ℕ, Bool, ◌⊎◌, inl, inr, Option, Some, None, List, [], sym, subst, Result, Ok, Err}
use Rattle.device_core.specs.Steps.{Step}
use Rattle.device_exec.specs.declared.checked_device.Answer.{Answer}
use Rattle.speed_bin.specs.declared.header.Header.{Header}
use Rattle.ddr_c.specs.Effects.{Carried, Carries, Breaks, Closes, Effect, Ends, EndsIn, Follows, Refuses, Turns}
use Rattle.ddr_c.specs.Standing.{Stage, Going, Awaits, Broken, Holds, SessionFor, Sits, Stands}
use Rattle.ddr_c.specs.declared.answers.Refusal.{Refusal}
use Rattle.ddr_c.specs.declared.line.Line.{Line}
use Rattle.ddr_c.specs.declared.session.Session.{Session}

-- ---- Sessions

carried : (later : List Step) (found : Option Answer) (h : Header) (steps : List Step) (new : Session) (before after : Line) (told : Result Unit Refusal) → Carried later found h steps new before after told → Stands new
carried later found h steps new before after told (inl fine) = (h, later, Going, fine.1)
carried later found h steps new before after told (inr late) = (h, steps, Awaits late.1.0, late.1.2)

followed : (effect : Effect) (h : Header) (steps : List Step) (stage : Stage) (new : Session) (before after : Line) (told : Result Unit Refusal) → Follows effect h steps stage new before after told → Stands new
followed (Refuses why) h steps stage new before after told f = (h, steps, stage, f.1)
followed (Breaks rule) h steps stage new before after told f = (h, steps, Broken rule, f.1)
followed (Carries later found) h steps stage new before after told f = carried later found h steps new before after told f
followed Closes h steps stage new before after told f = absurd f

turns : (effect : Effect) (h : Header) (steps : List Step) (stage : Stage) (new : Session) (told : Result Unit Refusal) → Turns effect h steps stage new told → Stands new
turns (Refuses why) h steps stage new told f = (h, steps, stage, f.1)
turns (Carries later found) h steps stage new told (inl fine) = (h, later, Going, fine.1)
turns (Carries later found) h steps stage new told (inr late) = (h, steps, Going, late.1)
turns (Breaks rule) h steps stage new told f = absurd f
turns Closes h steps stage new told f = absurd f

-- an end that is refused leaves a session
refused : (effect : Effect) (h : Header) (steps : List Step) (stage : Stage) (new : Session) (why : Refusal) → Ends effect h steps stage new (Err why) → Stands new
refused (Refuses own) h steps stage new why f = (h, steps, stage, f.1)
refused (Breaks rule) h steps stage new why f = (h, steps, Broken rule, f.1)
refused Closes h steps stage new why f = absurd cc
refused (Carries later found) h steps stage new why f = absurd f

-- ---- Slots

-- a slot whose session stepped
pub sits_stepped : (old kept : Option Session) (before new : Session) (line after : Line) (told : Result Unit Refusal) (effect : Header → List Step → Stage → Effect) → Sits old → old ≡ Some before → kept ≡ Some new
    → ((h : Header) (steps : List Step) (stage : Stage) → SessionFor before h steps stage → Follows (effect h steps stage) h steps stage new line after told) → Sits kept
sits_stepped old kept before new line after told effect sits was is follows =
    let s = subst Sits was sits in subst Sits (sym is) (followed (effect s.0 s.1 s.2) s.0 s.1 s.2 new line after told (follows s.0 s.1 s.2 s.3))

-- in which a bit was turned
pub sits_turned : (old kept : Option Session) (before new : Session) (told : Result Unit Refusal) (effect : Header → List Step → Stage → Effect) → Sits old → old ≡ Some before → kept ≡ Some new
    → ((h : Header) (steps : List Step) (stage : Stage) → SessionFor before h steps stage → Turns (effect h steps stage) h steps stage new told) → Sits kept
sits_turned old kept before new told effect sits was is follows =
    let s = subst Sits was sits in subst Sits (sym is) (turns (effect s.0 s.1 s.2) s.0 s.1 s.2 new told (follows s.0 s.1 s.2 s.3))

-- whose end was refused
pub sits_refused : (old kept : Option Session) (before new : Session) (why : Refusal) (effect : Header → List Step → Stage → Effect) → Sits old → old ≡ Some before → kept ≡ Some new
    → ((h : Header) (steps : List Step) (stage : Stage) → SessionFor before h steps stage → Ends (effect h steps stage) h steps stage new (Err why)) → Sits kept
sits_refused old kept before new why effect sits was is follows =
    let s = subst Sits was sits in subst Sits (sym is) (refused (effect s.0 s.1 s.2) s.0 s.1 s.2 new why (follows s.0 s.1 s.2 s.3))

-- an end that is refused, as it is told of a slot
pub ends_refused : (effect : Effect) (h : Header) (steps : List Step) (stage : Stage) (kept : Option Session) (new : Session) (why : Refusal) → kept ≡ Some new → Ends effect h steps stage new (Err why) → EndsIn effect h steps stage kept (Err why)
ends_refused (Refuses own) h steps stage kept new why is f = (f.0, subst (λ (k : Option Session). Holds k h steps stage) (sym is) f.1)
ends_refused (Breaks rule) h steps stage kept new why is f = (f.0, subst (λ (k : Option Session). Holds k h steps (Broken rule)) (sym is) f.1)
ends_refused Closes h steps stage kept new why is f = absurd cc
ends_refused (Carries later found) h steps stage kept new why is f = absurd f

-- the same session
pub same_session : (a b : Session) → ◌≡◌ {A = Option Session} (Some a) (Some b) → a ≡ b
same_session a b e = cc
