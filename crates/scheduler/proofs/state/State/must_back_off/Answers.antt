use Rattle.std.proofs.Common.{◌≡◌, ◌∙◌, ℕ, Bool, true, false, Option, Some, None, is_some, IsTrue, IsNone, ◌↔◌, refl, sym, arith}
use Rattle.requests.specs.Queue.{places}
use Rattle.refresh_plan.specs.declared.due_refresh.Due.{Due}
use Rattle.scheduler.proofs.Deciding.{no_task, some_choice, patient_of, raised_of}
use Rattle.scheduler.specs.Steps.{UrgesTask, UrgesAlone, UrgesWindow, UrgesScrub, UrgesRefresh, UrgesRfm}
use Rattle.scheduler.proofs.Pressing.{window_end, alone, wanted_some}
use Rattle.scheduler.proofs.state.State.must_back_off.Goals as goal

pub returns-then-is_some-clause-backs_off : goal.returns-then-is_some-clause-backs_off
returns-then-is_some-clause-backs_off c = λ h offered idle log a t. raised_of c.args.self.now h offered idle log _ c.in-Some.last a (sym c.last_activate.ensures.value ∙ c.in-Some.is)

pub returns-then-is_none-clause-backs_off : goal.returns-then-is_none-clause-backs_off
returns-then-is_none-clause-backs_off c = λ h offered idle log a t. raised_of c.args.self.now h offered idle log _ c.in-Some.last a (sym c.last_activate.ensures.value ∙ c.in-Some.is)

pub returns-then-soonest-last-clause-backs_off : goal.returns-then-soonest-last-clause-backs_off
returns-then-soonest-last-clause-backs_off c = λ h offered idle log a t. raised_of c.args.self.now h offered idle log _ c.in-Some.last a (sym c.last_activate.ensures.value ∙ c.in-Some.is)

pub returns-then-ecs_due-clause-backs_off : goal.returns-then-ecs_due-clause-backs_off
returns-then-ecs_due-clause-backs_off c = λ h offered idle log a t. raised_of c.args.self.now h offered idle log _ c.in-Some.last a (sym c.last_activate.ensures.value ∙ c.in-Some.is)

pub returns-then-is_some-2-clause-backs_off : goal.returns-then-is_some-2-clause-backs_off
returns-then-is_some-2-clause-backs_off c = λ h offered idle log a t. raised_of c.args.self.now h offered idle log _ c.in-Some.last a (sym c.last_activate.ensures.value ∙ c.in-Some.is)

pub returns-clause-backs_off : goal.returns-clause-backs_off
returns-clause-backs_off c = λ h offered idle log a t. raised_of c.args.self.now h offered idle log _ c.in-Some.last a (sym c.last_activate.ensures.value ∙ c.in-Some.is)

due_none : (o : Option Due) (P : Type 0) → is_some o ≡ false → (IsNone o ↔ P) → P
due_none None P e f = f.0 refl
due_none (Some x) P e f = cc

wanted_none : (o : Option ℕ) (P : Type 0) → is_some o ≡ false → (IsNone o ↔ P) → P
wanted_none None P e f = f.0 refl
wanted_none (Some x) P e f = cc

holds_not : (t : Bool) (P : Type 0) → t ≡ false → (IsTrue t ↔ P) → P → ⊥
holds_not t P e f p = let g = f.1 p in cc

pub returns-clause-stays_patient : goal.returns-clause-stays_patient
returns-clause-stays_patient c = λ h offered idle log a t.
    let ledger = a.holds.ledger.stands in
    patient_of c.args.self.now h offered idle log c.args.choice c.args.soonest c.in-Some.last a (sym c.last_activate.ensures.value ∙ c.in-Some.is)
    (no_task c.args.self.now.task (sym c.is_some.ensures ∙ c.if-is_some.false)) (some_choice c.args.choice c.is_none.result c.is_none.ensures c.if-is_none.false) (let x = c.if-soonest-last.false in omega (arith, x))
    (holds_not c.ecs_due.result _ c.if-ecs_due.false (c.ecs_due.ensures h (places log) ledger))
    (due_none c.due.result _ (sym c.is_some-2.ensures ∙ c.if-is_some-2.false) (c.due.ensures.none h (places log) ledger))
    (wanted_none c.wanted.result _ (sym c.is_some-3.ensures ∙ t) (c.wanted.ensures.none h (places log) a.holds.ledger.stands))

pub returns-then-is_some-clause-urged : goal.returns-then-is_some-clause-urged
returns-then-is_some-clause-urged c = λ h offered idle log raised a t e. UrgesTask (sym c.is_some.ensures ∙ c.if-is_some.true)

pub returns-then-is_none-clause-urged : goal.returns-then-is_none-clause-urged
returns-then-is_none-clause-urged c = λ h offered idle log raised a t e. UrgesAlone (alone c.args.choice c.is_none.result c.is_none.ensures c.if-is_none.true)

pub returns-then-soonest-last-clause-urged : goal.returns-then-soonest-last-clause-urged
returns-then-soonest-last-clause-urged c = λ h offered idle log raised a t e.
    let k = window_end c.args.self.now h offered idle log raised c.in-Some.last a e (sym c.last_activate.ensures.value ∙ c.in-Some.is) in
    UrgesWindow (let x = c.if-soonest-last.true in omega (arith, k, x))

holds : (t : Bool) (P : Type 0) → t ≡ true → (IsTrue t ↔ P) → P
holds t P e f = f.0 e

pub returns-then-ecs_due-clause-urged : goal.returns-then-ecs_due-clause-urged
returns-then-ecs_due-clause-urged c = λ h offered idle log raised a t e. UrgesScrub (holds c.ecs_due.result _ c.if-ecs_due.true (c.ecs_due.ensures h (places log) a.holds.ledger.stands))

due_some : (o : Option Due) (P : Type 0) → is_some o ≡ true → (IsNone o ↔ P) → P → ⊥
due_some None P e f p = cc
due_some (Some x) P e f p = let g = f.1 p in cc

pub returns-then-is_some-2-clause-urged : goal.returns-then-is_some-2-clause-urged
returns-then-is_some-2-clause-urged c = λ h offered idle log raised a t e. UrgesRefresh (due_some c.due.result _ (sym c.is_some-2.ensures ∙ c.if-is_some-2.true) (c.due.ensures.none h (places log) a.holds.ledger.stands))

pub returns-clause-urged : goal.returns-clause-urged
returns-clause-urged c = λ h offered idle log raised a t e. UrgesRfm (wanted_some c.wanted.result _ (sym c.is_some-3.ensures ∙ t) (c.wanted.ensures.none h (places log) a.holds.ledger.stands))
