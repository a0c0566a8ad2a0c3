use Rattle.std.proofs.Common.{◌≡◌, ◌∙◌, ℕ, Option, Some, None, Bool, true, false, IsTrue, IsNone, ◌↔◌, sym, refl, subst}
use Rattle.refresh_plan.specs.declared.due_refresh.Due.{Due}
use Rattle.requests.specs.Queue.{places}
use Rattle.deadlines.specs.declared.task.Task.{Task}
use Rattle.scheduler.specs.Steps.{IsErrand}
use Rattle.scheduler.proofs.Deciding.{backs_off, goes_on, scrubs, refreshes, manages, free_of}
use Rattle.scheduler.specs.Policy.{SetsScrub, SetsManagement}
use Rattle.scheduler.specs.Steps.{IsCaused, BySetTask, ByDue}
use Rattle.scheduler.proofs.Policed.{caused_by_alert, caused_by_refresh}
use Rattle.scheduler.proofs.state.State.errand_at.Goals as goal

none_task : (o : Option Task) → ((x : Task) → o ≡ Some x → ⊥) → o ≡ None
none_task None f = refl
none_task (Some x) f = absurd (f x refl)

none_due : (o : Option Due) → ((x : Due) → o ≡ Some x → ⊥) → o ≡ None
none_due None f = refl
none_due (Some x) f = absurd (f x refl)

none_at : (o : Option ℕ) → ((x : ℕ) → o ≡ Some x → ⊥) → o ≡ None
none_at None f = refl
none_at (Some x) f = absurd (f x refl)

some_due : (o : Option Due) (x : Due) (P : Type 0) → o ≡ Some x → (IsNone o ↔ P) → P → ⊥
some_due None x P e f p = cc
some_due (Some y) x P e f p = let g = f.1 p in cc

due_none : (o : Option Due) (P : Type 0) → o ≡ None → (IsNone o ↔ P) → P
due_none None P e f = f.0 refl
due_none (Some y) P e f = cc

wanted_some : (o : Option ℕ) (x : ℕ) (P : Type 0) → o ≡ Some x → (IsNone o ↔ P) → P → ⊥
wanted_some None x P e f p = cc
wanted_some (Some y) x P e f p = let g = f.1 p in cc

wanted_none : (o : Option ℕ) (P : Type 0) → o ≡ None → (IsNone o ↔ P) → P
wanted_none None P e f = f.0 refl
wanted_none (Some y) P e f = cc

holds : (t : Bool) (P : Type 0) → t ≡ true → (IsTrue t ↔ P) → P
holds t P e f = f.0 e

holds_not : (t : Bool) (P : Type 0) → t ≡ false → (IsTrue t ↔ P) → P → ⊥
holds_not t P e f p = let g = f.1 p in cc

pub returns-then-must_back_off-clause-some : goal.returns-then-must_back_off-clause-some
returns-then-must_back_off-clause-some c = λ h offered idle log a looks le.
    backs_off c.args.self.now h offered idle log c.args.soonest a (c.must_back_off.ensures.backs_off h offered idle log a c.if-must_back_off.true) le

pub returns-in-Some-clause-some : goal.returns-in-Some-clause-some
returns-in-Some-clause-some c = λ h offered idle log a looks le.
    goes_on c.args.self.now h offered idle log c.args.choice c.args.soonest c.in-Some.task a (c.must_back_off.ensures.stays_patient h offered idle log a c.if-must_back_off.false) c.in-Some.is le

pub returns-then-ecs_due-clause-some : goal.returns-then-ecs_due-clause-some
returns-then-ecs_due-clause-some c = λ h offered idle log a looks le.
    scrubs c.args.self.now h offered idle log c.args.choice c.args.soonest a (c.must_back_off.ensures.stays_patient h offered idle log a c.if-must_back_off.false) (none_task _ c.in_default.not-Some)
    (holds c.ecs_due.result _ c.if-ecs_due.true (c.ecs_due.ensures h (places log) a.holds.ledger.stands)) le

pub returns-in-Some-due-clause-some : goal.returns-in-Some-due-clause-some
returns-in-Some-due-clause-some c = λ h offered idle log a looks le.
    let ledger = a.holds.ledger.stands in
    subst (λ (t : Task). IsErrand c.args.self.now h (places log) c.args.soonest (record { task = t; start = c.max-start.result })) (sym c.refresh_of-task.ensures)
    (refreshes c.args.self.now h offered idle log c.args.choice c.args.soonest c.next_due.result c.max-start.result c.in-Some-due.due a (c.must_back_off.ensures.stays_patient h offered idle log a c.if-must_back_off.false) (none_task _ c.in_default.not-Some)
    (holds_not c.ecs_due.result _ c.if-ecs_due.false (c.ecs_due.ensures h (places log) ledger)) looks
    (some_due c.due.result c.in-Some-due.due _ c.in-Some-due.is (c.due.ensures.none h (places log) ledger))
    (λ clock. c.next_due.ensures h (places log) clock ledger) c.max-start.ensures
    (c.in-Some-due.ensures.all h (places log) ledger) (c.in-Some-due.ensures.same h (places log) ledger) le)

pub returns-in-Some-wanted-clause-some : goal.returns-in-Some-wanted-clause-some
returns-in-Some-wanted-clause-some c = λ h offered idle log a looks le.
    let ledger = a.holds.ledger.stands in
    manages c.args.self.now h offered idle log c.args.choice c.args.soonest c.in-Some-wanted.address a (c.must_back_off.ensures.stays_patient h offered idle log a c.if-must_back_off.false) (none_task _ c.in_default.not-Some)
    (holds_not c.ecs_due.result _ c.if-ecs_due.false (c.ecs_due.ensures h (places log) ledger))
    (due_none c.due.result _ (none_due _ c.in_default-due.not-Some) (c.due.ensures.none h (places log) ledger))
    (c.in-Some-wanted.ensures.wanted h (places log) ledger)
    (wanted_some c.wanted.result c.in-Some-wanted.address _ c.in-Some-wanted.is (c.wanted.ensures.none h (places log) ledger)) le

pub returns-clause-none : goal.returns-clause-none
returns-clause-none c = λ h offered idle log a.
    let ledger = a.holds.ledger.stands in
    free_of c.args.self.now h (places log) c.args.choice c.args.soonest (c.must_back_off.ensures.stays_patient h offered idle log a c.if-must_back_off.false) (none_task _ c.in_default.not-Some)
    (holds_not c.ecs_due.result _ c.if-ecs_due.false (c.ecs_due.ensures h (places log) ledger))
    (due_none c.due.result _ (none_due _ c.in_default-due.not-Some) (c.due.ensures.none h (places log) ledger))
    (wanted_none c.wanted.result _ (none_at _ c.in_default-wanted.not-Some) (c.wanted.ensures.none h (places log) a.holds.ledger.stands))

-- under a raised alert no other task comes
pub returns-then-must_back_off-clause-backs_off : goal.returns-then-must_back_off-clause-backs_off
returns-then-must_back_off-clause-backs_off c = λ h offered idle log raised a e. (refl, c.must_back_off.ensures.urged h offered idle log raised a c.if-must_back_off.true e)

pub returns-in-Some-clause-backs_off : goal.returns-in-Some-clause-backs_off
returns-in-Some-clause-backs_off c = λ h offered idle log raised a e.
    let w = c.must_back_off.ensures.stays_patient h offered idle log a c.if-must_back_off.false raised e in
    let k : Some c.in-Some.task ≡ None = sym c.in-Some.is ∙ w.untasked in cc

pub returns-then-ecs_due-clause-backs_off : goal.returns-then-ecs_due-clause-backs_off
returns-then-ecs_due-clause-backs_off c = λ h offered idle log raised a e.
    let w = c.must_back_off.ensures.stays_patient h offered idle log a c.if-must_back_off.false raised e in
    absurd (w.no_scrub (holds c.ecs_due.result _ c.if-ecs_due.true (c.ecs_due.ensures h (places log) a.holds.ledger.stands)))

pub returns-in-Some-due-clause-backs_off : goal.returns-in-Some-due-clause-backs_off
returns-in-Some-due-clause-backs_off c = λ h offered idle log raised a e.
    let w = c.must_back_off.ensures.stays_patient h offered idle log a c.if-must_back_off.false raised e in
    absurd (some_due c.due.result c.in-Some-due.due _ c.in-Some-due.is (c.due.ensures.none h (places log) a.holds.ledger.stands) w.no_refresh)

pub returns-in-Some-wanted-clause-backs_off : goal.returns-in-Some-wanted-clause-backs_off
returns-in-Some-wanted-clause-backs_off c = λ h offered idle log raised a e.
    let w = c.must_back_off.ensures.stays_patient h offered idle log a c.if-must_back_off.false raised e in
    absurd (wanted_some c.wanted.result c.in-Some-wanted.address _ c.in-Some-wanted.is (c.wanted.ensures.none h (places log) a.holds.ledger.stands) w.no_management)

-- ---- Why a task is served

pub returns-then-must_back_off-clause-caused : goal.returns-then-must_back_off-clause-caused
returns-then-must_back_off-clause-caused c = λ h offered idle log a.
    caused_by_alert c.args.self.now h (places log) c.args.choice c.args.soonest (c.must_back_off.ensures.backs_off h offered idle log a c.if-must_back_off.true)
    (λ raised e. c.must_back_off.ensures.urged h offered idle log raised a c.if-must_back_off.true e)

pub returns-in-Some-clause-caused : goal.returns-in-Some-clause-caused
returns-in-Some-clause-caused c = λ h offered idle log a.
    BySetTask c.in-Some.task (c.must_back_off.ensures.stays_patient h offered idle log a c.if-must_back_off.false) c.in-Some.is refl

pub returns-then-ecs_due-clause-caused : goal.returns-then-ecs_due-clause-caused
returns-then-ecs_due-clause-caused c = λ h offered idle log a.
    ByDue (c.must_back_off.ensures.stays_patient h offered idle log a c.if-must_back_off.false) (none_task _ c.in_default.not-Some)
    (SetsScrub (holds c.ecs_due.result _ c.if-ecs_due.true (c.ecs_due.ensures h (places log) a.holds.ledger.stands)) refl)

pub returns-in-Some-due-clause-caused : goal.returns-in-Some-due-clause-caused
returns-in-Some-due-clause-caused c = λ h offered idle log a.
    let ledger = a.holds.ledger.stands in
    subst (λ (t : Task). IsCaused c.args.self.now h (places log) c.args.choice c.args.soonest (record { task = t; start = c.max-start.result })) (sym c.refresh_of-task.ensures)
    (caused_by_refresh c.args.self.now h (places log) c.args.choice c.args.soonest c.next_due.result c.max-start.result c.in-Some-due.due (c.must_back_off.ensures.stays_patient h offered idle log a c.if-must_back_off.false) (none_task _ c.in_default.not-Some)
    (holds_not c.ecs_due.result _ c.if-ecs_due.false (c.ecs_due.ensures h (places log) ledger))
    (some_due c.due.result c.in-Some-due.due _ c.in-Some-due.is (c.due.ensures.none h (places log) ledger))
    (λ clock. c.next_due.ensures h (places log) clock ledger) c.max-start.ensures
    (c.in-Some-due.ensures.all h (places log) ledger) (c.in-Some-due.ensures.same h (places log) ledger))

pub returns-in-Some-wanted-clause-caused : goal.returns-in-Some-wanted-clause-caused
returns-in-Some-wanted-clause-caused c = λ h offered idle log a.
    let ledger = a.holds.ledger.stands in
    ByDue (c.must_back_off.ensures.stays_patient h offered idle log a c.if-must_back_off.false) (none_task _ c.in_default.not-Some)
    (SetsManagement c.in-Some-wanted.address (holds_not c.ecs_due.result _ c.if-ecs_due.false (c.ecs_due.ensures h (places log) ledger))
    (due_none c.due.result _ (none_due _ c.in_default-due.not-Some) (c.due.ensures.none h (places log) ledger))
    (record { wanted = c.in-Some-wanted.ensures.wanted h (places log) ledger; first = c.in-Some-wanted.ensures.least h (places log) ledger }) refl)
