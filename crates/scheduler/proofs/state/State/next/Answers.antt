use Rattle.std.proofs.Common.{◌≡◌, Some, None, Option, IfNone, IsSome, ap, refl, arith}
use Rattle.std.proofs.Math.Bridge.{le_prop}
use Rattle.std.proofs.Math.Logic.{∥∥₁_elim, ∥∥₁_map}
use Rattle.requests.specs.Queue.{places, waiting}
use Rattle.scheduler.specs.Controller.{StandsFor, from_of, until_of, finished_of, task_of}
use Rattle.scheduler.specs.declared.state.State.{State}
use Rattle.scheduler.specs.declared.choice.Candidate.{Candidate}
use Rattle.scheduler.specs.declared.task.Errand.{Errand}
use Rattle.scheduler.proofs.Parts.{length-places}
use Rattle.scheduler.proofs.Offering.{offer_ready}
use Rattle.scheduler.proofs.Starting.{started_of}
use Rattle.scheduler.proofs.Turning.{choice_of, small_of, serving_of, resting_of, looks_as, before_as, best_of, free_as, after_seen}
use Rattle.scheduler.proofs.Pressing.{pressed_of, not_pressed, waits_of, not_answered, answers_seen}
use Rattle.scheduler.specs.Policy.{Starts}
use Rattle.scheduler.specs.Steps.{hidden_in}
use Rattle.scheduler.proofs.Policed.{serves_by_policy, offers_by_policy, rests_by_policy, policy_seen}
use Rattle.scheduler.proofs.state.State.next.Goals as goal

at_none : (o : Option Errand) (P : Type 0) → ((x : Errand) → o ≡ Some x → ⊥) → IfNone o P → P
at_none None P f p = p
at_none (Some x) P f p = absurd (f x refl)

pub write_register-requires-clause-awake : goal.write_register-requires-clause-awake
unfolding StandsFor from_of until_of finished_of task_of
write_register-requires-clause-awake c = ∥∥₁_map c.requires.told (λ r. (r.0, r.1, r.2, r.3, c.see.ensures.awake r.0 r.1 r.2 r.3 r.4 r.5))

pub choose-choice-requires-clause-ledger : goal.choose-choice-requires-clause-ledger
unfolding StandsFor from_of until_of finished_of task_of
choose-choice-requires-clause-ledger c = ∥∥₁_map c.requires.told (λ r. let a = c.see.ensures.awake r.0 r.1 r.2 r.3 r.4 r.5 in (r.0, places r.3, a.holds.ledger))

pub errand_at-requires-clause-small : goal.errand_at-requires-clause-small
unfolding StandsFor from_of until_of finished_of task_of
errand_at-requires-clause-small c =
    ∥∥₁_elim c.requires.told le_prop
    (λ r.
    let self = c.see.new.self in
    let a = c.see.ensures.awake r.0 r.1 r.2 r.3 r.4 r.5 in
    let same = ap (λ (x : State). x.ledger.from) c.see.ensures.rest in
    let i = choice_of c.turn_laws.ensures self r.0 r.1 r.2 r.3 c.as_slice.result.now c.choose-choice.result a.holds c.as_slice.ensures.value c.choose-choice.ensures.none c.choose-choice.ensures.some in
    small_of c.turn_laws.ensures self r.0 r.1 r.2 r.3 c.choose-choice.result c.soonest_of-soonest.result a.holds (let b = c.requires.bound in omega (arith, b, same)) i c.soonest_of-soonest.ensures)

pub serve_task-requires-clause-serving : goal.serve_task-requires-clause-serving
unfolding StandsFor from_of until_of finished_of task_of
serve_task-requires-clause-serving c =
    ∥∥₁_map c.requires.told
    (λ r.
    let self = c.see.new.self in
    let a = c.see.ensures.awake r.0 r.1 r.2 r.3 r.4 r.5 in
    let i = choice_of c.turn_laws.ensures self r.0 r.1 r.2 r.3 c.as_slice.result.now c.choose-choice.result a.holds c.as_slice.ensures.value c.choose-choice.ensures.none c.choose-choice.ensures.some in
    let e = c.soonest_of-soonest.ensures in (
      r.0,
      r.1,
      r.2,
      r.3,
      serving_of self r.0 r.1 r.2 r.3 c.choose-choice.result c.soonest_of-soonest.result c.in-Some.errand a (started_of self r.0 r.1 r.2 r.3 a.holds c.if-self-lt8.false) i e
          (c.in-Some.ensures.some r.0 r.1 r.2 r.3 a (looks_as self r.0 r.3 c.choose-choice.result c.soonest_of-soonest.result i e) (before_as self r.0 r.3 c.choose-choice.result c.soonest_of-soonest.result i e)),
    ))

pub returns-in-Some-clause-after : goal.returns-in-Some-clause-after
unfolding StandsFor from_of until_of finished_of task_of
returns-in-Some-clause-after c = λ h offered idle log s alert.
    let self = c.see.new.self in
    let a = c.see.ensures.awake h offered idle log s alert in
    let i = choice_of c.turn_laws.ensures self h offered idle log c.as_slice.result.now c.choose-choice.result a.holds c.as_slice.ensures.value c.choose-choice.ensures.none c.choose-choice.ensures.some in
    let e = c.soonest_of-soonest.ensures in
    after_seen c.serve_task.result c.args.self.now self c.serve_task.new.self h offered idle log c.see.ensures.rest
    (c.serve_task.ensures.after h offered idle log (serving_of self h offered idle log c.choose-choice.result c.soonest_of-soonest.result c.in-Some.errand a (started_of self h offered idle log a.holds c.if-self-lt8.false) i e
    (c.in-Some.ensures.some h offered idle log a (looks_as self h log c.choose-choice.result c.soonest_of-soonest.result i e) (before_as self h log c.choose-choice.result c.soonest_of-soonest.result i e))))

pub issue_candidate-requires : goal.issue_candidate-requires
unfolding StandsFor from_of until_of finished_of task_of
issue_candidate-requires c = record {
  ready = ∥∥₁_map c.requires.told
      (λ r.
      let self = c.see.new.self in
      let a = c.see.ensures.awake r.0 r.1 r.2 r.3 r.4 r.5 in
      let same = ap (λ (x : State). x.ledger.from) c.see.ensures.rest in
      let i = choice_of c.turn_laws.ensures self r.0 r.1 r.2 r.3 c.as_slice.result.now c.choose-choice.result a.holds c.as_slice.ensures.value c.choose-choice.ensures.none c.choose-choice.ensures.some in
      let e = c.soonest_of-soonest.ensures in
      let free = at_none c.errand_at.result _ c.in_default.not-Some c.errand_at.ensures.none r.0 r.1 r.2 r.3 a in (
        self.ledger.from,
        self.until,
        self.finished,
        r.0,
        r.1,
        r.2,
        r.3,
        offer_ready c.turn_laws.ensures self r.0 r.1 r.2 r.3 c.in-Some-choice.candidate a (let b = c.requires.bound in omega (arith, b, same)) (started_of self r.0 r.1 r.2 r.3 a.holds c.if-self-lt8.false)
            (free_as self r.0 (places r.3) c.choose-choice.result c.in-Some-choice.candidate c.soonest_of-soonest.result c.in-Some-choice.is e free)
            (best_of self r.0 r.3 c.choose-choice.result c.in-Some-choice.candidate c.in-Some-choice.is i),
      ));
}

pub rest-requires-clause-resting : goal.rest-requires-clause-resting
unfolding StandsFor from_of until_of finished_of task_of
rest-requires-clause-resting c =
    ∥∥₁_map c.requires.told
    (λ r.
    let self = c.see.new.self in
    let a = c.see.ensures.awake r.0 r.1 r.2 r.3 r.4 r.5 in
    let i = choice_of c.turn_laws.ensures self r.0 r.1 r.2 r.3 c.as_slice.result.now c.choose-choice.result a.holds c.as_slice.ensures.value c.choose-choice.ensures.none c.choose-choice.ensures.some in
    let free = at_none c.errand_at.result _ c.in_default.not-Some c.errand_at.ensures.none r.0 r.1 r.2 r.3 a in
    (r.0, r.1, r.2, r.3, resting_of self r.0 r.1 r.2 r.3 c.choose-choice.result c.soonest_of-soonest.result a (started_of self r.0 r.1 r.2 r.3 a.holds c.if-self-lt8.false) c.in-None.is i c.soonest_of-soonest.ensures free))

pub returns-in-Some-choice-clause-after : goal.returns-in-Some-choice-clause-after
unfolding StandsFor from_of until_of finished_of task_of
returns-in-Some-choice-clause-after c = λ h offered idle log s alert.
    let self = c.see.new.self in
    let a = c.see.ensures.awake h offered idle log s alert in
    let same = ap (λ (x : State). x.ledger.from) c.see.ensures.rest in
    let i = choice_of c.turn_laws.ensures self h offered idle log c.as_slice.result.now c.choose-choice.result a.holds c.as_slice.ensures.value c.choose-choice.ensures.none c.choose-choice.ensures.some in
    let e = c.soonest_of-soonest.ensures in
    let free = at_none c.errand_at.result _ c.in_default.not-Some c.errand_at.ensures.none h offered idle log a in
    after_seen c.issue_candidate.result c.args.self.now self c.issue_candidate.new.self h offered idle log c.see.ensures.rest
    (c.issue_candidate.ensures.after self.ledger.from self.until self.finished h offered idle log
    (offer_ready c.turn_laws.ensures self h offered idle log c.in-Some-choice.candidate a (let b = c.requires.bound in omega (arith, b, same)) (started_of self h offered idle log a.holds c.if-self-lt8.false)
    (free_as self h (places log) c.choose-choice.result c.in-Some-choice.candidate c.soonest_of-soonest.result c.in-Some-choice.is e free)
    (best_of self h log c.choose-choice.result c.in-Some-choice.candidate c.in-Some-choice.is i)))

pub returns-in-Some-choice-clause-bound : goal.returns-in-Some-choice-clause-bound
unfolding StandsFor from_of until_of finished_of task_of
returns-in-Some-choice-clause-bound c =
    ∥∥₁_elim c.requires.told le_prop
    (λ r.
    let self = c.see.new.self in
    let a = c.see.ensures.awake r.0 r.1 r.2 r.3 r.4 r.5 in
    let same = ap (λ (x : State). x.ledger.from) c.see.ensures.rest in
    let target = ap (λ (x : State). x.until) c.see.ensures.rest in
    let i = choice_of c.turn_laws.ensures self r.0 r.1 r.2 r.3 c.as_slice.result.now c.choose-choice.result a.holds c.as_slice.ensures.value c.choose-choice.ensures.none c.choose-choice.ensures.some in
    let e = c.soonest_of-soonest.ensures in
    let free = at_none c.errand_at.result _ c.in_default.not-Some c.errand_at.ensures.none r.0 r.1 r.2 r.3 a in
    let k = offer_ready c.turn_laws.ensures self r.0 r.1 r.2 r.3 c.in-Some-choice.candidate a (let b = c.requires.bound in omega (arith, b, same)) (started_of self r.0 r.1 r.2 r.3 a.holds c.if-self-lt8.false)
    (free_as self r.0 (places r.3) c.choose-choice.result c.in-Some-choice.candidate c.soonest_of-soonest.result c.in-Some-choice.is e free)
    (best_of self r.0 r.3 c.choose-choice.result c.in-Some-choice.candidate c.in-Some-choice.is i) in
    let soon = k.soon in let at = c.issue_candidate.ensures.from in omega (arith, soon, at, same, target))

pub returns-in-None-clause-after : goal.returns-in-None-clause-after
unfolding StandsFor from_of until_of finished_of task_of
returns-in-None-clause-after c = λ h offered idle log s alert.
    let self = c.see.new.self in
    let a = c.see.ensures.awake h offered idle log s alert in
    let i = choice_of c.turn_laws.ensures self h offered idle log c.as_slice.result.now c.choose-choice.result a.holds c.as_slice.ensures.value c.choose-choice.ensures.none c.choose-choice.ensures.some in
    let free = at_none c.errand_at.result _ c.in_default.not-Some c.errand_at.ensures.none h offered idle log a in
    after_seen c.rest.result c.args.self.now self c.rest.new.self h offered idle log c.see.ensures.rest
    (c.rest.ensures.after h offered idle log (resting_of self h offered idle log c.choose-choice.result c.soonest_of-soonest.result a (started_of self h offered idle log a.holds c.if-self-lt8.false) c.in-None.is i c.soonest_of-soonest.ensures free))

-- ---- The alert

pub returns-then-self-lt8-clause-backs_off : goal.returns-then-self-lt8-clause-backs_off
unfolding StandsFor from_of until_of finished_of task_of
returns-then-self-lt8-clause-backs_off c = λ h offered idle log raised s alert started e.
    let a = c.see.ensures.awake h offered idle log s alert in
    let w = a.holds.ledger.written in let n = length-places log in let few = c.if-self-lt8.true in
    absurd (omega (arith, w, n, few, started))

pub returns-in-Some-clause-backs_off : goal.returns-in-Some-clause-backs_off
unfolding StandsFor from_of until_of finished_of task_of
returns-in-Some-clause-backs_off c = λ h offered idle log raised s alert started e.
    let self = c.see.new.self in
    let a = c.see.ensures.awake h offered idle log s alert in
    let i = choice_of c.turn_laws.ensures self h offered idle log c.as_slice.result.now c.choose-choice.result a.holds c.as_slice.ensures.value c.choose-choice.ensures.none c.choose-choice.ensures.some in
    let k = c.in-Some.ensures.backs_off h offered idle log raised a e in
    let pressed = pressed_of c.turn_laws.ensures self h offered idle log c.choose-choice.result c.soonest_of-soonest.result raised a i c.soonest_of-soonest.ensures k.1 in
    let answered = c.serve_task.ensures.backs_off k.0 in
    answers_seen c.serve_task.result c.serve_task.new.self.task c.args.self.now self h (waiting h offered log) (places log) raised c.see.ensures.rest (λ x. pressed, λ x. answered)

pub returns-in-Some-choice-clause-backs_off : goal.returns-in-Some-choice-clause-backs_off
unfolding StandsFor from_of until_of finished_of task_of
returns-in-Some-choice-clause-backs_off c = λ h offered idle log raised s alert started e.
    let self = c.see.new.self in
    let a = c.see.ensures.awake h offered idle log s alert in
    let i = choice_of c.turn_laws.ensures self h offered idle log c.as_slice.result.now c.choose-choice.result a.holds c.as_slice.ensures.value c.choose-choice.ensures.none c.choose-choice.ensures.some in
    let free = at_none c.errand_at.result _ c.in_default.not-Some c.errand_at.ensures.none h offered idle log a in
    let waits = waits_of self h (places log) c.choose-choice.result c.soonest_of-soonest.result raised e free in
    answers_seen c.issue_candidate.result c.issue_candidate.new.self.task c.args.self.now self h (waiting h offered log) (places log) raised c.see.ensures.rest (
      λ x. absurd (not_answered c.issue_candidate.result c.issue_candidate.new.self.task c.issue_candidate.ensures.serves c.issue_candidate.ensures.task x),
      λ x. absurd (not_pressed self h offered idle log c.choose-choice.result c.soonest_of-soonest.result raised a i c.soonest_of-soonest.ensures waits x),
    )

none_chosen : (o : Option Candidate) → o ≡ None → IsSome o → ⊥
none_chosen None e f = cc
none_chosen (Some x) e f = cc

pub returns-in-None-clause-backs_off : goal.returns-in-None-clause-backs_off
unfolding StandsFor from_of until_of finished_of task_of
returns-in-None-clause-backs_off c = λ h offered idle log raised s alert started e.
    let a = c.see.ensures.awake h offered idle log s alert in
    let free = at_none c.errand_at.result _ c.in_default.not-Some c.errand_at.ensures.none h offered idle log a in
    absurd (none_chosen c.choose-choice.result c.in-None.is (free.candidate raised e))

-- ---- The policy

pub returns-then-self-lt8-clause-by_policy : goal.returns-then-self-lt8-clause-by_policy
unfolding StandsFor from_of until_of finished_of task_of
returns-then-self-lt8-clause-by_policy c = λ h offered idle log s alert.
    policy_seen c.args.self.now c.see.new.self h (waiting h offered log) (places log) c.write_register.result (hidden_in c.write_register.new.self) c.see.ensures.rest
    (Starts (c.write_register.ensures.policy h offered idle log (c.see.ensures.awake h offered idle log s alert)))

pub returns-in-Some-clause-by_policy : goal.returns-in-Some-clause-by_policy
unfolding StandsFor from_of until_of finished_of task_of
returns-in-Some-clause-by_policy c = λ h offered idle log s alert.
    let self = c.see.new.self in
    let a = c.see.ensures.awake h offered idle log s alert in
    let i = choice_of c.turn_laws.ensures self h offered idle log c.as_slice.result.now c.choose-choice.result a.holds c.as_slice.ensures.value c.choose-choice.ensures.none c.choose-choice.ensures.some in
    let e = c.soonest_of-soonest.ensures in
    let started = started_of self h offered idle log a.holds c.if-self-lt8.false in
    let serving = serving_of self h offered idle log c.choose-choice.result c.soonest_of-soonest.result c.in-Some.errand a started i e
    (c.in-Some.ensures.some h offered idle log a (looks_as self h log c.choose-choice.result c.soonest_of-soonest.result i e) (before_as self h log c.choose-choice.result c.soonest_of-soonest.result i e)) in
    policy_seen c.args.self.now self h (waiting h offered log) (places log) c.serve_task.result (hidden_in c.serve_task.new.self) c.see.ensures.rest
    (serves_by_policy c.turn_laws.ensures self h offered idle log c.choose-choice.result c.soonest_of-soonest.result c.in-Some.errand c.serve_task.result (hidden_in c.serve_task.new.self) a started i e
    (c.in-Some.ensures.caused h offered idle log a) (c.serve_task.ensures.policy h offered idle log serving))

pub returns-in-Some-choice-clause-by_policy : goal.returns-in-Some-choice-clause-by_policy
unfolding StandsFor from_of until_of finished_of task_of
returns-in-Some-choice-clause-by_policy c = λ h offered idle log s alert.
    let self = c.see.new.self in
    let a = c.see.ensures.awake h offered idle log s alert in
    let i = choice_of c.turn_laws.ensures self h offered idle log c.as_slice.result.now c.choose-choice.result a.holds c.as_slice.ensures.value c.choose-choice.ensures.none c.choose-choice.ensures.some in
    let e = c.soonest_of-soonest.ensures in
    let free = at_none c.errand_at.result _ c.in_default.not-Some c.errand_at.ensures.none h offered idle log a in
    policy_seen c.args.self.now self h (waiting h offered log) (places log) c.issue_candidate.result (hidden_in c.issue_candidate.new.self) c.see.ensures.rest
    (offers_by_policy self h offered idle log c.in-Some-choice.candidate c.issue_candidate.result (hidden_in c.issue_candidate.new.self) a (started_of self h offered idle log a.holds c.if-self-lt8.false)
    (best_of self h log c.choose-choice.result c.in-Some-choice.candidate c.in-Some-choice.is i)
    (free_as self h (places log) c.choose-choice.result c.in-Some-choice.candidate c.soonest_of-soonest.result c.in-Some-choice.is e free) c.issue_candidate.ensures.policy)

pub returns-in-None-clause-by_policy : goal.returns-in-None-clause-by_policy
unfolding StandsFor from_of until_of finished_of task_of
returns-in-None-clause-by_policy c = λ h offered idle log s alert.
    let self = c.see.new.self in
    let a = c.see.ensures.awake h offered idle log s alert in
    let i = choice_of c.turn_laws.ensures self h offered idle log c.as_slice.result.now c.choose-choice.result a.holds c.as_slice.ensures.value c.choose-choice.ensures.none c.choose-choice.ensures.some in
    let free = at_none c.errand_at.result _ c.in_default.not-Some c.errand_at.ensures.none h offered idle log a in
    let resting = resting_of self h offered idle log c.choose-choice.result c.soonest_of-soonest.result a (started_of self h offered idle log a.holds c.if-self-lt8.false) c.in-None.is i c.soonest_of-soonest.ensures free in
    policy_seen c.args.self.now self h (waiting h offered log) (places log) c.rest.result (hidden_in c.rest.new.self) c.see.ensures.rest
    (rests_by_policy self h offered idle log c.rest.result (hidden_in c.rest.new.self) resting (c.rest.ensures.policy h offered idle log resting))
