use Rattle.std.proofs.Common.{◌↔◌, sym, subst}
use Rattle.std.proofs.Math.Logic.{∥∥₁_map}
use Rattle.speed_bin.specs.Header.{IsAccepted}
use Rattle.speed_bin.specs.declared.header.Header.{Header}
use Rattle.requests.specs.Queue.{places, waiting}
use Rattle.scheduler.specs.Backoff.{AnswersAlert, IsPressed}
use Rattle.scheduler.specs.Controller.{StandsFor, IsTold, from_of, hidden_of, task_of}
use Rattle.scheduler.specs.declared.state.State.{State}
use Rattle.scheduler.proofs.Turning.{stands_after}
use Rattle.scheduler.specs.Policy.{IsTurn}
use Rattle.scheduler.proofs.controller.Controller.next.Goals as goal

pub invariant_of-self : goal.invariant_of-self
invariant_of-self c = (
  subst (λ (h : Header). IsAccepted h) (sym c.next.ensures.header) c.self.invariant.0,
  ∥∥₁_map c.requires.told
      (λ m. stands_after c.next.result _ _ _ m.0 c.next.new.self m.1 m.2 m.3 (c.next.ensures.after m.0 m.1 m.2 m.3 (subst (λ (x : State). StandsFor m.0 x m.1 m.2 m.3) (sym c.self.view_is) m.4) m.5)),
)

pub next-requires-clause-told : goal.next-requires-clause-told
next-requires-clause-told c = subst (λ (x : State). IsTold x c.args.alert) (sym c.self.view_is) c.requires.told

pub returns-clause-backs_off : goal.returns-clause-backs_off
unfolding from_of task_of
returns-clause-backs_off c = λ h offered idle log raised stands alert started e.
    let s = subst (λ (x : State). StandsFor h x offered idle log) (sym c.self.view_is) stands in
    subst (λ (x : State). AnswersAlert c.next.result c.next.new.self.task ↔ IsPressed h (waiting h offered log) (places log) x.ledger.from x.task raised) c.self.view_is
    (c.next.ensures.backs_off h offered idle log raised s alert started e)

pub returns-clause-by_policy : goal.returns-clause-by_policy
returns-clause-by_policy c = λ h offered idle log stands alert.
    let s = subst (λ (x : State). StandsFor h x offered idle log) (sym c.self.view_is) stands in
    subst (λ (x : State). IsTurn h (hidden_of x) (waiting h offered log) (places log) c.next.result (hidden_of c.next.new.self)) c.self.view_is
    (c.next.ensures.by_policy h offered idle log s alert)
