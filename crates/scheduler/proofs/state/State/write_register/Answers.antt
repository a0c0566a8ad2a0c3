use Rattle.std.proofs.Common.{◌≡◌, ◌∙◌, ap, length, subst, slice_get, Some}
use Rattle.std.proofs.Math.Bridge.{le_prop}
use Rattle.std.proofs.Math.Logic.{∥∥₁_elim, ∥∥₁_map}
use Rattle.std.proofs.Math.Nat.{ℕ_set}
use Rattle.scheduler.proofs.Starting.{write_ready}
use Rattle.requests.specs.Queue.{places}
use Rattle.scheduler.proofs.Policed.{write_of}
use Rattle.scheduler.proofs.state.State.write_register.Goals as goal

pub write_at-requires-clause-eight : goal.write_at-requires-clause-eight
write_at-requires-clause-eight c = ∥∥₁_elim c.requires.awake (ℕ_set _ _) (λ a. ap (λ ws. length ws) (c.as_slice.ensures.value ∙ a.4.holds.writes))

pub issue_soonest-requires : goal.issue_soonest-requires
issue_soonest-requires c = record {
  ready = ∥∥₁_map c.requires.awake
      (λ a.
      let self = c.args.self.now in (
        self.ledger.from,
        self.until,
        self.finished,
        a.0,
        a.1,
        a.2,
        a.3,
        write_ready c.turn_laws.ensures self a.0 a.1 a.2 a.3 c.write_at.result a.4 c.requires.bound c.requires.starting (subst (λ ws. slice_get ws self.ledger.written ≡ Some c.write_at.result) c.as_slice.ensures.value c.write_at.ensures),
      ));
}

pub returns-clause-after : goal.returns-clause-after
returns-clause-after c = λ h offered idle log a.
    let self = c.args.self.now in
    c.issue_soonest.ensures.after self.ledger.from self.until self.finished h offered idle log
    (write_ready c.turn_laws.ensures self h offered idle log c.write_at.result a c.requires.bound c.requires.starting (subst (λ ws. slice_get ws self.ledger.written ≡ Some c.write_at.result) c.as_slice.ensures.value c.write_at.ensures))

pub returns-clause-bound : goal.returns-clause-bound
returns-clause-bound c =
    ∥∥₁_elim c.requires.awake le_prop
    (λ a.
    let self = c.args.self.now in
    c.issue_soonest.ensures.bound self.ledger.from self.until self.finished a.0 a.1 a.2 a.3
    (write_ready c.turn_laws.ensures self a.0 a.1 a.2 a.3 c.write_at.result a.4 c.requires.bound c.requires.starting (subst (λ ws. slice_get ws self.ledger.written ≡ Some c.write_at.result) c.as_slice.ensures.value c.write_at.ensures)))

pub returns-clause-policy : goal.returns-clause-policy
returns-clause-policy c = λ h offered idle log a.
    let self = c.args.self.now in
    write_of self h offered idle log c.write_at.result _ _ a c.requires.starting (subst (λ ws. slice_get ws self.ledger.written ≡ Some c.write_at.result) c.as_slice.ensures.value c.write_at.ensures)
    (c.issue_soonest.ensures.policy h (places log) a.holds.ledger)
