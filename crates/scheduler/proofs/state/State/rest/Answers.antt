use Rattle.std.proofs.Common.{◌≡◌, ◌∙◌, ℕ, None, ap, sym, subst, max, refl}
use Rattle.std.proofs.Math.Bridge.{le_prop}
use Rattle.std.proofs.Math.Logic.{∥∥₁_elim, ∥∥₁_map}
use Rattle.command_words.specs.declared.command.Command.TheVariants.{PreAb}
use Rattle.requests.specs.Queue.{places}
use Rattle.scheduler.specs.Steps.{IsReadySoon}
use Rattle.scheduler.specs.declared.state.State.{State}
use Rattle.scheduler.specs.declared.ledger.Ledger.{Ledger}
use Rattle.scheduler.proofs.Resting.{rested, rests_of, ends_right, last_ready}
use Rattle.scheduler.specs.Policy.{Idles, ShutsAll, IsOver}
use Rattle.scheduler.specs.Steps.{hidden_in}
use Rattle.scheduler.proofs.Policed.{soonest_as}
use Rattle.scheduler.proofs.state.State.rest.Goals as goal

-- the controller at e0
at_rest : (self : State) (ledger : Ledger) (soonest : ℕ) → ledger ≡ record self.ledger { from = soonest } → soonest ≡ max self.ledger.from self.until → record self { ledger = ledger } ≡ rested self
at_rest self ledger soonest same e = ap (λ (l : Ledger). record self { ledger = l }) (same ∙ ap (λ n. record self.ledger { from = n }) e)

pub returns-then-not-self-clause-after : goal.returns-then-not-self-clause-after
returns-then-not-self-clause-after c = λ h offered idle log r.
    let self = c.args.self.now in
    (rests_of c.turn_laws.ensures self (record self { ledger = c.wait_until.new.self }) h offered idle log r c.requires.bound (at_rest self c.wait_until.new.self c.max-soonest.result c.wait_until.ensures.from c.max-soonest.ensures), c.if-not-self.true)

pub returns-then-all_closed-clause-after : goal.returns-then-all_closed-clause-after
returns-then-all_closed-clause-after c = λ h offered idle log r.
    let self = c.args.self.now in
    let closed = sym (c.all_closed.ensures h (places log) (c.wait_until.ensures.stands h (places log) r.awake.holds.ledger).stands) ∙ c.if-all_closed.true in
    (rests_of c.turn_laws.ensures self (record self { ledger = c.wait_until.new.self }) h offered idle log r c.requires.bound (at_rest self c.wait_until.new.self c.max-soonest.result c.wait_until.ensures.from c.max-soonest.ensures), c.if-not-self.false, ends_right c.turn_laws.ensures self h offered idle log r closed)

pub issue_soonest-requires : goal.issue_soonest-requires
issue_soonest-requires c = record {
  ready = ∥∥₁_map c.requires.resting
      (λ r.
      let self = c.args.self.now in
      let opened = sym (c.all_closed.ensures r.0 (places r.3) (c.wait_until.ensures.stands r.0 (places r.3) r.4.awake.holds.ledger).stands) ∙ c.if-all_closed.false in (
        self.ledger.from,
        self.until,
        self.finished,
        r.0,
        r.1,
        r.2,
        r.3,
        subst (λ (x : State). IsReadySoon x self.ledger.from self.until self.finished r.0 r.1 r.2 r.3 PreAb None) (sym (at_rest self c.wait_until.new.self c.max-soonest.result c.wait_until.ensures.from c.max-soonest.ensures))
            (last_ready c.turn_laws.ensures self r.0 r.1 r.2 r.3 r.4 c.requires.bound c.if-not-self.false opened),
      ));
}

pub returns-clause-after : goal.returns-clause-after
returns-clause-after c = λ h offered idle log r.
    let self = c.args.self.now in
    let opened = sym (c.all_closed.ensures h (places log) (c.wait_until.ensures.stands h (places log) r.awake.holds.ledger).stands) ∙ c.if-all_closed.false in
    c.issue_soonest.ensures.after self.ledger.from self.until self.finished h offered idle log
    (subst (λ (x : State). IsReadySoon x self.ledger.from self.until self.finished h offered idle log PreAb None) (sym (at_rest self c.wait_until.new.self c.max-soonest.result c.wait_until.ensures.from c.max-soonest.ensures))
    (last_ready c.turn_laws.ensures self h offered idle log r c.requires.bound c.if-not-self.false opened))

pub returns-clause-bound : goal.returns-clause-bound
returns-clause-bound c =
    ∥∥₁_elim c.requires.resting le_prop
    (λ r.
    let self = c.args.self.now in
    let opened = sym (c.all_closed.ensures r.0 (places r.3) (c.wait_until.ensures.stands r.0 (places r.3) r.4.awake.holds.ledger).stands) ∙ c.if-all_closed.false in
    c.issue_soonest.ensures.bound self.ledger.from self.until self.finished r.0 r.1 r.2 r.3
    (subst (λ (x : State). IsReadySoon x self.ledger.from self.until self.finished r.0 r.1 r.2 r.3 PreAb None) (sym (at_rest self c.wait_until.new.self c.max-soonest.result c.wait_until.ensures.from c.max-soonest.ensures))
    (last_ready c.turn_laws.ensures self r.0 r.1 r.2 r.3 r.4 c.requires.bound c.if-not-self.false opened)))

pub returns-then-not-self-clause-policy : goal.returns-then-not-self-clause-policy
returns-then-not-self-clause-policy c = λ h offered idle log r.
    Idles c.if-not-self.true refl (ap (λ (x : State). hidden_in x) (at_rest c.args.self.now c.wait_until.new.self c.max-soonest.result c.wait_until.ensures.from c.max-soonest.ensures))

pub returns-then-all_closed-clause-policy : goal.returns-then-all_closed-clause-policy
returns-then-all_closed-clause-policy c = λ h offered idle log r.
    let closed = sym (c.all_closed.ensures h (places log) (c.wait_until.ensures.stands h (places log) r.awake.holds.ledger).stands) ∙ c.if-all_closed.true in
    IsOver c.if-not-self.false closed refl (ap (λ (x : State). hidden_in x) (at_rest c.args.self.now c.wait_until.new.self c.max-soonest.result c.wait_until.ensures.from c.max-soonest.ensures))

pub returns-clause-policy : goal.returns-clause-policy
returns-clause-policy c = λ h offered idle log r.
    let self = c.args.self.now in
    let stands = c.wait_until.ensures.stands h (places log) r.awake.holds.ledger in
    let opened = sym (c.all_closed.ensures h (places log) stands.stands) ∙ c.if-all_closed.false in
    let from = ap (λ (l : Ledger). l.from) c.wait_until.ensures.from ∙ c.max-soonest.ensures in
    ShutsAll c.if-not-self.false opened
    (soonest_as h (places log) c.wait_until.new.self.from (max self.ledger.from self.until) PreAb PreAb (hidden_in (record self { ledger = c.wait_until.new.self })) (hidden_in self) None _ _ from refl refl refl
    (c.issue_soonest.ensures.policy h (places log) stands))
