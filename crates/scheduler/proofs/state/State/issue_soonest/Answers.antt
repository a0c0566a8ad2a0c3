use Rattle.std.proofs.Common.{None, refl, ap}
use Rattle.std.proofs.Math.Bridge.{le_prop}
use Rattle.std.proofs.Math.Logic.{∥∥₁_elim, ∥∥₁_map}
use Rattle.requests.specs.Queue.{places}
use Rattle.scheduler.proofs.Ready.{may_of, issues_of, ledger_of, suits_of}
use Rattle.scheduler.specs.declared.state.State.{State}
use Rattle.scheduler.proofs.Policed.{left_of}
use Rattle.scheduler.proofs.state.State.issue_soonest.Goals as goal

pub issue-requires-clause-may : goal.issue-requires-clause-may
issue-requires-clause-may c =
    ∥∥₁_map c.requires.ready
    (λ r.
    let k = r.7.ready c.soonest-clock.result (c.soonest-clock.ensures r.3 (places r.6) r.7.ledger) in
    may_of c.turn_laws.ensures c.args.self.now r.0 r.1 r.2 r.3 r.4 r.5 r.6 c.soonest-clock.result c.args.command None c.args.task c.args.self.now.queue.items k)

pub returns-clause-after : goal.returns-clause-after
returns-clause-after c = λ from until finished h offered idle log r.
    let clock = c.soonest-clock.result in
    let self = c.args.self.now in
    let ws = self.queue.items in
    let laws = c.turn_laws.ensures in
    let k = r.ready clock (c.soonest-clock.ensures h (places log) r.ledger) in
    issues_of laws self c.issue.new.self from until finished h offered idle log clock c.args.command None c.args.task ws self.queue k
    (c.issue.ensures.ledger h (places log) (ledger_of self from until finished h offered idle log clock c.args.command None c.args.task ws k) (suits_of laws self from until finished h offered idle log clock c.args.command None c.args.task ws k))
    c.issue.ensures.from c.issue.ensures.alert refl c.issue.ensures.rest

pub issue-requires-clause-small : goal.issue-requires-clause-small
issue-requires-clause-small c =
    ∥∥₁_elim c.requires.ready le_prop (λ r. (r.7.ready c.soonest-clock.result (c.soonest-clock.ensures r.3 (places r.6) r.7.ledger)).near)

pub returns-clause-policy : goal.returns-clause-policy
returns-clause-policy c = λ h log s.
    let same = c.issue.ensures.rest in record {
      clock = c.soonest-clock.result;
      soonest = c.soonest-clock.ensures h log s;
      issues = refl;
      leaves = left_of c.args.self.now c.issue.new.self c.soonest-clock.result c.args.task (ap (λ (x : State). x.task) same) c.issue.ensures.from (ap (λ (x : State). x.until) same) (ap (λ (x : State). x.finished) same);
    }
