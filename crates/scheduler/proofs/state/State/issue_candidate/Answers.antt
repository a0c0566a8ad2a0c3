use Rattle.std.proofs.Common.{◌≡◌, ◌<◌, length, ◌∙◌, Some, None, ap, sym, refl, subst, slice_get}
use Rattle.std.proofs.Math.Bridge.{le_prop}
use Rattle.std.proofs.Math.Logic.{∥∥₁_elim, ∥∥₁_map}
use Rattle.std.specs.List.{remove}
use Rattle.command_words.specs.Kinds.{is_rfm_all}
use Rattle.requests.specs.Queue.{places}
use Rattle.scheduler.specs.declared.state.State.{State}
use Rattle.scheduler.specs.Choice.{command_for}
use Rattle.scheduler.specs.Ledger.{MayIssue}
use Rattle.scheduler.specs.Steps.{id_for, queue_after}
use Rattle.scheduler.proofs.Ready.{may_of, issues_of, ledger_of, suits_of, ready_column, ready_other}
use Rattle.scheduler.proofs.Pressing.{candidate_no_rfm}
use Rattle.scheduler.proofs.Policed.{left_of, for_column, for_other, one_here}
use Rattle.scheduler.proofs.state.State.issue_candidate.Goals as goal

pub waiting_at-waiting-requires-clause-inside : goal.waiting_at-waiting-requires-clause-inside
waiting_at-waiting-requires-clause-inside c =
    ∥∥₁_elim c.requires.ready le_prop
    (λ r. subst (λ ws. c.args.candidate.now.at < length ws) (sym c.as_slice.ensures.value) r.7.inside)

pub issue-requires-clause-may : goal.issue-requires-clause-may
issue-requires-clause-may c =
    let self = c.args.self.now in
    let w = c.waiting_at-waiting.result in
    let k = c.args.candidate.now.class in
    let here = subst (λ xs. slice_get xs c.args.candidate.now.at ≡ Some w) c.as_slice.ensures.value c.waiting_at-waiting.ensures in
    subst (λ x. MayIssue self.ledger c.args.candidate.now.clock x) (sym c.command_for-command.ensures)
    (∥∥₁_map c.requires.ready (λ r. may_of c.turn_laws.ensures self r.0 r.1 r.2 r.3 r.4 r.5 r.6 c.args.candidate.now.clock (command_for k w) (id_for k w) c.args.task (queue_after k self.queue.items c.args.candidate.now.at) (r.7.ready w here)))

pub issue-requires-clause-small : goal.issue-requires-clause-small
issue-requires-clause-small c =
    let w = c.waiting_at-waiting.result in
    let here = subst (λ xs. slice_get xs c.args.candidate.now.at ≡ Some w) c.as_slice.ensures.value c.waiting_at-waiting.ensures in
    ∥∥₁_elim c.requires.ready le_prop (λ r. (r.7.ready w here).near)

pub returns-then-is_column-clause-after : goal.returns-then-is_column-clause-after
returns-then-is_column-clause-after c = λ from until finished h offered idle log r.
    let self = c.args.self.now in
    let laws = c.turn_laws.ensures in
    let w = c.waiting_at-waiting.result in
    let candidate = c.args.candidate.now in
    let command = c.command_for-command.result in
    let here = subst (λ xs. slice_get xs candidate.at ≡ Some w) c.as_slice.ensures.value c.waiting_at-waiting.ensures in
    let ws = remove self.queue.items candidate.at in
    let k = ready_column self from until finished h offered idle log candidate.clock candidate.at command candidate.class w c.args.task (c.is_column.ensures.0 c.if-is_column.true) c.command_for-command.ensures (r.ready w here) in
    let same = c.issue.ensures.rest in
    issues_of laws self _ from until finished h offered idle log candidate.clock command (Some w.id) c.args.task ws c.remove.new.self k
    (c.issue.ensures.ledger h (places log) (ledger_of self from until finished h offered idle log candidate.clock command (Some w.id) c.args.task ws k) (suits_of laws self from until finished h offered idle log candidate.clock command (Some w.id) c.args.task ws k))
    c.issue.ensures.from c.issue.ensures.alert (c.remove.ensures.items ∙ ap (λ (x : State). remove x.queue.items candidate.at) same) (ap (λ (x : State). record x { queue = c.remove.new.self }) same)

pub returns-else-is_column-clause-after : goal.returns-else-is_column-clause-after
returns-else-is_column-clause-after c = λ from until finished h offered idle log r.
    let self = c.args.self.now in
    let laws = c.turn_laws.ensures in
    let w = c.waiting_at-waiting.result in
    let candidate = c.args.candidate.now in
    let command = c.command_for-command.result in
    let here = subst (λ xs. slice_get xs candidate.at ≡ Some w) c.as_slice.ensures.value c.waiting_at-waiting.ensures in
    let ws = self.queue.items in
    let k = ready_other self from until finished h offered idle log candidate.clock candidate.at command candidate.class w c.args.task (λ e. let t = c.is_column.ensures.1 e in let f = sym t ∙ c.if-is_column.false in cc) c.command_for-command.ensures (r.ready w here) in
    issues_of laws self c.issue.new.self from until finished h offered idle log candidate.clock command None c.args.task ws self.queue k
    (c.issue.ensures.ledger h (places log) (ledger_of self from until finished h offered idle log candidate.clock command None c.args.task ws k) (suits_of laws self from until finished h offered idle log candidate.clock command None c.args.task ws k))
    c.issue.ensures.from c.issue.ensures.alert refl c.issue.ensures.rest

pub returns-else-is_column-clause-serves : goal.returns-else-is_column-clause-serves
returns-else-is_column-clause-serves c = ap is_rfm_all c.command_for-command.ensures ∙ candidate_no_rfm c.args.candidate.now.class c.waiting_at-waiting.result

pub returns-then-is_column-clause-policy : goal.returns-then-is_column-clause-policy
returns-then-is_column-clause-policy c = λ w there.
    let self = c.args.self.now in
    let v = c.waiting_at-waiting.result in
    let candidate = c.args.candidate.now in
    let here = subst (λ xs. slice_get xs candidate.at ≡ Some v) c.as_slice.ensures.value c.waiting_at-waiting.ensures in
    let same = c.issue.ensures.rest in
    for_column candidate.class v w candidate.clock c.command_for-command.result _ c.args.task _ (c.is_column.ensures.0 c.if-is_column.true) (one_here self.queue.items candidate.at v w here there) c.command_for-command.ensures
    (left_of self c.issue.new.self candidate.clock c.args.task (ap (λ (x : State). x.task) same) c.issue.ensures.from (ap (λ (x : State). x.until) same) (ap (λ (x : State). x.finished) same))

pub returns-else-is_column-clause-policy : goal.returns-else-is_column-clause-policy
returns-else-is_column-clause-policy c = λ w there.
    let self = c.args.self.now in
    let v = c.waiting_at-waiting.result in
    let candidate = c.args.candidate.now in
    let here = subst (λ xs. slice_get xs candidate.at ≡ Some v) c.as_slice.ensures.value c.waiting_at-waiting.ensures in
    let same = c.issue.ensures.rest in
    for_other candidate.class v w candidate.clock c.command_for-command.result _ c.args.task _ (λ e. let t = c.is_column.ensures.1 e in let f = sym t ∙ c.if-is_column.false in cc) (one_here self.queue.items candidate.at v w here there) c.command_for-command.ensures
    (left_of self c.issue.new.self candidate.clock c.args.task (ap (λ (x : State). x.task) same) c.issue.ensures.from (ap (λ (x : State). x.until) same) (ap (λ (x : State). x.finished) same))
