use Rattle.std.proofs.Common.{◌≡◌, ◌≤◌, ◌∙◌, ◌+◌, ◌-◌, Some, slice_get, length, subst, arith}
use Rattle.std.proofs.Math.Bridge.{le_prop}
use Rattle.std.proofs.Math.Logic.{∥∥₁_elim}
use Rattle.requests.specs.Queue.{waiting}
use Rattle.scheduler.specs.Controller.{excused, StandsFor}
use Rattle.scheduler.proofs.Offered.{span_first}
use Rattle.scheduler.proofs.state.State.span.Goals as goal

pub overflow_sub-result : goal.overflow_sub-result
unfolding StandsFor
overflow_sub-result c =
    ∥∥₁_elim c.requires le_prop
    (λ r.
    let self = c.args.self.now in
    let s = r.4 in
    let e = subst (λ xs. slice_get xs 0 ≡ Some c.waiting_at.result) c.as_slice.ensures.value c.waiting_at.ensures in
    let i = (c.queued.ensures.is_queued r.0 r.1 r.3 self.queue.items (excused self.task self.finished self.queue.items) 0 c.waiting_at.result s.requested e).upto in
    let count = s.count in omega (arith, i, count))

pub returns : goal.returns
unfolding StandsFor
returns c = λ h offered idle log s.
    let self = c.args.self.now in
    let e = subst (λ xs. slice_get xs 0 ≡ Some c.waiting_at.result) c.as_slice.ensures.value c.waiting_at.ensures in
    let i = (c.queued.ensures.is_queued h offered log self.queue.items (excused self.task self.finished self.queue.items) 0 c.waiting_at.result s.requested e).upto in
    let f = span_first (length offered) (waiting h offered log) c.waiting_at.result (subst (λ xs. slice_get xs 0 ≡ Some c.waiting_at.result) s.requested.waits e) in
    let count = s.count in
    let g : self.offered - c.waiting_at.result.id + 1 ≡ length offered + 1 - c.waiting_at.result.id = omega (arith, count, i) in
    g ∙ f

pub overflow_add-result : goal.overflow_add-result
unfolding StandsFor
overflow_add-result c =
    let self = c.args.self.now in
    let e = subst (λ xs. slice_get xs 0 ≡ Some c.waiting_at.result) c.as_slice.ensures.value c.waiting_at.ensures in
    let from : 1 ≤ c.waiting_at.result.id =
    ∥∥₁_elim c.requires le_prop
    (λ r. (c.queued.ensures.is_queued r.0 r.1 r.3 self.queue.items (excused self.task self.finished self.queue.items) 0 c.waiting_at.result r.4.requested e).from) in
    omega (arith, from)
