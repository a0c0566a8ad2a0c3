use Rattle.std.proofs.Common.{◌∙◌, ◌≡◌, ◌∷◌, None, Some, ap, sym, subst, is_some}
use Rattle.std.proofs.Math.Logic.{∥∥₁_map}
use Rattle.speed_bin.specs.Alert.{alert}
use Rattle.requests.specs.Queue.{Step as NumberedStep}
use Rattle.device_core.specs.Standing.{lent}
use Rattle.device_core.specs.Stored.{answer}
use Rattle.trace_replay.specs.Coupled.{IsAwaited, device_steps, log_of, delivered, step_of, StandsFor, pending_of}
use Rattle.trace_replay.specs.declared.ends.Ends.{Ends}
use Rattle.trace_replay.proofs.Agreeing.{pending_here, same_device, same_step, may_follow, after_delivery}
use Rattle.trace_replay.proofs.coupled.Coupled.deliver.Goals as goal

pub step-requires : goal.step-requires
unfolding StandsFor pending_of
step-requires c =
    let self = c.self.inside.ends in
    let p = c.unwrap-pending.result.now in
    let here = pending_here self.pending c.as_ref.result c.unwrap-pending.result c.as_ref.ensures.value c.unwrap-pending.ensures in
    let awaited = subst (λ (x : Ends). IsAwaited (pending_of x) (lent c.args.bytes)) (sym c.self.view_is) c.requires.pending in
    ∥∥₁_map c.self.invariant (λ m. (
      m.0,
      device_steps m.3,
      p.command,
      m.4.device,
      may_follow self m.0 m.1 m.2 m.3 p c.encode-words.result (lent c.args.bytes) m.4 here awaited c.encode-words.ensures.spelled c.encode-words.ensures.in_range,
    ))

pub returns-clause-stands : goal.returns-clause-stands
unfolding StandsFor pending_of
returns-clause-stands c = λ h offered idle steps step stands e.
    let self = c.self.inside.ends in
    let p = c.unwrap-pending.result.now in
    let here = pending_here self.pending c.as_ref.result c.unwrap-pending.result c.as_ref.ensures.value c.unwrap-pending.ensures in
    let awaited = subst (λ (x : Ends). IsAwaited (pending_of x) (lent c.args.bytes)) (sym c.self.view_is) c.requires.pending in
    let s = subst (λ (x : Ends). StandsFor x h offered idle steps) (sym c.self.view_is) stands in
    let is = subst (λ (x : Ends). pending_of x ≡ Some step) (sym c.self.view_is) e in
    let may = may_follow self h offered idle steps p c.encode-words.result (lent c.args.bytes) s here awaited c.encode-words.ensures.spelled c.encode-words.ensures.in_range in
    subst (λ (it : NumberedStep). StandsFor (record { controller = self.controller; device = c.step.new.self; pending = None; alert = c.in_ok-reply.reply.alert }) h offered idle (delivered it (lent c.args.bytes) ∷ steps))
    (same_step self.pending p step here is)
    (after_delivery self h offered idle steps p (lent c.args.bytes) c.step.new.self c.in_ok-reply.reply.alert s here
    (c.in_ok-reply.ensures.stands h (device_steps steps) p.command s.device may)
    (c.in_ok-reply.ensures.alert h (device_steps steps) p.command s.device may))

pub returns-clause-line : goal.returns-clause-line
unfolding StandsFor pending_of
returns-clause-line c = λ h offered idle steps step stands e.
    let self = c.self.inside.ends in
    let p = c.unwrap-pending.result.now in
    let here = pending_here self.pending c.as_ref.result c.unwrap-pending.result c.as_ref.ensures.value c.unwrap-pending.ensures in
    let awaited = subst (λ (x : Ends). IsAwaited (pending_of x) (lent c.args.bytes)) (sym c.self.view_is) c.requires.pending in
    let s = subst (λ (x : Ends). StandsFor x h offered idle steps) (sym c.self.view_is) stands in
    let is = subst (λ (x : Ends). pending_of x ≡ Some step) (sym c.self.view_is) e in
    let may = may_follow self h offered idle steps p c.encode-words.result (lent c.args.bytes) s here awaited c.encode-words.ensures.spelled c.encode-words.ensures.in_range in
    c.in_ok-reply.ensures.line h (device_steps steps) p.command s.device may
    ∙ ap (λ (it : NumberedStep). answer h it.issued.command (device_steps steps)) (same_step self.pending p step here is)

pub returns-clause-alert : goal.returns-clause-alert
unfolding StandsFor pending_of
returns-clause-alert c = λ h offered idle steps step stands e.
    let self = c.self.inside.ends in
    let p = c.unwrap-pending.result.now in
    let here = pending_here self.pending c.as_ref.result c.unwrap-pending.result c.as_ref.ensures.value c.unwrap-pending.ensures in
    let awaited = subst (λ (x : Ends). IsAwaited (pending_of x) (lent c.args.bytes)) (sym c.self.view_is) c.requires.pending in
    let s = subst (λ (x : Ends). StandsFor x h offered idle steps) (sym c.self.view_is) stands in
    let is = subst (λ (x : Ends). pending_of x ≡ Some step) (sym c.self.view_is) e in
    let may = may_follow self h offered idle steps p c.encode-words.result (lent c.args.bytes) s here awaited c.encode-words.ensures.spelled c.encode-words.ensures.in_range in
    let kept = after_delivery self h offered idle steps p (lent c.args.bytes) c.step.new.self c.in_ok-reply.reply.alert s here
    (c.in_ok-reply.ensures.stands h (device_steps steps) p.command s.device may)
    (c.in_ok-reply.ensures.alert h (device_steps steps) p.command s.device may) in
    kept.alert ∙ ap (λ (it : NumberedStep). is_some (alert h (it.issued ∷ log_of steps))) (same_step self.pending p step here is)

pub invariant_of-self : goal.invariant_of-self
invariant_of-self c = same_device c.unchanged_stands.ensures c.self.inside.ends c.step.new.self c.in_err-reply.ensures.unchanged c.self.invariant

pub invariant_of-self-2 : goal.invariant_of-self-2
unfolding StandsFor pending_of
invariant_of-self-2 c =
    let self = c.self.inside.ends in
    let p = c.unwrap-pending.result.now in
    let here = pending_here self.pending c.as_ref.result c.unwrap-pending.result c.as_ref.ensures.value c.unwrap-pending.ensures in
    let awaited = subst (λ (x : Ends). IsAwaited (pending_of x) (lent c.args.bytes)) (sym c.self.view_is) c.requires.pending in
    ∥∥₁_map c.self.invariant (λ m.
    let may = may_follow self m.0 m.1 m.2 m.3 p c.encode-words.result (lent c.args.bytes) m.4 here awaited c.encode-words.ensures.spelled c.encode-words.ensures.in_range in (
      m.0,
      m.1,
      m.2,
      delivered (step_of p) (lent c.args.bytes) ∷ m.3,
      after_delivery self m.0 m.1 m.2 m.3 p (lent c.args.bytes) c.step.new.self c.in_ok-reply.reply.alert m.4 here
          (c.in_ok-reply.ensures.stands m.0 (device_steps m.3) p.command m.4.device may)
          (c.in_ok-reply.ensures.alert m.0 (device_steps m.3) p.command m.4.device may),
    ))
