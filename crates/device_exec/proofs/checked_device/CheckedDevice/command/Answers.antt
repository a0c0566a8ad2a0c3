use Rattle.std.proofs.Common.{◌∙◌, Some, refl, sym}
use Rattle.device_core.specs.Steps.{log_of}
use Rattle.device_exec.specs.Standing.{StandsFor, geometry_of}
use Rattle.device_exec.specs.declared.checked_device.CheckedDevice.{CheckedDevice}
use Rattle.device_exec.proofs.CheckedSteps.{came_done, came_waits, may_take, ready_fine}
use Rattle.device_exec.proofs.checked_device.CheckedDevice.command.Goals as goal

pub judge-requires-clause-fine : goal.judge-requires-clause-fine
judge-requires-clause-fine c = ready_fine c.args.self.now c.requires.ready

pub returns-then-is_wr-clause-judged : goal.returns-then-is_wr-clause-judged
returns-then-is_wr-clause-judged c = λ h steps stands.
    let it = c.args.self.now in
    let new : CheckedDevice = record { auditor = c.judge.new.auditor; memory = it.memory; waiting = Some (record { clock = c.args.clock; command = c.args.command }); last = it.last } in
    came_waits it new h steps c.args.clock c.args.command stands c.requires.inside (c.in-None.ensures.judged h (log_of steps)) (sym c.is_wr.ensures ∙ c.if-is_wr.true) c.judge.ensures.geometry refl refl refl

pub line-line-requires : goal.line-line-requires
unfolding geometry_of
line-line-requires c = may_take c.args.self.now c.args.clock c.args.command c.judge.new.auditor c.requires.ready c.requires.inside c.in-None.ensures.judged (sym c.is_wr.ensures ∙ c.if-is_wr.false)

pub take-requires : goal.take-requires
unfolding geometry_of
take-requires c = may_take c.args.self.now c.args.clock c.args.command c.judge.new.auditor c.requires.ready c.requires.inside c.in-None.ensures.judged (sym c.is_wr.ensures ∙ c.if-is_wr.false)

pub returns-in-Ok-clause-judged : goal.returns-in-Ok-clause-judged
returns-in-Ok-clause-judged c = λ h steps stands.
    let it = c.args.self.now in
    let new : CheckedDevice = record { auditor = c.judge.new.auditor; memory = c.take.new.self; waiting = it.waiting; last = c.args.clock } in
    came_done it new h steps c.args.clock c.args.command c.line-line.result c.in-Ok.read c.answer_of.result stands c.requires.inside (c.in-None.ensures.judged h (log_of steps)) (sym c.is_wr.ensures ∙ c.if-is_wr.false) c.judge.ensures.geometry
    (c.in-Ok.ensures.stands h steps) (c.line-line.ensures h steps) (c.in-Ok.ensures.line h steps) c.answer_of.ensures refl refl
