use Rattle.std.proofs.Math.Logic.{∥∥₁_map}
use Rattle.device_core.specs.Standing.{lent}
use Rattle.device_exec.proofs.Judged.{may_follow}
use Rattle.device_exec.proofs.giving.give.Goals as goal

pub step-requires : goal.step-requires
step-requires c =
    ∥∥₁_map c.requires (λ r. (r.0, r.1, c.args.command, r.2, may_follow r.0 c.args.clock c.args.command c.encode-words.result (lent c.args.bytes) r.1 r.3 c.encode-words.ensures.spelled))

pub returns-in-Ok-clause-stands : goal.returns-in-Ok-clause-stands
returns-in-Ok-clause-stands c = λ h steps stands j.
    c.in-Ok.ensures.stands h steps c.args.command stands (may_follow h c.args.clock c.args.command c.encode-words.result (lent c.args.bytes) steps j c.encode-words.ensures.spelled)

pub returns-in-Ok-clause-line : goal.returns-in-Ok-clause-line
returns-in-Ok-clause-line c = λ h steps stands j.
    c.in-Ok.ensures.line h steps c.args.command stands (may_follow h c.args.clock c.args.command c.encode-words.result (lent c.args.bytes) steps j c.encode-words.ensures.spelled)

pub returns-in-Ok-clause-alert : goal.returns-in-Ok-clause-alert
returns-in-Ok-clause-alert c = λ h steps stands j.
    c.in-Ok.ensures.alert h steps c.args.command stands (may_follow h c.args.clock c.args.command c.encode-words.result (lent c.args.bytes) steps j c.encode-words.ensures.spelled)

pub returns-in-Err-clause-unchanged : goal.returns-in-Err-clause-unchanged
returns-in-Err-clause-unchanged c = λ h steps stands. c.unchanged_stands.ensures c.args.device.now c.step.new.self h steps c.in-Err.ensures.unchanged stands

pub returns-in-Err-clause-only_writes : goal.returns-in-Err-clause-only_writes
returns-in-Err-clause-only_writes c = c.in-Err.ensures.only_writes c.args.command c.encode-words.ensures.in_range c.encode-words.ensures.spelled
