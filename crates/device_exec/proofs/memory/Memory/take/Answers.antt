use Rattle.std.proofs.Common.{refl}
use Rattle.std.proofs.Math.Logic.{∥∥₁_map}
use Rattle.device_core.specs.Standing.{lent}
use Rattle.device_core.specs.Steps.{log_of}
use Rattle.device_exec.specs.declared.memory.Memory.{Memory}
use Rattle.device_exec.proofs.Judged.{fits, rules_kept, took}
use Rattle.device_exec.proofs.memory.Memory.take.Goals as goal

pub give-requires : goal.give-requires
give-requires c = ∥∥₁_map c.requires (λ r. (r.0, r.1, r.2.device, r.3))

pub issue-requires : goal.issue-requires
issue-requires c =
    ∥∥₁_map c.requires (λ r. (log_of r.1, r.2.banks, fits r.0 c.args.clock c.args.command (log_of r.1) (rules_kept r.0 c.args.clock c.args.command (lent c.args.bytes) r.1 r.3)))

pub returns-clause-stands : goal.returns-clause-stands
returns-clause-stands c = λ h steps b j.
    let new : Memory = record { device = c.give.new.device; banks = c.issue.new.self; geometry = c.args.self.now.geometry; raised = c.in_ok-reply.reply.alert } in
    took c.args.self.now new h c.args.clock c.args.command (lent c.args.bytes) steps b (c.in_ok-reply.ensures.stands h steps b.device j)
    (c.issue.ensures c.args.clock (log_of steps) b.banks (fits h c.args.clock c.args.command (log_of steps) (rules_kept h c.args.clock c.args.command (lent c.args.bytes) steps j))) refl
    (c.in_ok-reply.ensures.alert h steps b.device j)
