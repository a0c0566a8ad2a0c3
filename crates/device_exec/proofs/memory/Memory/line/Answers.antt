use Rattle.std.proofs.Common.{None}
use Rattle.device_core.specs.Steps.{log_of}
use Rattle.device_exec.proofs.Judged.{none_closed, some_inside}
use Rattle.device_exec.proofs.memory.Memory.line.Goals as goal

pub unmap-requires : goal.unmap-requires
unmap-requires c =
    some_inside c.args.self.now c.args.clock c.args.command.now c.in-Rd.bank c.in-Rd.column c.in-Some.row c.in-Rd.is c.requires
    (λ h steps b k low there.
    c.open_rows_are_inside.ensures.inside h k c.in-Some.row (log_of steps) (c.list_is_legal.ensures.accepted c.args.self.now.device h steps b.device) (c.list_is_legal.ensures.legal c.args.self.now.device h steps b.device) low there)
    (λ h steps b. c.in-Some.ensures (log_of steps) b.banks)

pub returns-in-None : goal.returns-in-None
returns-in-None c = λ h steps b j. absurd (none_closed h c.args.clock c.args.command.now c.in-Rd.bank c.in-Rd.column None steps c.in-Rd.is j (c.in-None.ensures (log_of steps) b.banks))
