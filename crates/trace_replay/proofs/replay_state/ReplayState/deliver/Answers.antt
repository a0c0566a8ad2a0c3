use Rattle.std.proofs.Common.{◌∙◌, ap, arith}
use Rattle.device_core.specs.Standing.{lent}
use Rattle.reports.specs.Runs.{log_of}
use Rattle.trace_replay.specs.ReplayState.{noted}
use Rattle.trace_replay.proofs.Delivering.{awaited, issuing-has, few-commands, delivered-is}
use Rattle.trace_replay.proofs.replay_state.ReplayState.deliver.Goals as goal

pub deliver-requires : goal.deliver-requires
deliver-requires c =
    let r = c.requires.issuing in
    record { pending = awaited c.delivery_laws.ensures r.0 c.args.self.now r.1 r.2 r.3 c.args.command.now c.args.id (lent c.bytes_of.result) c.bytes_of.ensures r.4 }

pub note-requires : goal.note-requires
note-requires c =
    let r = c.requires.issuing in
    let few = few-commands c.delivery_laws.ensures r.0 c.args.self.now r.1 r.2 r.3 c.args.command.now c.args.id r.4 in
    (r.0, log_of r.2, r.4.counts, omega (arith, few))

pub note_outcome-requires : goal.note_outcome-requires
note_outcome-requires c =
    let r = c.requires.issuing in
    issuing-has c.delivery_laws.ensures r.0 c.args.self.now r.1 r.2 r.3 c.args.command.now c.args.id r.4

pub returns-in-Ok-clause-delivered : goal.returns-in-Ok-clause-delivered
returns-in-Ok-clause-delivered c = λ h trace run clock k.
    delivered-is c.delivery_laws.ensures h c.args.self.now trace run clock c.args.command.now c.args.id c.deliver.new.self c.note_outcome.new.held c.note.new.self c.in-Ok.reply.line c.in-Ok.reply.alert (lent c.bytes_of.result)
    c.bytes_of.ensures (c.in-Ok.ensures.stands h) (c.in-Ok.ensures.line h) (c.in-Ok.ensures.alert h) c.in-Ok.ensures.done c.deliver.ensures.from c.deliver.ensures.until c.deliver.ensures.finished (c.note.ensures h)
    (c.note_outcome.ensures ∙ ap (noted c.args.self.now.held _) c.outcome.ensures) k

pub returns-in-Ok-clause-few : goal.returns-in-Ok-clause-few
returns-in-Ok-clause-few c =
    let r = c.requires.issuing in
    let few = few-commands c.delivery_laws.ensures r.0 c.args.self.now r.1 r.2 r.3 c.args.command.now c.args.id r.4 in
    omega (arith, few, r.4.commands)
