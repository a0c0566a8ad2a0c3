use Rattle.std.proofs.Common.{refl}
use Rattle.device_core.specs.Standing.{lent}
use Rattle.reports.specs.Delivered.{device_steps}
use Rattle.reports.specs.Runs.{log_of}
use Rattle.rank_pair.proofs.RankEnding.{follows, raised, took}
use Rattle.rank_pair.proofs.rank_end.RankEnd.take.Goals as goal

pub step-requires : goal.step-requires
step-requires c =
    let r = c.requires in
    ∣ (
      r.0,
      device_steps r.0 r.1 r.2,
      c.args.command.now,
      r.4.stands.device,
      follows c.gives_to_a_device.ensures.given c.args.self.now r.0 r.1 r.2 c.args.clock c.args.command.now r.3 (lent c.args.bytes) c.encode-words.result r.4 c.encode-words.ensures.spelled,
    ) ∣₁

pub note-requires : goal.note-requires
note-requires c = let r = c.requires in (r.0, log_of r.2, r.4.stands.counts, r.4.few)

pub returns-clause-stands : goal.returns-clause-stands
returns-clause-stands c = λ h trace run request m.
    let steps = device_steps h trace run in
    let f = follows c.gives_to_a_device.ensures.given c.args.self.now h trace run c.args.clock c.args.command.now request (lent c.args.bytes) c.encode-words.result m c.encode-words.ensures.spelled in
    record {
      device = took h trace run c.args.clock c.args.command.now request (lent c.args.bytes) c.step.new.self m.bytes_are (c.in_ok-reply.ensures.stands h steps c.args.command.now m.stands.device f);
      counts = c.note.ensures h c.args.clock (log_of run) m.stands.counts
          (raised h trace run c.args.clock c.args.command.now (lent c.args.bytes) c.in_ok-reply.reply.alert (c.gives_to_a_device.ensures.log h trace run) (c.in_ok-reply.ensures.alert h steps c.args.command.now m.stands.device f));
      last = refl;
    }

pub returns-clause-line : goal.returns-clause-line
returns-clause-line c = λ h trace run request m.
    c.in_ok-reply.ensures.line h (device_steps h trace run) c.args.command.now m.stands.device
    (follows c.gives_to_a_device.ensures.given c.args.self.now h trace run c.args.clock c.args.command.now request (lent c.args.bytes) c.encode-words.result m c.encode-words.ensures.spelled)
