use Rattle.std.proofs.Common.{◌∙◌}
use Rattle.std.proofs.KnownBytes.{Appends-nil}
use Rattle.ddr_text.proofs.Prefixes.{if_err, if_err-to, on_ok-to}
use Rattle.rank_pair.proofs.Registered.{all_written, none_written}
use Rattle.rank_pair.proofs.pair.Pair.write_registers.Goals as goal

pub writes-writes-requires-clause-in_range : goal.writes-writes-requires-clause-in_range
writes-writes-requires-clause-in_range g c = c.requires.accepted.settings

pub writes-writes-requires-clause-management : goal.writes-writes-requires-clause-management
writes-writes-requires-clause-management g c = c.requires.accepted.checks.management.0

pub write_rank-requires : goal.write_rank-requires
write_rank-requires g c =
    let w = g.K.Sink.written c.args.sink.now in
    let r = c.requires in
    (c.args.header.now, w, (c.as_slice.ensures.value ∙ c.writes-writes.ensures), none_written c.deadline_laws.ensures c.args.self.now c.args.header.now w w r.accepted r.time r.fresh r.now (Appends-nil w))

pub write_rank-requires-2 : goal.write_rank-requires-2
write_rank-requires-2 g c =
    let w = g.K.Sink.written c.args.sink.now in
    let r = c.requires in (
      c.args.header.now,
      w,
      (c.as_slice-2.ensures.value ∙ c.writes-writes.ensures),
      c.in_ok-write_rank.ensures.written c.args.header.now w (c.as_slice.ensures.value ∙ c.writes-writes.ensures) (none_written c.deadline_laws.ensures c.args.self.now c.args.header.now w w r.accepted r.time r.fresh r.now (Appends-nil w)),
    )

pub returns-clause-written : goal.returns-clause-written
returns-clause-written g c =
    on_ok-to c.write_rank-2.result _ _ (λ written. λ before wrote.
    let r = c.requires in
    let h = c.args.header.now in
    all_written c.deadline_laws.ensures c.write_rank-2.new.self h before (g.K.Sink.written c.write_rank-2.new.sink)
    (written h before (c.as_slice-2.ensures.value ∙ c.writes-writes.ensures)
    (c.in_ok-write_rank.ensures.written h before (c.as_slice.ensures.value ∙ c.writes-writes.ensures) (none_written c.deadline_laws.ensures c.args.self.now h before (g.K.Sink.written c.args.sink.now) r.accepted r.time r.fresh r.now wrote)))) c.write_rank-2.ensures.written

pub returns-clause-begins_a_report : goal.returns-clause-begins_a_report
returns-clause-begins_a_report g c =
    if_err-to c.write_rank-2.result _ _ (λ cut. λ before wrote.
    let r = c.requires in
    let h = c.args.header.now in
    cut h before (c.as_slice-2.ensures.value ∙ c.writes-writes.ensures)
    (c.in_ok-write_rank.ensures.written h before (c.as_slice.ensures.value ∙ c.writes-writes.ensures) (none_written c.deadline_laws.ensures c.args.self.now h before (g.K.Sink.written c.args.sink.now) r.accepted r.time r.fresh r.now wrote))) c.write_rank-2.ensures.begins_a_report

pub returns-in_err-write_rank-clause-begins_a_report : goal.returns-in_err-write_rank-clause-begins_a_report
returns-in_err-write_rank-clause-begins_a_report g c =
    if_err c.from_residual.result _ (λ before wrote.
    let r = c.requires in
    let h = c.args.header.now in
    c.in_err-write_rank.ensures.begins_a_report h before (c.as_slice.ensures.value ∙ c.writes-writes.ensures) (none_written c.deadline_laws.ensures c.args.self.now h before (g.K.Sink.written c.args.sink.now) r.accepted r.time r.fresh r.now wrote))
