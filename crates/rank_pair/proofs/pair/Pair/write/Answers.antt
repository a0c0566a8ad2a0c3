use Rattle.std.proofs.Common.{[]}
use Rattle.ddr_text.proofs.Prefixes.{if_err-to, on_ok-to}
use Rattle.rank_pair.proofs.Registered.{write_cut, write_issuable, write_issued}
use Rattle.rank_pair.proofs.pair.Pair.write.Goals as goal

pub issue-requires : goal.issue-requires
issue-requires g c =
    let r = c.requires in
    (r.0, [], r.4.run, write_issuable c.deadline_laws.ensures c.args.self.now r.0 c.args.rank r.2 c.args.write.now r.1 (g.K.Sink.written c.args.sink.now) r.4 r.3 c.in_range.ensures)

pub returns-clause-written : goal.returns-clause-written
returns-clause-written g c =
    let w = g.K.Sink.written c.args.sink.now in
    on_ok-to c.issue.result _ _ (λ issued. λ h before count turn written.
    write_issued c.deadline_laws.ensures c.args.self.now c.issue.new.self h c.args.rank count c.args.write.now before w (g.K.Sink.written c.issue.new.sink) written turn c.in_range.ensures
    (issued h [] written.run (write_issuable c.deadline_laws.ensures c.args.self.now h c.args.rank count c.args.write.now before w written turn c.in_range.ensures))) c.issue.ensures.issued

pub returns-clause-begins_a_report : goal.returns-clause-begins_a_report
returns-clause-begins_a_report g c =
    let w = g.K.Sink.written c.args.sink.now in
    if_err-to c.issue.result _ _ (λ cut. λ h before count turn written.
    write_cut c.deadline_laws.ensures c.args.self.now h c.args.rank count c.args.write.now before w (g.K.Sink.written c.issue.new.sink) written turn c.in_range.ensures
    (cut h [] written.run (write_issuable c.deadline_laws.ensures c.args.self.now h c.args.rank count c.args.write.now before w written turn c.in_range.ensures))) c.issue.ensures.begins_a_report
