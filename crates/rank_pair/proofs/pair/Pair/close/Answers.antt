use Rattle.ddr_text.proofs.Prefixes.{if_err-to, on_ok-to}
use Rattle.rank_pair.proofs.Closes.{close_here, close_made, close_made_cut, close_made_issued}
use Rattle.rank_pair.proofs.pair.Pair.close.Goals as goal

pub precharge_of-precharge-requires : goal.precharge_of-precharge-requires
precharge_of-precharge-requires g c = let r = c.requires in close_here c.args.self.now r.0 r.1 c.args.rank c.args.access.now r.2 (g.K.Sink.written c.args.sink.now) r.3

pub issue-requires : goal.issue-requires
issue-requires g c =
    let r = c.requires in
    (r.0, r.1, r.3.run, close_made c.deadline_laws.ensures c.args.self.now r.0 r.1 c.args.rank c.args.access.now r.2 (g.K.Sink.written c.args.sink.now) r.3 c.precharge_of-precharge.result c.precharge_of-precharge.ensures)

pub returns-clause-closed : goal.returns-clause-closed
returns-clause-closed g c =
    let w = g.K.Sink.written c.args.sink.now in
    on_ok-to c.issue.result _ _ (λ issued. λ h trace before a.
    close_made_issued c.deadline_laws.ensures c.args.self.now c.issue.new.self h trace c.args.rank c.args.access.now before w (g.K.Sink.written c.issue.new.sink) a c.precharge_of-precharge.result c.precharge_of-precharge.ensures
    (issued h trace a.run (close_made c.deadline_laws.ensures c.args.self.now h trace c.args.rank c.args.access.now before w a c.precharge_of-precharge.result c.precharge_of-precharge.ensures))) c.issue.ensures.issued

pub returns-clause-begins_a_report : goal.returns-clause-begins_a_report
returns-clause-begins_a_report g c =
    let w = g.K.Sink.written c.args.sink.now in
    if_err-to c.issue.result _ _ (λ cut. λ h trace before a.
    close_made_cut c.deadline_laws.ensures c.args.self.now h trace c.args.rank c.args.access.now before w (g.K.Sink.written c.issue.new.sink) a c.precharge_of-precharge.result c.precharge_of-precharge.ensures
    (cut h trace a.run (close_made c.deadline_laws.ensures c.args.self.now h trace c.args.rank c.args.access.now before w a c.precharge_of-precharge.result c.precharge_of-precharge.ensures))) c.issue.ensures.begins_a_report
