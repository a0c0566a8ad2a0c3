use Rattle.std.proofs.Common.{sym}
use Rattle.ddr_text.proofs.Prefixes.{if_err-to, on_ok-to}
use Rattle.pair_deadlines.specs.Keeping.{Closed}
use Rattle.command_words.specs.declared.command.Command.TheVariants.{RfmAb}
use Rattle.rank_pair.proofs.Served.{rfm_issuable, rfm_issued, service_cut, unanswered}
use Rattle.rank_pair.proofs.pair.Pair.answer.Goals as goal

pub issue-requires : goal.issue-requires
issue-requires g c =
    let r = c.requires in
    let u = r.5 in
    (r.0, r.1, u.run, rfm_issuable c.deadline_laws.ensures c.args.self.now r.0 r.1 r.2 u.run r.3 c.args.rank u.under (sym c.if-is_raised.ensures))

pub returns-then-is_raised-clause-answered : goal.returns-then-is_raised-clause-answered
returns-then-is_raised-clause-answered g c =
    let raised = sym c.if-is_raised.ensures in
    on_ok-to c.issue.result _ _ (λ issued. λ h trace mark until before u.
    rfm_issued c.deadline_laws.ensures c.args.self.now c.issue.new.self h trace mark until c.args.rank before (g.K.Sink.written c.args.sink.now) (g.K.Sink.written c.issue.new.sink) u raised
    (issued h trace u.run (rfm_issuable c.deadline_laws.ensures c.args.self.now h trace mark u.run until c.args.rank u.under raised))) c.issue.ensures.issued

pub returns-then-is_raised-clause-begins_a_report : goal.returns-then-is_raised-clause-begins_a_report
returns-then-is_raised-clause-begins_a_report g c =
    let raised = sym c.if-is_raised.ensures in
    if_err-to c.issue.result _ _ (λ cut. λ h trace mark until before u.
    let k = rfm_issuable c.deadline_laws.ensures c.args.self.now h trace mark u.run until c.args.rank u.under raised in
    service_cut c.args.self.now h trace mark until (Closed c.args.rank) c.args.rank RfmAb before (g.K.Sink.written c.args.sink.now) (g.K.Sink.written c.issue.new.sink) u k (cut h trace u.run k)) c.issue.ensures.begins_a_report

pub returns-else-is_raised-clause-answered : goal.returns-else-is_raised-clause-answered
returns-else-is_raised-clause-answered g c = λ h trace mark until before u.
    unanswered c.deadline_laws.ensures c.args.self.now h trace mark until c.args.rank before (g.K.Sink.written c.args.sink.now) u (sym c.if-is_raised.ensures)
