use Rattle.ddr_text.proofs.Prefixes.{if_err, if_err-to, on_ok-to}
use Rattle.rank_pair.proofs.Served.{rests, turns, works_for_both}
use Rattle.rank_pair.proofs.pair.Pair.serve_both.Goals as goal

pub serve_rank-requires-2 : goal.serve_rank-requires-2
serve_rank-requires-2 g c =
    let r = c.requires in
    let a = c.in_ok-serve_rank.ensures.served r.0 r.1 r.2 r.3 r.4 r.5 in
    (r.0, r.1, r.2, r.3, r.4, turns c.deadline_laws.ensures c.serve_rank.new.self r.0 r.1 r.2 r.3 r.4 (g.K.Sink.written c.serve_rank.new.sink) a)

pub returns-clause-served : goal.returns-clause-served
returns-clause-served g c =
    on_ok-to c.serve_rank-2.result _ _ (λ served. λ h trace mark until before u.
    rests c.deadline_laws.ensures c.serve_rank-2.new.self h trace mark until before (g.K.Sink.written c.serve_rank-2.new.sink)
    (served h trace mark until before
    (turns c.deadline_laws.ensures c.serve_rank.new.self h trace mark until before (g.K.Sink.written c.serve_rank.new.sink) (c.in_ok-serve_rank.ensures.served h trace mark until before u)))) c.serve_rank-2.ensures.served

pub returns-clause-worked : goal.returns-clause-worked
returns-clause-worked g c =
    on_ok-to c.serve_rank-2.result _ _ (λ worked. works_for_both c.args.self.now.bus c.serve_rank.new.self.bus c.serve_rank-2.new.self.bus c.in_ok-serve_rank.ensures.worked worked) c.serve_rank-2.ensures.worked

pub returns-clause-begins_a_report : goal.returns-clause-begins_a_report
returns-clause-begins_a_report g c =
    if_err-to c.serve_rank-2.result _ _ (λ cut. λ h trace mark until before u.
    cut h trace mark until before
    (turns c.deadline_laws.ensures c.serve_rank.new.self h trace mark until before (g.K.Sink.written c.serve_rank.new.sink) (c.in_ok-serve_rank.ensures.served h trace mark until before u))) c.serve_rank-2.ensures.begins_a_report

pub returns-in_err-serve_rank-clause-begins_a_report : goal.returns-in_err-serve_rank-clause-begins_a_report
returns-in_err-serve_rank-clause-begins_a_report g c = if_err c.from_residual.result _ (λ h trace mark until before u. c.in_err-serve_rank.ensures.begins_a_report h trace mark until before u)
