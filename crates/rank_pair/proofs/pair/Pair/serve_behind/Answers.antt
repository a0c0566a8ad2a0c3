use Rattle.ddr_text.proofs.Prefixes.{if_err-to, on_ok-to}
use Rattle.rank_pair.proofs.pair.Pair.serve_behind.Goals as goal

pub serve_both-requires : goal.serve_both-requires
serve_both-requires g c = let r = c.requires in (r.0, r.1, r.2, r.3, r.4, c.in_ok-answer.ensures.answered r.0 r.1 r.2 r.3 r.4 r.5)

pub returns-clause-served : goal.returns-clause-served
returns-clause-served g c = on_ok-to c.serve_both.result _ _ (λ served. λ h trace mark until before u. served h trace mark until before (c.in_ok-answer.ensures.answered h trace mark until before u)) c.serve_both.ensures.served

pub returns-clause-begins_a_report : goal.returns-clause-begins_a_report
returns-clause-begins_a_report g c = if_err-to c.serve_both.result _ _ (λ cut. λ h trace mark until before u. cut h trace mark until before (c.in_ok-answer.ensures.answered h trace mark until before u)) c.serve_both.ensures.begins_a_report
