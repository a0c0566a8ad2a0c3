use Rattle.std.proofs.Common.{[], ◌∷◌, ◌++◌}
use Rattle.ddr_text.proofs.Prefixes.{if_err-to, on_ok-to}
use Rattle.rank_pair.proofs.Opens.{act_at, asked_here, made_cut, made_issuable, made_issued}
use Rattle.rank_pair.proofs.pair.Pair.open_row.Goals as goal

pub act_of-act-requires : goal.act_of-act-requires
act_of-act-requires g c = let r = c.requires in asked_here c.args.self.now r.0 r.1 r.2 c.args.rank c.args.access.now r.3 (g.K.Sink.written c.args.sink.now) r.4 r.5

pub issue-requires : goal.issue-requires
issue-requires g c =
    let r = c.requires in
    let w = g.K.Sink.written c.args.sink.now in
    let e = act_at c.args.self.now r.0 r.1 c.args.access.now r.3 w r.4 c.act_of-act.result c.act_of-act.ensures in
    (r.0, r.1 ++ r.2 ∷ [], r.4.under.run, made_issuable c.deadline_laws.ensures c.args.self.now r.0 r.1 r.2 c.args.rank c.args.access.now r.3 w r.4 r.5 c.act_of-act.result e)

pub returns-clause-opened : goal.returns-clause-opened
returns-clause-opened g c =
    let w = g.K.Sink.written c.args.sink.now in
    on_ok-to c.issue.result _ _ (λ issued. λ h front it before t asks.
    let e = act_at c.args.self.now h front c.args.access.now before w t c.act_of-act.result c.act_of-act.ensures in
    made_issued c.deadline_laws.ensures c.args.self.now c.issue.new.self h front it c.args.rank c.args.access.now before w (g.K.Sink.written c.issue.new.sink) t asks c.act_of-act.result e
    (issued h (front ++ it ∷ []) t.under.run (made_issuable c.deadline_laws.ensures c.args.self.now h front it c.args.rank c.args.access.now before w t asks c.act_of-act.result e))) c.issue.ensures.issued

pub returns-clause-begins_a_report : goal.returns-clause-begins_a_report
returns-clause-begins_a_report g c =
    let w = g.K.Sink.written c.args.sink.now in
    if_err-to c.issue.result _ _ (λ cut. λ h front it before t asks.
    let e = act_at c.args.self.now h front c.args.access.now before w t c.act_of-act.result c.act_of-act.ensures in
    made_cut c.deadline_laws.ensures c.args.self.now h front it c.args.rank c.args.access.now before w (g.K.Sink.written c.issue.new.sink) t asks c.act_of-act.result e
    (cut h (front ++ it ∷ []) t.under.run (made_issuable c.deadline_laws.ensures c.args.self.now h front it c.args.rank c.args.access.now before w t asks c.act_of-act.result e))) c.issue.ensures.begins_a_report
