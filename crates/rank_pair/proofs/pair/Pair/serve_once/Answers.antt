use Rattle.std.proofs.Common.{arith, refl}
use Rattle.ddr_text.proofs.Prefixes.{if_err}
use Rattle.pair_deadlines.specs.Keeping.{Serving}
use Rattle.pair_reports.specs.Runs.{bus_of}
use Rattle.rank_pair.proofs.Served.{named_issuable, named_issued, now_low, service_cut}
use Rattle.rank_pair.proofs.pair.Pair.serve_once.Goals as goal

pub issue-requires : goal.issue-requires
issue-requires g c =
    let r = c.requires in
    let u = r.5 in
    (r.0, r.1, u.run, named_issuable c.deadline_laws.ensures c.args.self.now r.0 r.1 r.2 u.run r.3 c.args.rank c.in-Some.command u.under c.in_range.ensures (c.in-Some.ensures r.0 (bus_of u.run) u.under.on_bus.stands.bus))

pub returns-in_ok-issue-in-Some-clause-served : goal.returns-in_ok-issue-in-Some-clause-served
returns-in_ok-issue-in-Some-clause-served g c = λ h trace mark until before u.
    let named = c.in-Some.ensures h (bus_of u.run) u.under.on_bus.stands.bus in
    named_issued c.deadline_laws.ensures c.args.self.now c.issue.new.self h trace mark until c.args.rank c.in-Some.command before (g.K.Sink.written c.args.sink.now) (g.K.Sink.written c.issue.new.sink) u c.in_range.ensures named
    (c.in_ok-issue-in-Some.ensures.issued h trace u.run (named_issuable c.deadline_laws.ensures c.args.self.now h trace mark u.run until c.args.rank c.in-Some.command u.under c.in_range.ensures named))

pub returns-in_ok-issue-in-Some-clause-worked : goal.returns-in_ok-issue-in-Some-clause-worked
returns-in_ok-issue-in-Some-clause-worked g c =
    let r = c.requires in
    let u = r.5 in
    let i = c.in_ok-issue-in-Some.ensures.issued r.0 r.1 u.run (named_issuable c.deadline_laws.ensures c.args.self.now r.0 r.1 r.2 u.run r.3 c.args.rank c.in-Some.command u.under c.in_range.ensures (c.in-Some.ensures r.0 (bus_of u.run) u.under.on_bus.stands.bus)) in
    let a = i.earliest.not_before in
    let b = i.now in
    omega (arith, a, b)

pub returns-in_ok-issue-in-Some-clause-small : goal.returns-in_ok-issue-in-Some-clause-small
returns-in_ok-issue-in-Some-clause-small g c = let r = c.requires in let u = r.5 in now_low c.deadline_laws.ensures c.args.self.now r.0 r.1 u.run r.3 (Serving c.args.rank) u.under.on_bus

pub returns-in_err-issue-in-Some-clause-begins_a_report : goal.returns-in_err-issue-in-Some-clause-begins_a_report
returns-in_err-issue-in-Some-clause-begins_a_report g c =
    if_err c.from_residual.result _ (λ h trace mark until before u.
    let k = named_issuable c.deadline_laws.ensures c.args.self.now h trace mark u.run until c.args.rank c.in-Some.command u.under c.in_range.ensures (c.in-Some.ensures h (bus_of u.run) u.under.on_bus.stands.bus) in
    service_cut c.args.self.now h trace mark until (Serving c.args.rank) c.args.rank c.in-Some.command before (g.K.Sink.written c.args.sink.now) (g.K.Sink.written c.issue.new.sink) u k
    (c.in_err-issue-in-Some.ensures.begins_a_report h trace u.run k))

pub returns-in_err-issue-in-Some-clause-small : goal.returns-in_err-issue-in-Some-clause-small
returns-in_err-issue-in-Some-clause-small g c = let r = c.requires in let u = r.5 in now_low c.deadline_laws.ensures c.args.self.now r.0 r.1 u.run r.3 (Serving c.args.rank) u.under.on_bus

pub returns-in-None-clause-served : goal.returns-in-None-clause-served
returns-in-None-clause-served g c = λ h trace mark until before u. record { on_turn = u; none = c.in-None.ensures h (bus_of u.run) u.under.on_bus.stands.bus }

pub returns-in-None-clause-worked : goal.returns-in-None-clause-worked
returns-in-None-clause-worked g c = (refl, λ h log stands. (c.in-None.ensures h log stands).1)

pub returns-in-None-clause-small : goal.returns-in-None-clause-small
returns-in-None-clause-small g c = let r = c.requires in let u = r.5 in now_low c.deadline_laws.ensures c.args.self.now r.0 r.1 u.run r.3 (Serving c.args.rank) u.under.on_bus
