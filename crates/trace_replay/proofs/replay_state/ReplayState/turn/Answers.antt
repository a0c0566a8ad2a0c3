use Rattle.std.proofs.Common.{◌∙◌, arith}
use Rattle.speed_bin.specs.Header.{shape_of}
use Rattle.scheduler.specs.Controller.{number_of}
use Rattle.ddr_text.proofs.Prefixes.{if_err}
use Rattle.trace_replay.proofs.Fronts.{front-of}
use Rattle.trace_replay.proofs.Issuing.{issued-under, issued-begun, left-issued, left-same}
use Rattle.trace_replay.proofs.Finishing.{at-rest-of, over-of, known-of}
use Rattle.trace_replay.proofs.replay_state.ReplayState.turn.Goals as goal

pub issue-requires : goal.issue-requires
issue-requires g c =
    let r = c.requires.ready in
    record { issuing = (r.0, r.1, r.2, c.in-Issue.ensures.turned r.0 r.1 r.2 r.3 r.4) }

pub returns-in_err-issue-in-Issue-clause-begins_a_report : goal.returns-in_err-issue-in-Issue-clause-begins_a_report
returns-in_err-issue-in-Issue-clause-begins_a_report g c = if_err c.from_residual.result _ (λ h start left before u.
    let i = c.in-Issue.ensures.turned h u.under.trace u.under.run u.under.holds u.filled in
    issued-begun c.issues_a_command.ensures.stays_underway h c.turned.new.self u.under.trace u.under.run c.in-Issue.clock c.in-Issue.command c.in-Issue.id start before (g.K.Sink.written c.args.sink.now) (g.K.Sink.written c.issue.new.sink)
    (front-of (shape_of h) u.under.trace c.args.self.now.ahead start left u.under.read) u.under.wrote i (c.in_err-issue-in-Issue.ensures.writes_a_prefix h u.under.trace u.under.run i))

pub returns-in_ok-issue-in-Issue-clause-after : goal.returns-in_ok-issue-in-Issue-clause-after
returns-in_ok-issue-in-Issue-clause-after g c = λ h start left before u.
    let i = c.in-Issue.ensures.turned h u.under.trace u.under.run u.under.holds u.filled in
    issued-under h c.issue.new.self u.under.trace u.under.run c.in-Issue.clock c.in-Issue.command (number_of c.in-Issue.id) c.args.self.now.ahead start left before (g.K.Sink.written c.args.sink.now) (g.K.Sink.written c.issue.new.sink)
    (c.issue.ensures.ahead ∙ c.turned.ensures.ahead) u.under.read u.under.wrote (c.in_ok-issue-in-Issue.ensures.after h u.under.trace u.under.run i) (c.in_ok-issue-in-Issue.ensures.wrote h u.under.trace u.under.run i)

pub returns-in_ok-issue-in-Issue-clause-fewer : goal.returns-in_ok-issue-in-Issue-clause-fewer
returns-in_ok-issue-in-Issue-clause-fewer g c = λ e.
    let same = left-same c.args.self.now c.turned.new.self c.turned.ensures.commands c.turned.ensures.tally c.turned.ensures.ahead c.turned.ensures.finished in
    let few = c.turned.ensures.few in
    let less = left-issued c.turned.new.self c.issue.new.self c.in_ok-issue-in-Issue.ensures.commands c.issue.ensures.tally c.issue.ensures.ahead c.issue.ensures.finished (omega (arith, few, c.turned.ensures.commands)) in
    omega (arith, same, less)

pub pass-requires-clause-rests : goal.pass-requires-clause-rests
pass-requires-clause-rests g c =
    let r = c.requires.ready in
    (r.0, r.1, r.2, c.in-Idle.ensures.turned r.0 r.1 r.2 r.3 r.4)

pub returns-in_err-pass-in-Idle-clause-begins_a_report : goal.returns-in_err-pass-in-Idle-clause-begins_a_report
returns-in_err-pass-in-Idle-clause-begins_a_report g c = if_err c.from_residual-in_err-pass-in-Idle.result _ (λ h start left before u.
    let r = c.in-Idle.ensures.turned h u.under.trace u.under.run u.under.holds u.filled in
    c.in_err-pass-in-Idle.ensures.begins_a_report h start left before (at-rest-of h c.args.self.now c.turned.new.self start left before (g.K.Sink.written c.args.sink.now) u.under c.turned.ensures.ahead r))

pub returns-in_ok-pass-in-Idle-clause-after : goal.returns-in_ok-pass-in-Idle-clause-after
returns-in_ok-pass-in-Idle-clause-after g c = λ h start left before u.
    let r = c.in-Idle.ensures.turned h u.under.trace u.under.run u.under.holds u.filled in
    c.in_ok-pass-in-Idle.ensures.under h start left before (at-rest-of h c.args.self.now c.turned.new.self start left before (g.K.Sink.written c.args.sink.now) u.under c.turned.ensures.ahead r)

pub returns-in_ok-pass-in-Idle-clause-fewer : goal.returns-in_ok-pass-in-Idle-clause-fewer
returns-in_ok-pass-in-Idle-clause-fewer g c = λ e.
    let same = left-same c.args.self.now c.turned.new.self c.turned.ensures.commands c.turned.ensures.tally c.turned.ensures.ahead c.turned.ensures.finished in
    let less = c.in_ok-pass-in-Idle.ensures.fewer in
    omega (arith, same, less)

pub returns-in-Done-clause-after : goal.returns-in-Done-clause-after
returns-in-Done-clause-after g c = λ h start left before u.
    let d = c.in-Done.ensures.turned h u.under.trace u.under.run u.under.holds u.filled in
    over-of h c.args.self.now c.turned.new.self start left before (g.K.Sink.written c.args.sink.now) u.under c.turned.ensures.ahead d

pub pass-requires-clause-known : goal.pass-requires-clause-known
pass-requires-clause-known g c =
    let r = c.requires.ready in
    known-of r.0 c.turned.new.self r.1 r.2 (c.in-Idle.ensures.turned r.0 r.1 r.2 r.3 r.4)
