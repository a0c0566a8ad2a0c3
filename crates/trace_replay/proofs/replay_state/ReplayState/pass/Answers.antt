use Rattle.std.proofs.Common.{ap, subst, sym}
use Rattle.trace_replay.specs.ReplayState.{IsUnder, IsAhead, following}
use Rattle.trace_replay.specs.declared.replay_state.Ahead.TheVariants.{Passes}
use Rattle.trace_replay.specs.declared.replay_state.ReplayState.{ReplayState}
use Rattle.trace_replay.proofs.Passed.{IdleLaws, passed-under, finished-under, left-finished, left-taken}
use Rattle.trace_replay.proofs.replay_state.ReplayState.pass.Goals as goal

pub returns-in-Passes-clause-under : goal.returns-in-Passes-clause-under
returns-in-Passes-clause-under g c = λ h start left before a.
    let laws : IdleLaws = record {
      waited = c.carries_out_an_idle.ensures.stays_underway;
      offers = c.carries_out_an_idle.ensures.offered;
      idle = c.carries_out_an_idle.ensures.idle;
      inside = c.takes_a_request.ensures.inside;
      steps = c.gives_to_a_controller.ensures.same_in_a_longer_trace;
      device = c.rests_on_the_lines_so_far.ensures.device;
      report_is = c.rests_on_the_lines_so_far.ensures.report;
      parts = c.takes_from_the_held.ensures.parts;
    } in
    subst (λ (q : ReplayState). IsUnder h q start left before (g.K.Sink.written c.args.sink.now)) (sym c.take_line.ensures) (passed-under laws h c.args.self.now c.in-Passes.clocks start left before (g.K.Sink.written c.args.sink.now) c.in-Passes.is a)

pub returns-in-Passes-clause-fewer : goal.returns-in-Passes-clause-fewer
returns-in-Passes-clause-fewer g c =
    let r = c.requires.rests in
    let k = r.3.holds in
    let was : IsAhead c.args.self.now r.1 r.2 r.0 k.follows.now (Passes c.in-Passes.clocks) = subst (λ v. IsAhead c.args.self.now r.1 r.2 r.0 k.follows.now v) c.in-Passes.is k.follows.ahead in
    left-taken c.args.self.now c.take_line.new.self (ap (λ (q : ReplayState). q.tally.lines) c.take_line.ensures) (ap (λ (q : ReplayState). q.commands) c.take_line.ensures) was.1.few

pub returns-in-End-clause-under : goal.returns-in-End-clause-under
returns-in-End-clause-under g c = λ h start left before a.
    finished-under h c.args.self.now c.finish.new.self start left before (g.K.Sink.written c.args.sink.now) (ap following c.in-End.is) (c.finish.ensures.stands h) c.finish.ensures.pending c.finish.ensures.from a.under

pub returns-in-End-clause-fewer : goal.returns-in-End-clause-fewer
returns-in-End-clause-fewer g c = left-finished c.args.self.now c.finish.new.self (ap following c.in-End.is) c.requires.rests.3.unfinished c.finish.ensures.finished

pub returns-in-Refused-clause-under : goal.returns-in-Refused-clause-under
returns-in-Refused-clause-under g c = λ h start left before a.
    finished-under h c.args.self.now c.finish-in-Refused.new.self start left before (g.K.Sink.written c.args.sink.now) (ap following c.in-Refused.is) (c.finish-in-Refused.ensures.stands h) c.finish-in-Refused.ensures.pending c.finish-in-Refused.ensures.from a.under

pub returns-in-Refused-clause-fewer : goal.returns-in-Refused-clause-fewer
returns-in-Refused-clause-fewer g c = left-finished c.args.self.now c.finish-in-Refused.new.self (ap following c.in-Refused.is) c.requires.rests.3.unfinished c.finish-in-Refused.ensures.finished
