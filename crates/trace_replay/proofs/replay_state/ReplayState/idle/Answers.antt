use Rattle.std.proofs.Common.{arith, subst}
use Rattle.ddr_text.specs.declared.lines.TraceLine.TheVariants.{Idle}
use Rattle.trace_replay.specs.ReplayState.{IsAhead}
use Rattle.trace_replay.specs.declared.replay_state.Ahead.TheVariants.{NextLine}
use Rattle.trace_replay.proofs.Passed.{idled-under}
use Rattle.trace_replay.proofs.Taken.{now-below}
use Rattle.trace_replay.proofs.replay_state.ReplayState.idle.Goals as goal

pub idle-requires : goal.idle-requires
idle-requires c =
    let r = c.requires.rests in
    let k = r.3.holds in
    let low = now-below c.agrees.ensures.controller c.limits.ensures.now r.0 c.args.self.now r.1 r.2 k in
    let was : IsAhead c.args.self.now r.1 r.2 r.0 k.follows.now (NextLine (Idle c.args.clocks)) = subst (λ v. IsAhead c.args.self.now r.1 r.2 r.0 k.follows.now v) c.requires.ahead k.follows.ahead in
    let m = was.1.idle in
    omega (arith, low, m)

pub returns-clause-under : goal.returns-clause-under
returns-clause-under c = λ h start left before written a.
    idled-under c.begins_a_run.ensures.time_passes h c.args.self.now c.idle.new.self c.args.clocks start left before written c.requires.ahead (c.idle.ensures.stands h) c.idle.ensures.pending c.idle.ensures.from c.idle.ensures.until c.idle.ensures.finished a
