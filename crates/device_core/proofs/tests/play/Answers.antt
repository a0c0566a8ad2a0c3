use Rattle.device_core.specs.Standing.{lent}
use Rattle.device_core.specs.Scripts.{played}
use Rattle.device_core.proofs.ScriptLemmas.{one_line}
use Rattle.device_core.proofs.tests.play.Goals as goal

pub step-requires : goal.step-requires
step-requires c =
    let r = c.requires in
    let i = c.loop-line.invariant r.0 r.1 r.2 r.3 in
    let line = one_line r.0 c.args.script.now c.loop-line.line-index c.args.bytes.now (lent c.given.result) i.0 (played c.args.bytes.now c.args.script.now r.1) c.loop-line-test.true c.given.ensures.spelled c.given.ensures.in_range c.given.ensures.bytes i.2 i.3 in
    ∣ (r.0, i.0, line.command, i.1, line.follows) ∣₁

pub loop-line-preserved : goal.loop-line-preserved
loop-line-preserved c = λ h steps stands legal.
    let i = c.loop-line.invariant h steps stands legal in
    let line = one_line h c.args.script.now c.loop-line.line-index c.args.bytes.now (lent c.given.result) i.0 (played c.args.bytes.now c.args.script.now steps) c.loop-line-test.true c.given.ensures.spelled c.given.ensures.in_range c.given.ensures.bytes i.2 i.3 in
    (_, c.in-Ok.ensures.stands h i.0 line.command i.1 line.follows, line.legal, line.ends)
