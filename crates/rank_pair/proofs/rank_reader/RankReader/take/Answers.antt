use Rattle.std.proofs.Common.{◌+◌, ◌<◌, ◌≤◌, arith, refl}
use Rattle.rank_pair.specs.Job.{clocks_of, most_clocks}
use Rattle.rank_pair.proofs.NextLines.{judges_over, judges_within}
use Rattle.rank_pair.proofs.rank_reader.RankReader.take.Goals as goal

pub returns-then-clocks-self : goal.returns-then-clocks-self
returns-then-clocks-self c =
    let k = c.clocks_of-clocks.ensures in
    let held = c.self.invariant.1 in
    let many : most_clocks < c.self.inside.clocks + clocks_of c.args.line.line = omega (arith, c.if-clocks-self.true, k, held) in
    rw (c.number.ensures, ← c.self.view_is) (judges_over _ c.args.line many)

pub returns : goal.returns
returns c =
    let k = c.clocks_of-clocks.ensures in
    let held = c.self.invariant.1 in
    let short : c.self.inside.clocks + clocks_of c.args.line.line ≤ most_clocks = omega (arith, c.if-clocks-self.false, k, held) in
    rw (← c.self.view_is) (judges_within _ _ _ c.args.line short refl (rw k refl))
