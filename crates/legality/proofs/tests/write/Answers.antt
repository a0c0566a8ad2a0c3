use Rattle.std.proofs.Common.{refl, arith}
use Rattle.std.proofs.Math.Logic.{∥∥₁_map}
use Rattle.legality.proofs.Legality.{may_take}
use Rattle.legality.proofs.tests.write.Goals as goal

pub issue-requires-clause-may : goal.issue-requires-clause-may
issue-requires-clause-may c = ∥∥₁_map c.requires.stands (λ m. (
  m.0,
  m.1,
  m.2,
  may_take m.0 c.args.clock _ m.1 c.legal.result c.in-Some.first c.in-Some.last
      (c.legal.ensures m.0 m.1 m.2) c.in-Some.is (omega (arith, c.if-clock-first.false)) (omega (arith, c.if-last-clock.false)) c.requires.in_time
      (c.ranges.address.fits, c.ranges.value.fits) refl,
))

pub returns : goal.returns
returns c = ∥∥₁_map c.requires.stands (λ m. (
  m.0,
  _,
  c.issue.ensures m.0 m.1 m.2 (may_take m.0 c.args.clock _ m.1 c.legal.result c.in-Some.first c.in-Some.last
      (c.legal.ensures m.0 m.1 m.2) c.in-Some.is (omega (arith, c.if-clock-first.false)) (omega (arith, c.if-last-clock.false)) c.requires.in_time
      (c.ranges.address.fits, c.ranges.value.fits) refl),
))
