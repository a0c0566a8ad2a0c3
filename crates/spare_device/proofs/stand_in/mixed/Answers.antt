use Rattle.std.proofs.Common.{◌≡◌, arith, length, rules}
use Rattle.spare_device.proofs.Mixed.{all-mixed}
use Rattle.spare_device.proofs.stand_in.mixed.Goals as goal

pub returns : goal.returns
returns c =
    let one : length c.args.one.now ≡ 16 = search rules in
    let two : length c.args.other.now ≡ 16 = search rules in
    all-mixed 16 c.args.one.now c.args.other.now c.places.both one two c.places.invariant.counted (λ k low. c.places.invariant.done k (omega (arith, c.places.auto.i-end, low)))
