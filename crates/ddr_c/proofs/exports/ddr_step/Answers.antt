use Rattle.std.proofs.Common.{rules}
use Rattle.ddr_c.specs.Effects.{effect_of}
use Rattle.ddr_c.proofs.Sitting.{sits_stepped}
use Rattle.ddr_c.proofs.exports.ddr_step.Goals as goal

pub returns-in-Some-clause-sits : goal.returns-in-Some-clause-sits
returns-in-Some-clause-sits c =
    sits_stepped c.args.slot.now.kept.session c.put.new.self.kept.session c.deref_mut.result.now c.step-told.new.self c.args.line.now c.step-told.new.line c.step-told.result
    (λ h steps stage. effect_of h steps stage c.args.clock (record { first = c.args.first; second = c.if-has_second.words }) c.args.line.now.bytes)
    c.requires (search rules) (search rules) c.step-told.ensures
