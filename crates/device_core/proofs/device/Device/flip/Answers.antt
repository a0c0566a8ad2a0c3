use Rattle.std.proofs.Common.{sym, subst}
use Rattle.command_words.specs.Place.{IsInside}
use Rattle.error_scrub.specs.Cells.{cells_shape}
use Rattle.device_core.specs.Held.{Held}
use Rattle.device_core.specs.Standing.{geometry_of}
use Rattle.device_core.proofs.StepLemmas.{flipped, flip_some}
use Rattle.device_core.proofs.device.Device.flip.Goals as goal

pub flip-requires-clause-place : goal.flip-requires-clause-place
unfolding geometry_of
flip-requires-clause-place c = subst (λ (d : Held). IsInside c.args.place (cells_shape d.store.cells)) (sym c.self.view_is) c.requires.place

pub returns-clause-stands : goal.returns-clause-stands
unfolding geometry_of
returns-clause-stands c =
    let inside = subst (λ (d : Held). IsInside c.args.place (cells_shape d.store.cells)) (sym c.self.view_is) c.requires.place in
    rw (← c.self.view_is)
    (flipped c.flip.result c.self.inside.registers c.self.inside.activations c.self.inside.store c.flip.new.self c.args.place c.args.device c.args.bit
    c.flip.ensures.stands inside c.requires.device c.requires.bit)

pub invariant_of-self : goal.invariant_of-self
unfolding geometry_of
invariant_of-self c =
    let inside = subst (λ (d : Held). IsInside c.args.place (cells_shape d.store.cells)) (sym c.self.view_is) c.requires.place in
    flip_some c.flip.result c.unchanged_stands.ensures c.self.inside.registers c.self.inside.activations c.self.inside.store c.flip.new.self c.args.place c.args.device c.args.bit
    (flipped c.flip.result c.self.inside.registers c.self.inside.activations c.self.inside.store c.flip.new.self c.args.place c.args.device c.args.bit
    c.flip.ensures.stands inside c.requires.device c.requires.bit)
    c.flip.ensures.unchanged c.self.invariant
