use Rattle.std.proofs.Common.{sym, subst}
use Rattle.command_words.specs.Geometry.{Shape}
use Rattle.command_words.specs.Place.{IsInside}
use Rattle.command_words.specs.declared.geometry.Place.{Place}
use Rattle.speed_bin.specs.Header.{shape_of}
use Rattle.device_core.proofs.tests.turn.Goals as goal

pub flip-requires-clause-place : goal.flip-requires-clause-place
flip-requires-clause-place c =
    let r = c.requires in
    subst (λ (g : Shape). IsInside c.first_place.result g) (sym (c.list_is_legal.ensures.geometry c.args.device.now r.0 r.1 r.2))
    (subst (λ (p : Place). IsInside p (shape_of r.0)) (sym c.first_place.ensures) r.3.inside)

pub flip-requires-clause-device : goal.flip-requires-clause-device
flip-requires-clause-device c = c.requires.3.of_four

pub flip-requires-clause-bit : goal.flip-requires-clause-bit
flip-requires-clause-bit c = c.requires.3.in_word
