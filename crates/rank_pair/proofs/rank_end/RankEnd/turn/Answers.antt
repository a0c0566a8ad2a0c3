use Rattle.std.proofs.Common.{sym, subst}
use Rattle.command_words.specs.Geometry.{Shape}
use Rattle.command_words.specs.Place.{IsInside}
use Rattle.command_words.specs.declared.geometry.Place.{Place}
use Rattle.reports.specs.Delivered.{device_steps}
use Rattle.speed_bin.specs.Header.{shape_of}
use Rattle.rank_pair.proofs.RankEnding.{turned_by}
use Rattle.rank_pair.proofs.rank_end.RankEnd.turn.Goals as goal

pub flip-requires-clause-place : goal.flip-requires-clause-place
flip-requires-clause-place c =
    let r = c.requires in
    let b = c.gives_to_a_device.ensures.bit r.0 r.1 r.3 r.4 c.args.device c.args.bit r.5.accepted r.5.inside r.5.line_is in
    subst (λ (g : Shape). IsInside c.args.place g) (sym (c.list_is_legal.ensures.geometry c.args.self.now.device r.0 (device_steps r.0 r.1 r.2) r.5.stands.device))
    (subst (λ (p : Place). IsInside p (shape_of r.0)) (sym r.5.place_is) b.inside)

pub flip-requires-clause-device : goal.flip-requires-clause-device
flip-requires-clause-device c = let r = c.requires in (c.gives_to_a_device.ensures.bit r.0 r.1 r.3 r.4 c.args.device c.args.bit r.5.accepted r.5.inside r.5.line_is).of_four

pub flip-requires-clause-bit : goal.flip-requires-clause-bit
flip-requires-clause-bit c = let r = c.requires in (c.gives_to_a_device.ensures.bit r.0 r.1 r.3 r.4 c.args.device c.args.bit r.5.accepted r.5.inside r.5.line_is).in_word

pub returns : goal.returns
returns c = turned_by c.gives_to_a_device.ensures.turns c.flip.result c.args.self.now c.flip.new.self c.args.place c.args.device c.args.bit c.flip.ensures.stands
