use Rattle.spare_device.proofs.Turning.{turn_dead, turn_own, turn_spare}
use Rattle.spare_device.proofs.spare_loop.turn.Goals as goal

pub returns-then-chip-dead : goal.returns-then-chip-dead
returns-then-chip-dead c = record { stands = turn_dead c.args.dead c.args.device.now c.args.line c.args.chip c.args.bit c.if-chip-dead.true c.requires.inside.2 }

pub returns-then-chip-eq4 : goal.returns-then-chip-eq4
returns-then-chip-eq4 c = record { stands = turn_spare c.flip.result c.args.dead c.args.device.now c.flip.new.self c.args.line c.args.chip c.args.bit c.if-chip-dead.false c.if-chip-eq4.true c.requires.inside.2 c.flip.ensures.stands }

pub returns : goal.returns
returns c = record { stands = turn_own c.flip-2.result c.args.dead c.args.device.now c.flip-2.new.self c.args.line c.args.chip c.args.bit c.if-chip-dead.false c.if-chip-eq4.false c.requires.inside.2 c.flip-2.ensures.stands }
