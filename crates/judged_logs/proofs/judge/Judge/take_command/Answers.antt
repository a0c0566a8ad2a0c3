use Rattle.std.proofs.Common.{◌∙◌, refl, sym}
use Rattle.std.proofs.Math.Logic.{∥∥₁_map}
use Rattle.ddr_text.specs.declared.lines.ReportLine.TheVariants.{Issued}
use Rattle.judged_logs.specs.Auditing.{StandsFor}
use Rattle.judged_logs.proofs.Taking.{breaks_now, fine_so_far, keeps_broken, keeps_on, line_of_shape, may_take, own_broken, own_parts}
use Rattle.judged_logs.proofs.judge.Judge.take_command.Goals as goal

pub append-requires-clause-may : goal.append-requires-clause-may
unfolding StandsFor
append-requires-clause-may c =
    let opened = sym c.is_open.ensures ∙ c.if-is_open.true in
    ∥∥₁_map (c.requires.sound.some opened) (λ m.
    let line = line_of_shape c.args.self.now m.0 m.1 m.2 (Issued c.args.clock c.args.command.now) m.3 c.requires.inside in
    let none = own_broken c.args.self.now m.0 m.1 c.args.clock c.args.command.now m.2 m.3 ∙ sym (c.broken.ensures m.1 m.2 (own_parts c.args.self.now m.0 m.1 m.2 m.3 opened)) ∙ c.in-None.is in
    (m.0, m.1, m.2, m.3.parts (fine_so_far c.args.self.now m.0 m.1 m.2 m.3 opened), may_take c.args.self.now m.0 m.1 c.args.clock c.args.command.now m.2 line none))

pub returns-in-Some-clause-keeps : goal.returns-in-Some-clause-keeps
returns-in-Some-clause-keeps c = λ j h log keeps.
    let opened = sym c.is_open.ensures ∙ c.if-is_open.true in
    let line = line_of_shape c.args.self.now j h log (Issued c.args.clock c.args.command.now) keeps c.requires.inside in
    breaks_now c.args.self.now _ j h c.args.clock c.args.command.now log c.in-Some.number keeps opened line
    (own_broken c.args.self.now j h c.args.clock c.args.command.now log keeps ∙ sym (c.broken.ensures h log (own_parts c.args.self.now j h log keeps opened)) ∙ c.in-Some.is) refl refl refl

pub returns-in-None-clause-keeps : goal.returns-in-None-clause-keeps
returns-in-None-clause-keeps c = λ j h log keeps.
    let opened = sym c.is_open.ensures ∙ c.if-is_open.true in
    let line = line_of_shape c.args.self.now j h log (Issued c.args.clock c.args.command.now) keeps c.requires.inside in
    let none = own_broken c.args.self.now j h c.args.clock c.args.command.now log keeps ∙ sym (c.broken.ensures h log (own_parts c.args.self.now j h log keeps opened)) ∙ c.in-None.is in
    keeps_on c.args.self.now _ j h c.args.clock c.args.command.now log keeps opened line none c.append.ensures.geometry c.append.ensures.judged c.append.ensures.state
    (c.append.ensures.parts j h log (keeps.parts (fine_so_far c.args.self.now j h log keeps opened)) (may_take c.args.self.now j h c.args.clock c.args.command.now log line none))

pub returns-else-is_open-clause-keeps : goal.returns-else-is_open-clause-keeps
returns-else-is_open-clause-keeps c = λ j h log keeps.
    keeps_broken c.args.self.now j h c.args.clock c.args.command.now log keeps (sym c.is_open.ensures ∙ c.if-is_open.false)
    (line_of_shape c.args.self.now j h log (Issued c.args.clock c.args.command.now) keeps c.requires.inside)
