use Rattle.std.proofs.Common.{◌∙◌, refl, sym}
use Rattle.std.proofs.Math.Logic.{∥∥₁_map}
use Rattle.ddr_text.specs.declared.lines.ReportLine.TheVariants.{Issued}
use Rattle.log_auditor.specs.Auditing.{StandsFor}
use Rattle.log_auditor.proofs.Judging.{follows}
use Rattle.log_auditor.proofs.Taking.{breaks_now, fine_so_far, keeps_broken, keeps_on, line_of_shape, may_count}
use Rattle.log_auditor.proofs.judge.Judge.take_command.Goals as goal

pub append-requires-clause-may : goal.append-requires-clause-may
unfolding StandsFor
append-requires-clause-may c =
    let opened = sym c.is_open.ensures ∙ c.if-is_open.true in
    ∥∥₁_map (c.requires.sound.some opened) (λ m.
    let line = line_of_shape c.args.self.now m.0 m.1 (Issued c.args.clock c.args.command.now) m.2 c.requires.inside in
    let parts = m.2.parts (fine_so_far c.args.self.now m.0 m.1 m.2 opened) in
    let none = sym (c.broken.ensures m.0 m.1 parts) ∙ c.in-None.is in
    (m.0, m.1, parts, may_count c.args.self.now m.0 c.args.clock c.args.command.now m.1 m.2 opened line none, follows m.0 c.args.clock c.args.command.now m.1 none))

pub returns-in-Some-clause-keeps : goal.returns-in-Some-clause-keeps
returns-in-Some-clause-keeps c = λ h log keeps.
    let opened = sym c.is_open.ensures ∙ c.if-is_open.true in
    let line = line_of_shape c.args.self.now h log (Issued c.args.clock c.args.command.now) keeps c.requires.inside in
    let parts = keeps.parts (fine_so_far c.args.self.now h log keeps opened) in
    breaks_now c.args.self.now _ h c.args.clock c.args.command.now log c.in-Some.number keeps opened line (sym (c.broken.ensures h log parts) ∙ c.in-Some.is) refl refl

pub returns-in-None-clause-keeps : goal.returns-in-None-clause-keeps
returns-in-None-clause-keeps c = λ h log keeps.
    let opened = sym c.is_open.ensures ∙ c.if-is_open.true in
    let line = line_of_shape c.args.self.now h log (Issued c.args.clock c.args.command.now) keeps c.requires.inside in
    let parts = keeps.parts (fine_so_far c.args.self.now h log keeps opened) in
    let none = sym (c.broken.ensures h log parts) ∙ c.in-None.is in
    keeps_on c.args.self.now _ h c.args.clock c.args.command.now log keeps opened line none c.append.ensures.geometry c.append.ensures.state
    (c.append.ensures.parts h log parts (may_count c.args.self.now h c.args.clock c.args.command.now log keeps opened line none) (follows h c.args.clock c.args.command.now log none))

pub returns-else-is_open-clause-keeps : goal.returns-else-is_open-clause-keeps
returns-else-is_open-clause-keeps c = λ h log keeps.
    keeps_broken c.args.self.now h c.args.clock c.args.command.now log keeps (sym c.is_open.ensures ∙ c.if-is_open.false)
    (line_of_shape c.args.self.now h log (Issued c.args.clock c.args.command.now) keeps c.requires.inside)
