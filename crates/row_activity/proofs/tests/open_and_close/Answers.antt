use Rattle.std.proofs.Common.{◌∷◌, sym, subst}
use Rattle.command_words.specs.declared.command.Command.{Command}
use Rattle.command_words.specs.declared.command.Command.TheVariants.{PreAb}
use Rattle.row_activity.specs.Counted.{MayCount}
use Rattle.row_activity.specs.Trial.{Stand, one_row}
use Rattle.row_activity.proofs.tests.open_and_close.Goals as goal

pub step-requires : goal.step-requires
step-requires c = let r = c.requires in (r.0, r.1, subst (λ (act : Command). MayCount one_row c.args.first act r.0) (sym c.act.ensures) r.2.opening)

pub step-requires-2 : goal.step-requires-2
step-requires-2 c =
    let r = c.requires in
    let opening = subst (λ (act : Command). MayCount one_row c.args.first act r.0) (sym c.act.ensures) r.2.opening in
    let closing = subst (λ (act : Command). MayCount one_row c.args.second PreAb (record { clock = c.args.first; command = act } ∷ r.0)) (sym c.act.ensures) r.2.closing in
    (_, c.step.ensures r.0 r.1 opening, closing)

pub known-requires : goal.known-requires
known-requires c =
    let r = c.requires in
    let opening = subst (λ (act : Command). MayCount one_row c.args.first act r.0) (sym c.act.ensures) r.2.opening in
    let closing = subst (λ (act : Command). MayCount one_row c.args.second PreAb (record { clock = c.args.first; command = act } ∷ r.0)) (sym c.act.ensures) r.2.closing in
    (_, (c.step-2.ensures _ (c.step.ensures r.0 r.1 opening) closing).activity)

pub returns : goal.returns
returns c = λ log stands may.
    let opening = subst (λ (act : Command). MayCount one_row c.args.first act log) (sym c.act.ensures) may.opening in
    let closing = subst (λ (act : Command). MayCount one_row c.args.second PreAb (record { clock = c.args.first; command = act } ∷ log)) (sym c.act.ensures) may.closing in
    subst (λ (act : Command). Stand c.step-2.new.activity c.step-2.new.open_rows (record { clock = c.args.second; command = PreAb } ∷ (record { clock = c.args.first; command = act } ∷ log))) c.act.ensures
    (c.step-2.ensures _ (c.step.ensures log stands opening) closing)
