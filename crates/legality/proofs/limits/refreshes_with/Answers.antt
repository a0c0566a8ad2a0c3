use Rattle.std.proofs.Common.{◌∙◌, ℕ, true, false, sym, ap}
use Rattle.std.proofs.Math.Nat.{add-zero}
use Rattle.command_words.specs.Kinds.{refreshes}
use Rattle.legality.proofs.Debts.{refreshes_with}
use Rattle.legality.proofs.limits.refreshes_with.Goals as goal

pub returns-then-refreshes-clause-counted : goal.returns-then-refreshes-clause-counted
returns-then-refreshes-clause-counted c = λ h log clock plan.
    refreshes_with log clock c.args.number c.args.command.now c.refreshes_before-before.result true (c.refreshes_before-before.ensures.counted h log plan)
    (sym c.if-refreshes.true ∙ c.refreshes.ensures ∙ ap (λ (a : ℕ). refreshes a c.args.command.now) c.numbered.ensures)

pub returns-else-refreshes-clause-counted : goal.returns-else-refreshes-clause-counted
returns-else-refreshes-clause-counted c = λ h log clock plan.
    sym (add-zero c.refreshes_before-before.result)
    ∙ refreshes_with log clock c.args.number c.args.command.now c.refreshes_before-before.result false (c.refreshes_before-before.ensures.counted h log plan)
    (sym c.if-refreshes.false ∙ c.refreshes.ensures ∙ ap (λ (a : ℕ). refreshes a c.args.command.now) c.numbered.ensures)
