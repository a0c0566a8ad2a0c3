use Rattle.std.proofs.Common.{◌∙◌, ℕ, Option, sym, subst}
use Rattle.legality.specs.Chances.{IsForbidden, IsLegal}
use Rattle.legality.proofs.Legality.{legal_is, never_legal, none_of}
use Rattle.legality.proofs.prospects.Prospects.legal.Goals as goal

pub returns-then-is_some : goal.returns-then-is_some
returns-then-is_some c = λ h log stands. never_legal h c.args.command.now log c.forbidden.result (sym c.is_some.ensures ∙ c.if-is_some.true) (c.forbidden.ensures h log stands)

pub returns : goal.returns
returns c = λ h log stands.
    let none = none_of c.forbidden.result (sym c.is_some.ensures ∙ c.if-is_some.false) in
    subst (λ (o : Option (ℕ × ℕ)). IsLegal h c.args.command.now log o) (sym c.clocks.ensures)
    (legal_is h c.args.command.now log c.span.result c.span.ensures.of_the_bus
    (subst (λ (o : Option ℕ). IsForbidden h c.args.command.now log o) none (c.forbidden.ensures h log stands))
    (λ clock small. c.span.ensures.within h log stands clock small))
