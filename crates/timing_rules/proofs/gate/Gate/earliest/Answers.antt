use Rattle.std.proofs.Common.{◌∙◌, sym, subst}
use Rattle.timing_rules.specs.Gate.{StandsFor, StandsForSome}
use Rattle.timing_rules.specs.declared.clocks.Clocks.{Clocks}
use Rattle.timing_rules.proofs.gate.Gate.earliest.Goals as goal

pub earliest-requires-clause-some : goal.earliest-requires-clause-some
earliest-requires-clause-some c = subst StandsForSome (sym c.deref.ensures) c.self.invariant.1

pub returns-clause-least : goal.returns-clause-least
returns-clause-least c = λ t log s. c.earliest.ensures.least t log (subst (λ (x : Clocks). StandsFor x t log) (sym (c.deref.ensures ∙ c.self.view_is)) s)

pub returns-clause-stands : goal.returns-clause-stands
returns-clause-stands c = subst StandsForSome c.self.view_is c.self.invariant.1
