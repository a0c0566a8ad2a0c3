use Rattle.std.proofs.Common.{◌≡◌, ◌∙◌, nat_le, [], ◌∷◌, subst}
use Rattle.speed_bin.specs.Rules.{first_failing}
use Rattle.speed_bin.specs.declared.timing.Timing.{Timing}
use Rattle.timing_rules.specs.Gate.{StandsFor}
use Rattle.timing_rules.specs.Spaced.{spacing_rules}
use Rattle.timing_rules.proofs.Earliest.{spacing_is, follows_where_none}
use Rattle.timing_rules.proofs.clocks.Clocks.broken.Goals as goal

pub returns-clause-least : goal.returns-clause-least
unfolding StandsFor
returns-clause-least c = λ t log s.
    c.least_broken.ensures
    ∙ subst (λ (u : Timing). first_failing 1 (c.is_after_last.result ∷ nat_le c.behind_gaps.result c.args.clock ∷ nat_le c.behind_window.result c.args.clock ∷ []) ≡ first_failing 1 (spacing_rules u c.args.clock c.args.command.now log)) s.timing
    (spacing_is c.args.self.now.timing c.args.clock c.args.command.now log c.is_after_last.result c.behind_gaps.result c.behind_window.result
    (c.is_after_last.ensures t log s)
    (c.behind_gaps.ensures t log s c.args.clock)
    (c.behind_window.ensures t log s c.args.clock))

pub returns-clause-none : goal.returns-clause-none
returns-clause-none c = λ t log s. follows_where_none t c.args.clock c.args.command.now log c.least_broken.result (returns-clause-least c t log s)
