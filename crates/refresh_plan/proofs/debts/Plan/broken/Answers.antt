use Rattle.std.proofs.Common.{◌∙◌}
use Rattle.refresh_plan.specs.Standing.{StandsFor}
use Rattle.refresh_plan.proofs.Allowing.{rule_6_test, rule_7_test, rule_8_test, least_is, allowed_where_none}
use Rattle.refresh_plan.proofs.debts.Plan.broken.Goals as goal

pub returns-clause-least : goal.returns-clause-least
unfolding StandsFor
returns-clause-least c = λ h log stands.
    c.least_broken.ensures
    ∙ least_is h log c.args.clock c.args.command.now c.is_on_time.result c.is_even.result c.is_in_step.result
    (rule_6_test c.args.self.now h log c.args.clock c.args.command.now c.refreshes_after-counts.result c.is_on_time.result stands c.refreshes_after-counts.ensures c.is_on_time.ensures)
    (rule_7_test c.args.self.now h log c.args.command.now c.refreshes_after-counts.result c.is_even.result stands c.refreshes_after-counts.ensures c.is_even.ensures)
    (c.is_in_step.ensures ∙ rule_8_test c.args.self.now h log c.args.command.now stands)

pub returns-clause-none : goal.returns-clause-none
returns-clause-none c = λ h log stands. allowed_where_none h log c.args.clock c.args.command.now c.least_broken.result (returns-clause-least c h log stands)
