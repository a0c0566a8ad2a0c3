use Rattle.std.proofs.Common.{◌∙◌, sym}
use Rattle.refresh_plan.specs.Standing.{StandsFor}
use Rattle.refresh_plan.proofs.Allowing.{rule_6_test, rule_7_test, rule_8_test, allowed_where_in_step, not_allowed}
use Rattle.refresh_plan.proofs.debts.Plan.allowed.Goals as goal
use Rattle.refresh_plan.proofs.debts.Plan.allowed.Goals.{then-is_on_time, else-is_on_time}

pub returns-then-is_even : goal.returns-then-is_even
unfolding StandsFor
returns-then-is_even c = elim c.if-is_on_time.branch [
  | then-is_on_time w ↦ (λ h log stands. allowed_where_in_step h log c.args.clock c.args.command.now c.is_on_time.result w.is_even.result c.is_in_step.result
      (rule_6_test c.args.self.now h log c.args.clock c.args.command.now c.refreshes_after-counts.result c.is_on_time.result stands c.refreshes_after-counts.ensures c.is_on_time.ensures)
      (rule_7_test c.args.self.now h log c.args.command.now c.refreshes_after-counts.result w.is_even.result stands c.refreshes_after-counts.ensures w.is_even.ensures)
      (c.is_in_step.ensures ∙ rule_8_test c.args.self.now h log c.args.command.now stands)
      w.if-is_on_time.true
      (sym w.value-is ∙ c.if-is_even.true))
  | else-is_on_time w ↦ (λ h log stands. absurd cc)
]

pub returns-else-is_even : goal.returns-else-is_even
unfolding StandsFor
returns-else-is_even c = elim c.if-is_on_time.branch [
  | then-is_on_time w ↦ (λ h log stands. not_allowed _ c.if-is_on_time.value c.if-is_even.false (λ allowed.
      let seven = rule_7_test c.args.self.now h log c.args.command.now c.refreshes_after-counts.result w.is_even.result stands c.refreshes_after-counts.ensures w.is_even.ensures in
      let is = allowed.refreshes_evenly in
      cc))
  | else-is_on_time w ↦ (λ h log stands. not_allowed _ c.if-is_on_time.value c.if-is_even.false (λ allowed.
      let six = rule_6_test c.args.self.now h log c.args.clock c.args.command.now c.refreshes_after-counts.result c.is_on_time.result stands c.refreshes_after-counts.ensures c.is_on_time.ensures in
      let is = allowed.refreshes_in_time in
      cc))
]
