use Rattle.std.proofs.Common.{◌∙◌, sym, arith}
use Rattle.timing_rules.proofs.Spacing.{window_passes}
use Rattle.timing_rules.proofs.clocks.Clocks.behind_window.Goals as goal

pub returns-then-is_act : goal.returns-then-is_act
returns-then-is_act c = λ t log s clock. c.behind_fourth.ensures t log s c.args.command.now (sym c.is_act.ensures ∙ c.if-is_act.true) clock

pub returns-else-is_act : goal.returns-else-is_act
returns-else-is_act c = λ t log s clock. (
  λ h. omega arith,
  λ h. window_passes c.args.self.now.timing clock c.args.command.now log (sym c.is_act.ensures ∙ c.if-is_act.false),
)
