use Rattle.std.proofs.Common.{◌↔◌, ℕ, ◌≤◌, IsTrue, sym, subst}
use Rattle.speed_bin.specs.Gap.{gap}
use Rattle.speed_bin.specs.Rules.{rule_2}
use Rattle.timing_rules.proofs.Reaches.{decides}
use Rattle.timing_rules.proofs.Spacing.{gap_positive}
use Rattle.timing_rules.proofs.clocks.Clocks.behind_gaps.Goals as goal

pub returns : goal.returns
returns c = λ t log s clock.
    let own = c.args.self.now.timing in
    let command = c.args.command.now in
    subst (λ (n : ℕ). IsTrue (rule_2 own clock command log) ↔ (n ≤ clock)) (sym (c.reach_of.ensures t log s))
    (decides (λ first. gap own first command) clock log (λ first. gap_positive own first command))
