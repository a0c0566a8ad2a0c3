use Rattle.std.proofs.Common.{◌↔◌, ◌≤◌, ◌+◌, ◌^◌, subst}
use Rattle.std.proofs.Math.Bridge.{le_prop}
use Rattle.std.proofs.Math.Logic.{∥∥₁_elim}
use Rattle.speed_bin.specs.Rules.{MayFollow}
use Rattle.speed_bin.specs.Timing.{IsTiming}
use Rattle.speed_bin.specs.declared.timing.Timing.{Timing}
use Rattle.timing_rules.specs.Gate.{StandsFor}
use Rattle.timing_rules.proofs.Earliest.{least_clock, follows_late, within_range}
use Rattle.timing_rules.proofs.clocks.Clocks.earliest.Goals as goal

pub returns-clause-least : goal.returns-clause-least
unfolding StandsFor
returns-clause-least c = λ t log s clock.
    subst (λ (u : Timing). MayFollow u clock c.args.command.now log ↔ (c.max.result ≤ clock)) s.timing
    (least_clock c.args.self.now.timing c.args.command.now log clock _ _ _ (c.behind_gaps.ensures t log s clock) (c.behind_window.ensures t log s clock) c.max.ensures)

pub returns-clause-in_range : goal.returns-clause-in_range
unfolding StandsFor
returns-clause-in_range c =
    ∥∥₁_elim c.requires.some le_prop
    (λ held.
    let late = follows_late held.0 c.args.command.now held.1 (subst IsTiming held.2.timing held.2.timing_in_range) held.2.small in
    within_range c.max.result ((returns-clause-least c held.0 held.1 held.2 (2 ^ 48 + 2 ^ 18)).0 late))
