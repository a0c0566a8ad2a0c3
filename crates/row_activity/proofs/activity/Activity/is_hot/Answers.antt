use Rattle.std.proofs.Common.{◌∙◌, sym, arith}
use Rattle.speed_bin.proofs.Tests.{any_below_at, any_below_none}
use Rattle.row_activity.specs.Standing.{bank_at}
use Rattle.row_activity.proofs.Below.{hot_is}
use Rattle.row_activity.proofs.activity.Activity.is_hot.Goals as goal

pub returns-then-is_hot_at : goal.returns-then-is_hot_at
returns-then-is_hot_at c = λ h log accepted counted each.
    sym (any_below_at 32 (λ b. (bank_at c.args.self.now.banks.items b).is_hot) c.loop-number.number c.loop-number-test.true (sym c.if-is_hot_at.ensures))
    ∙ hot_is c.args.self.now.banks.items h log accepted counted each

pub returns : goal.returns
returns c = λ h log accepted counted each.
    let end = c.loop-number-test.false in
    sym (any_below_none 32 (λ b. (bank_at c.args.self.now.banks.items b).is_hot) (λ b low. c.loop-number.invariant b (omega arith)))
    ∙ hot_is c.args.self.now.banks.items h log accepted counted each
