use Rattle.std.proofs.Common.{sym, arith}
use Rattle.speed_bin.specs.Alert.{closes}
use Rattle.command_words.specs.Kinds.{effect}
use Rattle.speed_bin.specs.Log.{open_at}
use Rattle.speed_bin.proofs.Tests.{any_below_at, any_below_none}
use Rattle.row_activity.proofs.activity.closes_some.Goals as goal

pub returns-then-closes : goal.returns-then-closes
returns-then-closes c = λ log stands.
    let here = rw c.numbered.ensures at (sym (c.if-closes.ensures log stands)) in
    sym (any_below_at 32 (λ b. closes (effect b c.args.command.now) (open_at b log)) c.loop-number.number c.loop-number-test.true here)

pub returns : goal.returns
returns c = λ log stands.
    let end = c.loop-number-test.false in
    sym (any_below_none 32 (λ b. closes (effect b c.args.command.now) (open_at b log)) (λ b low. c.loop-number.invariant log stands b (omega arith)))
