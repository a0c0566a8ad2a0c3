use Rattle.std.proofs.Common.{sym, arith}
use Rattle.judged_logs.proofs.Wanting.{wanted_at_none, wanted_all, not_wanted, is_wanted_at}
use Rattle.judged_logs.proofs.rolling.Rolling.is_wanted.Goals as goal

pub returns-then-is_high_at : goal.returns-then-is_high_at
returns-then-is_high_at c = λ h log stands.
    sym (wanted_all h log c.loop-address.address (is_wanted_at c.args.self.now h log c.loop-address.address stands (sym c.if-is_high_at.ensures)))

pub returns : goal.returns
returns c = λ h log stands.
    sym (wanted_at_none h log (λ address low. not_wanted c.args.self.now h log address stands (c.loop-address.invariant address (omega arith))))
