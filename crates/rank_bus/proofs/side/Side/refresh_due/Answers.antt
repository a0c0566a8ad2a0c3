use Rattle.std.proofs.Common.{refl}
use Rattle.rank_bus.proofs.Named.{refresh_named}
use Rattle.rank_bus.proofs.side.Side.refresh_due.Goals as goal

pub returns-in-Some : goal.returns-in-Some
returns-in-Some c = λ h log s. rw c.refresh_of.ensures (refresh_named h log c.args.clock c.in-Some.due
    (λ nothing. let k = (c.in-Some.ensures.none h log s.ledger).1 nothing in absurd (cc))
    (λ mode. c.in-Some.ensures.all h log s.ledger mode)
    (λ mode. c.in-Some.ensures.same h log s.ledger mode))

pub returns-in-None : goal.returns-in-None
returns-in-None c = λ h log s. (c.in-None.ensures.none h log s.ledger).0 refl
