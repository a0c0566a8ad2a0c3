use Rattle.std.proofs.Common.{refl}
use Rattle.row_counts.proofs.Steps.{stands_close}
use Rattle.row_counts.proofs.bank_counts.BankCounts.close.Goals as goal

pub raise-requires : goal.raise-requires
raise-requires c =
    let may = rw (← c.self.view_is) at c.requires in
    record { inside = may.inside; below = may.below }

pub returns-clause-log : goal.returns-clause-log
returns-clause-log c = rw (← c.self.view_is) (λ h b clock command log stands closes opened.
    let may = rw (← c.self.view_is) at c.requires in
    stands_close c.same_counts.ensures _ _ h b c.args.row clock command log (record { ath = refl; eth = refl; rows = c.raise.ensures.sizes.0; levels = c.raise.ensures.sizes.1; changes = refl }) may c.raise.ensures.list stands closes opened)
