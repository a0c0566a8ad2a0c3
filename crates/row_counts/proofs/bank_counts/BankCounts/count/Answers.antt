use Rattle.std.proofs.Common.{arith}
use Rattle.std.proofs.Math.Logic.{∥∥₁_map}
use Rattle.row_counts.proofs.Steps.{same_count}
use Rattle.row_counts.proofs.bank_counts.BankCounts.count.Goals as goal

pub returns-clause-may_close : goal.returns-clause-may_close
returns-clause-may_close c =
    let inside = rw (← c.self.view_is) at c.requires in
    rw (← c.self.view_is) (λ low few. record {
      inside = inside;
      below = ∥∥₁_map c.stands.ensures (λ p. (p.0, p.1, let is = c.count.ensures p.0 p.1 in omega (arith, is, low)));
      changes = few;
    })

pub returns-clause-log : goal.returns-clause-log
returns-clause-log c =
    let inside = rw (← c.self.view_is) at c.requires in
    rw (← c.self.view_is) (λ h b log stands. same_count _ h b c.args.row c.count.result log inside c.count.ensures stands)
