use Rattle.std.proofs.Math.Logic.{∥∥₁_map}
use Rattle.log_auditor.proofs.judge.Judge.append.Goals as goal

pub count-requires : goal.count-requires
count-requires c = ∥∥₁_map c.requires.may (λ m. (m.0, m.1, m.2.activity, c.open_rows-rows.ensures m.0 m.1 m.2.ledger, m.3))

pub issue-requires-clause-may : goal.issue-requires-clause-may
issue-requires-clause-may c = ∥∥₁_map c.requires.may (λ m. (m.0, m.1, m.2.ledger, m.4))
