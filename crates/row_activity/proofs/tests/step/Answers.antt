use Rattle.std.proofs.Common.{refl}
use Rattle.row_activity.specs.Trial.{one_row}
use Rattle.row_activity.proofs.tests.step.Goals as goal

pub issue-requires : goal.issue-requires
issue-requires c = let r = c.requires in ∣ (one_row, r.0, r.1.activity, r.1.rows, r.2) ∣₁

pub issue-requires-2 : goal.issue-requires-2
issue-requires-2 c = let r = c.requires in ∣ (r.0, r.1.rows, record { fourth = r.2.kept.fourth; fifth = r.2.kept.fifth }) ∣₁

pub returns : goal.returns
returns c = λ log stands may. record {
  activity = c.issue.ensures one_row log stands.activity stands.rows may (λ other. refl);
  rows = c.issue-2.ensures c.args.clock log stands.rows (record { fourth = may.kept.fourth; fifth = may.kept.fifth });
}
