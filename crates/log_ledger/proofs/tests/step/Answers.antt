use Rattle.std.proofs.Common.{◌≡◌, ℕ, Bool, true, not, Option, Some, None, IsNone, is_some, refl}
use Rattle.std.proofs.Math.Logic.{∥∥₁_map}
use Rattle.log_ledger.proofs.tests.step.Goals as goal

none_where : (o : Option ℕ) (t : Bool) → is_some o ≡ not t → t ≡ true → IsNone o
none_where None t e f = refl
none_where (Some n) t e f = absurd cc

pub issue-requires-clause-may : goal.issue-requires-clause-may
issue-requires-clause-may c =
    ∥∥₁_map c.broken-broken.ensures.stands
    (λ some. (some.0, some.1, some.2, ((c.broken-broken.ensures.none some.0 some.1 some.2).0 (none_where _ _ c.is_none.ensures c.if-is_none.true)).0))
