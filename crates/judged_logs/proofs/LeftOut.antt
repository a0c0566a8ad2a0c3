-- What a part says of its group of rules, and what is said where the group is left out and there is no part.
use Rattle.std.proofs.Common.{◌≡◌, ℕ, Bool, true, false, not, Option, Some, None, is_none, is_some, refl}
use Rattle.refresh_plan.specs.Held.{Held as Plan}
use Rattle.refresh_plan.specs.Standing.{StandsFor as PlanFor}
use Rattle.row_activity.specs.Standing.{StandsFor as ActivityFor}
use Rattle.row_activity.specs.declared.activity.Activity.{Activity}
use Rattle.speed_bin.specs.Log.{Log}
use Rattle.speed_bin.specs.declared.header.Header.{Header}
use Rattle.judged_logs.specs.Auditing.{ActivityWhere, PlanWhere}

pub by_plan : (judged : Bool) (plan : Plan) (h : Header) (log : Log) (says : Bool → Type 0) → (PlanFor plan h log → says true) → PlanWhere judged (Some plan) h log → says judged
by_plan true plan h log says tells stands = tells stands
by_plan false plan h log says tells stands = absurd stands

pub without_plan : (judged : Bool) (h : Header) (log : Log) (says : Bool → Type 0) → says false → PlanWhere judged None h log → says judged
without_plan true h log says tells stands = absurd stands
without_plan false h log says tells stands = tells

pub by_activity : (judged : Bool) (activity : Activity) (h : Header) (log : Log) (says : Bool → Type 0) → (ActivityFor activity h log → says true) → ActivityWhere judged (Some activity) h log → says judged
by_activity true activity h log says tells stands = tells stands
by_activity false activity h log says tells stands = absurd stands

pub without_activity : (judged : Bool) (h : Header) (log : Log) (says : Bool → Type 0) → says false → ActivityWhere judged None h log → says judged
without_activity true h log says tells stands = absurd stands
without_activity false h log says tells stands = tells

-- a test that is told by its opposite
pub none_told : (o : Option ℕ) (t : Bool) → is_some o ≡ not t → t ≡ is_none o
none_told None true e = refl
none_told None false e = e
none_told (Some x) true e = e
none_told (Some x) false e = refl
