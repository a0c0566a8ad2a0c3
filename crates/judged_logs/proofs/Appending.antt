-- What the parts that are there may take.
use Rattle.std.proofs.Common.{◌≡◌, ℕ, Option, Some, None, refl}
use Rattle.std.proofs.Math.Logic.{∥∥₁_map}
use Rattle.command_words.specs.declared.command.Command.{Command}
use Rattle.refresh_plan.specs.Held.{Held as Plan}
use Rattle.row_activity.specs.declared.activity.Activity.{Activity}
use Rattle.judged_logs.specs.Auditing.{MayAppend, MayCountRows, MayPlan}
use Rattle.judged_logs.specs.declared.judge.Judge.{Judge}
use Rattle.judged_logs.proofs.Issuing.{activity_there, allowed, may_count, plan_there}

pub may_plan : (it : Judge) (clock : ℕ) (command : Command) → MayAppend it clock command → MayPlan it.plan clock command
may_plan it clock command may = go it.plan refl
  where
    go : (plan : Option Plan) → it.plan ≡ plan → MayPlan plan clock command
    go None is = tt
    go (Some plan) is = ∥∥₁_map may (λ m.
        let there = plan_there m.0.refresh plan m.1 m.2 (rw is at m.3.plan) in
        (m.1, m.2, there.1, allowed m.0 m.1 clock command m.2 m.4 there.0))

pub may_count_rows : (it : Judge) (clock : ℕ) (command : Command) → MayAppend it clock command → MayCountRows it.activity it.banks clock command
may_count_rows it clock command may = go it.activity refl
  where
    go : (activity : Option Activity) → it.activity ≡ activity → MayCountRows activity it.banks clock command
    go None is = tt
    go (Some activity) is = ∥∥₁_map may (λ m.
        let there = activity_there m.0.backoff activity m.1 m.2 (rw is at m.3.activity) in
        (m.1, m.2, there.1, m.3.banks, may_count m.0 m.1 clock command m.2 m.4 there.0))
