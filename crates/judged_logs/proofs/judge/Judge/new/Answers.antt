use Rattle.std.proofs.Common.{refl, arith}
use Rattle.judged_logs.specs.Auditing.{StandsFor}
use Rattle.judged_logs.proofs.judge.Judge.new.Goals as goal

pub returns-clause-stands : goal.returns-clause-stands
unfolding StandsFor
returns-clause-stands c = record {
  accepted = c.requires;
  shape = c.geometry.ensures;
  judged = refl;
  rows = tt;
  state = refl;
  parts = λ _. record {
    timing = refl;
    settings = refl;
    writes = c.writes.ensures;
    places = refl;
    gate = c.in_ok-gate.ensures;
    banks = c.new-2.ensures;
    plan = c.plan_where-plan.ensures;
    rolling = c.new-3.ensures c.args.header.now refl;
    activity = c.in_ok-activity.ensures;
    short = omega arith;
    in_time = omega arith;
  };
}
