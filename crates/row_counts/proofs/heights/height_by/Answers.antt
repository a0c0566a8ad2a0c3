use Rattle.std.proofs.Common.{◌≡◌, ◌*◌, ◌^◌, ◌<◌, suc, sym, subst, arith, add-one, pow-suc}
use Rattle.speed_bin.specs.Height.{IsHeight}
use Rattle.speed_bin.proofs.Heights.{height_at, height_is}
use Rattle.row_counts.proofs.HeightLemmas.{power_fits, limit_fits, not_fifty, first_power, first_limit, first_reached, next_limit}
use Rattle.row_counts.proofs.heights.height_by.Goals as goal

pub loop-height-init : goal.loop-height-init
loop-height-init c = record {
  power = first_power c.args.cycle;
  limit = first_limit c.args.rows c.args.spare;
  reached = first_reached c.args.cycle c.args.rows c.args.spare c.requires.rows.0;
}

pub returns-then-power-limit-clause-value : goal.returns-then-power-limit-clause-value
returns-then-power-limit-clause-value c =
    let i = c.loop-height.invariant in
    let rows = c.requires.rows in
    let h = c.loop-height.height in
    let reached = rw c.requires.cycle at i.reached in
    let fails : c.args.rows * c.args.spare ^ suc h < suc c.args.spare ^ suc h = rw (← c.requires.cycle, ← i.power, ← i.limit) c.if-power-limit.true in
    height_at c.args.spare c.args.rows h c.requires.spare.1 rows.0 rows.1 reached fails

pub returns-then-power-limit-clause-greatest : goal.returns-then-power-limit-clause-greatest
returns-then-power-limit-clause-greatest c =
    let rows = c.requires.rows in
    subst (IsHeight c.args.spare c.args.rows) (sym (returns-then-power-limit-clause-value c)) (height_is c.args.spare c.args.rows c.requires.spare.1 rows.0 rows.1)

pub returns-clause-value : goal.returns-clause-value
returns-clause-value c =
    let last = c.loop-height.auto.height-end in
    let over = c.loop-height-test.false in
    let end : c.loop-height.height ≡ 50 = omega (arith, last, over) in
    let reached = rw (c.requires.cycle, end) at c.loop-height.invariant.reached in
    absurd (not_fifty c.args.spare c.args.rows c.requires.spare.1 c.requires.rows.1 reached)

pub returns-clause-greatest : goal.returns-clause-greatest
returns-clause-greatest c =
    let last = c.loop-height.auto.height-end in
    let over = c.loop-height-test.false in
    let end : c.loop-height.height ≡ 50 = omega (arith, last, over) in
    let reached = rw (c.requires.cycle, end) at c.loop-height.invariant.reached in
    absurd (not_fifty c.args.spare c.args.rows c.requires.spare.1 c.requires.rows.1 reached)

pub overflow_mul-power : goal.overflow_mul-power
overflow_mul-power c = rw (c.loop-height.invariant.power, c.requires.cycle) (let f = power_fits c.args.spare c.loop-height.height c.requires.spare.1 c.loop-height-test.true in omega (arith, f))

pub overflow_mul-limit-in-loop-height : goal.overflow_mul-limit-in-loop-height
overflow_mul-limit-in-loop-height c = rw c.loop-height.invariant.limit (let f = limit_fits c.args.spare c.args.rows c.loop-height.height c.requires.spare.1 c.requires.rows.1 c.loop-height-test.true in omega (arith, f))

pub loop-height-preserved : goal.loop-height-preserved
loop-height-preserved c =
    let i = c.loop-height.invariant in
    record {
      power = rw (add-one, i.power) (sym (pow-suc c.args.cycle (suc c.loop-height.height)));
      limit = rw (add-one, i.limit) (next_limit c.args.rows c.args.spare (suc c.loop-height.height));
      reached = rw (add-one, ← i.power, ← i.limit) c.if-power-limit.false;
    }
