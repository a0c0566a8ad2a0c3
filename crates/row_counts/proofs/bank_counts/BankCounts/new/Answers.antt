use Rattle.std.proofs.Common.{◌-◌, ◌∙◌, arith, refl}
use Rattle.row_counts.proofs.HeightLemmas.{height_low}
use Rattle.row_counts.proofs.Steps.{stands_fresh, levels_of}
use Rattle.row_counts.proofs.bank_counts.BankCounts.new.Goals as goal

pub overflow_add-levels : goal.overflow_add-levels
overflow_add-levels c =
    let ath = c.requires.ranges.ath in
    let low = height_low (c.cycle-cycle.result - 1) c.args.settings.now.rows in
    let is = c.height.ensures.value in
    let version = c.cycle-cycle.ensures.in_range in
    let cycle = c.cycle-cycle.ensures.cycle in
    omega (arith, low, is, version, cycle)

pub overflow_add-levels-2 : goal.overflow_add-levels-2
overflow_add-levels-2 c =
    let ath = c.requires.ranges.ath in
    let low = height_low (c.cycle-cycle.result - 1) c.args.settings.now.rows in
    let is = c.height.ensures.value in
    let version = c.cycle-cycle.ensures.in_range in
    let cycle = c.cycle-cycle.ensures.cycle in
    omega (arith, low, is, version, cycle)

pub new-requires-clause-levels : goal.new-requires-clause-levels
new-requires-clause-levels c =
    let ath = c.requires.ranges.ath in
    let low = height_low (c.cycle-cycle.result - 1) c.args.settings.now.rows in
    let is = c.height.ensures.value in
    let version = c.cycle-cycle.ensures.in_range in
    let cycle = c.cycle-cycle.ensures.cycle in
    (omega (arith, low, is, version, cycle), omega (arith, low, is, version, cycle))

pub returns-clause-log : goal.returns-clause-log
returns-clause-log c = λ h b same version. stands_fresh c.args.settings.now _ h b refl refl c.in_ok-order.ensures.sizes.0 (levels_of c.args.settings.now c.args.version h _ c.cycle-cycle.ensures.in_range (c.in_ok-order.ensures.sizes.1 ∙ (rw (c.height.ensures.value, c.cycle-cycle.ensures.cycle) refl)) same version) refl c.in_ok-order.ensures.list same
