use Rattle.std.proofs.Common.{◌∙◌, max, slice_index, refl, ap, arith, rules}
use Rattle.timing_rules.specs.Reach.{blocked_until}
use Rattle.timing_rules.proofs.Raised.{raised_by, raised_more}
use Rattle.timing_rules.proofs.tables.raise_each.Goals as goal

pub banks-init : goal.banks-init
banks-init c = record { long = search rules; done = λ i low. absurd (omega (arith, low)); left = λ i low. refl }

pub banks-preserved : goal.banks-preserved
banks-preserved c =
    let low = c.banks-test.true in
    raised_more (raised_by c.args.scope c.args.clock c.args.clocks) c.args.table.now c.banks.table c.banks.b c.raised-entry.result low
    (c.raised-entry.ensures ∙ ap (λ n. max (blocked_until c.args.clock n) (slice_index c.banks.table c.banks.b)) c.asked_of.ensures) c.banks.invariant

pub returns : goal.returns
returns c = record {
  long = search rules;
  entries = λ b low. let t = c.banks-test.false in c.banks.invariant.done b (omega (arith, t, low));
}
