use Rattle.std.proofs.Common.{◌≡◌, ◌∙◌, ℕ, max, if◌then◌else◌, slice_index, sym, ap, arith}
use Rattle.timing_rules.specs.Reach.{most_below}
use Rattle.timing_rules.specs.Scope.{is_within}
use Rattle.timing_rules.proofs.Reaches.{most_none, most_more}
use Rattle.timing_rules.proofs.tables.latest.Goals as goal

pub banks-init : goal.banks-init
banks-init c = most_none (λ b. if is_within c.args.scope b then slice_index c.args.table.now b else 0)

pub banks-preserved : goal.banks-preserved
banks-preserved c =
    let entry = (λ (b : ℕ). if is_within c.args.scope b then slice_index c.args.table.now b else 0) in
    c.max-most.ensures
    ∙ ap (λ n. max n c.banks.most) c.entry_within.ensures
    ∙ ap (λ n. max (entry c.banks.b) n) c.banks.invariant
    ∙ sym (most_more c.banks.b entry)

pub returns : goal.returns
returns c =
    let end : c.banks.b ≡ 32 = (let h = c.banks.auto.b-end in let t = c.banks-test.false in omega (arith, h, t)) in
    c.banks.invariant ∙ ap (λ n. most_below n (λ b. if is_within c.args.scope b then slice_index c.args.table.now b else 0)) end
