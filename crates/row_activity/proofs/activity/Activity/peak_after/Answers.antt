use Rattle.std.proofs.Common.{◌≡◌, ◌+◌, false, max, arith, rules}
use Rattle.command_words.specs.Kinds.{is_act}
use Rattle.row_activity.proofs.RowLemmas.{holds_row, act_fits, peak_at_act, peak_else}
use Rattle.row_activity.proofs.activity.Activity.peak_after.Goals as goal

pub count-activations-requires : goal.count-activations-requires
count-activations-requires c = holds_row c.args.self.now c.args.open_rows.now c.args.clock c.in-Act.bank c.in-Act.row (rw c.in-Act.is at c.requires)

pub overflow_add-activations : goal.overflow_add-activations
overflow_add-activations c =
    let few = act_fits c.bound.ensures.bounded c.args.self.now c.args.open_rows.now c.args.clock c.in-Act.bank c.in-Act.row c.count-activations.result (rw c.in-Act.is at c.requires) (λ h log stands. c.count-activations.ensures h log stands) in
    omega arith

pub returns-in-Act : goal.returns-in-Act
returns-in-Act c = λ h log stands here.
    let most : c.max.result ≡ max (c.count-activations.result + 1) c.args.self.now.peak = search rules in
    peak_at_act c.args.self.now h c.args.clock c.args.command.now c.in-Act.bank c.in-Act.row c.count-activations.result c.max.result log c.in-Act.is (λ same. c.count-activations.ensures h log same) most stands here

pub returns-in-Rd : goal.returns-in-Rd
returns-in-Rd c = λ h log stands here.
    let other : is_act c.args.command.now ≡ false = search rules in
    peak_else c.args.self.now h c.args.clock c.args.command.now log other stands
