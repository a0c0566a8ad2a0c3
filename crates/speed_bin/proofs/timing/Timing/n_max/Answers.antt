-- The clocks are those of the gap table, of which the fold takes the greatest.
use Rattle.std.proofs.Common.{◌≡◌, ◌∙◌}
use Rattle.command_words.specs.declared.command.Command.TheVariants.{Nop}
use Rattle.speed_bin.specs.Gap.{n_max, gap_table}
use Rattle.speed_bin.proofs.Greatest.{fold_max, n_max_within}
use Rattle.speed_bin.proofs.timing.Timing.n_max.Goals as goal

pub returns-clause-most : goal.returns-clause-most
unfolding n_max
returns-clause-most c =
    let t = c.args.self.now in
    (rw c.read_to_write.ensures.clocks at c.greatest.ensures) ∙ fold_max t.nfaw (gap_table t Nop Nop)

pub returns-clause-within : goal.returns-clause-within
unfolding n_max
returns-clause-within c =
    let t = c.args.self.now in
    let most : c.greatest.result ≡ n_max t = (rw c.read_to_write.ensures.clocks at c.greatest.ensures) ∙ fold_max t.nfaw (gap_table t Nop Nop) in
    rw most (n_max_within t c.requires)
