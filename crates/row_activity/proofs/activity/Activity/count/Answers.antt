use Rattle.std.proofs.Common.{◌∙◌, ◌≡◌, ◌<◌, ℕ, ap, arith, rules}
use Rattle.command_words.specs.Command.{bank_number}
use Rattle.speed_bin.specs.Counters.{cnt}
use Rattle.row_activity.specs.Standing.{StandsFor}
use Rattle.row_activity.proofs.RowLemmas.{bank_there, row_there}
use Rattle.row_activity.proofs.activity.Activity.count.Goals as goal

pub count_at-requires-clause-bank : goal.count_at-requires-clause-bank
count_at-requires-clause-bank c = bank_there c.args.self.now c.args.row c.from.result c.requires (omega arith)

pub count_at-requires-clause-row : goal.count_at-requires-clause-row
count_at-requires-clause-row c = row_there c.has_rows.ensures.row c.holds_by_some_log.ensures.row c.args.self.now c.args.row c.from.result c.requires (omega arith)

pub returns : goal.returns
unfolding StandsFor
returns c = λ h log stands.
    let number : c.from.result ≡ bank_number c.args.bank = search rules in
    let low : c.from.result < 32 = omega arith in
    c.count_at.ensures h log (stands.counts c.from.result low) ∙ ap (λ (b : ℕ). cnt h b c.args.row log) number
