use Rattle.std.proofs.Common.{◌∙◌, ℕ, ap, max}
use Rattle.rank_bus.proofs.Behind.{earliest_of}
use Rattle.rank_bus.proofs.side.earliest.Goals as goal

pub returns : goal.returns
returns c = λ h mine others a b. earliest_of h mine others c.args.from c.max-2.result c.earliest.result c.earliest-2.result c.args.command.now
    (c.earliest.ensures.least h mine a.ledger) (c.earliest-2.ensures others b.clearance)
    (c.max-2.ensures ∙ ap (λ (x : ℕ). max x c.args.from) c.max.ensures)
