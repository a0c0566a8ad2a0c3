use Rattle.scheduler.proofs.Spaced.{soonest_of}
use Rattle.scheduler.proofs.ledger.Ledger.soonest.Goals as goal

pub returns : goal.returns
returns c = λ h log s. soonest_of h log c.args.self.now.from c.max.result c.earliest.result c.args.command.now (c.earliest.ensures.least h log s.stands) c.max.ensures
