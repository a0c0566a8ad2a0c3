use Rattle.reports.proofs.Headline.{headline as headline_law}
use Rattle.reports.proofs.laws.headline.Goals as goal

pub returns : goal.returns
returns c = record { promises = λ h trace run clock. headline_law (record { bytes = c.reads_last_write.ensures.bytes; state = c.reads_last_write.ensures.state }) c.bound.ensures.bounded h trace run clock }
