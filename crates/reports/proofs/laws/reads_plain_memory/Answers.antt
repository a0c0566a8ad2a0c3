use Rattle.reports.proofs.Headline.{read-right}
use Rattle.reports.proofs.laws.reads_plain_memory.Goals as goal

pub returns : goal.returns
returns c = record { tame = read-right (record { bytes = c.reads_last_write.ensures.bytes; state = c.reads_last_write.ensures.state }) }
