use Rattle.pair_headline.proofs.Promised.{promises}
use Rattle.pair_headline.proofs.laws.headline.Goals as goal

pub returns : goal.returns
returns c = record { promises = promises (record { tame = c.reads_plain_memory.ensures.tame; bounded = c.bounds_activations.ensures.bounded; rises = c.clocks_rise.ensures.together }) }
