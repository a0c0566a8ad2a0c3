use Rattle.pair_headline.proofs.Counted.{few_commands}
use Rattle.pair_headline.proofs.laws.counts_commands.Goals as goal

pub returns : goal.returns
returns c = record { few = few_commands }
