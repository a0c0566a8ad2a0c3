use Rattle.rank_pair.proofs.finished_laws.finished_laws.Goals as goal

pub returns : goal.returns
returns c = record { few = c.counts_commands.ensures.few; promises = c.headline.ensures.promises }
