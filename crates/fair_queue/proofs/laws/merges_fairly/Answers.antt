use Rattle.fair_queue.proofs.Fair.{fair}
use Rattle.fair_queue.proofs.laws.merges_fairly.Goals as goal

pub returns : goal.returns
returns c = fair
