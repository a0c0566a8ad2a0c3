use Rattle.requests.proofs.Unserved.{all_served, served_before_oldest}
use Rattle.requests.proofs.laws.oldest_unserved.Goals as goal

pub returns : goal.returns
returns c = record { before = served_before_oldest; none = all_served }
