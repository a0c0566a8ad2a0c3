use Rattle.requests.proofs.Kept.{serves_its_line_lem}
use Rattle.requests.proofs.laws.serves_its_line.Goals as goal

pub returns : goal.returns
returns c = record { oldest_of_line = serves_its_line_lem }
