use Rattle.std.proofs.Common.{arith}
use Rattle.row_order.proofs.MarkLemmas.{lead}
use Rattle.row_order.proofs.levels.highest_bit.Goals as goal

pub returns-else-number-eq0-clause-found : goal.returns-else-number-eq0-clause-found
returns-else-number-eq0-clause-found c = λ some. (lead c.args.number some c.ranges.number.fits).0

pub returns-else-number-eq0-clause-none_above : goal.returns-else-number-eq0-clause-none_above
returns-else-number-eq0-clause-none_above c = (lead c.args.number (omega arith) c.ranges.number.fits).1
