use Rattle.std.proofs.Common.{refl}
use Rattle.speed_bin.proofs.read.timing_in.Goals as goal

pub returns-in-Some : goal.returns-in-Some
returns-in-Some c =
    let found = rw c.in-Some.is at c.table_at.ensures in
    rw (← found) c.replaced.ensures

pub returns-in-None : goal.returns-in-None
returns-in-None c =
    let found = rw c.in-None.is at c.table_at.ensures in
    rw (← found) refl
