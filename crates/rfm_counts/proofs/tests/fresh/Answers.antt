use Rattle.std.proofs.Common.{[], refl}
use Rattle.speed_bin.specs.Timing.{tiny}
use Rattle.speed_bin.specs.Version.{plain}
use Rattle.rfm_counts.proofs.tests.fresh.Goals as goal

pub returns : goal.returns
returns c = ∣ (record { timing = tiny; settings = _; version = plain }, [], c.new.ensures _ refl) ∣₁
