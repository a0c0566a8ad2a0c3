use Rattle.speed_bin.proofs.Bounds.{weights_at_marks_lem}
use Rattle.backoff.proofs.laws.weights_at_marks.Goals as goal

pub returns : goal.returns
returns c = record { light = weights_at_marks_lem }
