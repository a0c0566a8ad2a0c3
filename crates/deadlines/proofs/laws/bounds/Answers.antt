use Rattle.deadlines.proofs.Wholes.{bound_acts, bound_end, bound_target, bound_places}
use Rattle.deadlines.proofs.laws.bounds.Goals as goal

pub returns : goal.returns
returns c = record { activations = bound_acts; end = bound_end; target = bound_target; commands = bound_places }
