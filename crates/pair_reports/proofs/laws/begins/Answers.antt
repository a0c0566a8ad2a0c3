use Rattle.std.proofs.Common.{◌∙◌, refl, append-nil, [], reverse}
use Rattle.pair_reports.specs.Lines.{deeds, lines_of}
use Rattle.pair_reports.specs.Runs.{done}
use Rattle.pair_reports.proofs.laws.begins.Goals as goal

pub returns : goal.returns
returns c = record {
  empty = λ h trace. record { sound = λ rank. tt; shares = tt; left = deeds (lines_of trace); in_order = refl };
  finished = λ h trace run clock it. record { sound = it.sound; shares = it.shares; left = []; in_order = append-nil (reverse (done run)) ∙ it.in_order };
}
