use Rattle.ondie_ecc.proofs.LawLemmas.{mended-turned, repaired_of-turned}
use Rattle.ondie_ecc.proofs.laws.one_turn_is_undone.Goals as goal

pub returns : goal.returns
returns c = record { fixed = repaired_of-turned; undone = mended-turned }
