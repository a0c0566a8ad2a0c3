use Rattle.std.proofs.Common.{◌≡◌, ◌*◌}
use Rattle.ondie_ecc.specs.Codeword.{syndrome_below}
use Rattle.ondie_ecc.proofs.syndrome.syndrome.Given as goal

abbrev pub invariant-loop-index : goal.invariant-loop-index
invariant-loop-index l = l.syndrome ≡ syndrome_below l.word (8 * l.index)
