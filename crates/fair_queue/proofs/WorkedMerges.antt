-- Two worked merges, with a barrier behind every two requests, computed on the definitions alone.
use Rattle.std.proofs.Common.{◌≡◌, refl}
use Rattle.std.specs.Prelude.{codes}
use Rattle.ddr_text.specs.Opening.{parts_of}
use Rattle.fair_queue.specs.Arrivals.{framed}
use Rattle.fair_queue.specs.Machine.{all_rounds}
use Rattle.fair_queue.specs.Merged.{merged_behind}

-- the ports take turns, and the third request stands behind a barrier
in_turn : merged_behind 2 (codes "0 R 0\n0 R 2048\n0 R 0\n1 R 1\n") ≡ codes "R 0\nR 1\nI 0\nR 2048\nR 0\n"
unfolding parts_of framed all_rounds
in_turn = refl

-- a line of no port ends the merge with an empty line, and the line behind it is not used
up_to_a_bad_line : merged_behind 2 (codes "0 R 0\n0 R 2048\n4 R 0\n1 R 1\n") ≡ codes "R 0\nR 2048\n\n"
unfolding parts_of framed all_rounds
up_to_a_bad_line = refl
