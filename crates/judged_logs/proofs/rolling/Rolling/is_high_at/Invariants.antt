use Rattle.std.proofs.Common.{ℕ, ◌*◌, ◌<◌, slice_index, IsTrue}
use Rattle.command_words.specs.Command.{is_at}
use Rattle.judged_logs.proofs.rolling.Rolling.is_high_at.Given as goal

abbrev pub invariant-loop-group : goal.invariant-loop-group
invariant-loop-group l = (b : ℕ) → b < 4 * l.group → IsTrue (is_at l.address b) → slice_index l.self-inside.counts b < l.self-inside.raaimt
