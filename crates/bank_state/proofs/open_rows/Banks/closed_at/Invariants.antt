use Rattle.std.proofs.Common.{◌≡◌, ℕ, ◌*◌, ◌<◌, IsTrue, None}
use Rattle.command_words.specs.Command.{is_at}
use Rattle.bank_state.specs.Rows.{row_of}
use Rattle.bank_state.proofs.open_rows.Banks.closed_at.Given as goal

abbrev pub invariant-loop-group : goal.invariant-loop-group
invariant-loop-group l = (b : ℕ) → b < 4 * l.group → IsTrue (is_at l.address b) → row_of l.self-inside.rows b ≡ None
