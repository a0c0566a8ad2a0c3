use Rattle.std.proofs.Common.{◌≡◌, ℕ, ◌*◌, ◌<◌, ◌≤◌, length}
use Rattle.command_words.specs.declared.command.Command.TheVariants.{PreSb}
use Rattle.command_words.specs.Kinds.{effect}
use Rattle.speed_bin.specs.Log.{open_after}
use Rattle.bank_state.specs.Rows.{row_of}
use Rattle.bank_state.proofs.open_rows.Banks.close_at.Given as goal

abbrev pub invariant-loop-group : goal.invariant-loop-group
invariant-loop-group l = record {
  same : length l.self ≡ length l.initial.self;
  done : (b : ℕ) → b < 4 * l.group → row_of l.self b ≡ open_after (effect b (PreSb l.address)) (row_of l.initial.self b);
  left : (b : ℕ) → 4 * l.group ≤ b → row_of l.self b ≡ row_of l.initial.self b;
}
