use Rattle.std.proofs.Common.{◌≡◌, ℕ, List}
use Rattle.toml.specs.Data.{Data}
use Rattle.toml.specs.View.{table_view, members_view}
use Rattle.speed_bin.specs.Keys.{all_members, is_clocks}
use Rattle.speed_bin.proofs.keys.all_clocks.Given as goal

-- the members that are left pass exactly where all do
abbrev pub invariant-loop-value : goal.invariant-loop-value
invariant-loop-value l = all_members (λ (key : List ℕ) (value : Data). is_clocks value) (table_view l.timing) ≡ all_members (λ (key : List ℕ) (value : Data). is_clocks value) (members_view l.value-iterator)
