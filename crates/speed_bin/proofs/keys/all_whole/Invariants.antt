use Rattle.std.proofs.Common.{◌≡◌, ℕ, List, is_some}
use Rattle.toml.specs.Data.{Data, as_integer}
use Rattle.toml.specs.View.{table_view, members_view}
use Rattle.speed_bin.specs.Keys.{all_members}
use Rattle.speed_bin.proofs.keys.all_whole.Given as goal

-- the members that are left pass exactly where all do
abbrev pub invariant-loop-value : goal.invariant-loop-value
invariant-loop-value l = all_members (λ (key : List ℕ) (value : Data). is_some (as_integer value)) (table_view l.timing) ≡ all_members (λ (key : List ℕ) (value : Data). is_some (as_integer value)) (members_view l.value-iterator)
