use Rattle.std.proofs.Common.{◌≡◌, ℕ, List}
use Rattle.toml.specs.Data.{Data}
use Rattle.toml.specs.View.{table_view, members_view}
use Rattle.speed_bin.specs.Keys.{all_members, is_timing_key}
use Rattle.speed_bin.proofs.keys.all_timing_keys.Given as goal

-- the members that are left pass exactly where all do
abbrev pub invariant-loop-key : goal.invariant-loop-key
invariant-loop-key l = all_members (λ (key : List ℕ) (value : Data). is_timing_key key) (table_view l.timing) ≡ all_members (λ (key : List ℕ) (value : Data). is_timing_key key) (members_view l.key-iterator)
