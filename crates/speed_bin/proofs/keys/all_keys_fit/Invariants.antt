use Rattle.std.proofs.Common.{◌≡◌}
use Rattle.toml.specs.View.{table_view, members_view}
use Rattle.speed_bin.specs.Keys.{all_members, key_fits}
use Rattle.speed_bin.proofs.keys.all_keys_fit.Given as goal

-- the members that are left pass exactly where all do
abbrev pub invariant-loop-key : goal.invariant-loop-key
invariant-loop-key l = all_members key_fits (table_view l.table) ≡ all_members key_fits (members_view l.key-iterator)
