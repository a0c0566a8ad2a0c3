-- Members within their ranges give numbers within theirs.
use Rattle.toml.specs.View.{table_view}
use Rattle.speed_bin.proofs.Ranges.{timing_fits, settings_fit}
use Rattle.speed_bin.proofs.read.with_bin.Goals as goal

pub checked-requires-clause-timing : goal.checked-requires-clause-timing
checked-requires-clause-timing c = rw c.timing_in.ensures (timing_fits c.args.bin (table_view c.args.table.now) c.requires.bin c.requires.ranges)

pub checked-requires-clause-settings : goal.checked-requires-clause-settings
checked-requires-clause-settings c = rw c.settings_in.ensures (settings_fit (table_view c.args.table.now) c.requires.required c.requires.ranges)
