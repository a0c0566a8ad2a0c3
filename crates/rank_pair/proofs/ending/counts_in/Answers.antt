use Rattle.std.proofs.Common.{◌∙◌, ap}
use Rattle.reports.specs.Delivered.{device_steps}
use Rattle.speed_bin.specs.Counts.{peak as peak_of}
use Rattle.speed_bin.specs.Log.{Log}
use Rattle.rank_pair.proofs.Endings.{stats_are}
use Rattle.rank_pair.proofs.ending.counts_in.Goals as goal

pub returns : goal.returns
returns c = λ h trace run s.
    c.stat_lines.ensures
    ∙ stats_are h trace run c.args.end.now.counts c.peak.result c.scrub_counts.result s.counts
    (c.peak.ensures.peak h (device_steps h trace run) s.device ∙ ap (λ (log : Log). peak_of h log) (c.gives_to_a_device.ensures.log h trace run))
    (c.scrub_counts.ensures.counts h (device_steps h trace run) s.device)
