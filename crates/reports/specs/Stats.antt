-- The counts that end a report: those of its log, and those of the scrub.
use Rattle.std.specs.Prelude.{List, [], ◌∷◌}
use Rattle.speed_bin.specs.Counts.{LogCounts, log_counts}
use Rattle.speed_bin.specs.declared.header.Header.{Header}
use Rattle.error_scrub.specs.declared.scrub.ScrubCounts.{ScrubCounts}
use Rattle.device_core.specs.Stored.{scrub_counts}
use Rattle.ddr_text.specs.declared.lines.ReportLine.{ReportLine}
use Rattle.ddr_text.specs.declared.lines.ReportLine.TheVariants.{Stat}
use Rattle.ddr_text.specs.declared.lines.StatName.TheVariants.{Act, Rd, Wr, Pre, RefAb, RefSb, RfmAb, RfmSb, Ecs, Alert, Peak, Found, Lost, Worst}
use Rattle.ddr_text.specs.declared.lines.TraceLine.{TraceLine}
use Rattle.reports.specs.Runs.{Run, log_of}
use Rattle.reports.specs.Delivered.{device_steps}

-- the fourteen S lines, in their order
unfoldable pub stat_lines : LogCounts → ScrubCounts → List ReportLine
stat_lines log scrub =
    Stat Act log.act ∷ Stat Rd log.rd ∷ Stat Wr log.wr ∷ Stat Pre log.pre ∷ Stat RefAb log.refab ∷ Stat RefSb log.refsb
    ∷ Stat RfmAb log.rfmab ∷ Stat RfmSb log.rfmsb ∷ Stat Ecs log.ecs ∷ Stat Alert log.alert ∷ Stat Peak log.peak
    ∷ Stat Found scrub.found ∷ Stat Lost scrub.lost ∷ Stat Worst scrub.worst ∷ []

-- the S lines of a run
abbrev pub stats : Header → List TraceLine → Run → List ReportLine
stats h trace run = stat_lines (log_counts h (log_of run)) (scrub_counts h (device_steps h trace run))
