use Rattle.std.proofs.Common.{◌∷◌}
use Rattle.ddr_text.specs.declared.lines.ReportLine.TheVariants.{End as EndLine}
use Rattle.reports.specs.Stats.{stat_lines}
use Rattle.trace_replay.specs.Counts.{with_peak}
use Rattle.trace_replay.specs.Ending.{refused_line}
use Rattle.trace_replay.proofs.Closing.{lines-cut-behind}
use Rattle.trace_replay.proofs.ending.Ending.write.Goals as goal

pub returns-clause-writes_a_prefix : goal.returns-clause-writes_a_prefix
returns-clause-writes_a_prefix g c =
    let it = c.args.self.now in
    lines-cut-behind c.put_end.result (g.K.Sink.written c.args.sink.now) (g.K.Sink.written c.put_stats.new.sink) (g.K.Sink.written c.put_end.new.sink) (stat_lines (with_peak it.counts it.peak) it.scrub) (EndLine it.clock ∷ refused_line it.refusal) c.in_ok-put_stats.ensures.whole c.put_end.ensures.writes_a_prefix
