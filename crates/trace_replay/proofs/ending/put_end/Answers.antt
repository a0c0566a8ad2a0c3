use Rattle.std.specs.List.{flat_map}
use Rattle.ddr_text.specs.Spelling.{spelled}
use Rattle.ddr_text.specs.declared.lines.ReportLine.TheVariants.{End as EndLine}
use Rattle.trace_replay.specs.Ending.{refused_line}
use Rattle.trace_replay.proofs.Closing.{cut-behind}
use Rattle.trace_replay.proofs.ending.put_end.Goals as goal

pub returns-clause-writes_a_prefix : goal.returns-clause-writes_a_prefix
returns-clause-writes_a_prefix g c =
    cut-behind c.put_refusal.result (g.K.Sink.written c.args.sink.now) (g.K.Sink.written c.put_line.new.sink) (g.K.Sink.written c.put_refusal.new.sink) (spelled (EndLine c.args.clock)) (flat_map spelled (refused_line c.args.refusal)) c.in_ok-put_line.ensures.whole c.put_refusal.ensures.writes_a_prefix
