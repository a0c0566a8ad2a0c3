use Rattle.std.specs.List.{flat_map}
use Rattle.ddr_text.specs.declared.lines.ReportLine.TheVariants.{Issued as IssuedLine}
use Rattle.ddr_text.proofs.Prefixes.{if_err, prefix-longer}
use Rattle.pair_reports.specs.Report.{of_rank, spelled_for}
use Rattle.rank_pair.specs.Pairs.{spelled_by, value_lines}
use Rattle.rank_pair.proofs.Pieces.{cut-behind, whole-behind}
use Rattle.rank_pair.proofs.issuing.put_command.Goals as goal

pub returns-clause-whole : goal.returns-clause-whole
returns-clause-whole g c =
    whole-behind c.put_answer.result (g.K.Sink.written c.args.sink.now) (g.K.Sink.written c.put_for.new.sink) (g.K.Sink.written c.put_answer.new.sink) (spelled_by c.args.rank (IssuedLine c.args.clock c.args.command.now))
    (flat_map spelled_for (of_rank c.args.rank (value_lines c.args.access.now c.args.found.now))) c.in_ok-put_for.ensures.whole c.put_answer.ensures.whole

pub returns-clause-writes_a_prefix : goal.returns-clause-writes_a_prefix
returns-clause-writes_a_prefix g c =
    cut-behind c.put_answer.result (g.K.Sink.written c.args.sink.now) (g.K.Sink.written c.put_for.new.sink) (g.K.Sink.written c.put_answer.new.sink) (spelled_by c.args.rank (IssuedLine c.args.clock c.args.command.now))
    (flat_map spelled_for (of_rank c.args.rank (value_lines c.args.access.now c.args.found.now))) c.in_ok-put_for.ensures.whole c.put_answer.ensures.writes_a_prefix

pub returns-in_err-put_for-clause-writes_a_prefix : goal.returns-in_err-put_for-clause-writes_a_prefix
returns-in_err-put_for-clause-writes_a_prefix g c =
    if_err _ _ (prefix-longer (g.K.Sink.written c.args.sink.now) (g.K.Sink.written c.put_for.new.sink) (spelled_by c.args.rank (IssuedLine c.args.clock c.args.command.now))
    (flat_map spelled_for (of_rank c.args.rank (value_lines c.args.access.now c.args.found.now))) c.in_err-put_for.ensures.writes_a_prefix)
