use Rattle.std.proofs.Common.{[], ◌∷◌}
use Rattle.std.specs.List.{flat_map}
use Rattle.ddr_text.specs.Spelling.{spelled}
use Rattle.ddr_text.specs.declared.lines.ReportLine.TheVariants.{Issued}
use Rattle.device_exec.specs.Running.{data_lines}
use Rattle.ddr_text.proofs.Prefixes.{if_err, if_err-to, prefix-behind}
use Rattle.device_exec.proofs.shown.put_command.Goals as goal

pub returns-in-Ok-clause-writes_a_prefix : goal.returns-in-Ok-clause-writes_a_prefix
returns-in-Ok-clause-writes_a_prefix g c =
    if_err-to c.put_answer.result _ _ (λ cut. prefix-behind (g.K.Sink.written c.args.sink.now) (g.K.Sink.written c.put_line.new.sink) (g.K.Sink.written c.put_answer.new.sink) (spelled (Issued c.args.clock c.args.command)) (flat_map spelled (data_lines c.args.number c.args.answer.now)) c.in-Ok.ensures.whole cut) c.put_answer.ensures.writes_a_prefix
