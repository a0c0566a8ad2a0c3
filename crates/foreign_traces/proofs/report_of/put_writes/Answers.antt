use Rattle.std.proofs.Common.{◌∙◌, arith}
use Rattle.foreign_traces.proofs.report_of.put_writes.Goals as goal

pub registers-preserved : goal.registers-preserved
registers-preserved g c = record {
  clock = omega arith;
  report = λ shape text before it. c.in_ok-put_report_line.ensures.report shape text before (c.register_line.ensures shape) (c.registers.invariant.report shape text before it);
  wrote = c.in_ok-put_report_line.ensures.kept ∙ c.registers.invariant.wrote;
}
