use Rattle.std.proofs.Common.{◌∙◌, sym, arith}
use Rattle.fair_queue.proofs.Searching.{begins, passed}
use Rattle.fair_queue.proofs.queues.Queues.next_port.Goals as goal

pub loop-init : goal.loop-init
loop-init c = record { low = c.turn-port.ensures.port; left = begins c.args.self.now c.turn-port.result c.turn-port.ensures.turn }

pub loop-preserved : goal.loop-preserved
loop-preserved c = record {
  low = omega arith;
  left = passed c.args.self.now c.loop.port c.loop.counter c.loop.invariant.left c.loop-test.true (sym c.is_empty.ensures ∙ c.if-not-is_empty.false);
}
