use Rattle.device_exec.specs.Executed.{four_devices}
use Rattle.device_exec.proofs.Ordered.{unblamed}
use Rattle.device_exec.proofs.exec_loop.exec.Goals as goal

pub returns-clause-complete : goal.returns-clause-complete
returns-clause-complete g c = unblamed (g.S.Source.left c.args.source.now) (g.S.Source.left c.run_script.new.source) (g.K.Sink.written c.args.sink.now) (g.K.Sink.written c.run_script.new.sink) c.run_script.result c.run_script.ensures.answer

pub returns-clause-bounded : goal.returns-clause-bounded
returns-clause-bounded g c = λ bytes rest text h is opens. c.bounds_activations.ensures.bounded h rest (c.opened_header_is_accepted.ensures.accepted h bytes text rest opens)

pub returns-clause-judged : goal.returns-clause-judged
returns-clause-judged g c = λ bytes rest text h is opens. c.judges_in_order.ensures.judged four_devices h rest
