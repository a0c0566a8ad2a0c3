use Rattle.spare_device.specs.Spared.{five_devices}
use Rattle.spare_device.proofs.Promised.{unblamed}
use Rattle.spare_device.proofs.spare_loop.spare.Goals as goal

pub returns-clause-judged : goal.returns-clause-judged
returns-clause-judged g c = λ bytes rest text h is opens. c.judges_in_order.ensures.judged (five_devices c.args.dead) h rest

pub returns-clause-reads : goal.returns-clause-reads
returns-clause-reads g c = λ bytes rest text h is opens. c.reads_last_write.ensures.reads c.args.dead h rest

pub returns-clause-complete : goal.returns-clause-complete
returns-clause-complete g c = unblamed c.args.dead (g.S.Source.left c.args.source.now) (g.S.Source.left c.run_script.new.source) (g.K.Sink.written c.args.sink.now) (g.K.Sink.written c.run_script.new.sink) c.run_script.result
    (λ h rest. c.judges_in_order.ensures.judged (five_devices c.args.dead) h rest) c.run_script.ensures.answer
