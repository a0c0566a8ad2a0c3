use Rattle.std.proofs.Common.{Option, Result, sym, subst}
use Rattle.log_auditor.specs.declared.verdict.Rule.{Rule}
use Rattle.device_exec.specs.Executed.{four_devices}
use Rattle.device_exec.specs.Running.{Acts}
use Rattle.device_exec.specs.Scripts.{Ready, acted}
use Rattle.device_exec.specs.declared.script_line.ScriptLine.TheVariants.{Flip}
use Rattle.ddr_text.specs.declared.stop.Stop.{Stop}
use Rattle.device_exec.proofs.Acting.{acts_flips}
use Rattle.device_exec.proofs.exec_loop.flip.Goals as goal

pub returns-in-Ok-clause-acts : goal.returns-in-Ok-clause-acts
returns-in-Ok-clause-acts g c = λ h script stands.
    let before = g.K.Sink.written c.args.sink.now in
    let after = g.K.Sink.written c.put_line.new.sink in
    subst (λ (r : Result (Option Rule) Stop). Acts r (acted four_devices h script (Flip c.args.line c.args.chip c.args.bit)) h c.flip.new.self before after) (sym c.go_on.ensures)
    (acts_flips c.put_line.result h script c.last_clock-clock.result c.args.line c.args.chip c.args.bit c.flip.new.self before after
    (c.last_clock-clock.ensures h script.steps Ready stands) (c.in-Ok.ensures.stands h script.steps stands) c.put_line.ensures.whole c.put_line.ensures.writes_a_prefix)
