use Rattle.std.proofs.Common.{◌∙◌, Option, Result, ap, sym, subst}
use Rattle.log_auditor.specs.declared.verdict.Rule.{Rule}
use Rattle.spare_device.specs.Spared.{five_devices}
use Rattle.spare_device.specs.StandIn.{stood_steps}
use Rattle.spare_device.proofs.StandIns.{log-stood}
use Rattle.spare_device.specs.Running.{Acts}
use Rattle.device_exec.specs.Scripts.{Ready, acted, last_clock}
use Rattle.device_exec.specs.declared.script_line.ScriptLine.TheVariants.{Flip}
use Rattle.ddr_text.specs.declared.stop.Stop.{Stop}
use Rattle.spare_device.proofs.Acting.{acts_flips}
use Rattle.spare_device.proofs.spare_loop.flip.Goals as goal

pub returns-in-Ok-clause-acts : goal.returns-in-Ok-clause-acts
returns-in-Ok-clause-acts g c = λ h script stands.
    let before = g.K.Sink.written c.args.sink.now in
    let after = g.K.Sink.written c.put_line.new.sink in
    subst (λ (r : Result (Option Rule) Stop). Acts c.args.dead r (acted (five_devices c.args.dead) h script (Flip c.args.line c.args.chip c.args.bit)) h c.turn.new.device before after) (sym c.go_on.ensures)
    (acts_flips c.args.dead c.put_line.result h script c.last_clock-clock.result c.args.line c.args.chip c.args.bit c.turn.new.device before after
    (c.last_clock-clock.ensures h (stood_steps c.args.dead script.steps) Ready stands.stands ∙ ap last_clock (log-stood c.args.dead script.steps)) (c.in-Ok.ensures.stands h script.steps stands) c.put_line.ensures.whole c.put_line.ensures.writes_a_prefix)
