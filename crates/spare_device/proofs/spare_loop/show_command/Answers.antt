use Rattle.std.proofs.Common.{ℕ, List, [], ◌∷◌, Option, Result, OnOk, IfErr, append-nil, sym, subst}
use Rattle.std.specs.Io.KnownBytes.{Appends}
use Rattle.ddr_io.specs.Sink.{AppendsPrefix}
use Rattle.ddr_text.specs.Spelling.{spelled}
use Rattle.ddr_text.specs.declared.lines.ReportLine.TheVariants.{Issued as IssuedLine}
use Rattle.log_auditor.specs.declared.verdict.Rule.{Rule}
use Rattle.spare_device.specs.Spared.{five_devices}
use Rattle.spare_device.specs.StandIn.{stood_steps}
use Rattle.spare_device.specs.Running.{Acts}
use Rattle.device_exec.specs.Scripts.{acted}
use Rattle.device_exec.specs.Standing.{Commands}
use Rattle.device_exec.specs.declared.checked_device.Checked.{Checked}
use Rattle.device_exec.specs.declared.script_line.ScriptLine.TheVariants.{Issued}
use Rattle.ddr_text.specs.declared.stop.Stop.{Stop}
use Rattle.spare_device.proofs.Acting.{acts_breaks, acts_done, acts_waits}
use Rattle.spare_device.proofs.spare_loop.show_command.Goals as goal

pub returns-in-Breaks-clause-acts : goal.returns-in-Breaks-clause-acts
returns-in-Breaks-clause-acts g c = λ h script new numbered came bytes.
    acts_breaks c.args.dead h script c.args.clock c.args.command.now c.in-Breaks.rule new (g.K.Sink.written c.args.sink.now) (subst (λ (k : Checked). Commands k new h c.args.clock c.args.command.now (stood_steps c.args.dead script.steps)) c.in-Breaks.is came)

pub returns-in-Awaits-clause-acts : goal.returns-in-Awaits-clause-acts
returns-in-Awaits-clause-acts g c = λ h script new numbered came bytes.
    let before = g.K.Sink.written c.args.sink.now in
    let after = g.K.Sink.written c.put_line.new.sink in
    let text = sym (append-nil (spelled (IssuedLine c.args.clock c.args.command.now))) in
    subst (λ (r : Result (Option Rule) Stop). Acts c.args.dead r (acted (five_devices c.args.dead) h script (Issued c.args.clock c.args.command.now)) h new before after) (sym c.go_on.ensures)
    (acts_waits c.args.dead c.put_line.result h script c.args.clock c.args.command.now new before after (subst (λ (k : Checked). Commands k new h c.args.clock c.args.command.now (stood_steps c.args.dead script.steps)) c.in-Awaits.is came) bytes
    (subst (λ (t : List ℕ). OnOk c.put_line.result (Appends before after t)) text c.put_line.ensures.whole)
    (subst (λ (t : List ℕ). IfErr c.put_line.result (λ stop. AppendsPrefix before after t)) text c.put_line.ensures.writes_a_prefix))

pub returns-in-Done-clause-acts : goal.returns-in-Done-clause-acts
returns-in-Done-clause-acts g c = λ h script new numbered came bytes.
    let before = g.K.Sink.written c.args.sink.now in
    let after = g.K.Sink.written c.put_command.new.sink in
    subst (λ (r : Result (Option Rule) Stop). Acts c.args.dead r (acted (five_devices c.args.dead) h script (Issued c.args.clock c.args.command.now)) h new before after) (sym c.go_on-in-Done.ensures)
    (acts_done c.args.dead c.put_command.result h script c.args.number c.args.clock c.args.command.now c.in-Done.answer c.answer_in-answer.result new before after c.requires c.answer_in-answer.ensures numbered (subst (λ (k : Checked). Commands k new h c.args.clock c.args.command.now (stood_steps c.args.dead script.steps)) c.in-Done.is came) bytes
    c.put_command.ensures.whole c.put_command.ensures.writes_a_prefix)
