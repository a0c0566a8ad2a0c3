use Rattle.std.proofs.Common.{◌∙◌, Ok, sym, subst}
use Rattle.spare_device.specs.Spared.{five_devices}
use Rattle.spare_device.specs.StandIn.{stood_steps}
use Rattle.device_exec.specs.ScriptGrammar.{IsScriptLine}
use Rattle.speed_bin.specs.Header.{shape_of}
use Rattle.spare_device.specs.Running.{Acts}
use Rattle.device_exec.specs.Scripts.{acted}
use Rattle.device_exec.specs.declared.script_line.ScriptLine.{ScriptLine}
use Rattle.device_exec.specs.declared.script_line.ScriptLine.TheVariants.{Issued, Bytes, Flip, End}
use Rattle.spare_device.proofs.Acting.{acts_ends, at_bytes, at_command, at_end, at_flip, line_inside}
use Rattle.spare_device.proofs.spare_loop.act.Goals as goal

pub issue-requires-clause-inside : goal.issue-requires-clause-inside
issue-requires-clause-inside g c = line_inside c.args.dead c.args.device.now c.args.number c.args.line.now (Issued c.in-Issued.clock c.in-Issued.command) c.has_shape.ensures c.in-Issued.is c.requires.may

pub issue-requires-clause-ready : goal.issue-requires-clause-ready
issue-requires-clause-ready g c = let r = c.requires.may in ∣ (r.0, stood_steps c.args.dead r.1.steps, (at_command c.args.dead c.args.device.now r.0 r.1 c.args.number c.in-Issued.clock c.in-Issued.command c.args.line.now c.in-Issued.is r.2).stands) ∣₁

pub write-requires : goal.write-requires
write-requires g c = let r = c.requires.may in let k = at_bytes c.args.dead c.args.device.now r.0 r.1 c.args.number c.in-Bytes.bytes c.args.line.now c.in-Bytes.is r.2 in ∣ (r.0, stood_steps c.args.dead r.1.steps, k.0, k.2.stands) ∣₁

pub flip-requires-clause-inside : goal.flip-requires-clause-inside
flip-requires-clause-inside g c = line_inside c.args.dead c.args.device.now c.args.number c.args.line.now (Flip c.in-Flip.line c.in-Flip.chip c.in-Flip.bit) c.has_shape.ensures c.in-Flip.is c.requires.may

pub flip-requires-clause-ready : goal.flip-requires-clause-ready
flip-requires-clause-ready g c = let r = c.requires.may in ∣ (r.0, stood_steps c.args.dead r.1.steps, (at_flip c.args.dead c.args.device.now r.0 r.1 c.args.number c.in-Flip.line c.in-Flip.chip c.in-Flip.bit c.args.line.now c.in-Flip.is r.2).stands) ∣₁

pub end-requires-clause-inside : goal.end-requires-clause-inside
end-requires-clause-inside g c = line_inside c.args.dead c.args.device.now c.args.number c.args.line.now (End c.in-End.clock) c.has_shape.ensures c.in-End.is c.requires.may

pub end-requires-clause-ready : goal.end-requires-clause-ready
end-requires-clause-ready g c = let r = c.requires.may in ∣ (r.0, stood_steps c.args.dead r.1.steps, (at_end c.args.dead c.args.device.now r.0 r.1 c.args.number c.in-End.clock c.args.line.now c.in-End.is r.2).stands) ∣₁

pub returns-in-Issued-clause-acts : goal.returns-in-Issued-clause-acts
returns-in-Issued-clause-acts g c = λ h script at.
    subst (λ (l : ScriptLine). Acts c.args.dead c.issue.result (acted (five_devices c.args.dead) h script l) h c.issue.new.device (g.K.Sink.written c.args.sink.now) (g.K.Sink.written c.issue.new.sink)) (sym c.in-Issued.is)
    (c.issue.ensures.acts h script (at_command c.args.dead c.args.device.now h script c.args.number c.in-Issued.clock c.in-Issued.command c.args.line.now c.in-Issued.is at) at.numbered)

pub returns-in-Bytes-clause-acts : goal.returns-in-Bytes-clause-acts
returns-in-Bytes-clause-acts g c = λ h script at.
    let k = at_bytes c.args.dead c.args.device.now h script c.args.number c.in-Bytes.bytes c.args.line.now c.in-Bytes.is at in
    let written = g.K.Sink.written c.args.sink.now in
    subst (λ (l : ScriptLine). Acts c.args.dead c.write.result (acted (five_devices c.args.dead) h script l) h c.write.new.device written written) (sym c.in-Bytes.is)
    (c.write.ensures.acts h script k.0 written (subst (λ (l : ScriptLine). IsScriptLine (shape_of h) 5 l) c.in-Bytes.is at.inside) k.2 k.1)

pub returns-in-Flip-clause-acts : goal.returns-in-Flip-clause-acts
returns-in-Flip-clause-acts g c = λ h script at.
    subst (λ (l : ScriptLine). Acts c.args.dead c.flip.result (acted (five_devices c.args.dead) h script l) h c.flip.new.device (g.K.Sink.written c.args.sink.now) (g.K.Sink.written c.flip.new.sink)) (sym c.in-Flip.is)
    (c.flip.ensures.acts h script (at_flip c.args.dead c.args.device.now h script c.args.number c.in-Flip.line c.in-Flip.chip c.in-Flip.bit c.args.line.now c.in-Flip.is at))

pub returns-in-End-clause-acts : goal.returns-in-End-clause-acts
returns-in-End-clause-acts g c = λ h script at.
    let written = g.K.Sink.written c.args.sink.now in
    subst (λ (l : ScriptLine). Acts c.args.dead (Ok c.end.result) (acted (five_devices c.args.dead) h script l) h c.end.new.self written written) (sym c.in-End.is)
    (acts_ends c.args.dead c.end.result h script c.in-End.clock c.end.new.self written (c.end.ensures.judged h (stood_steps c.args.dead script.steps) (at_end c.args.dead c.args.device.now h script c.args.number c.in-End.clock c.args.line.now c.in-End.is at).stands) at.stands.given)
