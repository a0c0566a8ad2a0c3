use Rattle.std.proofs.Common.{◌∙◌, ◌<◌, length, Ok, Err, ap, refl, sym}
use Rattle.device_exec.specs.ScriptGrammar.{script_line_of}
use Rattle.device_exec.proofs.NextLines.{judges_many, judges_read}
use Rattle.device_exec.proofs.script_reader.ScriptReader.judge_line.Goals as goal

pub returns-then-self-gt-MOST_LINES-clause-judged : goal.returns-then-self-gt-MOST_LINES-clause-judged
returns-then-self-gt-MOST_LINES-clause-judged c = rw (c.refuse.ensures, ← c.self.view_is) (judges_many _ c.if-self-gt-MOST_LINES.true)

pub returns-in-Ok-clause-judged : goal.returns-in-Ok-clause-judged
returns-in-Ok-clause-judged c =
    let fits : length c.self.inside.reader.line < 512 = rw (← c.self.view_is) at c.requires in
    let read = sym c.in-Ok.is ∙ c.read_script_line.ensures ∙ ap (script_line_of c.self.inside.geometry c.self.inside.devices) c.line.ensures in
    rw (← c.self.view_is) (judges_read _ c.place.new.self c.place.result (Ok c.in-Ok.line) c.if-self-gt-MOST_LINES.false fits read (rw (← c.self.view_is) at c.place.ensures))

pub returns-in-Err-clause-judged : goal.returns-in-Err-clause-judged
returns-in-Err-clause-judged c =
    let fits : length c.self.inside.reader.line < 512 = rw (← c.self.view_is) at c.requires in
    let read = sym c.in-Err.is ∙ c.read_script_line.ensures ∙ ap (script_line_of c.self.inside.geometry c.self.inside.devices) c.line.ensures in
    rw (c.refuse-in-Err.ensures, c.from.ensures, ← c.self.view_is) (judges_read _ _ _ (Err c.in-Err.fault) c.if-self-gt-MOST_LINES.false fits read (refl, refl))
