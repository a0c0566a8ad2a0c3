use Rattle.std.proofs.Common.{◌≡◌, ◌∙◌, ap, refl, sym, subst}
use Rattle.ddr_io.specs.Line.{next_bytes}
use Rattle.ddr_io.specs.declared.line_reader.Line.TheVariants.{Text}
use Rattle.device_exec.specs.Reading.{IsStep, Place}
use Rattle.device_exec.proofs.NextLines.{ended_at, no_end, step_text, step_long, step_unended, step_end, steps_on}
use Rattle.device_exec.proofs.script_reader.ScriptReader.next.Goals as goal

pub returns-in-Text-clause-step : goal.returns-in-Text-clause-step
returns-in-Text-clause-step g c =
    let last : c.self.inside.reader.last ≡ Text = ap (λ (p : Place). p.reader.last) c.self.view_is ∙ c.requires in
    let first : Place = record { reader = c.self.inside.reader; shape = c.self.inside.geometry; devices = c.self.inside.devices; stage = c.self.inside.stage; number = c.self.inside.number } in
    let after : Place = record { reader = c.next_line.new.self; shape = c.self.inside.geometry; devices = c.self.inside.devices; stage = c.self.inside.stage; number = c.self.inside.number } in
    rw (← c.self.view_is) (step_text c.lines_are_parts.ensures first after c.judge_line.new.self (next_bytes c.self.inside.reader.held (g.S.Source.left c.args.source.now)) (g.S.Source.left c.next_line.new.source) c.judge_line.result refl refl refl refl (c.in-Text.ensures.found last) c.judge_line.ensures.judged)

pub returns-in-Text-clause-line : goal.returns-in-Text-clause-line
returns-in-Text-clause-line g c = λ line is.
    let first : Place = record { reader = c.self.inside.reader; shape = c.self.inside.geometry; devices = c.self.inside.devices; stage = c.self.inside.stage; number = c.self.inside.number } in
    let after : Place = record { reader = c.next_line.new.self; shape = c.self.inside.geometry; devices = c.self.inside.devices; stage = c.self.inside.stage; number = c.self.inside.number } in
    rw (← c.self.view_is) (steps_on first after c.judge_line.new.self c.judge_line.result line refl refl refl refl c.in-Text.ensures.last c.judge_line.ensures.judged is (c.judge_line.ensures.inside line is))

pub returns-in-TooLong-clause-step : goal.returns-in-TooLong-clause-step
returns-in-TooLong-clause-step g c =
    let last : c.self.inside.reader.last ≡ Text = ap (λ (p : Place). p.reader.last) c.self.view_is ∙ c.requires in
    let first : Place = record { reader = c.self.inside.reader; shape = c.self.inside.geometry; devices = c.self.inside.devices; stage = c.self.inside.stage; number = c.self.inside.number } in
    let after : Place = record { reader = c.next_line.new.self; shape = c.self.inside.geometry; devices = c.self.inside.devices; stage = c.self.inside.stage; number = c.self.inside.number } in
    rw (← c.self.view_is, c.refuse_rest.ensures) (step_long c.lines_are_parts.ensures first after (next_bytes c.self.inside.reader.held (g.S.Source.left c.args.source.now)) (next_bytes c.next_line.new.self.held (g.S.Source.left c.next_line.new.source)) (next_bytes c.next_line.new.self.held (g.S.Source.left c.next_line.new.source)) c.next_line.new.self.line (c.in-TooLong.ensures.found last))

pub returns-in-Unended-clause-step : goal.returns-in-Unended-clause-step
returns-in-Unended-clause-step g c =
    let last : c.self.inside.reader.last ≡ Text = ap (λ (p : Place). p.reader.last) c.self.view_is ∙ c.requires in
    let first : Place = record { reader = c.self.inside.reader; shape = c.self.inside.geometry; devices = c.self.inside.devices; stage = c.self.inside.stage; number = c.self.inside.number } in
    let after : Place = record { reader = c.next_line.new.self; shape = c.self.inside.geometry; devices = c.self.inside.devices; stage = c.self.inside.stage; number = c.self.inside.number } in
    rw (← c.self.view_is, c.refuse_rest-in-Unended.ensures) (step_unended c.lines_are_parts.ensures first after (next_bytes c.self.inside.reader.held (g.S.Source.left c.args.source.now)) (next_bytes c.next_line.new.self.held (g.S.Source.left c.next_line.new.source)) (next_bytes c.next_line.new.self.held (g.S.Source.left c.next_line.new.source)) c.next_line.new.self.line (c.in-Unended.ensures.found last))

pub returns-in-End-clause-step : goal.returns-in-End-clause-step
returns-in-End-clause-step g c =
    let last : c.self.inside.reader.last ≡ Text = ap (λ (p : Place). p.reader.last) c.self.view_is ∙ c.requires in
    let first : Place = record { reader = c.self.inside.reader; shape = c.self.inside.geometry; devices = c.self.inside.devices; stage = c.self.inside.stage; number = c.self.inside.number } in
    let after : Place = record { reader = c.next_line.new.self; shape = c.self.inside.geometry; devices = c.self.inside.devices; stage = c.self.inside.stage; number = c.self.inside.number } in
    rw (← c.self.view_is, c.end.ensures) (step_end c.lines_are_parts.ensures first after (next_bytes c.self.inside.reader.held (g.S.Source.left c.args.source.now)) (next_bytes c.next_line.new.self.held (g.S.Source.left c.next_line.new.source)) c.next_line.new.self.line (c.in-End.ensures.found last))

pub returns-in-Text-clause-ended : goal.returns-in-Text-clause-ended
returns-in-Text-clause-ended g c = λ clock is.
    let after : Place = record { reader = c.next_line.new.self; shape = c.self.inside.geometry; devices = c.self.inside.devices; stage = c.self.inside.stage; number = c.self.inside.number } in
    absurd (no_end _ after c.judge_line.new.self c.judge_line.result clock c.judge_line.ensures.judged is)

pub returns-in-End-clause-ended : goal.returns-in-End-clause-ended
returns-in-End-clause-ended g c = λ clock is. rw (← c.self.view_is) (ended_at c.self.inside.stage c.self.inside.number clock c.end.result c.end.ensures is)
