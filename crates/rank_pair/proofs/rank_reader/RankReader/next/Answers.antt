use Rattle.std.proofs.Common.{◌≡◌, ◌∙◌, ap, refl}
use Rattle.ddr_io.specs.Line.{next_bytes}
use Rattle.ddr_io.specs.declared.line_reader.Line.TheVariants.{Text}
use Rattle.rank_pair.specs.Reading.{Place}
use Rattle.rank_pair.proofs.NextLines.{step_text, step_long, step_unended, step_end, steps_on}
use Rattle.rank_pair.proofs.rank_reader.RankReader.next.Goals as goal

pub returns-in-Text-clause-step : goal.returns-in-Text-clause-step
returns-in-Text-clause-step g c =
    let last : c.self.inside.reader.last ≡ Text = ap (λ (p : Place). p.reader.last) c.self.view_is ∙ c.requires in
    let first : Place = record { reader = c.self.inside.reader; shape = c.self.inside.geometry; lines = c.self.inside.lines; clocks = c.self.inside.clocks } in
    let after : Place = record { reader = c.next_line.new.self; shape = c.self.inside.geometry; lines = c.self.inside.lines; clocks = c.self.inside.clocks } in
    rw (← c.self.view_is) (step_text c.lines_are_parts.ensures first after c.judge_line.new.self (next_bytes c.self.inside.reader.held (g.S.Source.left c.args.source.now)) (g.S.Source.left c.next_line.new.source) c.judge_line.result refl refl refl (c.in-Text.ensures.found last) c.judge_line.ensures.judged)

pub returns-in-Text-clause-line : goal.returns-in-Text-clause-line
returns-in-Text-clause-line g c = λ it is.
    let first : Place = record { reader = c.self.inside.reader; shape = c.self.inside.geometry; lines = c.self.inside.lines; clocks = c.self.inside.clocks } in
    let after : Place = record { reader = c.next_line.new.self; shape = c.self.inside.geometry; lines = c.self.inside.lines; clocks = c.self.inside.clocks } in
    rw (← c.self.view_is) (steps_on first after c.judge_line.new.self c.judge_line.result it refl refl refl c.in-Text.ensures.last c.judge_line.ensures.judged is (c.judge_line.ensures.inside it is))

pub returns-in-TooLong-clause-step : goal.returns-in-TooLong-clause-step
returns-in-TooLong-clause-step g c =
    let last : c.self.inside.reader.last ≡ Text = ap (λ (p : Place). p.reader.last) c.self.view_is ∙ c.requires in
    let first : Place = record { reader = c.self.inside.reader; shape = c.self.inside.geometry; lines = c.self.inside.lines; clocks = c.self.inside.clocks } in
    let after : Place = record { reader = c.next_line.new.self; shape = c.self.inside.geometry; lines = c.self.inside.lines; clocks = c.self.inside.clocks } in
    rw (← c.self.view_is, c.refuse.ensures) (step_long c.lines_are_parts.ensures first after (next_bytes c.self.inside.reader.held (g.S.Source.left c.args.source.now)) (next_bytes c.next_line.new.self.held (g.S.Source.left c.next_line.new.source)) (next_bytes c.next_line.new.self.held (g.S.Source.left c.next_line.new.source)) c.next_line.new.self.line (c.in-TooLong.ensures.found last))

pub returns-in-Unended-clause-step : goal.returns-in-Unended-clause-step
returns-in-Unended-clause-step g c =
    let last : c.self.inside.reader.last ≡ Text = ap (λ (p : Place). p.reader.last) c.self.view_is ∙ c.requires in
    let first : Place = record { reader = c.self.inside.reader; shape = c.self.inside.geometry; lines = c.self.inside.lines; clocks = c.self.inside.clocks } in
    let after : Place = record { reader = c.next_line.new.self; shape = c.self.inside.geometry; lines = c.self.inside.lines; clocks = c.self.inside.clocks } in
    rw (← c.self.view_is, c.refuse-in-Unended.ensures) (step_unended c.lines_are_parts.ensures first after (next_bytes c.self.inside.reader.held (g.S.Source.left c.args.source.now)) (next_bytes c.next_line.new.self.held (g.S.Source.left c.next_line.new.source)) (next_bytes c.next_line.new.self.held (g.S.Source.left c.next_line.new.source)) c.next_line.new.self.line (c.in-Unended.ensures.found last))

pub returns-in-End-clause-step : goal.returns-in-End-clause-step
returns-in-End-clause-step g c =
    let last : c.self.inside.reader.last ≡ Text = ap (λ (p : Place). p.reader.last) c.self.view_is ∙ c.requires in
    let first : Place = record { reader = c.self.inside.reader; shape = c.self.inside.geometry; lines = c.self.inside.lines; clocks = c.self.inside.clocks } in
    let after : Place = record { reader = c.next_line.new.self; shape = c.self.inside.geometry; lines = c.self.inside.lines; clocks = c.self.inside.clocks } in
    rw (← c.self.view_is) (step_end c.lines_are_parts.ensures first after (next_bytes c.self.inside.reader.held (g.S.Source.left c.args.source.now)) (next_bytes c.next_line.new.self.held (g.S.Source.left c.next_line.new.source)) c.next_line.new.self.line (c.in-End.ensures.found last))
