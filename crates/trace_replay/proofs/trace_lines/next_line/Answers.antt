use Rattle.std.proofs.Common.{ap, ◌∙◌}
use Rattle.trace_replay.specs.Job.{with_text}
use Rattle.trace_replay.proofs.TraceParts.{next_served, next_refused, next_end, next_too_long, next_unended}
use Rattle.trace_replay.proofs.trace_lines.next_line.Goals as goal

pub returns-in-Ok-clause-next : goal.returns-in-Ok-clause-next
returns-in-Ok-clause-next g c = λ trace is.
    next_served c.lines_are_parts.ensures c.args.g trace _ _ c.next_line.new.self.line c.in-Ok.line c.judged.result (c.in-Text.ensures.found c.requires.going_on) c.in-Ok.is
    (c.judged.ensures.judged trace is ∙ ap (with_text c.args.g trace) c.line.ensures)

pub returns-in-Err-clause-next : goal.returns-in-Err-clause-next
returns-in-Err-clause-next g c = λ trace is.
    next_refused c.lines_are_parts.ensures c.args.g trace _ _ c.next_line.new.self.line c.in-Err.reason c.judged.result (c.in-Text.ensures.found c.requires.going_on) c.in-Err.is
    (c.judged.ensures.judged trace is ∙ ap (with_text c.args.g trace) c.line.ensures)

pub returns-in-End-clause-next : goal.returns-in-End-clause-next
returns-in-End-clause-next g c = λ trace is.
    next_end c.lines_are_parts.ensures c.args.g trace _ _ c.next_line.new.self.line (c.in-End.ensures.found c.requires.going_on)

pub returns-in-TooLong-clause-next : goal.returns-in-TooLong-clause-next
returns-in-TooLong-clause-next g c = λ trace is.
    next_too_long c.lines_are_parts.ensures c.args.g trace _ _ c.next_line.new.self.line c.unless_full.result (c.in-TooLong.ensures.found c.requires.going_on) (c.unless_full.ensures trace is)

pub returns-in-Unended-clause-next : goal.returns-in-Unended-clause-next
returns-in-Unended-clause-next g c = λ trace is.
    next_unended c.lines_are_parts.ensures c.args.g trace _ _ c.next_line.new.self.line c.unless_full-in-Unended.result (c.in-Unended.ensures.found c.requires.going_on) (c.unless_full-in-Unended.ensures trace is)
