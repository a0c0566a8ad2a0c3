use Rattle.std.proofs.Common.{◌∙◌, ◌<◌, length, Ok, Err, ap, refl, sym}
use Rattle.pair_reports.specs.Grammar.{rank_line_of}
use Rattle.rank_pair.proofs.NextLines.{judges_many, judges_read}
use Rattle.rank_pair.proofs.rank_reader.RankReader.judge_line.Goals as goal

pub returns-then-self-ge-MOST_LINES-clause-judged : goal.returns-then-self-ge-MOST_LINES-clause-judged
returns-then-self-ge-MOST_LINES-clause-judged c = rw (c.number.ensures, ← c.self.view_is) (judges_many _ c.if-self-ge-MOST_LINES.true)

pub returns-in-Ok-clause-judged : goal.returns-in-Ok-clause-judged
returns-in-Ok-clause-judged c =
    let fits : length c.self.inside.reader.line < 512 = rw (← c.self.view_is) at c.requires in
    let read = sym c.in-Ok.is ∙ c.read_rank_line.ensures ∙ ap (rank_line_of c.self.inside.geometry) c.line.ensures in
    rw (← c.self.view_is) (judges_read _ c.take.new.self c.take.result (Ok c.in-Ok.line) c.if-self-ge-MOST_LINES.false fits read (rw (← c.self.view_is) at c.take.ensures))

pub returns-in-Err-clause-judged : goal.returns-in-Err-clause-judged
returns-in-Err-clause-judged c =
    let fits : length c.self.inside.reader.line < 512 = rw (← c.self.view_is) at c.requires in
    let read = sym c.in-Err.is ∙ c.read_rank_line.ensures ∙ ap (rank_line_of c.self.inside.geometry) c.line.ensures in
    rw (c.number-in-Err.ensures, c.from.ensures, ← c.self.view_is) (judges_read _ _ _ (Err c.in-Err.fault) c.if-self-ge-MOST_LINES.false fits read (refl, refl))
