use Rattle.std.proofs.Common.{◌∙◌, arith, refl, subst, sym}
use Rattle.ddr_io.specs.Line.{next_bytes}
use Rattle.ddr_io.specs.declared.status.Status.{Status}
use Rattle.ddr_text.specs.Io.{io}
use Rattle.ddr_text.specs.Outcome.{AnswersAs}
use Rattle.ddr_text.proofs.Outcomes.{refuses-no_read, rose-later, stop-kept, stop-no_broken, stop-no_read, stop-rose}
use Rattle.ddr_cli.specs.Behind.{IsOutcomeBehind}
use Rattle.ddr_cli.proofs.BehindLemmas.{fewer_left, first_written, next_written, writes_all, writes_cut, writes_fault, writes_refusal}
use Rattle.ddr_cli.specs.Wording.{written_as}
use Rattle.ddr_cli.proofs.writing.write_behind.Goals as goal

pub each-init : goal.each-init
each-init g c = record {
  so_far = first_written (written_as c.args.wording) c.args.lines (next_bytes c.args.lines.reader.held (g.S.Source.left c.args.source.now)) (g.K.Sink.written c.args.sink.now) c.requires;
  counted = refl;
  writes = refl;
}

pub next-requires : goal.next-requires
next-requires g c = c.each.invariant.so_far.last

pub each-smaller : goal.each-smaller
each-smaller g c = fewer_left c.each.lines c.next.new.self c.in-Line.line (c.next.ensures.line c.in-Line.line c.in-Line.is)

pub each-preserved : goal.each-preserved
each-preserved g c = record {
  so_far = next_written (written_as c.args.wording) c.args.lines c.each.lines c.next.new.self (next_bytes c.args.lines.reader.held (g.S.Source.left c.args.source.now)) (next_bytes c.each.lines.reader.held (g.S.Source.left c.each.source)) (next_bytes c.next.new.self.reader.held (g.S.Source.left c.next.new.source)) (g.K.Sink.written c.args.sink.now) (g.K.Sink.written c.each.sink) (g.K.Sink.written c.put_worded.new.sink) c.in-Line.line c.each.invariant.so_far c.in-Line.ensures.step (c.next.ensures.line c.in-Line.line c.in-Line.is) c.in-Ok.ensures.whole;
  counted = grind (arith, c.each.invariant.counted, c.in-Line.ensures.faults_kept);
  writes = c.in-Ok.ensures.faults_kept ∙ c.each.invariant.writes;
}

pub returns-in-Err-clause-written : goal.returns-in-Err-clause-written
returns-in-Err-clause-written g c =
    let s = c.each.invariant.so_far in
    let first = next_bytes c.args.lines.reader.held (g.S.Source.left c.args.source.now) in
    subst (λ (t : Status). AnswersAs (IsOutcomeBehind (written_as c.args.wording) c.args.lines first) t (io (g.S.Source.left c.args.source.now) (g.S.Source.left c.next.new.source) (g.K.Sink.written c.args.sink.now) (g.K.Sink.written c.put_worded.new.sink))) (sym c.status.ensures)
    (writes_cut (written_as c.args.wording) c.args.lines c.each.lines c.next.new.self first (next_bytes c.each.lines.reader.held (g.S.Source.left c.each.source)) (next_bytes c.next.new.self.reader.held (g.S.Source.left c.next.new.source)) (g.S.Source.left c.args.source.now) (g.S.Source.left c.next.new.source) (g.K.Sink.written c.args.sink.now) (g.K.Sink.written c.each.sink) (g.K.Sink.written c.put_worded.new.sink) s.lines c.in-Line.line (g.K.Sink.faults c.each.sink) (g.K.Sink.faults c.put_worded.new.sink) c.in-Err.stop s.behind c.in-Line.ensures.step s.written c.in-Err.ensures.writes_a_prefix c.in-Err.ensures.cause)

pub returns-in-Err-clause-read : goal.returns-in-Err-clause-read
returns-in-Err-clause-read g c = λ is. absurd (stop-no_read c.in-Err.stop (g.K.Sink.faults c.each.sink) (g.K.Sink.faults c.put_worded.new.sink) c.in-Err.ensures.cause (sym c.status.ensures ∙ is))

pub returns-in-Err-clause-write : goal.returns-in-Err-clause-write
returns-in-Err-clause-write g c = λ is. rose-later (g.K.Sink.faults c.args.sink.now) (g.K.Sink.faults c.each.sink) (g.K.Sink.faults c.put_worded.new.sink) c.each.invariant.writes (stop-rose c.in-Err.stop (g.K.Sink.faults c.each.sink) (g.K.Sink.faults c.put_worded.new.sink) c.in-Err.ensures.cause (sym c.status.ensures ∙ is))

pub returns-in-Refused-clause-read : goal.returns-in-Refused-clause-read
returns-in-Refused-clause-read g c = λ is. absurd (refuses-no_read c.refuse.result c.in-Refused.number c.in-Refused.reason (g.K.Sink.written c.each.sink) (g.K.Sink.written c.refuse.new.sink) c.refuse.ensures.written is)

pub returns-in-Refused-clause-write : goal.returns-in-Refused-clause-write
returns-in-Refused-clause-write g c = λ is. rose-later (g.K.Sink.faults c.args.sink.now) (g.K.Sink.faults c.each.sink) (g.K.Sink.faults c.refuse.new.sink) c.each.invariant.writes (c.refuse.ensures.write is)

pub returns-in-End-clause-written : goal.returns-in-End-clause-written
returns-in-End-clause-written g c =
    let s = c.each.invariant.so_far in
    writes_all (written_as c.args.wording) c.args.lines c.each.lines c.next.new.self (g.S.Source.left c.args.source.now) (g.S.Source.left c.next.new.source) (next_bytes c.each.lines.reader.held (g.S.Source.left c.each.source)) (g.K.Sink.written c.args.sink.now) (g.K.Sink.written c.each.sink) c.args.lines.reader.held c.next.new.self.reader.held s.lines s.behind c.in-End.ensures.step s.written

pub returns-in-Refused-clause-written : goal.returns-in-Refused-clause-written
returns-in-Refused-clause-written g c =
    let s = c.each.invariant.so_far in
    writes_refusal (written_as c.args.wording) c.args.lines c.each.lines c.next.new.self (next_bytes c.args.lines.reader.held (g.S.Source.left c.args.source.now)) (next_bytes c.each.lines.reader.held (g.S.Source.left c.each.source)) (next_bytes c.next.new.self.reader.held (g.S.Source.left c.next.new.source)) (g.S.Source.left c.args.source.now) (g.S.Source.left c.next.new.source) (g.K.Sink.written c.args.sink.now) (g.K.Sink.written c.each.sink) (g.K.Sink.written c.refuse.new.sink) s.lines c.in-Refused.number c.in-Refused.reason c.refuse.result s.behind c.in-Refused.ensures.step s.written c.refuse.ensures.written

pub returns-in-Failed-clause-written : goal.returns-in-Failed-clause-written
returns-in-Failed-clause-written g c =
    let s = c.each.invariant.so_far in
    writes_fault (written_as c.args.wording) c.args.lines c.each.lines (next_bytes c.args.lines.reader.held (g.S.Source.left c.args.source.now)) (next_bytes c.each.lines.reader.held (g.S.Source.left c.each.source)) (g.S.Source.left c.args.source.now) (g.S.Source.left c.next.new.source) (g.K.Sink.written c.args.sink.now) (g.K.Sink.written c.each.sink) s.lines s.behind s.written

pub returns-in-Failed-clause-read : goal.returns-in-Failed-clause-read
returns-in-Failed-clause-read g c = λ is. rose-later (g.S.Source.faults c.args.source.now) (g.S.Source.faults c.each.source) (g.S.Source.faults c.next.new.source) c.each.invariant.counted (c.next.ensures.failed c.in-Failed.is)

pub returns-in-Err-clause-writes_kept : goal.returns-in-Err-clause-writes_kept
returns-in-Err-clause-writes_kept g c = λ other. stop-kept c.in-Err.stop (g.K.Sink.faults c.each.sink) (g.K.Sink.faults c.put_worded.new.sink) c.in-Err.ensures.cause (λ is. other (c.status.ensures ∙ is)) ∙ c.each.invariant.writes

pub returns-in-Refused-clause-writes_kept : goal.returns-in-Refused-clause-writes_kept
returns-in-Refused-clause-writes_kept g c = λ other. c.refuse.ensures.writes_kept other ∙ c.each.invariant.writes

pub returns-in-Err-clause-broken : goal.returns-in-Err-clause-broken
returns-in-Err-clause-broken g c = λ is. stop-no_broken c.in-Err.stop (sym c.status.ensures ∙ is)
