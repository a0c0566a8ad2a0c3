use Rattle.std.proofs.Common.{◌∙◌, ◌+◌, ℕ, None, ap, arith, refl, subst, sym}
use Rattle.command_words.specs.Geometry.{Shape}
use Rattle.ddr_io.specs.Line.{next_bytes}
use Rattle.ddr_io.specs.declared.status.Status.{Status}
use Rattle.ddr_io.specs.declared.status.Status.TheVariants.{Ok as OkStatus, Refused as RefusedStatus}
use Rattle.ddr_text.proofs.Outcomes.{rose-later, stop-kept, stop-no_read, stop-rose}
use Rattle.rank_pair.specs.Answers.{TraceAnswers}
use Rattle.rank_pair.proofs.Answered.{closes_no_read, runs_cut, runs_ended, runs_fault, runs_refused}
use Rattle.rank_pair.proofs.Looped.{fewer_left, may_carry_out, more_traced, runs_first, runs_on}
use Rattle.rank_pair.proofs.pair_loop.run_lines.Goals as goal

pub each-init : goal.each-init
each-init g c =
    let h = c.args.header.now in
    let left = g.S.Source.left c.args.source.now in
    let w = g.K.Sink.written c.args.sink.now in
    let new = c.new-lines.ensures ∙ ap (λ (s : Shape). record { reader = c.args.reader; shape = s; lines = 0; clocks = 0 }) c.geometry.ensures in
    record {
      holds = runs_first h c.args.reader c.new-lines.result left None w c.args.pair.now new c.requires.going_on c.requires.there;
      goes = λ before there. runs_first h c.args.reader c.new-lines.result left before w c.args.pair.now new c.requires.going_on there;
      counted = refl;
      writes = refl;
    }

pub next-requires : goal.next-requires
next-requires g c = c.each.invariant.holds.last

pub carry_out-requires : goal.carry_out-requires
carry_out-requires g c =
    may_carry_out c.args.header.now (next_bytes c.args.reader.held (g.S.Source.left c.args.source.now)) (next_bytes c.each.lines.reader.held (g.S.Source.left c.each.source)) None (g.K.Sink.written c.each.sink) c.each.lines c.next.new.self c.each.pair c.in-Line.line c.number-number.result
    c.each.invariant.holds (c.next.ensures.line c.in-Line.line c.in-Line.is) c.number-number.ensures

pub each-smaller : goal.each-smaller
each-smaller g c = fewer_left c.each.lines c.next.new.self c.in-Line.line (c.next.ensures.line c.in-Line.line c.in-Line.is)

pub each-preserved : goal.each-preserved
each-preserved g c =
    let h = c.args.header.now in
    let start = next_bytes c.args.reader.held (g.S.Source.left c.args.source.now) in
    let now = next_bytes c.each.lines.reader.held (g.S.Source.left c.each.source) in
    let later = next_bytes c.next.new.self.reader.held (g.S.Source.left c.next.new.source) in
    let middle = g.K.Sink.written c.each.sink in
    let after = g.K.Sink.written c.carry_out.new.sink in
    let line = c.in-Line.line in
    let steps = c.next.ensures.line line c.in-Line.is in
    let r = c.each.invariant.holds in
    record {
      holds = runs_on h start now later None middle after c.each.lines c.next.new.self c.each.pair c.carry_out.new.self line r steps c.in-Line.ensures.step
          (c.in-Ok.ensures.done h r.front None r.there (more_traced h start now None middle c.each.lines c.next.new.self c.each.pair line r steps) (c.number-number.ensures ∙ ap (λ (n : ℕ). n + 1) r.lines));
      goes = λ before there.
          let s = c.each.invariant.goes before there in
          runs_on h start now later before middle after c.each.lines c.next.new.self c.each.pair c.carry_out.new.self line s steps c.in-Line.ensures.step
          (c.in-Ok.ensures.done h s.front before s.there (more_traced h start now before middle c.each.lines c.next.new.self c.each.pair line s steps) (c.number-number.ensures ∙ ap (λ (n : ℕ). n + 1) s.lines));
      counted = grind (arith, c.each.invariant.counted, c.in-Line.ensures.faults_kept);
      writes = c.in-Ok.ensures.faults_kept ∙ c.each.invariant.writes;
    }

pub returns-in-Err-clause-answer : goal.returns-in-Err-clause-answer
returns-in-Err-clause-answer g c = λ text first before wrote there.
    let h = c.args.header.now in
    let start = next_bytes c.args.reader.held (g.S.Source.left c.args.source.now) in
    let now = next_bytes c.each.lines.reader.held (g.S.Source.left c.each.source) in
    let later = next_bytes c.next.new.self.reader.held (g.S.Source.left c.next.new.source) in
    let left = g.S.Source.left c.next.new.source in
    let middle = g.K.Sink.written c.each.sink in
    let after = g.K.Sink.written c.carry_out.new.sink in
    let line = c.in-Line.line in
    let steps = c.next.ensures.line line c.in-Line.is in
    let s = c.each.invariant.goes before there in
    subst (λ (t : Status). TraceAnswers t h text start left first after) (sym c.status.ensures)
    (runs_cut h text start now later left first before middle after c.each.lines c.next.new.self c.each.pair line c.in-Err.stop (g.K.Sink.faults c.each.sink) (g.K.Sink.faults c.carry_out.new.sink) s steps c.in-Line.ensures.step wrote
    (c.in-Err.ensures.begins_a_report h s.front before s.there (more_traced h start now before middle c.each.lines c.next.new.self c.each.pair line s steps) (c.number-number.ensures ∙ ap (λ (n : ℕ). n + 1) s.lines)) c.in-Err.ensures.cause)

pub returns-in-End-clause-answer : goal.returns-in-End-clause-answer
returns-in-End-clause-answer g c = λ text first before wrote there.
    let h = c.args.header.now in
    let start = next_bytes c.args.reader.held (g.S.Source.left c.args.source.now) in
    let now = next_bytes c.each.lines.reader.held (g.S.Source.left c.each.source) in
    let s = c.each.invariant.goes before there in
    runs_ended c.deadline_laws.ensures c.finished_laws.ensures h text start now (g.S.Source.left c.next.new.source) first before (g.K.Sink.written c.each.sink) (g.K.Sink.written c.finish.new.sink) c.next.new.self.reader.held c.each.lines c.next.new.self c.each.pair c.finish.result s
    c.in-End.ensures.step wrote (c.finish.ensures.written h s.front s.there.under.run s.there.under.under.on_bus.stands)

pub returns-in-Refused-clause-answer : goal.returns-in-Refused-clause-answer
returns-in-Refused-clause-answer g c = λ text first before wrote there.
    let h = c.args.header.now in
    let start = next_bytes c.args.reader.held (g.S.Source.left c.args.source.now) in
    let now = next_bytes c.each.lines.reader.held (g.S.Source.left c.each.source) in
    let next = next_bytes c.next.new.self.reader.held (g.S.Source.left c.next.new.source) in
    let s = c.each.invariant.goes before there in
    runs_refused c.deadline_laws.ensures c.finished_laws.ensures h text start now next (g.S.Source.left c.next.new.source) first before (g.K.Sink.written c.each.sink) (g.K.Sink.written c.finish-in-Refused.new.sink) c.each.lines c.next.new.self c.each.pair c.number-number.result c.in-Refused.reason c.finish-in-Refused.result s
    c.number-number.ensures c.in-Refused.ensures.step wrote (c.finish-in-Refused.ensures.written h s.front s.there.under.run s.there.under.under.on_bus.stands)

pub returns-in-Failed-clause-answer : goal.returns-in-Failed-clause-answer
returns-in-Failed-clause-answer g c = λ text first before wrote there.
    runs_fault c.args.header.now text (next_bytes c.args.reader.held (g.S.Source.left c.args.source.now)) (next_bytes c.each.lines.reader.held (g.S.Source.left c.each.source)) (g.S.Source.left c.next.new.source) first before (g.K.Sink.written c.each.sink) c.each.lines c.each.pair
    (c.each.invariant.goes before there) wrote

pub returns-in-Failed-clause-read : goal.returns-in-Failed-clause-read
returns-in-Failed-clause-read g c = λ is. rose-later (g.S.Source.faults c.args.source.now) (g.S.Source.faults c.each.source) (g.S.Source.faults c.next.new.source) c.each.invariant.counted (c.next.ensures.failed c.in-Failed.is)

pub returns-in-Err-clause-read : goal.returns-in-Err-clause-read
returns-in-Err-clause-read g c = λ is. absurd (stop-no_read c.in-Err.stop (g.K.Sink.faults c.each.sink) (g.K.Sink.faults c.carry_out.new.sink) c.in-Err.ensures.cause (sym c.status.ensures ∙ is))

pub returns-in-Err-clause-write : goal.returns-in-Err-clause-write
returns-in-Err-clause-write g c = λ is. rose-later (g.K.Sink.faults c.args.sink.now) (g.K.Sink.faults c.each.sink) (g.K.Sink.faults c.carry_out.new.sink) c.each.invariant.writes (stop-rose c.in-Err.stop (g.K.Sink.faults c.each.sink) (g.K.Sink.faults c.carry_out.new.sink) c.in-Err.ensures.cause (sym c.status.ensures ∙ is))

pub returns-in-Err-clause-writes_kept : goal.returns-in-Err-clause-writes_kept
returns-in-Err-clause-writes_kept g c = λ other. stop-kept c.in-Err.stop (g.K.Sink.faults c.each.sink) (g.K.Sink.faults c.carry_out.new.sink) c.in-Err.ensures.cause (λ is. other (c.status.ensures ∙ is)) ∙ c.each.invariant.writes

pub returns-in-Refused-clause-read : goal.returns-in-Refused-clause-read
returns-in-Refused-clause-read g c = λ is.
    let r = c.each.invariant.holds in
    absurd (closes_no_read RefusedStatus c.finish-in-Refused.result _ (g.K.Sink.written c.each.sink) (g.K.Sink.written c.finish-in-Refused.new.sink) (c.finish-in-Refused.ensures.written c.args.header.now r.front r.there.under.run r.there.under.under.on_bus.stands) is)

pub returns-in-Refused-clause-write : goal.returns-in-Refused-clause-write
returns-in-Refused-clause-write g c = λ is. rose-later (g.K.Sink.faults c.args.sink.now) (g.K.Sink.faults c.each.sink) (g.K.Sink.faults c.finish-in-Refused.new.sink) c.each.invariant.writes (c.finish-in-Refused.ensures.write is)

pub returns-in-Refused-clause-writes_kept : goal.returns-in-Refused-clause-writes_kept
returns-in-Refused-clause-writes_kept g c = λ other. c.finish-in-Refused.ensures.writes_kept other ∙ c.each.invariant.writes

pub returns-in-End-clause-read : goal.returns-in-End-clause-read
returns-in-End-clause-read g c = λ is.
    let r = c.each.invariant.holds in
    absurd (closes_no_read OkStatus c.finish.result _ (g.K.Sink.written c.each.sink) (g.K.Sink.written c.finish.new.sink) (c.finish.ensures.written c.args.header.now r.front r.there.under.run r.there.under.under.on_bus.stands) is)

pub returns-in-End-clause-write : goal.returns-in-End-clause-write
returns-in-End-clause-write g c = λ is. rose-later (g.K.Sink.faults c.args.sink.now) (g.K.Sink.faults c.each.sink) (g.K.Sink.faults c.finish.new.sink) c.each.invariant.writes (c.finish.ensures.write is)

pub returns-in-End-clause-writes_kept : goal.returns-in-End-clause-writes_kept
returns-in-End-clause-writes_kept g c = λ other. c.finish.ensures.writes_kept other ∙ c.each.invariant.writes
