use Rattle.std.proofs.Common.{◌≡◌, ◌∙◌, Ok, Option, ap, arith, refl, subst, sym}
use Rattle.command_words.specs.Geometry.{Shape}
use Rattle.ddr_io.specs.Line.{next_bytes}
use Rattle.ddr_io.specs.declared.status.Status.{Status}
use Rattle.ddr_io.specs.declared.status.Status.TheVariants.{Ok as OkStatus, Broken}
use Rattle.ddr_text.specs.Io.{io}
use Rattle.ddr_text.specs.Outcome.{AnswersAs}
use Rattle.log_auditor.specs.declared.verdict.Rule.{Rule}
use Rattle.device_exec.specs.Executed.{four_devices}
use Rattle.device_exec.specs.Running.{Acts, IsRunBehind}
use Rattle.device_exec.specs.Scripts.{acted}
use Rattle.device_exec.specs.declared.script_reader.Stage.TheVariants.{Body}
use Rattle.device_exec.proofs.Looping.{closes_no_read, fewer_left, may_act, runs_broken, runs_cut, runs_ended, runs_fault, runs_first, runs_on, runs_refused}
use Rattle.ddr_text.proofs.Outcomes.{refuses-no_read, rose-later, stop-kept, stop-no_read, stop-rose}
use Rattle.device_exec.proofs.exec_loop.run_lines.Goals as goal

pub each-init : goal.each-init
each-init g c = record {
  runs = runs_first c.args.header.now c.args.reader c.new-lines.result (g.S.Source.left c.args.source.now) (g.K.Sink.written c.args.sink.now) c.args.device.now
      (c.new-lines.ensures ∙ ap (λ (s : Shape). record { reader = c.args.reader; shape = s; devices = 4; stage = Body; number = 1 }) c.geometry.ensures) c.requires.going_on c.requires.stands;
  counted = refl;
  writes = refl;
}

pub next-requires : goal.next-requires
next-requires g c = c.each.invariant.runs.last

pub act-requires : goal.act-requires
act-requires g c = let r = c.each.invariant.runs in (c.args.header.now, r.script, (may_act c.args.header.now (next_bytes c.args.reader.held (g.S.Source.left c.args.source.now)) (next_bytes c.each.lines.reader.held (g.S.Source.left c.each.source)) (g.K.Sink.written c.args.sink.now) (g.K.Sink.written c.each.sink) c.each.lines c.next.new.self c.each.device c.in-Line.line c.number-number.result r (c.next.ensures.line c.in-Line.line c.in-Line.is) c.number-number.ensures.number))

pub each-smaller : goal.each-smaller
each-smaller g c = fewer_left c.each.lines c.next.new.self c.in-Line.line (c.next.ensures.line c.in-Line.line c.in-Line.is)

pub each-preserved : goal.each-preserved
each-preserved g c =
    let r = c.each.invariant.runs in
    record {
      runs = runs_on c.args.header.now (next_bytes c.args.reader.held (g.S.Source.left c.args.source.now)) (next_bytes c.each.lines.reader.held (g.S.Source.left c.each.source)) (next_bytes c.next.new.self.reader.held (g.S.Source.left c.next.new.source)) (g.K.Sink.written c.args.sink.now) (g.K.Sink.written c.each.sink) (g.K.Sink.written c.act.new.sink) c.each.lines c.next.new.self c.each.device c.act.new.device c.in-Line.line r (c.next.ensures.line c.in-Line.line c.in-Line.is) c.in-Line.ensures.step
          (subst (λ (o : Option Rule). Acts (Ok o) (acted four_devices c.args.header.now r.script c.in-Line.line) c.args.header.now c.act.new.device (g.K.Sink.written c.each.sink) (g.K.Sink.written c.act.new.sink)) c.in-Ok-None.field-0-is (c.in-Ok-None.ensures.acts c.args.header.now r.script (may_act c.args.header.now (next_bytes c.args.reader.held (g.S.Source.left c.args.source.now)) (next_bytes c.each.lines.reader.held (g.S.Source.left c.each.source)) (g.K.Sink.written c.args.sink.now) (g.K.Sink.written c.each.sink) c.each.lines c.next.new.self c.each.device c.in-Line.line c.number-number.result r (c.next.ensures.line c.in-Line.line c.in-Line.is) c.number-number.ensures.number)));
      counted = grind (arith, c.each.invariant.counted, c.in-Line.ensures.faults_kept);
      writes = c.in-Ok-None.ensures.faults_kept ∙ c.each.invariant.writes;
    }

pub returns-in-Ok-Some-clause-answer : goal.returns-in-Ok-Some-clause-answer
returns-in-Ok-Some-clause-answer g c =
    let r = c.each.invariant.runs in
    runs_broken c.args.header.now (next_bytes c.args.reader.held (g.S.Source.left c.args.source.now)) (next_bytes c.each.lines.reader.held (g.S.Source.left c.each.source)) (next_bytes c.next.new.self.reader.held (g.S.Source.left c.next.new.source)) (g.S.Source.left c.args.source.now) (g.S.Source.left c.next.new.source) (g.K.Sink.written c.args.sink.now) (g.K.Sink.written c.each.sink) (g.K.Sink.written c.tell.new.sink) c.each.lines c.next.new.self c.each.device c.act.new.device c.in-Line.line c.in-Ok-Some.rule c.number-number.result c.tell.result (g.K.Sink.written c.act.new.sink) r c.in-Line.ensures.step c.number-number.ensures.number
    (subst (λ (o : Option Rule). Acts (Ok o) (acted four_devices c.args.header.now r.script c.in-Line.line) c.args.header.now c.act.new.device (g.K.Sink.written c.each.sink) (g.K.Sink.written c.act.new.sink)) c.in-Ok-Some.field-0-is (c.in-Ok-Some.ensures.acts c.args.header.now r.script (may_act c.args.header.now (next_bytes c.args.reader.held (g.S.Source.left c.args.source.now)) (next_bytes c.each.lines.reader.held (g.S.Source.left c.each.source)) (g.K.Sink.written c.args.sink.now) (g.K.Sink.written c.each.sink) c.each.lines c.next.new.self c.each.device c.in-Line.line c.number-number.result r (c.next.ensures.line c.in-Line.line c.in-Line.is) c.number-number.ensures.number))) c.tell.ensures.written

pub returns-in-Err-clause-answer : goal.returns-in-Err-clause-answer
returns-in-Err-clause-answer g c =
    let r = c.each.invariant.runs in
    subst (λ (t : Status). AnswersAs (IsRunBehind c.args.header.now (next_bytes c.args.reader.held (g.S.Source.left c.args.source.now))) t (io (g.S.Source.left c.args.source.now) (g.S.Source.left c.next.new.source) (g.K.Sink.written c.args.sink.now) (g.K.Sink.written c.act.new.sink))) (sym c.status.ensures)
    (runs_cut c.args.header.now (next_bytes c.args.reader.held (g.S.Source.left c.args.source.now)) (next_bytes c.each.lines.reader.held (g.S.Source.left c.each.source)) (next_bytes c.next.new.self.reader.held (g.S.Source.left c.next.new.source)) (g.S.Source.left c.args.source.now) (g.S.Source.left c.next.new.source) (g.K.Sink.written c.args.sink.now) (g.K.Sink.written c.each.sink) (g.K.Sink.written c.act.new.sink) c.each.lines c.next.new.self c.each.device c.act.new.device c.in-Line.line c.in-Err.stop (g.K.Sink.faults c.each.sink) (g.K.Sink.faults c.act.new.sink) r c.in-Line.ensures.step
    (c.in-Err.ensures.acts c.args.header.now r.script (may_act c.args.header.now (next_bytes c.args.reader.held (g.S.Source.left c.args.source.now)) (next_bytes c.each.lines.reader.held (g.S.Source.left c.each.source)) (g.K.Sink.written c.args.sink.now) (g.K.Sink.written c.each.sink) c.each.lines c.next.new.self c.each.device c.in-Line.line c.number-number.result r (c.next.ensures.line c.in-Line.line c.in-Line.is) c.number-number.ensures.number)) c.in-Err.ensures.cause)

pub returns-in-End-clause-answer : goal.returns-in-End-clause-answer
returns-in-End-clause-answer g c =
    let r = c.each.invariant.runs in
    runs_ended c.args.header.now (g.S.Source.left c.args.source.now) (g.S.Source.left c.next.new.source) (next_bytes c.each.lines.reader.held (g.S.Source.left c.each.source)) (g.K.Sink.written c.args.sink.now) (g.K.Sink.written c.each.sink) (g.K.Sink.written c.finish.new.sink) c.args.reader.held c.next.new.self.reader.held c.each.lines c.next.new.self c.each.device c.in-End.clock c.finish.result r c.in-End.ensures.step (c.finish.ensures.written c.args.header.now r.script.steps r.script.phase r.stands)

pub returns-in-Refused-clause-answer : goal.returns-in-Refused-clause-answer
returns-in-Refused-clause-answer g c =
    let r = c.each.invariant.runs in
    runs_refused c.args.header.now (next_bytes c.args.reader.held (g.S.Source.left c.args.source.now)) (next_bytes c.each.lines.reader.held (g.S.Source.left c.each.source)) (next_bytes c.next.new.self.reader.held (g.S.Source.left c.next.new.source)) (g.S.Source.left c.args.source.now) (g.S.Source.left c.next.new.source) (g.K.Sink.written c.args.sink.now) (g.K.Sink.written c.each.sink) (g.K.Sink.written c.refuse.new.sink) c.each.lines c.next.new.self c.each.device c.in-Refused.number c.in-Refused.reason c.refuse.result r c.in-Refused.ensures.step c.refuse.ensures.written

pub returns-in-Failed-clause-answer : goal.returns-in-Failed-clause-answer
returns-in-Failed-clause-answer g c = runs_fault c.args.header.now (next_bytes c.args.reader.held (g.S.Source.left c.args.source.now)) (next_bytes c.each.lines.reader.held (g.S.Source.left c.each.source)) (g.S.Source.left c.args.source.now) (g.S.Source.left c.next.new.source) (g.K.Sink.written c.args.sink.now) (g.K.Sink.written c.each.sink) c.each.lines c.each.device c.each.invariant.runs

pub returns-in-Failed-clause-read : goal.returns-in-Failed-clause-read
returns-in-Failed-clause-read g c = λ is. rose-later (g.S.Source.faults c.args.source.now) (g.S.Source.faults c.each.source) (g.S.Source.faults c.next.new.source) c.each.invariant.counted (c.next.ensures.failed c.in-Failed.is)

pub returns-in-Err-clause-read : goal.returns-in-Err-clause-read
returns-in-Err-clause-read g c = λ is. absurd (stop-no_read c.in-Err.stop (g.K.Sink.faults c.each.sink) (g.K.Sink.faults c.act.new.sink) c.in-Err.ensures.cause (sym c.status.ensures ∙ is))

pub returns-in-Err-clause-write : goal.returns-in-Err-clause-write
returns-in-Err-clause-write g c = λ is. rose-later (g.K.Sink.faults c.args.sink.now) (g.K.Sink.faults c.each.sink) (g.K.Sink.faults c.act.new.sink) c.each.invariant.writes (stop-rose c.in-Err.stop (g.K.Sink.faults c.each.sink) (g.K.Sink.faults c.act.new.sink) c.in-Err.ensures.cause (sym c.status.ensures ∙ is))

pub returns-in-Err-clause-writes_kept : goal.returns-in-Err-clause-writes_kept
returns-in-Err-clause-writes_kept g c = λ other. stop-kept c.in-Err.stop (g.K.Sink.faults c.each.sink) (g.K.Sink.faults c.act.new.sink) c.in-Err.ensures.cause (λ is. other (c.status.ensures ∙ is)) ∙ c.each.invariant.writes

pub returns-in-Refused-clause-read : goal.returns-in-Refused-clause-read
returns-in-Refused-clause-read g c = λ is. absurd (refuses-no_read c.refuse.result c.in-Refused.number c.in-Refused.reason (g.K.Sink.written c.each.sink) (g.K.Sink.written c.refuse.new.sink) c.refuse.ensures.written is)

pub returns-in-Refused-clause-write : goal.returns-in-Refused-clause-write
returns-in-Refused-clause-write g c = λ is. rose-later (g.K.Sink.faults c.args.sink.now) (g.K.Sink.faults c.each.sink) (g.K.Sink.faults c.refuse.new.sink) c.each.invariant.writes (c.refuse.ensures.write is)

pub returns-in-Refused-clause-writes_kept : goal.returns-in-Refused-clause-writes_kept
returns-in-Refused-clause-writes_kept g c = λ other. c.refuse.ensures.writes_kept other ∙ c.each.invariant.writes

pub returns-in-End-clause-read : goal.returns-in-End-clause-read
returns-in-End-clause-read g c = λ is.
    let r = c.each.invariant.runs in
    absurd (closes_no_read OkStatus c.finish.result _ (g.K.Sink.written c.each.sink) (g.K.Sink.written c.finish.new.sink) (c.finish.ensures.written c.args.header.now r.script.steps r.script.phase r.stands) is)

pub returns-in-End-clause-write : goal.returns-in-End-clause-write
returns-in-End-clause-write g c = λ is. rose-later (g.K.Sink.faults c.args.sink.now) (g.K.Sink.faults c.each.sink) (g.K.Sink.faults c.finish.new.sink) c.each.invariant.writes (c.finish.ensures.write is)

pub returns-in-End-clause-writes_kept : goal.returns-in-End-clause-writes_kept
returns-in-End-clause-writes_kept g c = λ other. c.finish.ensures.writes_kept other ∙ c.each.invariant.writes

pub returns-in-Ok-Some-clause-read : goal.returns-in-Ok-Some-clause-read
returns-in-Ok-Some-clause-read g c = λ is. absurd (closes_no_read Broken c.tell.result _ (g.K.Sink.written c.act.new.sink) (g.K.Sink.written c.tell.new.sink) c.tell.ensures.written is)

pub returns-in-Ok-Some-clause-write : goal.returns-in-Ok-Some-clause-write
returns-in-Ok-Some-clause-write g c = λ is. rose-later (g.K.Sink.faults c.args.sink.now) (g.K.Sink.faults c.act.new.sink) (g.K.Sink.faults c.tell.new.sink) (c.in-Ok-Some.ensures.faults_kept ∙ c.each.invariant.writes) (c.tell.ensures.write is)

pub returns-in-Ok-Some-clause-writes_kept : goal.returns-in-Ok-Some-clause-writes_kept
returns-in-Ok-Some-clause-writes_kept g c = λ other. c.tell.ensures.writes_kept other ∙ (c.in-Ok-Some.ensures.faults_kept ∙ c.each.invariant.writes)
