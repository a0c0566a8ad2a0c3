use Rattle.std.proofs.Common.{◌∙◌, refl, subst}
use Rattle.std.proofs.lemmas.Result.{err_from_is_err_and}
use Rattle.ddr_io.specs.Line.{next_bytes}
use Rattle.trace_replay.specs.Replay.{StopCause}
use Rattle.trace_replay.proofs.LoopEnd.{cause-at-once, write-cause}
use Rattle.trace_replay.proofs.LoopServed.{ReportLaws, under-start, stops-at-once, stops-opening, stops-serving, served}
use Rattle.trace_replay.proofs.replay_loop.serve_trace.Goals as goal

pub returns-in_err-progress-clause-answered_so_far : goal.returns-in_err-progress-clause-answered_so_far
returns-in_err-progress-clause-answered_so_far g c =
    let laws : ReportLaws = record {
      promises = c.headline.ensures.promises;
      report_is = c.rests_on_the_lines_so_far.ensures.report;
      sound = c.rests_on_the_lines_so_far.ensures.sound;
      lines = record { inside = c.reads_lines_inside.ensures.inside; more = c.takes_a_request.ensures.inside };
    } in
    let p = err_from_is_err_and c.from_residual.result c.from_residual.ensures.1 in
    rw (p.1, p.2) (λ start read.
    stops-at-once laws c.in_err-progress.field-0.0 c.args.header.now c.args.text.now start (g.S.Source.left c.args.source.now) (g.K.Sink.written c.args.sink.now) c.in_err-progress.ensures.stop)

pub returns-in_err-put_opening-clause-answered_so_far : goal.returns-in_err-put_opening-clause-answered_so_far
returns-in_err-put_opening-clause-answered_so_far g c =
    let laws : ReportLaws = record {
      promises = c.headline.ensures.promises;
      report_is = c.rests_on_the_lines_so_far.ensures.report;
      sound = c.rests_on_the_lines_so_far.ensures.sound;
      lines = record { inside = c.reads_lines_inside.ensures.inside; more = c.takes_a_request.ensures.inside };
    } in
    let p = err_from_is_err_and c.from_residual-in_err-put_opening.result c.from_residual-in_err-put_opening.ensures.1 in
    rw (p.1, p.2) (λ start read.
    stops-opening laws c.in_err-put_opening.field-0.0 c.args.header.now c.args.text.now start (g.S.Source.left c.args.source.now) (g.K.Sink.written c.args.sink.now) (g.K.Sink.written c.put_opening.new.sink) (g.K.Sink.faults c.args.sink.now) (g.K.Sink.faults c.put_opening.new.sink) c.in_err-put_opening.ensures.cause c.in_err-put_opening.ensures.writes_a_prefix)

pub returns-in_err-serve-clause-answered_so_far : goal.returns-in_err-serve-clause-answered_so_far
returns-in_err-serve-clause-answered_so_far g c =
    let laws : ReportLaws = record {
      promises = c.headline.ensures.promises;
      report_is = c.rests_on_the_lines_so_far.ensures.report;
      sound = c.rests_on_the_lines_so_far.ensures.sound;
      lines = record { inside = c.reads_lines_inside.ensures.inside; more = c.takes_a_request.ensures.inside };
    } in
    let p = err_from_is_err_and c.from_residual-in_err-serve.result c.from_residual-in_err-serve.ensures.1 in
    rw (p.1, p.2) (λ start read.
    stops-serving laws c.in_err-serve.field-0.0 c.args.header.now c.args.text.now start (g.S.Source.left c.serve.new.source) (g.K.Sink.written c.args.sink.now) (g.K.Sink.written c.put_opening.new.sink) (g.K.Sink.written c.serve.new.sink) c.in_ok-put_opening.ensures.whole
    (c.in_err-serve.ensures.begins_a_report c.args.header.now start (g.K.Sink.written c.put_opening.new.sink)
    (under-start c.args.header.now c.in_ok-progress.progress start (next_bytes c.args.reader.now.held (g.S.Source.left c.args.source.now)) (g.K.Sink.written c.put_opening.new.sink) c.in_ok-progress.ensures.holds
    (c.in_ok-progress.ensures.read start (next_bytes c.args.reader.now.held (g.S.Source.left c.args.source.now)) read))))

pub returns-clause-served : goal.returns-clause-served
returns-clause-served g c =
    let laws : ReportLaws = record {
      promises = c.headline.ensures.promises;
      report_is = c.rests_on_the_lines_so_far.ensures.report;
      sound = c.rests_on_the_lines_so_far.ensures.sound;
      lines = record { inside = c.reads_lines_inside.ensures.inside; more = c.takes_a_request.ensures.inside };
    } in
    λ start read.
    served laws c.args.header.now c.args.text.now c.serve.new.progress start (g.K.Sink.written c.args.sink.now) (g.K.Sink.written c.put_opening.new.sink) (g.K.Sink.written c.serve.new.sink) c.serve.new.reader.held (g.S.Source.left c.serve.new.source) c.ending.result c.in_ok-put_opening.ensures.whole
    (c.in_ok-serve.ensures.over c.args.header.now start (g.K.Sink.written c.put_opening.new.sink)
    (under-start c.args.header.now c.in_ok-progress.progress start (next_bytes c.args.reader.now.held (g.S.Source.left c.args.source.now)) (g.K.Sink.written c.put_opening.new.sink) c.in_ok-progress.ensures.holds
    (c.in_ok-progress.ensures.read start (next_bytes c.args.reader.now.held (g.S.Source.left c.args.source.now)) read)))
    c.ending.ensures.clock c.ending.ensures.refusal c.ending.ensures.lines

pub returns-clause-faults_kept : goal.returns-clause-faults_kept
returns-clause-faults_kept g c = (c.in_ok-serve.ensures.faults_kept.0, c.in_ok-serve.ensures.faults_kept.1 ∙ c.in_ok-put_opening.ensures.faults_kept)

pub returns-in_err-progress-clause-cause : goal.returns-in_err-progress-clause-cause
returns-in_err-progress-clause-cause g c =
    let p = err_from_is_err_and c.from_residual.result c.from_residual.ensures.1 in
    rw (p.1, p.2) (cause-at-once c.in_err-progress.field-0.0 (g.S.Source.faults c.args.source.now) (g.K.Sink.faults c.args.sink.now) c.in_err-progress.ensures.stop)

pub returns-in_err-put_opening-clause-cause : goal.returns-in_err-put_opening-clause-cause
returns-in_err-put_opening-clause-cause g c =
    let p = err_from_is_err_and c.from_residual-in_err-put_opening.result c.from_residual-in_err-put_opening.ensures.1 in
    rw (p.1, p.2) (write-cause c.in_err-put_opening.field-0.0 (g.K.Sink.faults c.args.sink.now) (g.K.Sink.faults c.args.sink.now) (g.K.Sink.faults c.put_opening.new.sink) (g.S.Source.faults c.args.source.now) (g.S.Source.faults c.args.source.now) refl refl c.in_err-put_opening.ensures.cause)

pub returns-in_err-serve-clause-cause : goal.returns-in_err-serve-clause-cause
returns-in_err-serve-clause-cause g c =
    let p = err_from_is_err_and c.from_residual-in_err-serve.result c.from_residual-in_err-serve.ensures.1 in
    rw (p.1, p.2) (subst (λ n. StopCause (g.S.Source.faults c.args.source.now) (g.S.Source.faults c.serve.new.source) n (g.K.Sink.faults c.serve.new.sink) c.in_err-serve.field-0.0) c.in_ok-put_opening.ensures.faults_kept c.in_err-serve.ensures.cause)
