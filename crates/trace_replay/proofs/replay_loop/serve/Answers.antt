use Rattle.std.proofs.Common.{◌∙◌, None, arith}
use Rattle.ddr_io.specs.Line.{next_bytes}
use Rattle.std.proofs.lemmas.Result.{err_from_is_err_and}
use Rattle.trace_replay.proofs.Under.{under-none}
use Rattle.trace_replay.proofs.LoopEnd.{stops-reading, stops-writing, under-any, turned-over, turned-under, read-cause, write-cause}
use Rattle.trace_replay.proofs.replay_loop.serve.Goals as goal

pub returns-in_err-offer_all-clause-begins_a_report : goal.returns-in_err-offer_all-clause-begins_a_report
returns-in_err-offer_all-clause-begins_a_report g c =
    let p = err_from_is_err_and c.from_residual.result c.from_residual.ensures.1 in
    rw (p.1, p.2) (λ h start before u.
    stops-reading c.in_err-offer_all.field-0.0 h (g.S.Source.faults c.turns.source) (g.S.Source.faults c.offer_all.new.source) start (g.S.Source.left c.offer_all.new.source) before (g.K.Sink.written c.turns.sink) c.in_err-offer_all.ensures.cause
    (c.in_err-offer_all.ensures.begins_a_report h start before (g.K.Sink.written c.turns.sink) (c.turns.invariant.under h start before u)))

pub turn-requires : goal.turn-requires
turn-requires g c =
    let k = c.turns.invariant.holds in
    let r = c.in_ok-offer_all.ensures.ready k.0 None None None (under-none k.0 c.turns.progress k.1 k.2 (next_bytes c.turns.reader.held (g.S.Source.left c.turns.source)) k.3) in
    record { ready = (k.0, r.under.trace, r.under.run, r.under.holds, r.filled) }

pub returns-in_err-turn-clause-begins_a_report : goal.returns-in_err-turn-clause-begins_a_report
returns-in_err-turn-clause-begins_a_report g c =
    let p = err_from_is_err_and c.from_residual-in_err-turn.result c.from_residual-in_err-turn.ensures.1 in
    rw (p.1, p.2) (λ h start before u.
    stops-writing c.in_err-turn.field-0.0 h (g.K.Sink.faults c.turns.sink) (g.K.Sink.faults c.turn.new.sink) start (g.S.Source.left c.offer_all.new.source) before (g.K.Sink.written c.turn.new.sink) c.in_err-turn.ensures.cause
    (c.in_err-turn.ensures.begins_a_report h start (next_bytes c.offer_all.new.reader.held (g.S.Source.left c.offer_all.new.source)) before (c.in_ok-offer_all.ensures.ready h start before (g.K.Sink.written c.turns.sink) (c.turns.invariant.under h start before u))))

pub returns-then-not-branch-clause-holds : goal.returns-then-not-branch-clause-holds
returns-then-not-branch-clause-holds g c =
    let k = c.turns.invariant.holds in
    let r = c.in_ok-offer_all.ensures.ready k.0 None None (g.K.Sink.written c.turns.sink) (under-any k.0 c.turns.progress k.1 k.2 (next_bytes c.turns.reader.held (g.S.Source.left c.turns.source)) (g.K.Sink.written c.turns.sink) k.3) in
    let o = turned-over c.in_ok-turn.field-0 k.0 c.turn.new.self None (next_bytes c.offer_all.new.reader.held (g.S.Source.left c.offer_all.new.source)) None (g.K.Sink.written c.turn.new.sink) c.if-not-branch.true
    (c.in_ok-turn.ensures.after k.0 None (next_bytes c.offer_all.new.reader.held (g.S.Source.left c.offer_all.new.source)) None r) in
    (k.0, o.under.trace, o.under.run, o.under.holds)

pub returns-then-not-branch-clause-over : goal.returns-then-not-branch-clause-over
returns-then-not-branch-clause-over g c = λ h start before u.
    turned-over c.in_ok-turn.field-0 h c.turn.new.self start (next_bytes c.offer_all.new.reader.held (g.S.Source.left c.offer_all.new.source)) before (g.K.Sink.written c.turn.new.sink) c.if-not-branch.true
    (c.in_ok-turn.ensures.after h start (next_bytes c.offer_all.new.reader.held (g.S.Source.left c.offer_all.new.source)) before (c.in_ok-offer_all.ensures.ready h start before (g.K.Sink.written c.turns.sink) (c.turns.invariant.under h start before u)))

pub turns-preserved : goal.turns-preserved
turns-preserved g c =
    let k = c.turns.invariant.holds in
    let r = c.in_ok-offer_all.ensures.ready k.0 None None (g.K.Sink.written c.turns.sink) (under-any k.0 c.turns.progress k.1 k.2 (next_bytes c.turns.reader.held (g.S.Source.left c.turns.source)) (g.K.Sink.written c.turns.sink) k.3) in
    let u = turned-under c.in_ok-turn.field-0 k.0 c.turn.new.self None (next_bytes c.offer_all.new.reader.held (g.S.Source.left c.offer_all.new.source)) None (g.K.Sink.written c.turn.new.sink) c.if-not-branch.false
    (c.in_ok-turn.ensures.after k.0 None (next_bytes c.offer_all.new.reader.held (g.S.Source.left c.offer_all.new.source)) None r) in
    record {
      holds = (k.0, u.trace, u.run, u.holds);
      under = λ h start before v.
          turned-under c.in_ok-turn.field-0 h c.turn.new.self start (next_bytes c.offer_all.new.reader.held (g.S.Source.left c.offer_all.new.source)) before (g.K.Sink.written c.turn.new.sink) c.if-not-branch.false
          (c.in_ok-turn.ensures.after h start (next_bytes c.offer_all.new.reader.held (g.S.Source.left c.offer_all.new.source)) before (c.in_ok-offer_all.ensures.ready h start before (g.K.Sink.written c.turns.sink) (c.turns.invariant.under h start before v)));
      going_on = c.turn.ensures.reader c.offer_all.new.reader.last c.in_ok-offer_all.ensures.going_on;
      kept = c.in_ok-offer_all.ensures.faults_kept ∙ c.turns.invariant.kept;
      kept_written = c.in_ok-turn.ensures.faults_kept ∙ c.turns.invariant.kept_written;
    }

pub returns-then-not-branch-clause-faults_kept : goal.returns-then-not-branch-clause-faults_kept
returns-then-not-branch-clause-faults_kept g c = (c.in_ok-offer_all.ensures.faults_kept ∙ c.turns.invariant.kept, c.in_ok-turn.ensures.faults_kept ∙ c.turns.invariant.kept_written)

pub returns-in_err-offer_all-clause-faults_never_fall : goal.returns-in_err-offer_all-clause-faults_never_fall
returns-in_err-offer_all-clause-faults_never_fall g c = omega (arith, c.offer_all.ensures.faults_never_fall, c.turns.invariant.kept)

pub returns-in_err-offer_all-clause-write_faults_never_fall : goal.returns-in_err-offer_all-clause-write_faults_never_fall
returns-in_err-offer_all-clause-write_faults_never_fall g c = omega (arith, c.turns.invariant.kept_written)

pub returns-in_err-turn-clause-faults_never_fall : goal.returns-in_err-turn-clause-faults_never_fall
returns-in_err-turn-clause-faults_never_fall g c = omega (arith, c.offer_all.ensures.faults_never_fall, c.turns.invariant.kept)

pub returns-in_err-turn-clause-write_faults_never_fall : goal.returns-in_err-turn-clause-write_faults_never_fall
returns-in_err-turn-clause-write_faults_never_fall g c = omega (arith, c.turn.ensures.faults_never_fall, c.turns.invariant.kept_written)

pub returns-then-not-branch-clause-faults_never_fall : goal.returns-then-not-branch-clause-faults_never_fall
returns-then-not-branch-clause-faults_never_fall g c = omega (arith, c.offer_all.ensures.faults_never_fall, c.turns.invariant.kept)

pub returns-then-not-branch-clause-write_faults_never_fall : goal.returns-then-not-branch-clause-write_faults_never_fall
returns-then-not-branch-clause-write_faults_never_fall g c = omega (arith, c.turn.ensures.faults_never_fall, c.turns.invariant.kept_written)

pub returns-in_err-offer_all-clause-cause : goal.returns-in_err-offer_all-clause-cause
returns-in_err-offer_all-clause-cause g c =
    let p = err_from_is_err_and c.from_residual.result c.from_residual.ensures.1 in
    rw (p.1, p.2) (
    read-cause c.in_err-offer_all.field-0.0 (g.S.Source.faults c.args.source.now) (g.S.Source.faults c.turns.source) (g.S.Source.faults c.offer_all.new.source) (g.K.Sink.faults c.args.sink.now) (g.K.Sink.faults c.turns.sink)
    c.turns.invariant.kept c.turns.invariant.kept_written c.in_err-offer_all.ensures.cause)

pub returns-in_err-turn-clause-cause : goal.returns-in_err-turn-clause-cause
returns-in_err-turn-clause-cause g c =
    let p = err_from_is_err_and c.from_residual-in_err-turn.result c.from_residual-in_err-turn.ensures.1 in
    rw (p.1, p.2) (
    write-cause c.in_err-turn.field-0.0 (g.K.Sink.faults c.args.sink.now) (g.K.Sink.faults c.turns.sink) (g.K.Sink.faults c.turn.new.sink) (g.S.Source.faults c.args.source.now) (g.S.Source.faults c.offer_all.new.source)
    c.turns.invariant.kept_written (c.in_ok-offer_all.ensures.faults_kept ∙ c.turns.invariant.kept) c.in_err-turn.ensures.cause)
