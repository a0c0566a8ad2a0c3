use Rattle.std.proofs.Common.{◌∙◌, sym, subst, arith}
use Rattle.trace_replay.specs.RequestBuffer.{Kept}
use Rattle.trace_replay.proofs.Answering.{Remains, remains-next, remains-cut, remains-kept, remains-wrote}
use Rattle.ddr_text.proofs.Prefixes.{if_err}
use Rattle.trace_replay.proofs.answers.put_answers.Goals as goal

pub answers-preserved : goal.answers-preserved
answers-preserved g c = record {
  remains = λ h trace run before rs e.
      subst (λ (k : Kept). Remains h trace run before rs k (g.K.Sink.written c.args.sink.now) (g.K.Sink.written c.put_answer.new.sink)) (sym c.in-Some.ensures.some)
      (remains-next h trace run before rs c.answers.held (g.K.Sink.written c.args.sink.now) (g.K.Sink.written c.answers.sink) (g.K.Sink.written c.put_answer.new.sink) c.in-Some.served c.in-Some.ensures.first (c.answers.invariant.remains h trace run before rs e) c.in_ok-put_answer-in-Some.ensures.whole);
  kept = c.in_ok-put_answer-in-Some.ensures.faults_kept ∙ c.answers.invariant.kept;
}

pub returns-in_err-put_answer-in-Some-clause-writes_a_prefix : goal.returns-in_err-put_answer-in-Some-clause-writes_a_prefix
returns-in_err-put_answer-in-Some-clause-writes_a_prefix g c =
    if_err c.from_residual.result _ (λ h trace run before rs e.
    remains-cut h trace run before rs c.answers.held (g.K.Sink.written c.args.sink.now) (g.K.Sink.written c.answers.sink) (g.K.Sink.written c.put_answer.new.sink) c.in-Some.served c.in-Some.ensures.first (c.answers.invariant.remains h trace run before rs e) c.in_err-put_answer-in-Some.ensures.writes_a_prefix)

pub returns-in-None-clause-held : goal.returns-in-None-clause-held
returns-in-None-clause-held g c = λ h trace run before rs e.
    c.in-None.ensures.none ∙ remains-kept h trace run before rs c.answers.held (g.K.Sink.written c.args.sink.now) (g.K.Sink.written c.answers.sink) c.in-None.ensures.first (c.answers.invariant.remains h trace run before rs e)

pub returns-in-None-clause-wrote : goal.returns-in-None-clause-wrote
returns-in-None-clause-wrote g c = λ h trace run before rs e.
    remains-wrote h trace run before rs c.answers.held (g.K.Sink.written c.args.sink.now) (g.K.Sink.written c.answers.sink) c.in-None.ensures.first (c.answers.invariant.remains h trace run before rs e)

pub returns-in_err-put_answer-in-Some-clause-faults_never_fall : goal.returns-in_err-put_answer-in-Some-clause-faults_never_fall
returns-in_err-put_answer-in-Some-clause-faults_never_fall g c = omega (arith, c.put_answer.ensures.faults_never_fall, c.answers.invariant.kept)

pub returns-in-None-clause-faults_never_fall : goal.returns-in-None-clause-faults_never_fall
returns-in-None-clause-faults_never_fall g c = omega (arith, c.answers.invariant.kept)

pub returns-in-None-clause-faults_kept : goal.returns-in-None-clause-faults_kept
returns-in-None-clause-faults_kept g c = c.answers.invariant.kept
