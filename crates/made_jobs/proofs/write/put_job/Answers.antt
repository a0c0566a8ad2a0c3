use Rattle.std.proofs.Common.{◌∙◌, List, ℕ, arith, subst, sym}
use Rattle.std.specs.Io.KnownBytes.{Appends}
use Rattle.ddr_io.specs.Sink.{AppendsPrefix}
use Rattle.made_jobs.specs.Made.{Drawing}
use Rattle.ddr_text.proofs.Prefixes.{if_err}
use Rattle.made_jobs.proofs.Jobs.{Written, opening_is, opening-cut, written-none, written-more, written-cut, written-all}
use Rattle.made_jobs.proofs.write.put_job.Goals as goal

pub returns-in_err-put-clause-writes_a_prefix : goal.returns-in_err-put-clause-writes_a_prefix
returns-in_err-put-clause-writes_a_prefix g c =
    if_err _ _ (opening-cut c.args.seed c.args.requests _ _ (subst (λ (piece : List ℕ). AppendsPrefix (g.K.Sink.written c.args.sink.now) (g.K.Sink.written c.put.new.sink) piece) opening_is c.in_err-put.ensures.writes_a_prefix))

pub lines-init : goal.lines-init
lines-init g c = record {
  written = subst (λ (d : Drawing). Written c.args.seed c.args.requests 0 d (g.K.Sink.written c.args.sink.now) (g.K.Sink.written c.put.new.sink)) (sym c.new-generator.ensures) (written-none c.args.seed c.args.requests (g.K.Sink.written c.args.sink.now) (g.K.Sink.written c.put.new.sink) (subst (λ (piece : List ℕ). Appends (g.K.Sink.written c.args.sink.now) (g.K.Sink.written c.put.new.sink) piece) opening_is c.in_ok-put.ensures.whole));
  counted = c.in_ok-put.ensures.faults_kept;
}

pub lines-preserved : goal.lines-preserved
lines-preserved g c = record {
  written = written-more c.args.seed c.args.requests _ _ _ _ _ _ _ c.lines.invariant.written c.next_request-line.ensures.request c.next_request-line.ensures.behind c.in_ok-put_line.ensures.whole;
  counted = c.in_ok-put_line.ensures.faults_kept ∙ c.lines.invariant.counted;
}

pub returns-in_err-put_line-clause-writes_a_prefix : goal.returns-in_err-put_line-clause-writes_a_prefix
returns-in_err-put_line-clause-writes_a_prefix g c =
    if_err _ _ (written-cut c.args.seed c.args.requests _ _ _ _ _ _ c.lines.invariant.written (omega arith) c.next_request-line.ensures.request c.in_err-put_line.ensures.writes_a_prefix)

pub returns-clause-whole : goal.returns-clause-whole
returns-clause-whole g c = written-all c.args.seed c.args.requests _ _ _ _ c.lines.invariant.written (omega arith)
