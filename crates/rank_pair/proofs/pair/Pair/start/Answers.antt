use Rattle.std.proofs.Common.{[]}
use Rattle.std.proofs.KnownBytes.{Appends-nil}
use Rattle.ddr_text.proofs.Prefixes.{if_err, if_err-to, on_ok-to}
use Rattle.rank_pair.proofs.pair.Pair.start.Goals as goal

pub serve-requires : goal.serve-requires
serve-requires g c =
    let w = g.K.Sink.written c.args.sink.now in
    let t = c.in_ok-write_registers.ensures.written w (Appends-nil w) in
    (c.args.header.now, [], _, t.until, w, t.under)

pub returns-clause-started : goal.returns-clause-started
returns-clause-started g c =
    on_ok-to c.serve.result _ _ (λ served. λ before wrote.
    let t = c.in_ok-write_registers.ensures.written before wrote in
    record { since = t.since; until = t.until; under = served c.args.header.now [] (record { front = []; since = t.since }) t.until before t.under }) c.serve.ensures.served

pub returns-clause-begins_a_report : goal.returns-clause-begins_a_report
returns-clause-begins_a_report g c =
    if_err-to c.serve.result _ _ (λ cut. λ before wrote.
    let t = c.in_ok-write_registers.ensures.written before wrote in
    cut c.args.header.now [] (record { front = []; since = t.since }) t.until before t.under) c.serve.ensures.begins_a_report

pub returns-in_err-write_registers-clause-begins_a_report : goal.returns-in_err-write_registers-clause-begins_a_report
returns-in_err-write_registers-clause-begins_a_report g c = if_err c.from_residual.result _ (λ before wrote. c.in_err-write_registers.ensures.begins_a_report before wrote)
