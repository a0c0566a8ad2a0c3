use Rattle.std.proofs.Common.{◌∷◌, length}
use Rattle.std.specs.List.{flat_map}
use Rattle.std.proofs.KnownBytes.{Appends-trans}
use Rattle.ddr_text.specs.Spelling.{spelled}
use Rattle.ddr_text.specs.declared.lines.ReportLine.TheVariants.{Issued as IssuedLine}
use Rattle.scheduler.specs.Controller.{number_of}
use Rattle.reports.specs.Requests.{requests}
use Rattle.reports.specs.Runs.{ready, held}
use Rattle.reports.specs.Report.{answers}
use Rattle.reports.specs.Underway.{issue}
use Rattle.ddr_text.proofs.Prefixes.{on_ok-to, if_err-to, if_err, prefix-behind, prefix-longer, prefix-whole}
use Rattle.trace_replay.proofs.Delivering.{issued-holds}
use Rattle.trace_replay.proofs.replay_state.ReplayState.issue.Goals as goal

pub returns-in_err-put_issued-clause-writes_a_prefix : goal.returns-in_err-put_issued-clause-writes_a_prefix
returns-in_err-put_issued-clause-writes_a_prefix g c =
    if_err c.from_residual.result _ (λ h trace run k.
    let step = issue trace c.args.clock c.args.command (number_of c.args.id) in
    prefix-longer (g.K.Sink.written c.args.sink.now) (g.K.Sink.written c.put_issued.new.sink) (spelled (IssuedLine c.args.clock c.args.command)) (flat_map spelled (answers h trace (step ∷ run) (ready (held (requests trace) run) (step ∷ run)))) c.in_err-put_issued.ensures.writes_a_prefix)

pub returns-in_err-deliver-clause-writes_a_prefix : goal.returns-in_err-deliver-clause-writes_a_prefix
returns-in_err-deliver-clause-writes_a_prefix g c =
    if_err c.from_residual-in_err-deliver.result _ (λ h trace run k.
    let step = issue trace c.args.clock c.args.command (number_of c.args.id) in
    let line = spelled (IssuedLine c.args.clock c.args.command) in
    prefix-longer (g.K.Sink.written c.args.sink.now) (g.K.Sink.written c.put_issued.new.sink) line (flat_map spelled (answers h trace (step ∷ run) (ready (held (requests trace) run) (step ∷ run))))
    (prefix-whole (g.K.Sink.written c.args.sink.now) (g.K.Sink.written c.put_issued.new.sink) line c.in_ok-put_issued.ensures.whole))

pub returns-clause-after : goal.returns-clause-after
returns-clause-after g c =
    on_ok-to c.put_answers.result _ _ (λ kept. λ h trace run k.
    let step = issue trace c.args.clock c.args.command (number_of c.args.id) in
    let d = c.in_ok-deliver.ensures.delivered h trace run c.args.clock k in
    issued-holds c.takes_from_the_held.ensures.ready c.takes_from_the_held.ensures.held h c.deliver.new.self trace run c.args.clock c.args.command c.args.id c.put_answers.new.held d
    (kept h trace (step ∷ run) (length (ready (requests trace) run)) (held (requests trace) run) d.kept)) c.put_answers.ensures.held

pub returns-clause-wrote : goal.returns-clause-wrote
returns-clause-wrote g c =
    on_ok-to c.put_answers.result _ _ (λ wrote. λ h trace run k.
    let step = issue trace c.args.clock c.args.command (number_of c.args.id) in
    let d = c.in_ok-deliver.ensures.delivered h trace run c.args.clock k in
    Appends-trans (g.K.Sink.written c.args.sink.now) (g.K.Sink.written c.put_issued.new.sink) (g.K.Sink.written c.put_answers.new.sink) (spelled (IssuedLine c.args.clock c.args.command)) (flat_map spelled (answers h trace (step ∷ run) (ready (held (requests trace) run) (step ∷ run))))
    c.in_ok-put_issued.ensures.whole (wrote h trace (step ∷ run) (length (ready (requests trace) run)) (held (requests trace) run) d.kept)) c.put_answers.ensures.wrote

pub returns-clause-writes_a_prefix : goal.returns-clause-writes_a_prefix
returns-clause-writes_a_prefix g c =
    if_err-to c.put_answers.result _ _ (λ cut. λ h trace run k.
    let step = issue trace c.args.clock c.args.command (number_of c.args.id) in
    let d = c.in_ok-deliver.ensures.delivered h trace run c.args.clock k in
    prefix-behind (g.K.Sink.written c.args.sink.now) (g.K.Sink.written c.put_issued.new.sink) (g.K.Sink.written c.put_answers.new.sink) (spelled (IssuedLine c.args.clock c.args.command)) (flat_map spelled (answers h trace (step ∷ run) (ready (held (requests trace) run) (step ∷ run))))
    c.in_ok-put_issued.ensures.whole (cut h trace (step ∷ run) (length (ready (requests trace) run)) (held (requests trace) run) d.kept)) c.put_answers.ensures.writes_a_prefix
