use Rattle.std.proofs.Common.{subst}
use Rattle.std.specs.Prelude.{codes}
use Rattle.fair_queue.specs.Answering.{MergeAnswers}
use Rattle.fair_queue.specs.Serving.{PortsAnswers}
use Rattle.ddr_text.specs.Io.{io}
use Rattle.ddr_text.specs.Outcome.{AnswersAs}
use Rattle.device_exec.specs.Promises.{IsFlawless, JudgesInOrder}
use Rattle.spare_device.specs.Promises.{ReadsWell}
use Rattle.spare_device.specs.Spared.{IsSpared, five_devices}
use Rattle.ddr_cli.specs.declared.form.Form.TheVariants.{Audit, Exec, Gen, GenRun, Merge, Pair, Ports, Replay, Show, Spare, Upgrade}
use Rattle.ddr_cli.proofs.NumberWords.{asks_listed, device_below, number_within, same_number}
use Rattle.ddr_cli.proofs.MadeWords.{either_way, few_requests}
use Rattle.ddr_cli.proofs.run.run.Goals as goal

pub run_made-requires : goal.run_made-requires
run_made-requires g c =
    let is = rw c.in-Some-GenRun.field-0-is at c.in-Some-GenRun.ensures in
    few_requests is.0 c.in-Some-GenRun.seed c.in-Some-GenRun.requests is.2

pub returns-in-Some-Gen-clause-made_run : goal.returns-in-Some-Gen-clause-made_run
returns-in-Some-Gen-clause-made_run g c = λ seed requests run. absurd (either_way c.args.words.now c.in-Some-Gen.seed c.in-Some-Gen.requests seed requests (rw c.in-Some-Gen.field-0-is at c.in-Some-Gen.ensures) run)

pub returns-in-Some-GenRun-clause-made : goal.returns-in-Some-GenRun-clause-made
returns-in-Some-GenRun-clause-made g c = λ seed requests gen. absurd (either_way c.args.words.now seed requests c.in-Some-GenRun.seed c.in-Some-GenRun.requests gen (rw c.in-Some-GenRun.field-0-is at c.in-Some-GenRun.ensures))

pub returns-in-None-clause-made : goal.returns-in-None-clause-made
returns-in-None-clause-made g c = λ seed requests is. c.in-None.ensures (Gen seed requests, is)

pub returns-in-None-clause-made_run : goal.returns-in-None-clause-made_run
returns-in-None-clause-made_run g c = λ seed requests is. c.in-None.ensures (GenRun seed requests, is)

pub ports-requires : goal.ports-requires
ports-requires g c =
    let is = rw c.in-Some-Ports.field-0-is at c.in-Some-Ports.ensures in
    number_within 1 32 is.0 c.in-Some-Ports.cap is.2

pub merge-requires : goal.merge-requires
merge-requires g c =
    let is = rw c.in-Some-Merge.field-0-is at c.in-Some-Merge.ensures in
    number_within 1 32 is.0 c.in-Some-Merge.cap is.2

pub returns-in-None-clause-merged : goal.returns-in-None-clause-merged
returns-in-None-clause-merged g c = λ cap is. absurd (c.in-None.ensures (Merge cap, is))

pub returns-in-None-clause-ported : goal.returns-in-None-clause-ported
returns-in-None-clause-ported g c = λ cap is. absurd (c.in-None.ensures (Ports cap, is))

pub returns-in-Some-Ports-clause-ported : goal.returns-in-Some-Ports-clause-ported
returns-in-Some-Ports-clause-ported g c = λ cap is.
    subst (λ n. PortsAnswers n c.ports.result (io (g.S.Source.left c.args.source.now) (g.S.Source.left c.ports.new.source) (g.K.Sink.written c.args.sink.now) (g.K.Sink.written c.ports.new.sink)))
    (same_number 1 32 (codes "ports") c.args.words.now c.in-Some-Ports.cap cap (rw c.in-Some-Ports.field-0-is at c.in-Some-Ports.ensures) is) c.ports.ensures.answer

pub returns-in-Some-Merge-clause-merged : goal.returns-in-Some-Merge-clause-merged
returns-in-Some-Merge-clause-merged g c = λ cap is.
    subst (λ n. MergeAnswers n c.merge.result (io (g.S.Source.left c.args.source.now) (g.S.Source.left c.merge.new.source) (g.K.Sink.written c.args.sink.now) (g.K.Sink.written c.merge.new.sink)))
    (same_number 1 32 (codes "merge") c.args.words.now c.in-Some-Merge.cap cap (rw c.in-Some-Merge.field-0-is at c.in-Some-Merge.ensures) is) c.merge.ensures.answer

pub returns-in-None-clause-fair : goal.returns-in-None-clause-fair
returns-in-None-clause-fair g c = λ h bytes text rest asks. absurd (c.in-None.ensures (asks_listed c.args.words.now asks))

pub returns-in-None-clause-replayed : goal.returns-in-None-clause-replayed
returns-in-None-clause-replayed g c = λ is. absurd (c.in-None.ensures (Replay, is))

pub returns-in-None-clause-audited : goal.returns-in-None-clause-audited
returns-in-None-clause-audited g c = λ is. absurd (c.in-None.ensures (Audit, is))

pub returns-in-None-clause-shown : goal.returns-in-None-clause-shown
returns-in-None-clause-shown g c = λ is. absurd (c.in-None.ensures (Show, is))

pub returns-in-None-clause-upgraded : goal.returns-in-None-clause-upgraded
returns-in-None-clause-upgraded g c = λ is. absurd (c.in-None.ensures (Upgrade, is))

pub returns-in-Some-Ports-clause-fair : goal.returns-in-Some-Ports-clause-fair
returns-in-Some-Ports-clause-fair g c = λ h bytes text rest asks left opens. c.ports.ensures.fair h bytes text rest left opens

pub returns-in-None-clause-executed : goal.returns-in-None-clause-executed
returns-in-None-clause-executed g c = λ is. absurd (c.in-None.ensures (Exec, is))

pub returns-in-None-clause-exec_judged : goal.returns-in-None-clause-exec_judged
returns-in-None-clause-exec_judged g c = λ bytes rest text h is left opens. absurd (c.in-None.ensures (Exec, is))

pub returns-in-None-clause-exec_reads : goal.returns-in-None-clause-exec_reads
returns-in-None-clause-exec_reads g c = λ bytes rest text h is left opens. absurd (c.in-None.ensures (Exec, is))

pub returns-in-None-clause-exec_bounded : goal.returns-in-None-clause-exec_bounded
returns-in-None-clause-exec_bounded g c = λ bytes rest text h is left opens. absurd (c.in-None.ensures (Exec, is))

pub returns-in-Some-Exec-clause-exec_judged : goal.returns-in-Some-Exec-clause-exec_judged
returns-in-Some-Exec-clause-exec_judged g c = λ bytes rest text h is left opens. c.exec.ensures.judged bytes rest text h left opens

pub returns-in-Some-Exec-clause-exec_complete : goal.returns-in-Some-Exec-clause-exec_complete
returns-in-Some-Exec-clause-exec_complete g c = λ bytes rest text h clock is left opens flawless. c.exec.ensures.complete bytes rest text h clock left opens flawless

pub spare-requires : goal.spare-requires
spare-requires g c =
    let is = rw c.in-Some-Spare.field-0-is at c.in-Some-Spare.ensures in
    device_below is.0 c.in-Some-Spare.dead is.2

pub returns-in-Some-Spare-clause-spared : goal.returns-in-Some-Spare-clause-spared
returns-in-Some-Spare-clause-spared g c = λ dead is.
    subst (λ n. AnswersAs (IsSpared n (g.S.Source.left c.args.source.now)) c.spare.result (io (g.S.Source.left c.args.source.now) (g.S.Source.left c.spare.new.source) (g.K.Sink.written c.args.sink.now) (g.K.Sink.written c.spare.new.sink)))
    (same_number 0 4 (codes "spare") c.args.words.now c.in-Some-Spare.dead dead (rw c.in-Some-Spare.field-0-is at c.in-Some-Spare.ensures) is) c.spare.ensures.answer

pub returns-in-Some-Spare-clause-spare_judged : goal.returns-in-Some-Spare-clause-spare_judged
returns-in-Some-Spare-clause-spare_judged g c = λ dead bytes rest text h is left opens.
    subst (λ n. JudgesInOrder (five_devices n) h rest)
    (same_number 0 4 (codes "spare") c.args.words.now c.in-Some-Spare.dead dead (rw c.in-Some-Spare.field-0-is at c.in-Some-Spare.ensures) is) (c.spare.ensures.judged bytes rest text h left opens)

pub returns-in-Some-Spare-clause-spare_reads : goal.returns-in-Some-Spare-clause-spare_reads
returns-in-Some-Spare-clause-spare_reads g c = λ dead bytes rest text h is left opens.
    subst (λ n. ReadsWell n h rest)
    (same_number 0 4 (codes "spare") c.args.words.now c.in-Some-Spare.dead dead (rw c.in-Some-Spare.field-0-is at c.in-Some-Spare.ensures) is) (c.spare.ensures.reads bytes rest text h left opens)

pub returns-in-Some-Spare-clause-spare_complete : goal.returns-in-Some-Spare-clause-spare_complete
returns-in-Some-Spare-clause-spare_complete g c = λ dead bytes rest text h clock is left opens flawless.
    c.spare.ensures.complete bytes rest text h clock left opens
    (subst (λ n. IsFlawless (five_devices n) h rest clock)
    (same_number 0 4 (codes "spare") c.args.words.now dead c.in-Some-Spare.dead is (rw c.in-Some-Spare.field-0-is at c.in-Some-Spare.ensures)) flawless)

pub returns-in-None-clause-spared : goal.returns-in-None-clause-spared
returns-in-None-clause-spared g c = λ dead is. absurd (c.in-None.ensures (Spare dead, is))

pub returns-in-None-clause-spare_judged : goal.returns-in-None-clause-spare_judged
returns-in-None-clause-spare_judged g c = λ dead bytes rest text h is left opens. absurd (c.in-None.ensures (Spare dead, is))

pub returns-in-None-clause-spare_reads : goal.returns-in-None-clause-spare_reads
returns-in-None-clause-spare_reads g c = λ dead bytes rest text h is left opens. absurd (c.in-None.ensures (Spare dead, is))

pub returns-in-None-clause-paired : goal.returns-in-None-clause-paired
returns-in-None-clause-paired g c = λ is. absurd (c.in-None.ensures (Pair, is))
