use Rattle.std.proofs.Common.{◌++◌, subst, sym}
use Rattle.std.specs.List.{flat_map}
use Rattle.ddr_io.specs.declared.status.Status.{Status}
use Rattle.ddr_text.specs.ReportParts.{refusal_lines}
use Rattle.ddr_text.specs.Spelling.{spelled}
use Rattle.pair_reports.specs.Report.{end_of, pair_bytes, spelled_for}
use Rattle.rank_bus.specs.Standing.{now_of}
use Rattle.rank_bus.specs.declared.rank.Rank.TheVariants.{Zero, One}
use Rattle.rank_pair.specs.Answers.{Closes, refusal_with, status_with}
use Rattle.rank_pair.proofs.Answered.{closes_behind, closes_cut}
use Rattle.rank_pair.proofs.pair.Pair.finish.Goals as goal

pub returns-in-Ok-clause-written : goal.returns-in-Ok-clause-written
returns-in-Ok-clause-written g c = λ h trace run s.
    closes_behind (status_with c.args.refusal) c.close.result
    (flat_map spelled_for (end_of h trace run (now_of c.args.self.now.bus) Zero ++ end_of h trace run (now_of c.args.self.now.bus) One)) (flat_map spelled (refusal_lines (refusal_with c.args.refusal)))
    (g.K.Sink.written c.args.sink.now) (g.K.Sink.written c.end.new.sink) (g.K.Sink.written c.close.new.sink) (c.in-Ok.ensures.whole h trace run s) c.close.ensures.written

pub returns-in-Err-clause-written : goal.returns-in-Err-clause-written
returns-in-Err-clause-written g c = λ h trace run s.
    let before = g.K.Sink.written c.args.sink.now in
    let after = g.K.Sink.written c.end.new.sink in
    let lines = end_of h trace run (now_of c.args.self.now.bus) Zero ++ end_of h trace run (now_of c.args.self.now.bus) One in
    subst (λ (t : Status). Closes (status_with c.args.refusal) t (pair_bytes lines (refusal_with c.args.refusal)) before after) (sym c.status.ensures)
    (closes_cut (status_with c.args.refusal) c.in-Err.stop (g.K.Sink.faults c.args.sink.now) (g.K.Sink.faults c.end.new.sink) (flat_map spelled_for lines) (flat_map spelled (refusal_lines (refusal_with c.args.refusal))) before after
    c.in-Err.ensures.cause (c.in-Err.ensures.writes_a_prefix h trace run s))
