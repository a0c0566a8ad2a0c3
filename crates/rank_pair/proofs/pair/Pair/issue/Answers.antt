use Rattle.std.proofs.Common.{List, subst}
use Rattle.std.specs.List.{flat_map}
use Rattle.std.specs.Io.KnownBytes.{Appends}
use Rattle.ddr_io.specs.Sink.{AppendsPrefix}
use Rattle.ddr_text.proofs.Prefixes.{if_err-to, no-prefix, on_ok-to}
use Rattle.device_core.specs.Standing.{lent}
use Rattle.pair_reports.specs.Lines.{only}
use Rattle.pair_reports.specs.Report.{latest_of, spelled_for}
use Rattle.pair_reports.specs.Runs.{bus_of, run_of}
use Rattle.pair_reports.specs.declared.rank_line.RankReportLine.{RankReportLine}
use Rattle.rank_pair.specs.Pairs.{issues, requested}
use Rattle.rank_pair.proofs.OneCommand.{issued_stands, may_take, now_kept, shows}
use Rattle.rank_pair.proofs.pair.Pair.issue.Goals as goal

pub issue-clock-requires : goal.issue-clock-requires
issue-clock-requires g c = let r = c.requires in ∣ (r.0, bus_of r.2, r.3.stands.bus, r.3.ready) ∣₁

pub give-requires : goal.give-requires
give-requires g c =
    let r = c.requires in (
      r.0,
      only c.args.rank r.1,
      run_of c.args.rank r.2,
      requested c.args.access.now,
      may_take c.args.self.now c.issue-clock.new.self r.0 r.1 r.2 c.args.rank c.issue-clock.result c.args.command.now c.args.access.now (lent c.bytes_of.result) r.3
          (c.issue-clock.ensures.earliest r.0 (bus_of r.2) r.3.stands.bus) c.bytes_of.ensures,
    )

pub returns-in-Ok-clause-issued : goal.returns-in-Ok-clause-issued
returns-in-Ok-clause-issued g c =
    let a = g.K.Sink.written c.args.sink.now in
    let b = g.K.Sink.written c.put_command.new.sink in
    let clock = c.issue-clock.result in
    on_ok-to c.put_command.result _ _ (λ wrote. λ h trace run k.
    let at = c.issue-clock.ensures.earliest h (bus_of run) k.stands.bus in
    let m = may_take c.args.self.now c.issue-clock.new.self h trace run c.args.rank clock c.args.command.now c.args.access.now (lent c.bytes_of.result) k at c.bytes_of.ensures in
    let read = c.in-Ok.ensures.line h (only c.args.rank trace) (run_of c.args.rank run) (requested c.args.access.now) m in
    record {
      clock = clock;
      earliest = at;
      stands = issued_stands c.args.self.now c.give.new.self c.issue-clock.new.self h trace run c.args.rank clock c.args.command.now c.args.access.now k.stands c.give.ensures.rest
          (c.issue-clock.ensures.stands h (bus_of run) k.stands.bus (k.ready.suits clock at))
          (c.in-Ok.ensures.stands h (only c.args.rank trace) (run_of c.args.rank run) (requested c.args.access.now) m);
      now = now_kept c.args.self.now c.give.new.self c.issue-clock.new.self c.args.rank clock c.give.ensures.rest c.issue-clock.ensures.now;
      wrote = subst (λ (lines : List RankReportLine). Appends a b (flat_map spelled_for lines))
          (shows c.answers_as_the_device.ensures.device c.serves_by_columns.ensures.some c.args.self.now h trace run c.args.rank clock c.args.command.now c.args.access.now c.in-Ok.found k at read) wrote;
    }) c.put_command.ensures.whole

pub returns-in-Ok-clause-begins_a_report : goal.returns-in-Ok-clause-begins_a_report
returns-in-Ok-clause-begins_a_report g c =
    let a = g.K.Sink.written c.args.sink.now in
    let b = g.K.Sink.written c.put_command.new.sink in
    let clock = c.issue-clock.result in
    if_err-to c.put_command.result _ _ (λ cut. λ h trace run k.
    let at = c.issue-clock.ensures.earliest h (bus_of run) k.stands.bus in
    let m = may_take c.args.self.now c.issue-clock.new.self h trace run c.args.rank clock c.args.command.now c.args.access.now (lent c.bytes_of.result) k at c.bytes_of.ensures in
    let read = c.in-Ok.ensures.line h (only c.args.rank trace) (run_of c.args.rank run) (requested c.args.access.now) m in
    record {
      clock = clock;
      earliest = at;
      wrote = subst (λ (lines : List RankReportLine). AppendsPrefix a b (flat_map spelled_for lines))
          (shows c.answers_as_the_device.ensures.device c.serves_by_columns.ensures.some c.args.self.now h trace run c.args.rank clock c.args.command.now c.args.access.now c.in-Ok.found k at read) cut;
    }) c.put_command.ensures.writes_a_prefix

pub returns-in-Err-clause-begins_a_report : goal.returns-in-Err-clause-begins_a_report
returns-in-Err-clause-begins_a_report g c = λ h trace run k. record {
  clock = c.issue-clock.result;
  earliest = c.issue-clock.ensures.earliest h (bus_of run) k.stands.bus;
  wrote = no-prefix (g.K.Sink.written c.args.sink.now) (flat_map spelled_for (latest_of h trace run (issues c.args.rank c.issue-clock.result c.args.command.now c.args.access.now)));
}
