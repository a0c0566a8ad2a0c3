use Rattle.std.proofs.Common.{arith}
use Rattle.ddr_text.proofs.Prefixes.{if_err-to, on_ok-to}
use Rattle.pair_reports.specs.Runs.{bus_of}
use Rattle.rank_pair.proofs.Waits.{due_passes, target_low, waited}
use Rattle.rank_pair.proofs.pair.Pair.serve_at.Goals as goal

pub wait-requires : goal.wait-requires
wait-requires g c =
    let m = c.requires in
    let low = target_low c.deadline_laws.ensures c.args.self.now m.h m.trace m.mark m.until m.before (g.K.Sink.written c.args.sink.now) m.under in
    let a = m.within in
    omega (arith, a, low)

pub serve-requires : goal.serve-requires
serve-requires g c =
    let m = c.requires in (
      m.h,
      m.trace,
      m.mark,
      m.until,
      m.before,
      waited c.deadline_laws.ensures c.args.self.now c.wait.new.self m.h m.trace m.mark m.until c.args.due m.before (g.K.Sink.written c.args.sink.now) m.under m.within
          (λ earlier low. (m.due_at m.h (bus_of m.under.run) earlier m.under.under.on_bus.stands.bus).0 low)
          (c.wait.ensures.stands m.h (bus_of m.under.run) m.under.under.on_bus.stands.bus) c.wait.ensures.now,
    )

pub returns-clause-served : goal.returns-clause-served
returns-clause-served g c =
    let m = c.requires in
    on_ok-to c.serve.result _ _ (λ served. λ h trace mark until before u within.
    served h trace mark until before
    (waited c.deadline_laws.ensures c.args.self.now c.wait.new.self h trace mark until c.args.due before (g.K.Sink.written c.args.sink.now) u within
    (λ earlier low. (m.due_at h (bus_of u.run) earlier u.under.on_bus.stands.bus).0 low) (c.wait.ensures.stands h (bus_of u.run) u.under.on_bus.stands.bus) c.wait.ensures.now)) c.serve.ensures.served

pub returns-clause-later : goal.returns-clause-later
returns-clause-later g c =
    let m = c.requires in
    let stands = m.under.under.on_bus.stands.bus in
    on_ok-to c.serve.result _ _ (λ worked. due_passes c.args.self.now c.wait.new.self c.serve.new.self.bus m.h m.under.run c.args.due m.due_at stands (c.wait.ensures.stands m.h (bus_of m.under.run) stands) c.wait.ensures.now worked) c.serve.ensures.worked

pub returns-clause-begins_a_report : goal.returns-clause-begins_a_report
returns-clause-begins_a_report g c =
    let m = c.requires in
    if_err-to c.serve.result _ _ (λ cut. λ h trace mark until before u within.
    cut h trace mark until before
    (waited c.deadline_laws.ensures c.args.self.now c.wait.new.self h trace mark until c.args.due before (g.K.Sink.written c.args.sink.now) u within
    (λ earlier low. (m.due_at h (bus_of u.run) earlier u.under.on_bus.stands.bus).0 low) (c.wait.ensures.stands h (bus_of u.run) u.under.on_bus.stands.bus) c.wait.ensures.now)) c.serve.ensures.begins_a_report
