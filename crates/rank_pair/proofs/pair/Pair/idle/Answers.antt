use Rattle.std.proofs.Common.{ℕ, ◌∙◌, ◌+◌, [], ◌∷◌, ◌++◌, arith, subst, sym}
use Rattle.ddr_text.proofs.Prefixes.{if_err}
use Rattle.pair_deadlines.specs.Keeping.{Resting}
use Rattle.pair_reports.specs.Runs.{bus_of}
use Rattle.rank_bus.specs.Standing.{now_of}
use Rattle.rank_pair.specs.Under.{Mark, IsUnder}
use Rattle.rank_pair.proofs.OneCommand.{with_bus}
use Rattle.rank_pair.proofs.Served.{now_low}
use Rattle.rank_pair.proofs.Waits.{aimed, idled, target_low, waited}
use Rattle.rank_pair.proofs.pair.Pair.idle.Goals as goal

pub serve-requires : goal.serve-requires
serve-requires g c =
    let m = c.requires in
    (m.h, m.front ++ m.it ∷ [], _, _, m.before, aimed c.deadline_laws.ensures c.args.self.now m.h m.front m.it c.args.clocks m.before (g.K.Sink.written c.args.sink.now) m.there m.idles m.traced)

pub overflow_add-target : goal.overflow_add-target
overflow_add-target g c =
    let m = c.requires in
    let w = g.K.Sink.written c.args.sink.now in
    let low = target_low c.deadline_laws.ensures c.args.self.now m.h (m.front ++ m.it ∷ []) _ _ m.before w (aimed c.deadline_laws.ensures c.args.self.now m.h m.front m.it c.args.clocks m.before w m.there m.idles m.traced) in
    let e = c.now.ensures.now in
    omega (arith, low, e)

pub waits-init : goal.waits-init
waits-init g c =
    let w = g.K.Sink.written c.args.sink.now in
    let v = g.K.Sink.written c.serve.new.sink in
    let m = c.requires in
    let mark : Mark = record { front = m.front; since = now_of c.args.self.now.bus } in
    record {
      holds = (
        m.h,
        m.front ++ m.it ∷ [],
        mark,
        m.before,
        subst (λ (n : ℕ). IsUnder c.serve.new.self m.h (m.front ++ m.it ∷ []) mark (n + c.args.clocks) Resting m.before v) (sym c.now.ensures.now)
            (c.in_ok-serve.ensures.served m.h (m.front ++ m.it ∷ []) _ _ m.before (aimed c.deadline_laws.ensures c.args.self.now m.h m.front m.it c.args.clocks m.before w m.there m.idles m.traced)),
      );
      goes = λ h front it before t is traced.
          subst (λ (n : ℕ). IsUnder c.serve.new.self h (front ++ it ∷ []) (record { front = front; since = now_of c.args.self.now.bus }) (n + c.args.clocks) Resting before v) (sym c.now.ensures.now)
          (c.in_ok-serve.ensures.served h (front ++ it ∷ []) _ _ before (aimed c.deadline_laws.ensures c.args.self.now h front it c.args.clocks before w t is traced));
      kept = c.in_ok-serve.ensures.faults_kept;
    }

pub serve_at-requires : goal.serve_at-requires
serve_at-requires g c =
    let r = c.waits.invariant.holds in
    record { h = r.0; trace = r.1; mark = r.2; until = c.now.result + c.args.clocks; before = r.3; under = r.4; within = omega (arith, c.if-due-target.false); due_at = λ h log clock stands. c.next_due-due.ensures h log clock stands }

pub waits-smaller : goal.waits-smaller
waits-smaller g c =
    let r = c.waits.invariant.holds in
    let a = c.in_ok-serve_at.ensures.later in
    let b = now_low c.deadline_laws.ensures c.waits.self r.0 r.1 r.4.run (c.now.result + c.args.clocks) Resting r.4.under.on_bus in
    omega (arith, a, b)

pub waits-preserved : goal.waits-preserved
waits-preserved g c =
    let r = c.waits.invariant.holds in
    let target = c.now.result + c.args.clocks in
    record {
      holds = (r.0, r.1, r.2, r.3, c.in_ok-serve_at.ensures.served r.0 r.1 r.2 target r.3 r.4 (omega (arith, c.if-due-target.false)));
      goes = λ h front it before t is traced. c.in_ok-serve_at.ensures.served h (front ++ it ∷ []) _ target before (c.waits.invariant.goes h front it before t is traced) (omega (arith, c.if-due-target.false));
      kept = c.in_ok-serve_at.ensures.faults_kept ∙ c.waits.invariant.kept;
    }

pub wait-requires : goal.wait-requires
wait-requires g c =
    let r = c.waits.invariant.holds in
    let low = target_low c.deadline_laws.ensures c.waits.self r.0 r.1 r.2 (c.now.result + c.args.clocks) r.3 (g.K.Sink.written c.waits.sink) r.4 in
    omega (arith, low)

pub returns-clause-idled : goal.returns-clause-idled
returns-clause-idled g c = λ h front it before t is traced.
    let target = c.now.result + c.args.clocks in
    let u = c.waits.invariant.goes h front it before t is traced in
    let mark : Mark = record { front = front; since = now_of c.args.self.now.bus } in
    let past = c.if-due-target.true in
    let stands = u.under.on_bus.stands.bus in
    let w = waited c.deadline_laws.ensures c.waits.self c.wait.new.self h (front ++ it ∷ []) mark target target before (g.K.Sink.written c.waits.sink) u (omega arith)
    (λ earlier low. (c.next_due-due.ensures h (bus_of u.run) earlier stands).0 (omega (arith, low, past))) (c.wait.ensures.stands h (bus_of u.run) stands) c.wait.ensures.now in
    idled (with_bus c.waits.self c.wait.new.self) h front it c.args.clocks (now_of c.args.self.now.bus) target before (g.K.Sink.written c.waits.sink) is w
    (let e = c.now.ensures.now in let n = c.wait.ensures.now in omega (arith, e, n))

pub returns-in_err-serve-clause-begins_a_report : goal.returns-in_err-serve-clause-begins_a_report
returns-in_err-serve-clause-begins_a_report g c =
    if_err c.from_residual.result _ (λ h front it before t is traced.
    c.in_err-serve.ensures.begins_a_report h (front ++ it ∷ []) (record { front = front; since = now_of c.args.self.now.bus }) (now_of c.args.self.now.bus + c.args.clocks) before
    (aimed c.deadline_laws.ensures c.args.self.now h front it c.args.clocks before (g.K.Sink.written c.args.sink.now) t is traced))

pub returns-in_err-serve_at-clause-begins_a_report : goal.returns-in_err-serve_at-clause-begins_a_report
returns-in_err-serve_at-clause-begins_a_report g c =
    if_err c.from_residual-in_err-serve_at.result _ (λ h front it before t is traced.
    c.in_err-serve_at.ensures.begins_a_report h (front ++ it ∷ []) (record { front = front; since = now_of c.args.self.now.bus }) (c.now.result + c.args.clocks) before (c.waits.invariant.goes h front it before t is traced)
    (omega (arith, c.if-due-target.false)))
