use Rattle.std.proofs.Common.{◌∙◌, ◌<◌, subst, arith, inl, refl}
use Rattle.ddr_text.proofs.Prefixes.{if_err}
use Rattle.rank_bus.specs.Standing.{now_of}
use Rattle.rank_pair.specs.Under.{IsServedOnce, WorksOnce}
use Rattle.rank_pair.proofs.Served.{moved_more, moved_no_more}
use Rattle.rank_pair.proofs.pair.Pair.serve_rank.Goals as goal

pub turns-init : goal.turns-init
turns-init g c = record { holds = c.requires; goes = λ h trace mark until before u. u; moved = inl refl; kept = refl }

pub turns-smaller : goal.turns-smaller
turns-smaller g c =
    let a : now_of c.turns.self.bus < now_of c.serve_once.new.self.bus = (subst (λ t. WorksOnce t c.turns.self.bus c.serve_once.new.self.bus c.args.rank) c.if-not-branch.false c.in_ok-serve_once.ensures.worked) in
    let b = c.serve_once.ensures.small in
    omega (arith, a, b)

pub turns-preserved : goal.turns-preserved
turns-preserved g c =
    let r = c.turns.invariant.holds in
    record {
      holds = (r.0, r.1, r.2, r.3, r.4, (subst (λ t. IsServedOnce t c.serve_once.new.self r.0 r.1 r.2 r.3 c.args.rank r.4 (g.K.Sink.written c.serve_once.new.sink)) c.if-not-branch.false (c.in_ok-serve_once.ensures.served r.0 r.1 r.2 r.3 r.4 r.5)));
      goes = λ h trace mark until before u. (subst (λ t. IsServedOnce t c.serve_once.new.self h trace mark until c.args.rank before (g.K.Sink.written c.serve_once.new.sink)) c.if-not-branch.false (c.in_ok-serve_once.ensures.served h trace mark until before (c.turns.invariant.goes h trace mark until before u)));
      moved = moved_more c.args.self.now.bus c.turns.self.bus c.serve_once.new.self.bus c.turns.invariant.moved (subst (λ t. WorksOnce t c.turns.self.bus c.serve_once.new.self.bus c.args.rank) c.if-not-branch.false c.in_ok-serve_once.ensures.worked);
      kept = c.in_ok-serve_once.ensures.faults_kept ∙ c.turns.invariant.kept;
    }

pub returns-then-not-branch-clause-served : goal.returns-then-not-branch-clause-served
returns-then-not-branch-clause-served g c = λ h trace mark until before u.
    (subst (λ t. IsServedOnce t c.serve_once.new.self h trace mark until c.args.rank before (g.K.Sink.written c.serve_once.new.sink)) c.if-not-branch.true (c.in_ok-serve_once.ensures.served h trace mark until before (c.turns.invariant.goes h trace mark until before u)))

pub returns-then-not-branch-clause-worked : goal.returns-then-not-branch-clause-worked
returns-then-not-branch-clause-worked g c =
    let w = (subst (λ t. WorksOnce t c.turns.self.bus c.serve_once.new.self.bus c.args.rank) c.if-not-branch.true c.in_ok-serve_once.ensures.worked) in
    moved_no_more c.args.self.now.bus c.turns.self.bus c.serve_once.new.self.bus c.args.rank c.turns.invariant.moved w.0 w.1

pub returns-in_err-serve_once-clause-begins_a_report : goal.returns-in_err-serve_once-clause-begins_a_report
returns-in_err-serve_once-clause-begins_a_report g c =
    if_err c.from_residual.result _ (λ h trace mark until before u. c.in_err-serve_once.ensures.begins_a_report h trace mark until before (c.turns.invariant.goes h trace mark until before u))
