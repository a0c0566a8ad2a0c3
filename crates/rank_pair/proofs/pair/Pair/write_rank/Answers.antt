use Rattle.std.proofs.Common.{◌∙◌, arith, refl, rules}
use Rattle.ddr_text.proofs.Prefixes.{if_err}
use Rattle.rank_pair.proofs.Registered.{turn_of, written_all}
use Rattle.rank_pair.proofs.pair.Pair.write_rank.Goals as goal

pub loop-register-init : goal.loop-register-init
loop-register-init g c = record { holds = c.requires; goes = λ h before is w. w; reached = omega arith; kept = refl }

pub write-requires : goal.write-requires
write-requires g c =
    let r = c.loop-register.invariant.holds in
    (r.0, r.1, c.loop-register.register-index, turn_of r.0 c.args.writes.now c.loop-register.register-index _ r.2 c.loop-register-test.true (search rules), r.3)

pub loop-register-preserved : goal.loop-register-preserved
loop-register-preserved g c =
    let i = c.loop-register.invariant in
    let r = i.holds in
    record {
      holds = (r.0, r.1, r.2, c.in_ok-write.ensures.written r.0 r.1 c.loop-register.register-index (turn_of r.0 c.args.writes.now c.loop-register.register-index _ r.2 c.loop-register-test.true (search rules)) r.3);
      goes = λ h before is w. c.in_ok-write.ensures.written h before c.loop-register.register-index (turn_of h c.args.writes.now c.loop-register.register-index _ is c.loop-register-test.true (search rules)) (i.goes h before is w);
      reached = (let a = c.loop-register-test.true in omega (arith, a));
      kept = c.in_ok-write.ensures.faults_kept ∙ i.kept;
    }

pub returns-clause-written : goal.returns-clause-written
returns-clause-written g c = λ h before is w.
    written_all c.loop-register.self h c.args.writes.now c.args.rank c.loop-register.register-index before (g.K.Sink.written c.loop-register.sink) is c.loop-register.invariant.reached c.loop-register-test.false (c.loop-register.invariant.goes h before is w)

pub returns-in_err-write-clause-begins_a_report : goal.returns-in_err-write-clause-begins_a_report
returns-in_err-write-clause-begins_a_report g c =
    if_err c.from_residual.result _ (λ h before is w.
    c.in_err-write.ensures.begins_a_report h before c.loop-register.register-index (turn_of h c.args.writes.now c.loop-register.register-index _ is c.loop-register-test.true (search rules)) (c.loop-register.invariant.goes h before is w))
