use Rattle.std.proofs.Common.{[], ◌∷◌, ◌++◌, subst}
use Rattle.ddr_text.proofs.Prefixes.{if_err-to, on_ok-to}
use Rattle.ddr_text.specs.declared.lines.TraceLine.TheVariants.{Flip}
use Rattle.speed_bin.specs.Header.{shape_of}
use Rattle.pair_reports.specs.declared.rank_line.RankLine.{RankLine}
use Rattle.rank_pair.specs.Job.{IsPairTrace}
use Rattle.rank_pair.proofs.Carried.{asks_read, asks_write, same_line}
use Rattle.rank_pair.proofs.pair.Pair.carry_out.Goals as goal

pub request-requires : goal.request-requires
request-requires g c =
    let m = c.requires in
    (m.h, m.front, c.args.it.now, m.before, m.there, asks_read m.h m.front c.args.it.now c.args.number c.in-Read.line c.read_of.result c.in-Read.is c.read_of.ensures m.numbered m.traced)

pub returns-in-Read-clause-done : goal.returns-in-Read-clause-done
returns-in-Read-clause-done g c =
    on_ok-to c.request.result _ _ (λ done. λ h front before t traced counted.
    done h front c.args.it.now before t (asks_read h front c.args.it.now c.args.number c.in-Read.line c.read_of.result c.in-Read.is c.read_of.ensures counted traced)) c.request.ensures.done

pub returns-in-Read-clause-begins_a_report : goal.returns-in-Read-clause-begins_a_report
returns-in-Read-clause-begins_a_report g c =
    if_err-to c.request.result _ _ (λ cut. λ h front before t traced counted.
    cut h front c.args.it.now before t (asks_read h front c.args.it.now c.args.number c.in-Read.line c.read_of.result c.in-Read.is c.read_of.ensures counted traced)) c.request.ensures.begins_a_report

pub request-requires-in-Write : goal.request-requires-in-Write
request-requires-in-Write g c =
    let m = c.requires in
    (m.h, m.front, c.args.it.now, m.before, m.there, asks_write m.h m.front c.args.it.now c.args.number c.in-Write.line c.in-Write.bytes c.write_of.result c.in-Write.is c.write_of.ensures m.numbered m.traced)

pub returns-in-Write-clause-done : goal.returns-in-Write-clause-done
returns-in-Write-clause-done g c =
    on_ok-to c.request-in-Write.result _ _ (λ done. λ h front before t traced counted.
    done h front c.args.it.now before t (asks_write h front c.args.it.now c.args.number c.in-Write.line c.in-Write.bytes c.write_of.result c.in-Write.is c.write_of.ensures counted traced)) c.request-in-Write.ensures.done

pub returns-in-Write-clause-begins_a_report : goal.returns-in-Write-clause-begins_a_report
returns-in-Write-clause-begins_a_report g c =
    if_err-to c.request-in-Write.result _ _ (λ cut. λ h front before t traced counted.
    cut h front c.args.it.now before t (asks_write h front c.args.it.now c.args.number c.in-Write.line c.in-Write.bytes c.write_of.result c.in-Write.is c.write_of.ensures counted traced)) c.request-in-Write.ensures.begins_a_report

pub flip_between-requires : goal.flip_between-requires
flip_between-requires g c =
    let m = c.requires in
    record {
      h = m.h;
      front = m.front;
      before = m.before;
      there = m.there;
      traced = subst (λ (it : RankLine). IsPairTrace (shape_of m.h) (m.front ++ it ∷ [])) (same_line c.args.it.now (Flip c.in-Flip.line c.in-Flip.device c.in-Flip.bit) c.in-Flip.is) m.traced;
    }

pub returns-in-Flip-clause-done : goal.returns-in-Flip-clause-done
returns-in-Flip-clause-done g c =
    on_ok-to c.flip_between.result _ _ (λ done. λ h front before t traced counted.
    done h front c.args.it.now before t (same_line c.args.it.now (Flip c.in-Flip.line c.in-Flip.device c.in-Flip.bit) c.in-Flip.is) traced) c.flip_between.ensures.done

pub returns-in-Flip-clause-begins_a_report : goal.returns-in-Flip-clause-begins_a_report
returns-in-Flip-clause-begins_a_report g c =
    if_err-to c.flip_between.result _ _ (λ cut. λ h front before t traced counted.
    cut h front c.args.it.now before t (same_line c.args.it.now (Flip c.in-Flip.line c.in-Flip.device c.in-Flip.bit) c.in-Flip.is) traced) c.flip_between.ensures.begins_a_report

pub idle_between-requires : goal.idle_between-requires
idle_between-requires g c =
    let m = c.requires in
    record { h = m.h; front = m.front; it = c.args.it.now; before = m.before; there = m.there; idles = c.in-Idle.is; traced = m.traced }

pub returns-in-Idle-clause-done : goal.returns-in-Idle-clause-done
returns-in-Idle-clause-done g c =
    on_ok-to c.idle_between.result _ _ (λ done. λ h front before t traced counted. done h front c.args.it.now before t c.in-Idle.is traced) c.idle_between.ensures.done

pub returns-in-Idle-clause-begins_a_report : goal.returns-in-Idle-clause-begins_a_report
returns-in-Idle-clause-begins_a_report g c =
    if_err-to c.idle_between.result _ _ (λ cut. λ h front before t traced counted. cut h front c.args.it.now before t c.in-Idle.is traced) c.idle_between.ensures.begins_a_report
