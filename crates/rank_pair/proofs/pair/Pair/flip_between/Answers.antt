use Rattle.std.proofs.Common.{[], ◌∷◌, ◌++◌, refl}
use Rattle.ddr_text.proofs.Prefixes.{if_err, if_err-to, on_ok-to}
use Rattle.ddr_text.specs.declared.lines.TraceLine.TheVariants.{Flip}
use Rattle.rank_pair.proofs.pair.Pair.flip_between.Goals as goal

pub serve-requires : goal.serve-requires
serve-requires g c =
    let m = c.requires in
    let t = c.in_ok-flip.ensures.flipped m.h m.front (record { rank = c.args.rank; line = Flip c.args.line c.args.device c.args.bit }) m.before m.there refl m.traced in
    (m.h, m.front ++ record { rank = c.args.rank; line = Flip c.args.line c.args.device c.args.bit } ∷ [], _, t.until, m.before, t.under)

pub returns-clause-done : goal.returns-clause-done
returns-clause-done g c =
    on_ok-to c.serve.result _ _ (λ served. λ h front it before t is traced.
    let u = c.in_ok-flip.ensures.flipped h front it before t is traced in
    record { since = u.since; until = u.until; under = served h (front ++ it ∷ []) (record { front = front ++ it ∷ []; since = u.since }) u.until before u.under }) c.serve.ensures.served

pub returns-clause-begins_a_report : goal.returns-clause-begins_a_report
returns-clause-begins_a_report g c =
    if_err-to c.serve.result _ _ (λ cut. λ h front it before t is traced.
    let u = c.in_ok-flip.ensures.flipped h front it before t is traced in
    cut h (front ++ it ∷ []) (record { front = front ++ it ∷ []; since = u.since }) u.until before u.under) c.serve.ensures.begins_a_report

pub returns-in_err-flip-clause-begins_a_report : goal.returns-in_err-flip-clause-begins_a_report
returns-in_err-flip-clause-begins_a_report g c = if_err c.from_residual.result _ (λ h front it before t is traced. c.in_err-flip.ensures.begins_a_report h front it before t is traced)
