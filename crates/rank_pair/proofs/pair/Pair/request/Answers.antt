use Rattle.std.proofs.Common.{[], ◌∷◌, ◌++◌}
use Rattle.ddr_text.proofs.Prefixes.{if_err, if_err-to, on_ok-to}
use Rattle.rank_pair.proofs.pair.Pair.request.Goals as goal

pub serve_behind-requires : goal.serve_behind-requires
serve_behind-requires g c =
    let r = c.requires in
    let t = c.in_ok-access.ensures.closed r.0 r.1 r.2 r.3 r.4 r.5 in
    (r.0, r.1 ++ r.2 ∷ [], _, t.until, r.3, t.under)

pub returns-clause-done : goal.returns-clause-done
returns-clause-done g c =
    on_ok-to c.serve_behind.result _ _ (λ served. λ h front it before t asks.
    let u = c.in_ok-access.ensures.closed h front it before t asks in
    record { since = u.since; until = u.until; under = served h (front ++ it ∷ []) (record { front = front ++ it ∷ []; since = u.since }) u.until before u.under }) c.serve_behind.ensures.served

pub returns-clause-begins_a_report : goal.returns-clause-begins_a_report
returns-clause-begins_a_report g c =
    if_err-to c.serve_behind.result _ _ (λ cut. λ h front it before t asks.
    let u = c.in_ok-access.ensures.closed h front it before t asks in
    cut h (front ++ it ∷ []) (record { front = front ++ it ∷ []; since = u.since }) u.until before u.under) c.serve_behind.ensures.begins_a_report

pub returns-in_err-access-clause-begins_a_report : goal.returns-in_err-access-clause-begins_a_report
returns-in_err-access-clause-begins_a_report g c = if_err c.from_residual.result _ (λ h front it before t asks. c.in_err-access.ensures.begins_a_report h front it before t asks)
