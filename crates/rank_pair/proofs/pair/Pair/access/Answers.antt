use Rattle.std.proofs.Common.{[], ◌∷◌, ◌++◌}
use Rattle.ddr_text.proofs.Prefixes.{if_err, if_err-to, on_ok-to}
use Rattle.rank_pair.proofs.pair.Pair.access.Goals as goal

pub read_or_write-requires : goal.read_or_write-requires
read_or_write-requires g c = let r = c.requires in (r.0, r.1, r.2, r.3, c.in_ok-open_row.ensures.opened r.0 r.1 r.2 r.3 r.4 r.5, r.5)

pub close-requires : goal.close-requires
close-requires g c =
    let r = c.requires in
    let o = c.in_ok-open_row.ensures.opened r.0 r.1 r.2 r.3 r.4 r.5 in
    (r.0, r.1 ++ r.2 ∷ [], r.3, c.in_ok-read_or_write.ensures.accessed r.0 r.1 r.2 r.3 o r.5)

pub returns-clause-closed : goal.returns-clause-closed
returns-clause-closed g c =
    on_ok-to c.close.result _ _ (λ closed. λ h front it before t asks.
    closed h (front ++ it ∷ []) before (c.in_ok-read_or_write.ensures.accessed h front it before (c.in_ok-open_row.ensures.opened h front it before t asks) asks)) c.close.ensures.closed

pub returns-clause-begins_a_report : goal.returns-clause-begins_a_report
returns-clause-begins_a_report g c =
    if_err-to c.close.result _ _ (λ cut. λ h front it before t asks.
    cut h (front ++ it ∷ []) before (c.in_ok-read_or_write.ensures.accessed h front it before (c.in_ok-open_row.ensures.opened h front it before t asks) asks)) c.close.ensures.begins_a_report

pub returns-in_err-open_row-clause-begins_a_report : goal.returns-in_err-open_row-clause-begins_a_report
returns-in_err-open_row-clause-begins_a_report g c = if_err c.from_residual.result _ (λ h front it before t asks. c.in_err-open_row.ensures.begins_a_report h front it before t asks)

pub returns-in_err-read_or_write-clause-begins_a_report : goal.returns-in_err-read_or_write-clause-begins_a_report
returns-in_err-read_or_write-clause-begins_a_report g c =
    if_err c.from_residual-in_err-read_or_write.result _ (λ h front it before t asks. c.in_err-read_or_write.ensures.begins_a_report h front it before (c.in_ok-open_row.ensures.opened h front it before t asks) asks)
