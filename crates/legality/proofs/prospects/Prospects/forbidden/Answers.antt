use Rattle.std.proofs.Common.{◌≤◌, subst, sym}
use Rattle.legality.specs.Chances.{IsForbidden}
use Rattle.legality.specs.Standing.{StandsFor}
use Rattle.legality.proofs.Chancing.{is_forbidden}
use Rattle.legality.proofs.Legality.{best_kept, capped}
use Rattle.legality.proofs.prospects.Prospects.forbidden.Goals as goal

pub returns : goal.returns
unfolding StandsFor
returns c = λ h log stands.
    let one = subst (λ n. 1 ≤ n) (sym stands.interval) stands.accepted.timing.nrefi.0 in
    subst (λ o. IsForbidden h c.args.command.now log o) (sym (c.failing_at.ensures h log stands))
    (is_forbidden h _ c.args.command.now log (capped _ _ c.min.ensures)
    (best_kept h c.args.command.now log c.refreshes_in_time-refreshes.result _ c.min.ensures (capped _ _ c.min.ensures)
    (λ clock small. c.refreshes_in_time-refreshes.ensures.within h log stands.plan stands.interval one clock small)))
