use Rattle.std.proofs.Common.{◌≤◌, subst, sym}
use Rattle.legality.specs.Standing.{StandsFor}
use Rattle.legality.proofs.Legality.{limits_are}
use Rattle.legality.proofs.prospects.Prospects.span.Goals as goal

pub returns-clause-within : goal.returns-clause-within
unfolding StandsFor
returns-clause-within c = λ h log stands clock small.
    let one = subst (λ n. 1 ≤ n) (sym stands.interval) stands.accepted.timing.nrefi.0 in
    limits_are h clock c.args.command.now log _ _ _ _ _ _
    (c.earliest.ensures.least h.timing log stands.gate clock)
    (c.starting-spaced.ensures.within clock small)
    (c.refreshes_in_time-refreshed.ensures.within h log stands.plan stands.interval one clock small)
    (c.before_mitigation-alerted.ensures.within h log (c.alert.ensures h log stands.activity) stands.window stands.deadline clock small)
    (c.both.ensures.within clock) (c.both-2.ensures.within clock)
