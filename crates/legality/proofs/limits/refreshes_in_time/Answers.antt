use Rattle.std.proofs.Common.{◌∷◌}
use Rattle.speed_bin.specs.Rules.{is_on_time}
use Rattle.legality.proofs.Spans.{four_are}
use Rattle.legality.proofs.limits.refreshes_in_time.Goals as goal

pub returns-clause-within : goal.returns-clause-within
returns-clause-within c = λ h log plan same one clock small.
    four_are (λ address. is_on_time h clock address (record { clock = clock; command = c.args.command.now } ∷ log)) clock _ _ _ _ _ _ _
    (c.in_time.ensures.within h log plan same one clock small)
    (c.in_time-2.ensures.within h log plan same one clock small)
    (c.in_time-3.ensures.within h log plan same one clock small)
    (c.in_time-4.ensures.within h log plan same one clock small)
    (c.both.ensures.within clock) (c.both-2.ensures.within clock) (c.both-3.ensures.within clock)
