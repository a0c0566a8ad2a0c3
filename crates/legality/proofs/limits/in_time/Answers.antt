use Rattle.std.proofs.Common.{◌∙◌, ◌∷◌, ◌↔◌, ℕ, ◌-◌, ◌*◌, ◌≤◌, ◌^◌, min, ap, subst}
use Rattle.legality.specs.Within.{IsWithin}
use Rattle.legality.proofs.Spans.{on_time_is}
use Rattle.legality.proofs.limits.in_time.Goals as goal

pub returns-clause-within : goal.returns-clause-within
returns-clause-within c = λ h log plan same one clock small.
    on_time_is h clock c.args.address (record { clock = clock; command = c.args.command.now } ∷ log) c.args.interval c.refreshes_with-refreshes.result
    c.saturating_mul-behind.result c.saturating_mul-first.result c.starting.result c.ending.result c.both.result same one small
    (c.refreshes_with-refreshes.ensures.counted h log clock plan)
    (c.saturating_mul-first.ensures ∙ ap (λ (x : ℕ). min (x * c.args.interval) (2 ^ 64 - 1)) c.saturating_sub.ensures)
    c.saturating_mul-behind.ensures
    (c.starting.ensures.within clock small)
    (subst (λ (x : ℕ). IsWithin c.ending.result clock ↔ (clock ≤ x)) c.saturating_sub-2.ensures (c.ending.ensures.within clock small))
    (c.both.ensures.within clock)
