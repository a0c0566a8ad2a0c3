use Rattle.std.proofs.Common.{ℕ, Option, ◌∷◌, sym, ap, subst}
use Rattle.backoff.specs.Standing.{StandsFor as AlertFor}
use Rattle.row_activity.specs.Standing.{StandsFor}
use Rattle.row_activity.specs.declared.activity.Activity.{Activity}
use Rattle.row_activity.proofs.RowLemmas.{early}
use Rattle.row_activity.proofs.activity.Activity.precharge.Goals as goal

pub after_precharge-requires : goal.after_precharge-requires
after_precharge-requires c = early c.args.self.now c.args.open_rows.now c.args.clock c.args.command.now c.requires

pub returns-clause-tracks : goal.returns-clause-tracks
unfolding StandsFor
returns-clause-tracks c = λ h log stands rows here same precharge.
    let counts = c.follow.ensures.follows h log stands rows here same in
    let closed = c.closes_some-closed.ensures log rows in
    let hot = c.is_hot-hot.ensures h (record { clock = c.args.clock; command = c.args.command.now } ∷ log) stands.accepted (stands.counted, here) counts in
    let before = subst (λ (a : Option ℕ). AlertFor a h log) (sym (ap (λ (it : Activity). it.alert) c.follow.ensures.rest)) stands.alert in
    record { counts = counts; alert = c.after_precharge.ensures.log h c.args.command.now log before precharge closed hot }
