use Rattle.std.proofs.Common.{◌≡◌, ◌∙◌, ◌+◌, ◌/◌, ◌<◌, ◌≤◌, slice_index, refl, sym, ap, arith}
use Rattle.speed_bin.specs.declared.settings.RefreshMode.TheVariants.{All, Same}
use Rattle.refresh_plan.specs.Held.{Held}
use Rattle.refresh_plan.specs.Standing.{StandsFor}
use Rattle.refresh_plan.proofs.Owing.{Fewest, nothing_due, early_where_nothing_due, most_behind}
use Rattle.refresh_plan.proofs.debts.Plan.due.Goals as goal

pub returns-then-clock-self-clause-none : goal.returns-then-clock-self-clause-none
unfolding StandsFor
returns-then-clock-self-clause-none c = λ h log stands.
    let early : c.args.clock / c.args.self.now.interval < slice_index c.args.self.now.refreshes c.most_behind-address.result + 2 = rw (← c.self.view_is, ← c.get.ensures.number) c.if-clock-self.true in
    let least : Fewest c.args.self.now.refreshes c.most_behind-address.result = record { in_range = c.most_behind-address.ensures.in_range; fewest = c.most_behind-address.ensures.fewest; first = c.most_behind-address.ensures.first } in
    (λ none. nothing_due c.args.self.now h log c.args.clock c.most_behind-address.result stands least early, λ nothing. refl)

pub returns-in-All-clause-none : goal.returns-in-All-clause-none
unfolding StandsFor
returns-in-All-clause-none c = λ h log stands.
    let late : slice_index c.args.self.now.refreshes c.most_behind-address.result + 2 ≤ c.args.clock / c.args.self.now.interval = rw (← c.self.view_is, ← c.get.ensures.number) c.if-clock-self.false in
    let least : Fewest c.args.self.now.refreshes c.most_behind-address.result = record { in_range = c.most_behind-address.ensures.in_range; fewest = c.most_behind-address.ensures.fewest; first = c.most_behind-address.ensures.first } in
    (λ e. absurd cc, λ nothing. absurd (omega (arith, early_where_nothing_due c.args.self.now h log c.args.clock c.most_behind-address.result stands least nothing)))

pub returns-in-Same-clause-none : goal.returns-in-Same-clause-none
unfolding StandsFor
returns-in-Same-clause-none c = λ h log stands.
    let late : slice_index c.args.self.now.refreshes c.most_behind-address.result + 2 ≤ c.args.clock / c.args.self.now.interval = rw (← c.self.view_is, ← c.get.ensures.number) c.if-clock-self.false in
    let least : Fewest c.args.self.now.refreshes c.most_behind-address.result = record { in_range = c.most_behind-address.ensures.in_range; fewest = c.most_behind-address.ensures.fewest; first = c.most_behind-address.ensures.first } in
    (λ e. absurd cc, λ nothing. absurd (omega (arith, early_where_nothing_due c.args.self.now h log c.args.clock c.most_behind-address.result stands least nothing)))

pub returns-in-All-clause-same : goal.returns-in-All-clause-same
unfolding StandsFor
returns-in-All-clause-same c = λ h log stands same.
    let other : All ≡ Same = sym c.in-All.is ∙ ap (λ (x : Held). x.mode) c.self.view_is ∙ stands.mode ∙ same in cc

pub returns-in-Same-clause-all : goal.returns-in-Same-clause-all
unfolding StandsFor
returns-in-Same-clause-all c = λ h log stands all.
    let other : Same ≡ All = sym c.in-Same.is ∙ ap (λ (x : Held). x.mode) c.self.view_is ∙ stands.mode ∙ all in absurd cc

pub returns-in-Same-clause-same : goal.returns-in-Same-clause-same
unfolding StandsFor
returns-in-Same-clause-same c = λ h log stands same.
    most_behind c.args.self.now h log c.args.clock c.most_behind-address.result stands (record { in_range = c.most_behind-address.ensures.in_range; fewest = c.most_behind-address.ensures.fewest; first = c.most_behind-address.ensures.first })
