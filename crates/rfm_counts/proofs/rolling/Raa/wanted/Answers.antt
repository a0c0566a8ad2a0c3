use Rattle.std.proofs.Common.{◌≡◌, sym, refl, arith, Some}
use Rattle.rfm_counts.specs.Standing.{StandsFor}
use Rattle.rfm_counts.proofs.Wanting.{wanted_at_none, wanted_all, made, not_wanted, is_wanted_at}
use Rattle.rfm_counts.proofs.rolling.Raa.wanted.Goals as goal

some : (c : goal.After-new) → c.new.result ≡ Some c.loop-address.address
some c = made c.new.result c.loop-address.address c.new.ensures.in_range c.new.ensures.value (omega arith)

pub returns-then-is_high_at-clause-none : goal.returns-then-is_high_at-clause-none
unfolding StandsFor
returns-then-is_high_at-clause-none c = λ h log stands.
    let wanted = wanted_all h log c.loop-address.address (is_wanted_at c.args.self.now h log c.loop-address.address stands (sym c.if-is_high_at.ensures)) in
    rw (some c) (λ none. absurd cc, λ never. absurd cc)

pub returns-then-is_high_at-clause-wanted : goal.returns-then-is_high_at-clause-wanted
unfolding StandsFor
returns-then-is_high_at-clause-wanted c = λ h log stands.
    rw (some c) (is_wanted_at c.args.self.now h log c.loop-address.address stands (sym c.if-is_high_at.ensures))

pub returns-then-is_high_at-clause-least : goal.returns-then-is_high_at-clause-least
unfolding StandsFor
returns-then-is_high_at-clause-least c = λ h log stands.
    rw (some c) (λ other low. not_wanted c.args.self.now h log other stands (c.loop-address.invariant other low))

pub returns-clause-none : goal.returns-clause-none
unfolding StandsFor
returns-clause-none c = λ h log stands.
    (λ none. wanted_at_none h log (λ address low. not_wanted c.args.self.now h log address stands (c.loop-address.invariant address (omega arith))), λ never. refl)
