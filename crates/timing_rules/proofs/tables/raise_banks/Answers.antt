use Rattle.std.proofs.Common.{◌≡◌, max, if◌then◌else◌, slice_index, refl, sym, subst}
use Rattle.timing_rules.specs.Reach.{blocked_until}
use Rattle.timing_rules.specs.Scope.{is_within}
use Rattle.timing_rules.specs.declared.scope.Scope.{Scope}
use Rattle.timing_rules.proofs.Raised.{unraised, raised_none}
use Rattle.timing_rules.proofs.tables.raise_banks.Goals as goal

pub returns-then-clocks-eq0-clause-entries : goal.returns-then-clocks-eq0-clause-entries
returns-then-clocks-eq0-clause-entries c = λ b low. unraised (is_within c.args.scope b) c.args.clock c.args.clocks _ c.if-clocks-eq0.true

pub returns-in-Bank-clause-entries : goal.returns-in-Bank-clause-entries
returns-in-Bank-clause-entries c = λ b low.
    subst (λ (s : Scope). slice_index c.raise_bank.new.table b ≡ max (blocked_until c.args.clock (if is_within s b then c.args.clocks else 0)) (slice_index c.args.table.now b)) (sym c.in-Bank.is)
    (c.raise_bank.ensures.entries b low)

pub returns-in-Nothing-clause-entries : goal.returns-in-Nothing-clause-entries
returns-in-Nothing-clause-entries c = λ b low.
    subst (λ (s : Scope). slice_index c.args.table.now b ≡ max (blocked_until c.args.clock (if is_within s b then c.args.clocks else 0)) (slice_index c.args.table.now b)) (sym c.in-Nothing.is)
    (raised_none c.args.clock 0 (slice_index c.args.table.now b) refl)
