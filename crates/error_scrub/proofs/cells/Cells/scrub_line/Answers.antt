use Rattle.std.proofs.Common.{ℕ, ◌∙◌, BTreeMap, ap, refl}
use Rattle.std.specs.Ordering.{nat_cmp}
use Rattle.std.specs.BTreeMap.{get}
use Rattle.error_scrub.specs.declared.stored.Stored.{Stored}
use Rattle.error_scrub.specs.Cells.{cells_shape, stored, word_in}
use Rattle.error_scrub.proofs.ZeroWords.{scrubbed-zero, zero-not_fixed, zero-not_lost, zero_at}
use Rattle.error_scrub.proofs.cells.Cells.scrub_line.Goals as goal

pub returns-in-None-clause-line : goal.returns-in-None-clause-line
unfolding stored cells_shape
returns-in-None-clause-line c =
    let same = c.get_mut.follows.holds-at-none in
    let none = c.in-None.ensures.value in
    record {
      inside = c.requires;
      shape = refl;
      changed = λ device near.
          ap (λ (k : BTreeMap ℕ Stored). word_in (get nat_cmp k c.args.line) device) same
          ∙ scrubbed-zero c.args.self.now c.args.line device none;
      others = λ other device apart. ap (λ (k : BTreeMap ℕ Stored). word_in (get nat_cmp k other) device) same;
    }

pub returns-in-None-clause-fixed : goal.returns-in-None-clause-fixed
returns-in-None-clause-fixed c =
    let none = c.in-None.ensures.value in
    rw (
      zero_at c.args.self.now c.args.line 0 none,
      zero_at c.args.self.now c.args.line 1 none,
      zero_at c.args.self.now c.args.line 2 none,
      zero_at c.args.self.now c.args.line 3 none,
      zero-not_fixed,
    )

pub returns-in-None-clause-lost : goal.returns-in-None-clause-lost
returns-in-None-clause-lost c =
    let none = c.in-None.ensures.value in
    rw (
      zero_at c.args.self.now c.args.line 0 none,
      zero_at c.args.self.now c.args.line 1 none,
      zero_at c.args.self.now c.args.line 2 none,
      zero_at c.args.self.now c.args.line 3 none,
      zero-not_lost,
    )
