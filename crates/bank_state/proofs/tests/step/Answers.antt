use Rattle.std.proofs.Common.{◌∷◌, refl}
use Rattle.std.proofs.Math.Logic.{∥∥₁_map}
use Rattle.bank_state.proofs.tests.step.Goals as goal

pub issue-requires : goal.issue-requires
issue-requires c = ∥∥₁_map c.requires (λ r. (r.0, r.1, (c.in_ok-fits.ensures.fits r.0 r.1).0 refl))

pub returns : goal.returns
returns c = ∥∥₁_map c.requires (λ r. (record { clock = 0; command = c.args.command.now } ∷ r.0, c.issue.ensures 0 r.0 r.1 ((c.in_ok-fits.ensures.fits r.0 r.1).0 refl)))
