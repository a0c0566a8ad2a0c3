use Rattle.std.proofs.Common.{◌∷◌, sym}
use Rattle.std.proofs.Math.Logic.{∥∥₁_map}
use Rattle.rfm_counts.proofs.tests.step.Goals as goal

pub issue-requires : goal.issue-requires
issue-requires c = ∥∥₁_map c.requires (λ r. (r.0, r.1, r.2, sym (c.if-not-is_allowed.ensures r.0 r.1 r.2)))

pub returns : goal.returns
returns c = ∥∥₁_map c.requires (λ r. (r.0, record { clock = 0; command = c.args.command.now } ∷ r.1, c.issue.ensures r.0 0 r.1 r.2 (sym (c.if-not-is_allowed.ensures r.0 r.1 r.2))))
