use Rattle.std.proofs.Math.Logic.{∥∥₁_map}
use Rattle.device_core.specs.Rows.{StandsFor}
use Rattle.device_core.proofs.Rules.{counted, fits}
use Rattle.device_core.proofs.activations.Activations.issue.Goals as goal

pub issue-requires : goal.issue-requires
unfolding StandsFor
issue-requires c = ∥∥₁_map c.requires (λ p. (p.0, p.1, p.2.activity, p.2.rows, counted p.0 c.args.clock c.args.command.now p.1 p.3))

pub issue-requires-2 : goal.issue-requires-2
unfolding StandsFor
issue-requires-2 c = ∥∥₁_map c.requires (λ p. (p.1, p.2.rows, fits p.0 c.args.clock c.args.command.now p.1 p.3))

pub returns : goal.returns
unfolding StandsFor
returns c = λ h log stands legal told. record {
  accepted = stands.accepted;
  legal = (stands.legal, legal);
  rows = c.issue-2.ensures c.args.clock log stands.rows (fits h c.args.clock c.args.command.now log legal);
  activity = c.issue.ensures h log stands.activity stands.rows (counted h c.args.clock c.args.command.now log legal) told;
}
