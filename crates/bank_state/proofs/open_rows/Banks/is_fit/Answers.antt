use Rattle.bank_state.specs.Standing.{StandsFor}
use Rattle.bank_state.proofs.Fitting.{asks_same, closed_at_test}
use Rattle.std.proofs.Common.{◌∙◌}
use Rattle.bank_state.proofs.open_rows.Banks.is_fit.Goals as goal

pub returns-in-RefSb : goal.returns-in-RefSb
unfolding StandsFor
returns-in-RefSb c = λ log stands. closed_at_test c.args.self.now c.in-RefSb.address log c.closed_at.result c.closed_at.ensures stands ∙ asks_same c.args.command.now c.in-RefSb.address log c.in-RefSb.is
