use Rattle.bank_state.specs.Standing.{StandsFor}
use Rattle.bank_state.proofs.Counting.{count_test}
use Rattle.bank_state.proofs.open_rows.Banks.all_closed.Goals as goal

pub returns : goal.returns
unfolding StandsFor
returns c = λ log stands. count_test c.self.inside.rows log c.self.inside.opened c.self.invariant (rw (← c.self.view_is) at stands)
