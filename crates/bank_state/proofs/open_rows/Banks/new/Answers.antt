use Rattle.bank_state.proofs.Steps.{stands_at_first}
use Rattle.bank_state.proofs.open_rows.Banks.new.Goals as goal

pub returns : goal.returns
returns c = stands_at_first
