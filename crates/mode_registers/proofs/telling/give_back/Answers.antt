use Rattle.mode_registers.proofs.Before.{told-before}
use Rattle.mode_registers.proofs.telling.give_back.Goals as goal

pub returns-clause-before : goal.returns-clause-before
returns-clause-before c = told-before
