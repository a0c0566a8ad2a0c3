use Rattle.bank_state.specs.Standing.{StandsForSome}
use Rattle.bank_state.proofs.tests.commands_in_turn.Given as goal

abbrev pub invariant-loop-command : goal.invariant-loop-command
invariant-loop-command g l = StandsForSome l.banks
