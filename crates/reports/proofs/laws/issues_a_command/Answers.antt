use Rattle.reports.proofs.Turns.{issues, issued-steps}
use Rattle.reports.proofs.laws.issues_a_command.Goals as goal

pub returns-clause-stays_underway : goal.returns-clause-stays_underway
returns-clause-stays_underway c = issues c.queue_is_window.ensures.window

pub returns-clause-steps : goal.returns-clause-steps
returns-clause-steps c = issued-steps
