use Rattle.row_counts.proofs.Steps.{same_tracked}
use Rattle.row_counts.proofs.bank_counts.BankCounts.tracked.Goals as goal

pub returns-clause-log : goal.returns-clause-log
returns-clause-log c = rw (← c.self.view_is) (λ h b log stands. (same_tracked _ h b c.greatest.result.0 c.greatest.result.1 log c.greatest.ensures.list stands).row_is)

pub returns-clause-count_of_log : goal.returns-clause-count_of_log
returns-clause-count_of_log c = rw (← c.self.view_is) (λ h b log stands. (same_tracked _ h b c.greatest.result.0 c.greatest.result.1 log c.greatest.ensures.list stands).count_is)
