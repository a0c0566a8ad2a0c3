use Rattle.row_counts.proofs.Steps.{same_hot}
use Rattle.row_counts.proofs.bank_counts.BankCounts.hot.Goals as goal

pub returns : goal.returns
returns c = record {
  log = λ h b log stands.
      let held = rw (← c.self.view_is) at stands in
      same_hot _ h b c.tracked.result.1 log (c.tracked.ensures.count_of_log h b log stands) held;
}
