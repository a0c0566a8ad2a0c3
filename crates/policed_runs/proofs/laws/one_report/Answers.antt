use Rattle.policed_runs.proofs.OneReport.{same_report, started_front}
use Rattle.policed_runs.proofs.laws.one_report.Goals as goal

pub returns : goal.returns
returns c = record {
  whole = same_report c.one_run.ensures.run c.one_run.ensures.clock;
  started = started_front c.goes_on.ensures c.goes_on-2.ensures;
}
