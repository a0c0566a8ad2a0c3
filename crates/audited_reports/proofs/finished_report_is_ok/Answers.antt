-- The laws of the crates below, and what follows from them.
use Rattle.audited_reports.proofs.Finished.{FinishedLaws, finished}
use Rattle.audited_reports.proofs.finished_report_is_ok.Goals as goal

pub returns : goal.returns
returns c =
    let laws : FinishedLaws = record {
      ended = c.ended_run_is_ok.ensures.finding;
      verdict = λ h trace run clock accepted inside r. (c.headline.ensures.promises h trace run clock accepted inside r).rules;
      few = c.stays_below_the_limit.ensures.lines;
    } in
    record { finding = λ h job text rest trace refusal bytes opens. finished laws h job text rest trace refusal bytes (c.opened_header_is_accepted.ensures.accepted h job text rest opens) opens }
