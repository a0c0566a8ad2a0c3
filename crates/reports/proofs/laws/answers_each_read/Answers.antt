use Rattle.reports.proofs.Answered.{each_read_answered as each_read_answered_law, values-report as values-report_law, values-begin as values-begin_law, values-latest as values-latest_law}
use Rattle.reports.proofs.laws.answers_each_read.Goals as goal

pub returns-clause-finished : goal.returns-clause-finished
returns-clause-finished c = each_read_answered_law

pub returns-clause-unfinished : goal.returns-clause-unfinished
returns-clause-unfinished c = values-report_law

pub returns-clause-begins : goal.returns-clause-begins
returns-clause-begins c = values-begin_law

pub returns-clause-due : goal.returns-clause-due
returns-clause-due c = values-latest_law
