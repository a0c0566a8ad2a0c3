use Rattle.reports.proofs.Through.{through-start as through-start_law, through-none as through-none_law, latest-none as latest-none_law, through-flip as through-flip_law, through-idle as through-idle_law, through-all as through-all_law, through-all_flips as through-all_flips_law}
use Rattle.reports.proofs.laws.goes_through.Goals as goal

pub returns-clause-start : goal.returns-clause-start
returns-clause-start c = through-start_law

pub returns-clause-none : goal.returns-clause-none
returns-clause-none c = through-none_law

pub returns-clause-none_lines : goal.returns-clause-none_lines
returns-clause-none_lines c = latest-none_law

pub returns-clause-flip : goal.returns-clause-flip
returns-clause-flip c = through-flip_law

pub returns-clause-idle : goal.returns-clause-idle
returns-clause-idle c = through-idle_law

pub returns-clause-all : goal.returns-clause-all
returns-clause-all c = through-all_law

pub returns-clause-all_flips : goal.returns-clause-all_flips
returns-clause-all_flips c = through-all_flips_law
