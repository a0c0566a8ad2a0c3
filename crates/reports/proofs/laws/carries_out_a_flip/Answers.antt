use Rattle.std.proofs.Common.{refl}
use Rattle.ddr_text.specs.declared.lines.TraceLine.TheVariants.{Flip}
use Rattle.reports.proofs.Lines.{flips-line, passes-offered, flip-latest}
use Rattle.reports.proofs.Underway.{none-waits}
use Rattle.reports.proofs.Controlled.{flip-idle}
use Rattle.reports.proofs.laws.carries_out_a_flip.Goals as goal

pub returns-clause-stays_underway : goal.returns-clause-stays_underway
returns-clause-stays_underway c = λ h trace n now run line device bit u none. flips-line h trace n now run line device bit u (none-waits c.oldest_unserved.ensures.none h trace run u.sound none)

pub returns-clause-offered : goal.returns-clause-offered
returns-clause-offered c = λ trace line device bit. passes-offered trace (Flip line device bit) refl

pub returns-clause-lines : goal.returns-clause-lines
returns-clause-lines c = flip-latest

pub returns-clause-idle : goal.returns-clause-idle
returns-clause-idle c = flip-idle
