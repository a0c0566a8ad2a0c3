use Rattle.std.proofs.Common.{refl}
use Rattle.ddr_text.specs.declared.lines.TraceLine.TheVariants.{Idle}
use Rattle.reports.proofs.Lines.{idles-line, passes-offered}
use Rattle.reports.proofs.Underway.{none-waits}
use Rattle.reports.proofs.Controlled.{idle-idle}
use Rattle.reports.proofs.laws.carries_out_an_idle.Goals as goal

pub returns-clause-stays_underway : goal.returns-clause-stays_underway
returns-clause-stays_underway c = λ h trace n now later run clocks u none le. idles-line h trace n now later run clocks u (none-waits c.oldest_unserved.ensures.none h trace run u.sound none) le

pub returns-clause-offered : goal.returns-clause-offered
returns-clause-offered c = λ trace clocks. passes-offered trace (Idle clocks) refl

pub returns-clause-idle : goal.returns-clause-idle
returns-clause-idle c = idle-idle
