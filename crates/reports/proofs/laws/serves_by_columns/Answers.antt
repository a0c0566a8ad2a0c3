use Rattle.std.proofs.Common.{◌∙◌, ap}
use Rattle.std.specs.Prelude.{option_map}
use Rattle.speed_bin.specs.Header.{shape_of}
use Rattle.reports.specs.Accesses.{access_of}
use Rattle.reports.specs.Runs.{log_of}
use Rattle.reports.proofs.Columns.{none-column, some-column}
use Rattle.reports.proofs.Kept.{fourth-rule}
use Rattle.reports.proofs.Served.{next-unserved}
use Rattle.reports.proofs.laws.serves_by_columns.Goals as goal

pub returns-clause-none : goal.returns-clause-none
returns-clause-none c = λ h trace run s sound e. none-column (shape_of h) s.issued.command (log_of run) (fourth-rule h s.issued.clock s.issued.command (log_of run) sound.rules) (sound.is_of ∙ ap (option_map access_of) e)

pub returns-clause-some : goal.returns-clause-some
returns-clause-some c = λ h trace run s r sound e. some-column (shape_of h) s.issued.command (log_of run) r (sound.is_of ∙ ap (option_map access_of) e)

pub returns-clause-next : goal.returns-clause-next
returns-clause-next c = next-unserved
