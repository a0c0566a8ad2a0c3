use Rattle.std.proofs.Common.{refl}
use Rattle.reports.specs.Requests.{requests}
use Rattle.reports.specs.Runs.{held}
use Rattle.reports.proofs.Literal.{literal}
use Rattle.reports.proofs.Window.{queue-window}
use Rattle.reports.proofs.laws.window_is_the_queue.Goals as goal

pub returns-clause-window : goal.returns-clause-window
returns-clause-window c = queue-window c.queue_is_window.ensures.window

pub returns-clause-by_lines : goal.returns-clause-by_lines
returns-clause-by_lines c = λ h trace run sound. literal h trace run (held (requests trace) run) sound refl
