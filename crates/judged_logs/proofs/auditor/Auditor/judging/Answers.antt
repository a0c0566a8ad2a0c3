use Rattle.std.proofs.Common.{[]}
use Rattle.judged_logs.proofs.Taking.{goes_on, has_judged, has_shape}
use Rattle.judged_logs.proofs.auditor.Auditor.judging.Goals as goal

pub returns-clause-geometry : goal.returns-clause-geometry
returns-clause-geometry c = has_shape c.in_ok-new.field-0 c.args.judged c.args.header.now [] c.in_ok-new.ensures.stands

pub returns-clause-going_on : goal.returns-clause-going_on
returns-clause-going_on c = goes_on c.in_ok-new.field-0 c.args.judged c.args.header.now [] c.in_ok-new.ensures.stands

pub returns-clause-judged : goal.returns-clause-judged
returns-clause-judged c = has_judged c.in_ok-new.field-0 c.args.judged c.args.header.now [] c.in_ok-new.ensures.stands
