use Rattle.std.proofs.Common.{[]}
use Rattle.log_auditor.proofs.Taking.{goes_on, has_shape}
use Rattle.log_auditor.proofs.auditor.Auditor.new.Goals as goal

pub returns-clause-geometry : goal.returns-clause-geometry
returns-clause-geometry c = has_shape c.in_ok-new.field-0 c.args.header.now [] c.in_ok-new.ensures.stands

pub returns-clause-going_on : goal.returns-clause-going_on
returns-clause-going_on c = goes_on c.in_ok-new.field-0 c.args.header.now [] c.in_ok-new.ensures.stands
