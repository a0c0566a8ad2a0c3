use Rattle.std.proofs.Common.{◌∙◌, sym}
use Rattle.speed_bin.proofs.Accepted.{checks_pass}
use Rattle.speed_bin.proofs.read.checked.Goals as goal

pub returns-in-None-clause-accepted : goal.returns-in-None-clause-accepted
returns-in-None-clause-accepted c = record {
  timing = c.requires.timing;
  settings = c.requires.settings;
  version = c.cycle-cycle.ensures.in_range;
  checks = checks_pass c.args.header (sym c.failing_check.ensures ∙ c.in-None.is);
}
