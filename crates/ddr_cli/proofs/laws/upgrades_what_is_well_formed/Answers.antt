use Rattle.ddr_cli.proofs.Newer.{only-well-formed, status-is}
use Rattle.ddr_cli.proofs.laws.upgrades_what_is_well_formed.Goals as goal

pub returns : goal.returns
returns c = record { fine = status-is; only = only-well-formed }
