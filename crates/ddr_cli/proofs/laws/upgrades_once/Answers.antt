use Rattle.ddr_cli.proofs.Newer.{twice}
use Rattle.ddr_cli.proofs.laws.upgrades_once.Goals as goal

pub returns : goal.returns
returns c = twice
