use Rattle.ddr_cli.proofs.Newer.{bytes-are, old-opens, upgraded-opens, verdict-kept}
use Rattle.ddr_cli.proofs.laws.keeps_the_verdict.Goals as goal

pub returns : goal.returns
returns c = record { bytes = bytes-are; opened = old-opens; opens = upgraded-opens; finding = verdict-kept }
