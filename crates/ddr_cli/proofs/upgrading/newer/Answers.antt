use Rattle.std.proofs.Common.{sym}
use Rattle.ddr_cli.proofs.UpgradeLemmas.{newer-else, newer-then}
use Rattle.ddr_cli.proofs.upgrading.newer.Goals as goal

pub returns-then-is_plain : goal.returns-then-is_plain
returns-then-is_plain c = λ line is. newer-then c.args.separator.now line is (sym c.if-is_plain.ensures)

pub returns-else-is_plain : goal.returns-else-is_plain
returns-else-is_plain c = λ line is. newer-else c.args.separator.now line is (sym c.if-is_plain.ensures)
