use Rattle.std.proofs.Common.{◌≡◌, ◌++◌, drop}
use Rattle.std.specs.Vec.Iter.{into_iter_items}
use Rattle.ddr_cli.proofs.command_line.words_of.Given as goal

abbrev pub invariant-each : goal.invariant-each
invariant-each l = l.words.items ++ into_iter_items l.word-iterator ≡ drop 1 (into_iter_items l.fn.line)
