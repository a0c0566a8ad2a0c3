use Rattle.std.specs.Io.KnownBytes.{Keeps}
use Rattle.ddr_io.proofs.real_sink.write_uninterrupted.Given as goal

-- a failed write took nothing
abbrev pub invariant-tries : goal.invariant-tries
invariant-tries g l = Keeps (g.W.Write.contents l.initial.writer) (g.W.Write.contents l.writer)
