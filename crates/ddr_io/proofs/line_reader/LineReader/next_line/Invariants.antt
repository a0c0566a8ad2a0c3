use Rattle.std.proofs.Common.{◌≡◌, ◌-◌, ◌≤◌, ◌<◌, length, take}
use Rattle.std.specs.Io.KnownBytes.{Keeps}
use Rattle.ddr_io.specs.Line.{HasFeed, HasNoFeed, next_bytes}
use Rattle.ddr_io.specs.declared.line_reader.TheConstants.{MAX_LINE}
use Rattle.ddr_io.specs.declared.line_reader.Line.TheVariants.{Text}
use Rattle.ddr_io.proofs.Taking.{Taken}
use Rattle.ddr_io.proofs.line_reader.LineReader.next_line.Given as goal

abbrev pub invariant-loop-at : goal.invariant-loop-at
invariant-loop-at g l = record {
  going_on : l.initial.self.last ≡ Text;
  kept : Keeps (next_bytes l.initial.self.held (g.S.Source.left l.initial.source)) (next_bytes l.self.held (g.S.Source.left l.source));
  unread : HasFeed l.initial.self.held → (l.self.held ≡ l.initial.self.held) × (l.source ≡ l.initial.source);
  taken : Taken l.initial.self.held l.self.held (g.S.Source.left l.initial.source) (g.S.Source.left l.source);
  counted : g.S.Source.faults l.source ≡ g.S.Source.faults l.initial.source;
  within : l.clean ≤ length l.self.held;
  short : l.clean < MAX_LINE;
  searched : HasNoFeed (take l.clean l.self.held);
}

abbrev pub decreases-loop-at : goal.decreases-loop-at
decreases-loop-at g l = MAX_LINE - length l.self.held
