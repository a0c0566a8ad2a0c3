use Rattle.std.proofs.Common.{ℕ, ◌≡◌, ◌≤◌, ◌-◌, Option, List}
use Rattle.ddr_io.specs.Line.{next_bytes}
use Rattle.speed_bin.specs.declared.header.Header.{Header}
use Rattle.ddr_text.specs.declared.lines.TraceLine.{TraceLine}
use Rattle.reports.specs.Runs.{Run}
use Rattle.trace_replay.specs.Job.{MOST}
use Rattle.trace_replay.specs.declared.replay_state.Ahead.TheVariants.{Refused}
use Rattle.trace_replay.specs.ReplayState.{LoopInvariant, IsUnder, MayGoOn, left_of}
use Rattle.trace_replay.proofs.replay_state.ReplayState.offer_all.Given as goal

abbrev pub invariant-lines : goal.invariant-lines
invariant-lines g l = record {
  holds : (h : Header) × (trace : List TraceLine) × (run : Run) × LoopInvariant h l.self trace run;
  under : (h : Header) (start before written : Option (List ℕ)) → IsUnder h l.initial.self start (next_bytes l.initial.reader.held (g.S.Source.left l.initial.source)) before written
      → IsUnder h l.self start (next_bytes l.reader.held (g.S.Source.left l.source)) before written;
  going_on : MayGoOn l.self.ahead l.reader.last;
  fewer : left_of l.self ≤ left_of l.initial.self;
  kept : g.S.Source.faults l.source ≡ g.S.Source.faults l.initial.source;
  unasked : (reason : ℕ) → l.initial.self.ahead ≡ Refused reason → (l.source ≡ l.initial.source) × (l.self.ahead ≡ Refused reason);
}

abbrev pub decreases-lines : goal.decreases-lines
decreases-lines g l = MOST - l.self.tally.lines
