-- The bytes of a report, from the opening on: a started one, and one whose run is finished.
use Rattle.std.proofs.Common.{◌≡◌, ◌∙◌, ℕ, inl, inr, Option, Some, None, is_some, List, [], ◌∷◌, ◌++◌, refl, sym, ap, subst}
use Rattle.std.specs.List.{flat_map}
use Rattle.std.specs.Io.KnownBytes.{Appends}
use Rattle.std.proofs.KnownBytes.{Appends-trans, Appends-nil}
use Rattle.command_words.specs.Geometry.{Shape}
use Rattle.ddr_io.specs.Line.{next_bytes}
use Rattle.ddr_io.specs.Sink.{AppendsPrefix}
use Rattle.speed_bin.specs.Header.{IsAccepted, shape_of}
use Rattle.speed_bin.specs.declared.header.Header.{Header}
use Rattle.ddr_text.specs.Spelling.{spelled}
use Rattle.ddr_text.specs.declared.lines.TraceLine.{TraceLine}
use Rattle.ddr_text.specs.declared.lines.ReportLine.TheVariants.{End as EndLine}
use Rattle.reports.specs.Runs.{Run}
use Rattle.reports.specs.Delivered.{AreInside}
use Rattle.reports.specs.Report.{report}
use Rattle.reports.specs.Stats.{stats}
use Rattle.reports.specs.Sound.{Sound, IsRun}
use Rattle.reports.specs.Headline.{Headline}
use Rattle.reports.specs.Underway.{Ended}
use Rattle.ddr_text.specs.ReportParts.{refusal_lines}
use Rattle.trace_replay.specs.Coupled.{from_of}
use Rattle.trace_replay.specs.Ending.{end_lines, reason_in}
use Rattle.trace_replay.specs.Job.{trace_of, IsTrace, IsUsedUp}
use Rattle.trace_replay.specs.Reading.{IsRead, IsFront}
use Rattle.trace_replay.specs.ReplayState.{following, LoopInvariant, IsUnder, IsOver, IsStoppedByReadFault, IsBegun}
use Rattle.trace_replay.specs.Replay.{Starts, refusal_of, StopsServing, IsTraced, TraceAnswers, TraceServed}
use Rattle.ddr_text.specs.Stop.{status_of, WriteCause}
use Rattle.trace_replay.specs.declared.ending.Ending.{Ending}
use Rattle.trace_replay.specs.declared.replay_state.Ahead.{Ahead}
use Rattle.trace_replay.specs.declared.replay_state.Ahead.TheVariants.{Unknown, NextLine, Passes, End, Refused}
use Rattle.trace_replay.specs.declared.replay_state.ReplayState.{ReplayState}
use Rattle.ddr_text.specs.declared.stop.Stop.{Stop}
use Rattle.ddr_text.specs.declared.stop.Stop.TheVariants.{ReadFault, WriteFault, OutOfMemory}
use Rattle.ddr_text.proofs.Outcomes.{none-left}
use Rattle.ddr_text.proofs.Prefixes.{no-prefix, prefix-behind, prefix-longer}
use Rattle.trace_replay.proofs.LoopTrace.{LineLaws, no-lines, within-whole}

-- what is known of reports
pub record ReportLaws : Type 0 where
  pub promises : (h : Header) (trace : List TraceLine) (run : Run) (clock : ℕ) → IsAccepted h → AreInside (shape_of h) trace → IsRun h trace run clock → Headline h trace run clock
  pub report_is : (h : Header) (trace more : List TraceLine) (run : Run) → Sound h trace run → report h (trace ++ more) run ≡ report h trace run
  pub sound : (h : Header) (trace more : List TraceLine) (run : Run) → Sound h trace run → Sound h (trace ++ more) run
  pub lines : LineLaws

-- ---- A started report

-- the first bytes of the report of a run of the first lines of the trace
record IsStarted (h : Header) (text : List ℕ) (start before after : Option (List ℕ)) : Type 0 where
  trace : List TraceLine
  run : Run
  traced : IsTrace (shape_of h) trace
  sound : Sound h trace run
  read : IsFront (shape_of h) trace start
  wrote : AppendsPrefix before after (text ++ flat_map spelled (report h trace run))

-- the first bytes of a report of the whole trace
abbrev StartsWhole : Header → List ℕ → Option (List ℕ) → Option (List ℕ) → Option (List ℕ) → Type 0
StartsWhole h text start before after =
    (trace : List TraceLine) × (refused : Option ℕ) × IsTraced (shape_of h) start trace refused × IsTrace (shape_of h) trace × Starts h text trace refused before after

started-whole : ReportLaws → (h : Header) (text : List ℕ) (start before after : Option (List ℕ)) → IsStarted h text start before after → StartsWhole h text start before after
started-whole laws h text None before after s = (s.trace, None, tt, s.traced, (_, inl (s.run, s.wrote.0, s.sound, refl), s.wrote.2))
started-whole laws h text (Some bytes) before after s =
    let is : (trace_of (shape_of h) bytes).lines ≡ s.trace ++ s.read.0 = s.read.1 in
    let same : report h (trace_of (shape_of h) bytes).lines s.run ≡ report h s.trace s.run = ap (λ t. report h t s.run) is ∙ laws.report_is h s.trace s.read.0 s.run s.sound in
    let sound : Sound h (trace_of (shape_of h) bytes).lines s.run = subst (λ t. Sound h t s.run) (sym is) (laws.sound h s.trace s.read.0 s.run s.sound) in
    let wrote : AppendsPrefix before after (text ++ flat_map spelled (report h (trace_of (shape_of h) bytes).lines s.run))
    = subst (λ l. AppendsPrefix before after (text ++ flat_map spelled l)) (sym same) s.wrote in (
      (trace_of (shape_of h) bytes).lines,
      (trace_of (shape_of h) bytes).refused,
      refl,
      within-whole laws.lines (shape_of h) bytes,
      (_, inl (s.run, wrote.0, sound, refl), wrote.2),
    )

front-none : (g : Shape) (start : Option (List ℕ)) → IsFront g [] start
front-none g None = tt
front-none g (Some bytes) = ((trace_of g bytes).lines, refl)

opening-started : (h : Header) (text : List ℕ) (start before after : Option (List ℕ)) → AppendsPrefix before after text → IsStarted h text start before after
opening-started h text start before after cut = record {
  trace = [];
  run = [];
  traced = no-lines (shape_of h);
  sound = tt;
  read = front-none (shape_of h) start;
  wrote = prefix-longer before after text [] cut;
}

begun-started : (h : Header) (text : List ℕ) (start before now after : Option (List ℕ)) → Appends before now text → IsBegun h start now after → IsStarted h text start before after
begun-started h text start before now after first k = record {
  trace = k.trace;
  run = k.run;
  traced = k.traced;
  sound = k.sound;
  read = k.read;
  wrote = prefix-behind before now after text (flat_map spelled (report h k.trace k.run)) first k.wrote;
}

starting : ReportLaws → (stop : Stop) (h : Header) (text : List ℕ) (start left before after : Option (List ℕ)) (a b : ℕ) → WriteCause a b stop → IsStarted h text start before after → TraceAnswers (status_of stop) h text start left before after
starting laws ReadFault h text start left before after a b cause s = absurd cause
starting laws WriteFault h text start left before after a b cause s = inl (started-whole laws h text start before after s)
starting laws OutOfMemory h text start left before after a b cause s = inl (started-whole laws h text start before after s)

-- ---- Where serving stopped

-- before the first turn no line was written
pub under-start : (h : Header) (p : ReplayState) (start left written : Option (List ℕ)) → LoopInvariant h p [] [] → IsRead (shape_of h) [] p.ahead start left → IsUnder h p start left written written
under-start h p start left written k r = record { trace = []; run = []; holds = k; read = r; wrote = Appends-nil written }

pub stops-at-once : ReportLaws → (stop : Stop) (h : Header) (text : List ℕ) (start left before : Option (List ℕ)) → stop ≡ OutOfMemory → TraceAnswers (status_of stop) h text start left before before
stops-at-once laws stop h text start left before is =
    subst (λ (s : Stop). TraceAnswers (status_of s) h text start left before before) (sym is)
    (starting laws OutOfMemory h text start left before before 0 0 refl (opening-started h text start before before (no-prefix before text)))

pub stops-opening : ReportLaws → (stop : Stop) (h : Header) (text : List ℕ) (start left before after : Option (List ℕ)) (a b : ℕ) → WriteCause a b stop → AppendsPrefix before after text → TraceAnswers (status_of stop) h text start left before after
stops-opening laws stop h text start left before after a b cause cut = starting laws stop h text start left before after a b cause (opening-started h text start before after cut)

left-off : (h : Header) (text : List ℕ) (start left before now after : Option (List ℕ)) → Appends before now text → IsStoppedByReadFault h start left now after → TraceAnswers (status_of ReadFault) h text start left before after
left-off h text start left before now after first k = inr (
  k.trace,
  k.read,
  k.traced,
  (
    text ++ flat_map spelled (report h k.trace k.run),
    (k.run, k.sound, k.few, refl),
    Appends-trans before now after text (flat_map spelled (report h k.trace k.run)) first k.wrote,
  ),
)

pub stops-serving : ReportLaws → (stop : Stop) (h : Header) (text : List ℕ) (start left before now after : Option (List ℕ)) → Appends before now text → StopsServing stop h start left now after → TraceAnswers (status_of stop) h text start left before after
stops-serving laws ReadFault h text start left before now after first k = left-off h text start left before now after first k
stops-serving laws WriteFault h text start left before now after first k = inl (started-whole laws h text start before after (begun-started h text start before now after first k))
stops-serving laws OutOfMemory h text start left before now after first k = inl (started-whole laws h text start before after (begun-started h text start before now after first k))

-- ---- A run that is finished

traced-whole : (g : Shape) (trace : List TraceLine) (ahead : Ahead) (start left : Option (List ℕ)) → following ahead ≡ Ended → IsRead g trace ahead start left → IsTraced g start trace (reason_in ahead)
traced-whole g trace Unknown start left e k = cc
traced-whole g trace (NextLine line) start left e k = cc
traced-whole g trace (Passes clocks) start left e k = cc
traced-whole g trace End None left e k = tt
traced-whole g trace End (Some bytes) left e k = k.0
traced-whole g trace (Refused reason) None left e k = tt
traced-whole g trace (Refused reason) (Some bytes) left e k = k

used-up : (g : Shape) (trace : List TraceLine) (ahead : Ahead) (start : Option (List ℕ)) (held : List ℕ) (left : Option (List ℕ)) → following ahead ≡ Ended → IsRead g trace ahead start (next_bytes held left) → reason_in ahead ≡ None → IsUsedUp start left
used-up g trace Unknown start held left e k none = cc
used-up g trace (NextLine line) start held left e k none = cc
used-up g trace (Passes clocks) start held left e k none = cc
used-up g trace End None held left e k none = tt
used-up g trace End (Some bytes) held left e k none = none-left held left k.1
used-up g trace (Refused reason) start held left e k none = cc

pub served : ReportLaws → (h : Header) (text : List ℕ) (p : ReplayState) (start before now after : Option (List ℕ)) (held : List ℕ) (left : Option (List ℕ)) (ending : Ending) → Appends before now text → IsOver h p start (next_bytes held left) now after
    → ending.clock ≡ from_of p.coupled → is_some ending.refusal ≡ is_some (reason_in p.ahead)
    → ((k : Header) (trace : List TraceLine) (run : Run) → LoopInvariant k p trace run → end_lines ending ≡ stats k trace run ++ EndLine (from_of p.coupled) ∷ refusal_lines (refusal_of trace (reason_in p.ahead)))
    → TraceServed h text start left before after ending
served laws h text p start before now after held left ending first o clock shown lines =
    let u = o.under in
    let f = u.holds.follows in
    let finished : IsRun h u.trace u.run ending.clock = subst (IsRun h u.trace u.run) (sym clock) o.finished in (
      u.trace,
      reason_in p.ahead,
      traced-whole (shape_of h) u.trace p.ahead start (next_bytes held left) o.last u.read,
      f.traced,
      record {
        run = u.run;
        used_up = used-up (shape_of h) u.trace p.ahead start held left o.last u.read;
        is_run = finished;
        promises = laws.promises h u.trace u.run ending.clock f.accepted f.traced.inside finished;
        wrote = Appends-trans before now after text (flat_map spelled (report h u.trace u.run)) first u.wrote;
        ends = lines h u.trace u.run u.holds ∙ ap (λ n. stats h u.trace u.run ++ EndLine n ∷ refusal_lines (refusal_of u.trace (reason_in p.ahead))) (sym clock);
        shown = shown;
      },
    )
