-- What ends a report: its lines one behind the other, and that they are those of the run.
use Rattle.std.proofs.Common.{◌≡◌, ◌∙◌, ◌+◌, ℕ, Option, List, [], ◌∷◌, ◌++◌, append_assoc, length, is_some, sym, ap, subst, Result, Ok, Err, IfErr}
use Rattle.std.specs.List.{flat_map}
use Rattle.std.specs.Io.KnownBytes.{Appends}
use Rattle.std.proofs.lemmas.Grind.{flat_map-append}
use Rattle.ddr_io.specs.Sink.{AppendsPrefix}
use Rattle.speed_bin.specs.Counts.{log_counts, peak as peak_after}
use Rattle.speed_bin.specs.Log.{Log}
use Rattle.speed_bin.specs.declared.header.Header.{Header}
use Rattle.error_scrub.specs.declared.scrub.ScrubCounts.{ScrubCounts}
use Rattle.requests.specs.declared.request.Request.{Request as Asked}
use Rattle.device_core.specs.Steps.{Step as DeviceStep, log_of as device_log}
use Rattle.device_core.specs.Stored.{scrub_counts}
use Rattle.ddr_text.specs.Spelling.{spelled}
use Rattle.ddr_text.specs.declared.lines.ReportLine.{ReportLine}
use Rattle.ddr_text.specs.declared.lines.ReportLine.TheVariants.{End as EndLine, Refused as RefusedLine}
use Rattle.ddr_text.specs.declared.lines.TraceLine.{TraceLine}
use Rattle.reports.specs.Delivered.{device_steps}
use Rattle.reports.specs.Runs.{Run, log_of}
use Rattle.reports.specs.Stats.{stats, stat_lines}
use Rattle.reports.specs.Report.{report}
use Rattle.ddr_text.specs.ReportParts.{Refusal, refusal_lines}
use Rattle.reports.specs.Whole.{whole}
use Rattle.trace_replay.specs.Counts.{counts_of, with_peak}
use Rattle.trace_replay.specs.Coupled.{Step, StandsFor, from_of, log_of as steps_log, device_steps as stored_steps}
use Rattle.trace_replay.specs.Ending.{end_lines, refused_line, reason_in}
use Rattle.trace_replay.specs.ReplayState.{LoopInvariant, Refuses}
use Rattle.trace_replay.specs.Replay.{refusal_of}
use Rattle.trace_replay.specs.declared.counts.Counts.{Counts}
use Rattle.trace_replay.specs.declared.ending.Ending.{Ending}
use Rattle.trace_replay.specs.declared.replay_state.Ahead.{Ahead}
use Rattle.trace_replay.specs.declared.replay_state.Ahead.TheVariants.{Unknown, NextLine, Passes, End, Refused}
use Rattle.trace_replay.specs.declared.replay_state.ReplayState.{ReplayState}
use Rattle.ddr_text.proofs.Prefixes.{prefix-behind}

-- ---- One piece behind the other

pub cut-behind : {T E : Type 0} (r : Result T E) (a b c : Option (List ℕ)) (xs ys : List ℕ) → Appends a b xs → IfErr r (λ e. AppendsPrefix b c ys) → IfErr r (λ e. AppendsPrefix a c (xs ++ ys))
cut-behind (Ok x) a b c xs ys h cut = tt
cut-behind (Err e) a b c xs ys h cut = prefix-behind a b c xs ys h cut

pub lines-cut-behind : {T E : Type 0} (r : Result T E) (a b c : Option (List ℕ)) (lines more : List ReportLine) → Appends a b (flat_map spelled lines) → IfErr r (λ e. AppendsPrefix b c (flat_map spelled more))
    → IfErr r (λ e. AppendsPrefix a c (flat_map spelled (lines ++ more)))
lines-cut-behind (Ok x) a b c lines more h cut = tt
lines-cut-behind (Err e) a b c lines more h cut =
    subst (AppendsPrefix a c) (sym (flat_map-append spelled lines more)) (prefix-behind a b c (flat_map spelled lines) (flat_map spelled more) h cut)

-- ---- The S lines of a run

-- what holds of the lists of both ends, and of what they count
pub record Known (h : Header) (p : ReplayState) (peak : ℕ) (scrub : ScrubCounts) : Type 0 where
  pub one_log : (steps : List Step) → device_log (stored_steps steps) ≡ steps_log steps
  pub device_log_is : (trace : List TraceLine) (run : Run) → device_log (device_steps h trace run) ≡ log_of run
  pub peak_is : (offers : List Asked) (idle : ℕ) (steps : List Step) → StandsFor p.coupled h offers idle steps → peak ≡ peak_after h (steps_log steps)
  pub scrub_is : (offers : List Asked) (idle : ℕ) (steps : List Step) → StandsFor p.coupled h offers idle steps → scrub ≡ scrub_counts h (stored_steps steps)

pub stats-are : (h : Header) (p : ReplayState) (peak : ℕ) (scrub : ScrubCounts) (trace : List TraceLine) (run : Run) → Known h p peak scrub → LoopInvariant h p trace run → stat_lines (with_peak p.counts peak) scrub ≡ stats h trace run
unfolding counts_of
stats-are h p peak scrub trace run known k =
    let device = k.both.are_of.device in
    let log : steps_log k.both.steps ≡ log_of run = sym (known.one_log k.both.steps) ∙ ap (λ (steps : List DeviceStep). device_log steps) device ∙ known.device_log_is trace run in
    let highest : peak ≡ peak_after h (log_of run) = known.peak_is _ _ k.both.steps k.both.stands ∙ ap (λ (l : Log). peak_after h l) log in
    let scrubbed : scrub ≡ scrub_counts h (device_steps h trace run) = known.scrub_is _ _ k.both.steps k.both.stands ∙ ap (λ (steps : List DeviceStep). scrub_counts h steps) device in
    ap (λ (counts : Counts). stat_lines (with_peak counts peak) scrub) k.counts
    ∙ ap (λ (n : ℕ). stat_lines (with_peak (counts_of h (log_of run)) n) scrub) highest
    ∙ ap (λ (s : ScrubCounts). stat_lines (log_counts h (log_of run)) s) scrubbed

-- ---- The X line

pub refusal-is : (ahead : Ahead) (trace : List TraceLine) (lines : ℕ) (refusal : Option (ℕ × ℕ)) → length trace ≡ lines → Refuses ahead lines refusal → refused_line refusal ≡ refusal_lines (refusal_of trace (reason_in ahead))
refusal-is Unknown trace lines refusal e r = ap refused_line r
refusal-is (NextLine line) trace lines refusal e r = ap refused_line r
refusal-is (Passes clocks) trace lines refusal e r = ap refused_line r
refusal-is End trace lines refusal e r = ap refused_line r
refusal-is (Refused reason) trace lines refusal e r = ap refused_line r ∙ ap (λ (n : ℕ). RefusedLine (n + 1) reason ∷ []) (sym e)

pub refused-where : (ahead : Ahead) (lines : ℕ) (refusal : Option (ℕ × ℕ)) → Refuses ahead lines refusal → is_some refusal ≡ is_some (reason_in ahead)
refused-where Unknown lines refusal r = ap (λ (o : Option (ℕ × ℕ)). is_some o) r
refused-where (NextLine line) lines refusal r = ap (λ (o : Option (ℕ × ℕ)). is_some o) r
refused-where (Passes clocks) lines refusal r = ap (λ (o : Option (ℕ × ℕ)). is_some o) r
refused-where End lines refusal r = ap (λ (o : Option (ℕ × ℕ)). is_some o) r
refused-where (Refused reason) lines refusal r = ap (λ (o : Option (ℕ × ℕ)). is_some o) r

-- ---- All of them

pub ending-is : (h : Header) (p : ReplayState) (it : Ending) (trace : List TraceLine) (run : Run) → it.counts ≡ p.counts → it.clock ≡ from_of p.coupled → Known h p it.peak it.scrub → Refuses p.ahead p.tally.lines it.refusal → LoopInvariant h p trace run
    → end_lines it ≡ stats h trace run ++ EndLine (from_of p.coupled) ∷ refusal_lines (refusal_of trace (reason_in p.ahead))
ending-is h p it trace run counted clock known refused k =
    ap (λ (counts : Counts). stat_lines (with_peak counts it.peak) it.scrub ++ EndLine it.clock ∷ refused_line it.refusal) counted
    ∙ ap (λ (lines : List ReportLine). lines ++ EndLine it.clock ∷ refused_line it.refusal) (stats-are h p it.peak it.scrub trace run known k)
    ∙ ap (λ (n : ℕ). stats h trace run ++ EndLine n ∷ refused_line it.refusal) clock
    ∙ ap (λ (lines : List ReportLine). stats h trace run ++ EndLine (from_of p.coupled) ∷ lines) (refusal-is p.ahead trace p.tally.lines it.refusal k.follows.tally.lines refused)

-- ---- Behind the lines of the run

pub whole-is : (h : Header) (trace : List TraceLine) (run : Run) (clock : ℕ) (refusal : Option Refusal) (it : Ending) → end_lines it ≡ stats h trace run ++ EndLine clock ∷ refusal_lines refusal
    → report h trace run ++ end_lines it ≡ whole h trace run clock refusal
whole-is h trace run clock refusal it e =
    ap (λ (lines : List ReportLine). report h trace run ++ lines) e ∙ sym (append_assoc (report h trace run) (stats h trace run) (EndLine clock ∷ refusal_lines refusal))
