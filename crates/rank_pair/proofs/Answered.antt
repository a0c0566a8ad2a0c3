-- What is answered, by the lines that were carried out and written.
use Rattle.std.proofs.Common.{◌≡◌, ◌∙◌, ℕ, ◌+◌, inl, inr, refl, sym, ap, subst, List, [], ◌∷◌, ◌++◌, take, Option, Some, None, IsSome, append-nil, append_assoc}
use Rattle.std.specs.List.{flat_map}
use Rattle.std.specs.Io.KnownBytes.{Appends}
use Rattle.std.proofs.KnownBytes.{Appends-trans}
use Rattle.std.proofs.lemmas.Grind.{flat_map-append}
use Rattle.command_words.specs.Geometry.{Shape}
use Rattle.ddr_io.specs.Line.{next_bytes}
use Rattle.ddr_io.specs.Sink.{AppendsPrefix}
use Rattle.ddr_io.specs.declared.status.Status.{Status}
use Rattle.ddr_io.specs.declared.status.Status.TheVariants as status
use Rattle.ddr_text.proofs.Outcomes.{none-left}
use Rattle.ddr_text.proofs.Prefixes.{no-prefix, prefix-behind, prefix-longer}
use Rattle.ddr_text.specs.ReportParts.{refusal_lines}
use Rattle.ddr_text.specs.Spelling.{spelled}
use Rattle.ddr_text.specs.Stop.{WriteCause, status_of}
use Rattle.ddr_text.specs.declared.stop.Stop.{Stop}
use Rattle.ddr_text.specs.declared.stop.Stop.TheVariants.{ReadFault, WriteFault, OutOfMemory}
use Rattle.pair_deadlines.specs.Keeping.{Resting}
use Rattle.rank_bus.specs.Standing.{now_of}
use Rattle.rank_bus.specs.declared.rank.Rank.TheVariants.{Zero, One}
use Rattle.speed_bin.specs.Header.{shape_of}
use Rattle.speed_bin.specs.declared.header.Header.{Header}
use Rattle.pair_reports.proofs.Grown.{begun_longer, begun_report_longer}
use Rattle.pair_reports.specs.Lines.{deeds, lines_of}
use Rattle.pair_reports.specs.Report.{end_of, pair_bytes, pair_report, spelled_for, whole_pair}
use Rattle.pair_reports.specs.Runs.{PairRun}
use Rattle.pair_reports.specs.Sound.{IsBegun, IsPairRun}
use Rattle.pair_reports.specs.declared.rank_line.RankLine.{RankLine}
use Rattle.pair_reports.specs.declared.rank_line.RankReportLine.{RankReportLine}
use Rattle.rank_pair.specs.Answers.{Closes, IsTraced, IsUsedUp, JobAnswers, PairReports, Starts, TraceAnswers, refusal_of}
use Rattle.rank_pair.specs.DeadlineLaws.{DeadlineLaws}
use Rattle.rank_pair.specs.FinishedLaws.{FinishedLaws}
use Rattle.rank_pair.specs.Job.{trace_of}
use Rattle.rank_pair.specs.Reading.{IsBehind, IsStep, Place, StepsOn, lines_left}
use Rattle.rank_pair.specs.Running.{RunsSoFar}
use Rattle.rank_pair.specs.Under.{IsCut, IsFrontOf, IsUnder}
use Rattle.rank_pair.specs.declared.pair.Pair.{Pair}
use Rattle.rank_pair.specs.declared.rank_reader.Next.TheVariants.{Line as LineNext, End as EndNext, Refused as RefusedNext}
use Rattle.rank_pair.proofs.Ended.{is_pair_run}
use Rattle.rank_pair.proofs.Looped.{behind_more, traced_end, traced_refused}
use Rattle.rank_pair.proofs.Steps.{begun_of}

-- ---- A last piece

-- a piece was written in front of it
pub closes_behind : (whole answer : Status) (front text : List ℕ) (before middle after : Option (List ℕ)) → Appends before middle front → Closes whole answer text middle after → Closes whole answer (front ++ text) before after
closes_behind whole status.Ok front text before middle after wrote (same, more) = (same, Appends-trans before middle after front text wrote more)
closes_behind whole status.Refused front text before middle after wrote (same, more) = (same, Appends-trans before middle after front text wrote more)
closes_behind whole status.WriteFault front text before middle after wrote cut = prefix-behind before middle after front text wrote cut
closes_behind whole status.OutOfMemory front text before middle after wrote cut = prefix-behind before middle after front text wrote cut
closes_behind whole status.ReadFault front text before middle after wrote closes = absurd closes
closes_behind whole status.Usage front text before middle after wrote closes = absurd closes
closes_behind whole status.Broken front text before middle after wrote closes = absurd closes

-- the piece in front of it was cut off
pub closes_cut : (whole : Status) (stop : Stop) (faults later : ℕ) (front text : List ℕ) (before after : Option (List ℕ)) → WriteCause faults later stop → AppendsPrefix before after front → Closes whole (status_of stop) (front ++ text) before after
closes_cut whole ReadFault faults later front text before after cause cut = absurd cause
closes_cut whole WriteFault faults later front text before after cause cut = prefix-longer before after front text cut
closes_cut whole OutOfMemory faults later front text before after cause cut = prefix-longer before after front text cut

pub closes_no_read : (whole answer : Status) (text : List ℕ) (before after : Option (List ℕ)) → Closes whole answer text before after → answer ≡ status.ReadFault → ⊥
closes_no_read whole answer text before after closes e = subst (λ (s : Status). Closes whole s text before after) e closes

-- ---- The whole trace

-- the trace that stands there begins with these lines
pub record Covers (h : Header) (start : Option (List ℕ)) (front : List RankLine) : Type 0 where
  pub trace : List RankLine
  pub refused : Option ℕ
  pub traced : IsTraced h start trace refused
  pub is_front : IsFrontOf front trace

pub covers : (h : Header) (start now : Option (List ℕ)) (front : List RankLine) (it : Place) → it.shape ≡ shape_of h → IsBehind start front it now → Covers h start front
covers h None now front it same b = record { trace = front; refused = None; traced = tt; is_front = ([], sym (append-nil front)) }
covers h (Some bytes) None front it same b = absurd b
covers h (Some bytes) (Some left) front it same b = record {
  trace = front ++ (lines_left it left).lines;
  refused = (lines_left it left).refused;
  traced = ap (λ (g : Shape). trace_of g bytes) (sym same) ∙ b;
  is_front = ((lines_left it left).lines, refl);
}

-- from its first line on
pub covers_all : (h : Header) (start : Option (List ℕ)) → Covers h start []
covers_all h None = record { trace = []; refused = None; traced = tt; is_front = ([], refl) }
covers_all h (Some bytes) = record { trace = (trace_of (shape_of h) bytes).lines; refused = (trace_of (shape_of h) bytes).refused; traced = refl; is_front = ((trace_of (shape_of h) bytes).lines, refl) }

-- ---- A started report

starts_with : (h : Header) (text : List ℕ) (trace : List RankLine) (refused : Option ℕ) (run : PairRun) (before after : Option (List ℕ)) → IsBegun h trace run → AppendsPrefix before after (text ++ flat_map spelled_for (pair_report h trace run)) → Starts h text trace refused before after
starts_with h text trace refused run before after begun (count, low, wrote) =
    let lines = flat_map spelled_for (pair_report h trace run) in
    let all = text ++ pair_bytes (pair_report h trace run) None in
    let same : text ++ lines ≡ all = ap (λ (l : List ℕ). text ++ l) (sym (append-nil lines)) in
    (take count all, inl (run, count, begun, refl), subst (λ (l : List ℕ). Appends before after (take count l)) same wrote)

-- nothing was issued yet
none_begun : (h : Header) (trace : List RankLine) → IsBegun h trace []
none_begun h trace = record { sound = λ rank. tt; shares = tt; left = deeds (lines_of trace); in_order = refl }

report_so_far : (h : Header) (front trace : List RankLine) (run : PairRun) → IsFrontOf front trace → IsBegun h front run → pair_report h trace run ≡ pair_report h front run
report_so_far h front trace run f begun = ap (λ (t : List RankLine). pair_report h t run) f.1 ∙ begun_report_longer h front f.0 run begun

-- a line of the trace was cut off
starts_cut : (h : Header) (text : List ℕ) (front trace : List RankLine) (refused : Option ℕ) (first before after : Option (List ℕ)) → IsFrontOf front trace → Appends first before text → IsCut h front before after → Starts h text trace refused first after
starts_cut h text front trace refused first before after f wrote cut =
    starts_with h text trace refused cut.run first after (subst (λ (t : List RankLine). IsBegun h t cut.run) (sym f.1) (begun_longer h front f.0 cut.run cut.begun))
    (subst (λ (l : List RankReportLine). AppendsPrefix first after (text ++ flat_map spelled_for l)) (sym (report_so_far h front trace cut.run f cut.begun))
    (prefix-behind first before after text (flat_map spelled_for (pair_report h front cut.run)) wrote cut.wrote))

job_stopped : (stop : Stop) (faults later : ℕ) (h : Header) (text : List ℕ) (trace : List RankLine) (refused : Option ℕ) (left left_after before after : Option (List ℕ)) → WriteCause faults later stop → Starts h text trace refused before after
    → JobAnswers (status_of stop) h text trace refused left left_after before after
job_stopped ReadFault faults later h text trace refused left left_after before after cause starts = absurd cause
job_stopped WriteFault faults later h text trace refused left left_after before after cause starts = starts
job_stopped OutOfMemory faults later h text trace refused left left_after before after cause starts = starts

answers_cut : (h : Header) (text : List ℕ) (start left first before after : Option (List ℕ)) (front : List RankLine) (stop : Stop) (faults later : ℕ) → Covers h start front → Appends first before text → IsCut h front before after → WriteCause faults later stop
    → TraceAnswers (status_of stop) h text start left first after
answers_cut h text start left first before after front stop faults later a wrote cut cause =
    (a.trace, a.refused, a.traced, job_stopped stop faults later h text a.trace a.refused start left first after cause (starts_cut h text front a.trace a.refused first before after a.is_front wrote cut))

-- the register writes were cut off
pub registers_cut : (h : Header) (text : List ℕ) (start left first before after : Option (List ℕ)) (stop : Stop) (faults later : ℕ) → Appends first before text → IsCut h [] before after → WriteCause faults later stop → TraceAnswers (status_of stop) h text start left first after
registers_cut h text start left first before after stop faults later wrote cut cause = answers_cut h text start left first before after [] stop faults later (covers_all h start) wrote cut cause

-- the opening was cut off
pub opening_cut : (h : Header) (text : List ℕ) (start left before after : Option (List ℕ)) (stop : Stop) (faults later : ℕ) → AppendsPrefix before after text → WriteCause faults later stop → TraceAnswers (status_of stop) h text start left before after
opening_cut h text start left before after stop faults later cut cause =
    let a = covers_all h start in
    (a.trace, a.refused, a.traced, job_stopped stop faults later h text a.trace a.refused start left before after cause (starts_with h text a.trace a.refused [] before after (none_begun h a.trace) (prefix-longer before after text [] cut)))

-- nothing was written
pub nothing_written : (h : Header) (text : List ℕ) (start left before : Option (List ℕ)) → TraceAnswers status.OutOfMemory h text start left before before
nothing_written h text start left before =
    let a = covers_all h start in
    (a.trace, a.refused, a.traced, starts_with h text a.trace a.refused [] before before (none_begun h a.trace) (no-prefix before (text ++ [])))

-- ---- In the lines of the trace

-- a line was cut off
pub runs_cut : (h : Header) (text : List ℕ) (start now later left first before middle after : Option (List ℕ)) (it new : Place) (p : Pair) (line : RankLine) (stop : Stop) (faults risen : ℕ) (r : RunsSoFar h start it now p before middle) → StepsOn it new line
    → IsStep it new now later (LineNext line) → Appends first before text → IsCut h (r.front ++ line ∷ []) before after → WriteCause faults risen stop → TraceAnswers (status_of stop) h text start left first after
runs_cut h text start now later left first before middle after it new p line stop faults risen r steps step wrote cut cause =
    answers_cut h text start left first before after (r.front ++ line ∷ []) stop faults risen
    (covers h start later (r.front ++ line ∷ []) new (steps.shape ∙ r.shape) (behind_more start r.front it new line now later steps.shape r.is_behind step)) wrote cut cause

-- the source had a fault
pub runs_fault : (h : Header) (text : List ℕ) (start now left first before middle : Option (List ℕ)) (it : Place) (p : Pair) → RunsSoFar h start it now p before middle → Appends first before text → TraceAnswers status.ReadFault h text start left first middle
runs_fault h text start now left first before middle it p r wrote =
    let a = covers h start now r.front it r.shape r.is_behind in
    let run = r.there.under.run in
    let d = r.there.under.under.all_done in
    let lines = flat_map spelled_for (pair_report h r.front run) in
    let own : IsBegun h r.front run = begun_of h r.front r.front run r.there.since d ([], sym (append-nil r.front)) in
    let same : text ++ lines ≡ text ++ pair_bytes (pair_report h a.trace run) None =
    ap (λ (l : List ℕ). text ++ l) (sym (append-nil lines) ∙ ap (λ (l : List RankReportLine). flat_map spelled_for l ++ []) (sym (report_so_far h r.front a.trace run a.is_front own))) in (
      a.trace,
      a.refused,
      a.traced,
      record {
        front = r.front;
        run = run;
        is_front = a.is_front;
        begun = begun_of h r.front a.trace run r.there.since d a.is_front;
        in_order = d.in_order;
        wrote = subst (Appends first middle) same (Appends-trans first before middle text lines wrote r.there.under.wrote);
      },
    )

-- ---- The end

-- the status of a job that is answered whole
abbrev whole_of : Option ℕ → Status
whole_of None = status.Ok
whole_of (Some reason) = status.Refused

none_refused : (refused : Option ℕ) → whole_of refused ≡ status.Ok → refused ≡ None
none_refused None e = refl
none_refused (Some reason) e = absurd cc

some_refused : (refused : Option ℕ) → whole_of refused ≡ status.Refused → IsSome refused
some_refused None e = absurd cc
some_refused (Some reason) e = refl

-- the report of a finished run was written, or it was cut off
job_of : (answer : Status) (h : Header) (text : List ℕ) (trace : List RankLine) (refused : Option ℕ) (start left before after : Option (List ℕ)) (run : PairRun) (clock : ℕ) → IsPairRun h trace run clock
    → (Appends before after (text ++ pair_bytes (whole_pair h trace run clock) (refusal_of trace refused)) → PairReports h text trace refused before after) → (refused ≡ None → IsUsedUp start left)
    → Closes (whole_of refused) answer (text ++ pair_bytes (whole_pair h trace run clock) (refusal_of trace refused)) before after → JobAnswers answer h text trace refused start left before after
job_of status.Ok h text trace refused start left before after run clock is reports used (same, wrote) = let none = none_refused refused same in (none, used none, reports wrote)
job_of status.Refused h text trace refused start left before after run clock is reports used (same, wrote) = (some_refused refused same, reports wrote)
job_of status.WriteFault h text trace refused start left before after run clock is reports used (count, low, wrote) =
    let all = text ++ pair_bytes (whole_pair h trace run clock) (refusal_of trace refused) in
    (take count all, inr (all, count, (run, clock, is, refl), refl), wrote)
job_of status.OutOfMemory h text trace refused start left before after run clock is reports used (count, low, wrote) =
    let all = text ++ pair_bytes (whole_pair h trace run clock) (refusal_of trace refused) in
    (take count all, inr (all, count, (run, clock, is, refl), refl), wrote)
job_of status.ReadFault h text trace refused start left before after run clock is reports used closes = absurd closes
job_of status.Usage h text trace refused start left before after run clock is reports used closes = absurd closes
job_of status.Broken h text trace refused start left before after run clock is reports used closes = absurd closes

abbrev pub ends_of : Header → List RankLine → PairRun → ℕ → List RankReportLine
ends_of h trace run clock = end_of h trace run clock Zero ++ end_of h trace run clock One

job_closed : DeadlineLaws → FinishedLaws → (h : Header) (text : List ℕ) (trace : List RankLine) (refused : Option ℕ) (start left first before middle after : Option (List ℕ)) (p : Pair) (since until : ℕ) (answer : Status)
    → (u : IsUnder p h trace (record { front = trace; since = since }) until Resting before middle) → (refused ≡ None → IsUsedUp start left) → Appends first before text
    → Closes (whole_of refused) answer (pair_bytes (ends_of h trace u.run (now_of p.bus)) (refusal_of trace refused)) middle after → JobAnswers answer h text trace refused start left first after
job_closed l f h text trace refused start left first before middle after p since until answer u used wrote closes =
    let run = u.run in
    let clock = now_of p.bus in
    let refusal = refusal_of trace refused in
    let lines = pair_report h trace run in
    let ends = ends_of h trace run clock in
    let last = flat_map spelled (refusal_lines refusal) in
    let is = is_pair_run l f p h trace since until before middle u in
    let joined : (text ++ flat_map spelled_for lines) ++ pair_bytes ends refusal ≡ text ++ pair_bytes (whole_pair h trace run clock) refusal =
    append_assoc text (flat_map spelled_for lines) (pair_bytes ends refusal)
    ∙ ap (λ (l : List ℕ). text ++ l) (sym (append_assoc (flat_map spelled_for lines) (flat_map spelled_for ends) last) ∙ ap (λ (l : List ℕ). l ++ last) (sym (flat_map-append spelled_for lines ends))) in
    job_of answer h text trace refused start left first after run clock is
    (λ all. record { run = run; clock = clock; traced = u.under.on_bus.traced; is_run = is; promises = f.promises h trace run clock u.under.on_bus.accepted u.under.on_bus.traced.inside is; wrote = all }) used
    (subst (λ (t : List ℕ). Closes (whole_of refused) answer t first after) joined
    (closes_behind (whole_of refused) answer (text ++ flat_map spelled_for lines) (pair_bytes ends refusal) first middle after (Appends-trans first before middle text (flat_map spelled_for lines) wrote u.wrote) closes))

used_up : (start now left : Option (List ℕ)) (held : List ℕ) (front : List RankLine) (it new : Place) → IsBehind start front it now → IsStep it new now (next_bytes held left) EndNext → IsUsedUp start left
used_up None now left held front it new b step = tt
used_up (Some bytes) None left held front it new b step = absurd b
used_up (Some bytes) (Some rest) left held front it new b step = none-left held left step.0

-- the trace is at its end
pub runs_ended : DeadlineLaws → FinishedLaws → (h : Header) (text : List ℕ) (start now left first before middle after : Option (List ℕ)) (held : List ℕ) (it new : Place) (p : Pair) (answer : Status) (r : RunsSoFar h start it now p before middle)
    → IsStep it new now (next_bytes held left) EndNext → Appends first before text → Closes status.Ok answer (pair_bytes (ends_of h r.front r.there.under.run (now_of p.bus)) None) middle after → TraceAnswers answer h text start left first after
runs_ended l f h text start now left first before middle after held it new p answer r step wrote closes = (
  r.front,
  None,
  traced_end h start now (next_bytes held left) r.front it new r.shape r.is_behind step,
  job_closed l f h text r.front None start left first before middle after p r.there.since r.there.until answer r.there.under (λ none. used_up start now left held r.front it new r.is_behind step) wrote closes,
)

-- a line is refused
pub runs_refused : DeadlineLaws → FinishedLaws → (h : Header) (text : List ℕ) (start now next left first before middle after : Option (List ℕ)) (it new : Place) (p : Pair) (number reason : ℕ) (answer : Status) (r : RunsSoFar h start it now p before middle)
    → number ≡ it.lines + 1 → IsStep it new now next (RefusedNext reason) → Appends first before text
    → Closes status.Refused answer (pair_bytes (ends_of h r.front r.there.under.run (now_of p.bus)) (Some (record { line = number; reason = reason }))) middle after → TraceAnswers answer h text start left first after
runs_refused l f h text start now next left first before middle after it new p number reason answer r is step wrote closes = (
  r.front,
  Some reason,
  traced_refused h start now next r.front it new reason r.shape r.is_behind step,
  job_closed l f h text r.front (Some reason) start left first before middle after p r.there.since r.there.until answer r.there.under (λ none. absurd cc) wrote
      (subst (λ (n : ℕ). Closes status.Refused answer (pair_bytes (ends_of h r.front r.there.under.run (now_of p.bus)) (Some (record { line = n; reason = reason }))) middle after) (is ∙ ap (λ (n : ℕ). n + 1) r.lines) closes),
)
