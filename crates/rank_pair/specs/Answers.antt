-- What `pair` answers, by the bytes that its source had and has left, and those that its sink got.
use Rattle.std.specs.Prelude.{ℕ, ⊤, ◌≡◌, ◌⊎◌, ◌+◌, List, [], ◌++◌, length, reverse, Some, None, IsSome}
use Rattle.std.specs.declared.option.Option.{Option}
use Rattle.std.specs.Io.KnownBytes.{Appends, Keeps}
use Rattle.ddr_io.specs.Sink.{AppendsPrefix}
use Rattle.ddr_io.specs.declared.status.Status.{Status}
use Rattle.ddr_io.specs.declared.status.Status.TheVariants as status
use Rattle.ddr_text.specs.Opening.{IsUnopened}
use Rattle.ddr_text.specs.Outcome.{RefusesLine}
use Rattle.ddr_text.specs.ReportParts.{Refusal}
use Rattle.speed_bin.specs.Header.{shape_of}
use Rattle.speed_bin.specs.declared.header.Header.{Header}
use Rattle.pair_reports.specs.Headline.{PairHeadline}
use Rattle.pair_reports.specs.Lines.{deeds, lines_of}
use Rattle.pair_reports.specs.Report.{pair_bytes, pair_report, whole_pair}
use Rattle.pair_reports.specs.Runs.{PairRun, done}
use Rattle.pair_reports.specs.Sound.{IsBegun, IsPairRun}
use Rattle.pair_reports.specs.Whole.{IsPairStartOf}
use Rattle.pair_reports.specs.declared.rank_line.RankLine.{RankLine}
use Rattle.rank_pair.specs.Job.{IsNoPairJob, IsPairJobOf, IsPairTrace, trace_of}
use Rattle.rank_pair.specs.Under.{IsFrontOf}

-- ---- What is written

-- the refusal of the line behind a trace
abbrev pub refusal_of : List RankLine → Option ℕ → Option Refusal
refusal_of trace None = None
refusal_of trace (Some reason) = Some (record { line = length trace + 1; reason = reason })

-- the report of a finished run of the job was written, and what it promises
pub record PairReports (h : Header) (text : List ℕ) (trace : List RankLine) (refused : Option ℕ) (before after : Option (List ℕ)) : Type 0 where
  pub run : PairRun
  pub clock : ℕ
  pub traced : IsPairTrace (shape_of h) trace
  pub is_run : IsPairRun h trace run clock
  pub promises : PairHeadline h trace run clock
  pub wrote : Appends before after (text ++ pair_bytes (whole_pair h trace run clock) (refusal_of trace refused))

-- a started report was written
abbrev pub Starts : Header → List ℕ → List RankLine → Option ℕ → Option (List ℕ) → Option (List ℕ) → Type 0
Starts h text trace refused before after = (bytes : List ℕ) × IsPairStartOf h text trace (refusal_of trace refused) bytes × Appends before after bytes

-- Whole lines of a started report were written: those of the first lines of the trace, all of which were done.
pub record StopsBetweenLines (h : Header) (text : List ℕ) (trace : List RankLine) (before after : Option (List ℕ)) : Type 0 where
  pub front : List RankLine
  pub run : PairRun
  pub is_front : IsFrontOf front trace
  pub begun : IsBegun h trace run
  pub in_order : reverse (done run) ≡ deeds (lines_of front)
  pub wrote : Appends before after (text ++ pair_bytes (pair_report h trace run) None)

-- none of the known bytes is left
abbrev pub IsUsedUp : Option (List ℕ) → Option (List ℕ) → Type 0
IsUsedUp None left = ⊤
IsUsedUp (Some bytes) left = left ≡ Some []

-- ---- The answer

-- where the job is this one
abbrev pub JobAnswers : Status → Header → List ℕ → List RankLine → Option ℕ → Option (List ℕ) → Option (List ℕ) → Option (List ℕ) → Option (List ℕ) → Type 0
JobAnswers status.Ok h text trace refused left left_after before after = (refused ≡ None) × IsUsedUp left left_after × PairReports h text trace refused before after
JobAnswers status.Refused h text trace refused left left_after before after = IsSome refused × PairReports h text trace refused before after
JobAnswers status.ReadFault h text trace refused left left_after before after = StopsBetweenLines h text trace before after
JobAnswers status.WriteFault h text trace refused left left_after before after = Starts h text trace refused before after
JobAnswers status.OutOfMemory h text trace refused left left_after before after = Starts h text trace refused before after
JobAnswers status.Usage h text trace refused left left_after before after = ⊥
JobAnswers status.Broken h text trace refused left left_after before after = ⊥

-- where reading stopped before the trace: by a fault, where the bytes that were taken open no job
abbrev pub StopAnswers : Status → Option (List ℕ) → Option (List ℕ) → Option (List ℕ) → Option (List ℕ) → Type 0
StopAnswers status.ReadFault left left_after before after = IsUnopened left left_after × Keeps before after
StopAnswers status.OutOfMemory left left_after before after = Keeps before after
StopAnswers status.Ok left left_after before after = ⊥
StopAnswers status.Refused left left_after before after = ⊥
StopAnswers status.WriteFault left left_after before after = ⊥
StopAnswers status.Usage left left_after before after = ⊥
StopAnswers status.Broken left left_after before after = ⊥

-- The bytes that the source had are a job for two ranks, which was answered so; or its opening is refused; or reading stopped
-- before the trace, and nothing was written.
abbrev pub PairAnswers : Status → Option (List ℕ) → Option (List ℕ) → Option (List ℕ) → Option (List ℕ) → Type 0
PairAnswers answer left left_after before after =
    ((h : Header) × (text : List ℕ) × (trace : List RankLine) × (refused : Option ℕ)
    × IsPairJobOf left h text trace refused × JobAnswers answer h text trace refused left left_after before after)
    ⊎ (((reason : ℕ) × IsNoPairJob left reason × RefusesLine answer 0 reason before after)
    ⊎ StopAnswers answer left left_after before after)

-- ---- Behind the opening

-- this trace and this refusal stand in the known bytes behind the opening
abbrev pub IsTraced : Header → Option (List ℕ) → List RankLine → Option ℕ → Type 0
IsTraced h None trace refused = ⊤
IsTraced h (Some bytes) trace refused = trace_of (shape_of h) bytes ≡ record { lines = trace; refused = refused }

-- what is answered, by the bytes behind the opening
abbrev pub TraceAnswers : Status → Header → List ℕ → Option (List ℕ) → Option (List ℕ) → Option (List ℕ) → Option (List ℕ) → Type 0
TraceAnswers answer h text start left before after =
    (trace : List RankLine) × (refused : Option ℕ) × IsTraced h start trace refused × JobAnswers answer h text trace refused start left before after

-- ---- Endings

-- the line with this number was refused for this reason
abbrev pub refusal_with : Option (ℕ × ℕ) → Option Refusal
refusal_with None = None
refusal_with (Some refusal) = Some (record { line = refusal.0; reason = refusal.1 })

abbrev pub status_with : Option (ℕ × ℕ) → Status
status_with None = status.Ok
status_with (Some refusal) = status.Refused

-- a last piece was written whole, which has this status; or a prefix of it
abbrev pub Closes : Status → Status → List ℕ → Option (List ℕ) → Option (List ℕ) → Type 0
Closes whole status.Ok text before after = (whole ≡ status.Ok) × Appends before after text
Closes whole status.Refused text before after = (whole ≡ status.Refused) × Appends before after text
Closes whole status.WriteFault text before after = AppendsPrefix before after text
Closes whole status.OutOfMemory text before after = AppendsPrefix before after text
Closes whole status.ReadFault text before after = ⊥
Closes whole status.Usage text before after = ⊥
Closes whole status.Broken text before after = ⊥
