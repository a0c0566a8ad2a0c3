-- What `gen run` writes.
use Rattle.std.specs.Prelude.{ℕ, ◌≡◌, ◌⊎◌, List, [], ◌∷◌, ◌++◌, Some, None}
use Rattle.std.specs.List.{flat_map}
use Rattle.std.specs.declared.option.Option.{Option}
use Rattle.std.specs.Io.KnownBytes.{Appends, Keeps}
use Rattle.ddr_io.specs.Sink.{AppendsPrefix}
use Rattle.ddr_io.specs.declared.status.Status.{Status}
use Rattle.ddr_io.specs.declared.status.Status.TheVariants as status
use Rattle.ddr_text.specs.Spelling.{spelled}
use Rattle.ddr_text.specs.declared.lines.ReportLine.TheVariants.{End as EndLine}
use Rattle.ddr_text.specs.declared.lines.TraceLine.{TraceLine}
use Rattle.speed_bin.specs.declared.header.Header.{Header}
use Rattle.made_jobs.specs.Made.{made}
use Rattle.reports.specs.Headline.{Headline}
use Rattle.reports.specs.Runs.{Run}
use Rattle.reports.specs.Sound.{IsRun}
use Rattle.reports.specs.Stats.{stats}
use Rattle.trace_replay.specs.Job.{IsJobOf}

-- These bytes are the S lines and the E line of a finished run of the made job.
pub record IsMadeEnd (seed requests : ℕ) (bytes : List ℕ) : Type 0 where
  pub header : Header
  pub text : List ℕ
  pub trace : List TraceLine
  pub run : Run
  pub clock : ℕ
  pub job : IsJobOf (Some (made seed requests)) header text trace None
  pub is_run : IsRun header trace run clock
  pub promises : Headline header trace run clock
  pub lines : bytes ≡ flat_map spelled (stats header trace run ++ EndLine clock ∷ [])

abbrev pub WritesEnd : ℕ → ℕ → Option (List ℕ) → Option (List ℕ) → Type 0
WritesEnd seed requests before after = (bytes : List ℕ) × IsMadeEnd seed requests bytes × Appends before after bytes

abbrev pub WritesSomeEnd : ℕ → ℕ → Option (List ℕ) → Option (List ℕ) → Type 0
WritesSomeEnd seed requests before after = (bytes : List ℕ) × IsMadeEnd seed requests bytes × AppendsPrefix before after bytes

-- What `gen run` answers, by the bytes of the sink: the end was written, or a prefix of it at a write fault. Memory may be
-- wanting before it or in it.
abbrev pub MadeAnswers : Status → ℕ → ℕ → Option (List ℕ) → Option (List ℕ) → Type 0
MadeAnswers status.Ok seed requests before after = WritesEnd seed requests before after
MadeAnswers status.WriteFault seed requests before after = WritesSomeEnd seed requests before after
MadeAnswers status.OutOfMemory seed requests before after = Keeps before after ⊎ WritesSomeEnd seed requests before after
MadeAnswers status.Refused seed requests before after = ⊥
MadeAnswers status.Usage seed requests before after = ⊥
MadeAnswers status.ReadFault seed requests before after = ⊥
MadeAnswers status.Broken seed requests before after = ⊥
