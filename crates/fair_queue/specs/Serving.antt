-- What a replay of a merged job answers, by the bytes that the source had and has left, and those that the sink got.
use Rattle.std.specs.Prelude.{ℕ, ⊤, ◌≡◌, ◌<◌, ◌⊎◌, List, ◌∷◌, ◌++◌, length, None, Some, IsSome}
use Rattle.std.specs.List.{flat_map}
use Rattle.std.specs.declared.option.Option.{Option}
use Rattle.std.specs.Io.KnownBytes.{Appends, Keeps}
use Rattle.ddr_io.specs.Sink.{AppendsPrefix}
use Rattle.ddr_io.specs.declared.status.Status.{Status}
use Rattle.ddr_io.specs.declared.status.Status.TheVariants as status
use Rattle.ddr_text.specs.Io.{Io}
use Rattle.ddr_text.specs.Opening.{Accepts, Refuses, opening_of}
use Rattle.ddr_text.specs.Outcome.{refused_opening}
use Rattle.ddr_text.specs.Spelling.{spelled}
use Rattle.ddr_text.specs.declared.lines.TraceLine.{TraceLine}
use Rattle.speed_bin.specs.Header.{shape_of}
use Rattle.speed_bin.specs.declared.header.Header.{Header}
use Rattle.reports.specs.Headline.{Headline}
use Rattle.reports.specs.Requests.{Request, requests}
use Rattle.reports.specs.Runs.{Run}
use Rattle.reports.specs.Sound.{IsRun}
use Rattle.reports.specs.Whole.{whole}
use Rattle.trace_replay.specs.Job.{trace_of}
use Rattle.trace_replay.specs.Replay.{Starts, refusal_of}
use Rattle.reports.specs.Ages.{overtaking}
use Rattle.fair_queue.specs.Answering.{ReadsInput}
use Rattle.fair_queue.specs.Merged.{merged_behind}
use Rattle.fair_queue.specs.Merging.{Tells}

-- ---- The merged job

-- the merge of the bytes is a job with this header and this text, and behind it stand this trace and this refusal
abbrev pub IsMergedJob : ℕ → List ℕ → Header → List ℕ → List TraceLine → Option ℕ → Type 0
IsMergedJob cap bytes h text trace refused =
    (rest : List ℕ) × (opening_of bytes ≡ Accepts h text rest) × (trace_of (shape_of h) (merged_behind cap rest) ≡ record { lines = trace; refused = refused })

-- the same of the bytes that the source tells, or else of some bytes
abbrev pub IsPortsJob : ℕ → Option (List ℕ) → Header → List ℕ → List TraceLine → Option ℕ → Type 0
IsPortsJob cap old h text trace refused = (bytes : List ℕ) × Tells old bytes × IsMergedJob cap bytes h text trace refused

-- the opening is refused with this reason
abbrev pub IsUnmerged : Option (List ℕ) → ℕ → Type 0
IsUnmerged None reason = ⊤
IsUnmerged (Some bytes) reason = opening_of bytes ≡ Refuses reason

-- ---- What is written of it

-- fewer than so many requests with a greater number are served before any request of the trace
abbrev pub KeepsAges : ℕ → List TraceLine → Run → Type 0
KeepsAges cap trace run = (earlier later : List Request) (r : Request) → requests trace ≡ earlier ++ r ∷ later → length (overtaking trace run r) < cap

-- the report of a finished run of the merged job was written, and what it promises
pub record Serves (cap : ℕ) (h : Header) (text : List ℕ) (trace : List TraceLine) (refused : Option ℕ) (before after : Option (List ℕ)) : Type 0 where
  pub run : Run
  pub clock : ℕ
  pub is_run : IsRun h trace run clock
  pub promises : Headline h trace run clock
  pub ages : KeepsAges cap trace run
  pub wrote : Appends before after (text ++ flat_map spelled (whole h trace run clock (refusal_of trace refused)))

-- ---- The answer

abbrev pub PortsAnswers : ℕ → Status → Io → Type 0
PortsAnswers cap status.Ok io =
    ((h : Header) × (text : List ℕ) × (trace : List TraceLine) × IsPortsJob cap io.had h text trace None × Serves cap h text trace None io.written_before io.written_after) × ReadsInput cap io.had io.left
PortsAnswers cap status.Refused io =
    (((h : Header) × (text : List ℕ) × (trace : List TraceLine) × (refused : Option ℕ) × IsPortsJob cap io.had h text trace refused × IsSome refused × Serves cap h text trace refused io.written_before io.written_after) × ReadsInput cap io.had io.left)
    ⊎ ((reason : ℕ) × IsUnmerged io.had reason × Appends io.written_before io.written_after (refused_opening reason).text)
PortsAnswers cap status.WriteFault io =
    ((h : Header) × (text : List ℕ) × (trace : List TraceLine) × (refused : Option ℕ) × IsPortsJob cap io.had h text trace refused × Starts h text trace refused io.written_before io.written_after)
    ⊎ ((reason : ℕ) × IsUnmerged io.had reason × AppendsPrefix io.written_before io.written_after (refused_opening reason).text)
PortsAnswers cap status.OutOfMemory io =
    ((h : Header) × (text : List ℕ) × (trace : List TraceLine) × (refused : Option ℕ) × IsPortsJob cap io.had h text trace refused × Starts h text trace refused io.written_before io.written_after)
    ⊎ (((reason : ℕ) × IsUnmerged io.had reason × AppendsPrefix io.written_before io.written_after (refused_opening reason).text)
    ⊎ Keeps io.written_before io.written_after)
-- nothing was written
PortsAnswers cap status.ReadFault io = Keeps io.written_before io.written_after
PortsAnswers cap status.Broken io = ⊥
PortsAnswers cap status.Usage io = ⊥
