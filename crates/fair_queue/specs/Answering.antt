-- What a merge answers, by the bytes that its source had and has left, and those that its sink got.
use Rattle.std.specs.Prelude.{ℕ, ⊤, ◌≡◌, ◌⊎◌, List, ◌++◌, None, Some}
use Rattle.std.specs.declared.option.Option.{Option}
use Rattle.std.specs.Io.KnownBytes.{Appends}
use Rattle.ddr_io.specs.Sink.{AppendsPrefix}
use Rattle.ddr_io.specs.declared.status.Status.{Status}
use Rattle.ddr_io.specs.declared.status.Status.TheVariants as status
use Rattle.ddr_text.specs.Io.{Io}
use Rattle.ddr_text.specs.Opening.{Opens, Accepts, Refuses, opening_of}
use Rattle.ddr_text.specs.Outcome.{Outcome, BeginsAs, EndsAs, refused_opening}
use Rattle.fair_queue.specs.Merged.{merged_behind}
use Rattle.fair_queue.specs.Merging.{ReadsEnough, Tells}

-- ---- What is written

-- the opening as it stands, and the merged lines; or the X line
abbrev pub merged_in : ℕ → Opens → Outcome
merged_in cap (Accepts h text rest) = record { text = text ++ merged_behind cap rest; status = status.Ok }
merged_in cap (Refuses reason) = refused_opening reason

-- the merge of the bytes of a job whose lines are those of ports
abbrev pub merged : ℕ → List ℕ → Outcome
merged cap bytes = merged_in cap (opening_of bytes)

-- that is it, where the bytes are known; else it is the merge of some bytes, or of an opening that is refused
abbrev pub IsMerged : ℕ → Option (List ℕ) → Outcome → Type 0
IsMerged cap None it = ((bytes : List ℕ) × (merged cap bytes ≡ it)) ⊎ ((reason : ℕ) × (it ≡ refused_opening reason))
IsMerged cap (Some bytes) it = merged cap bytes ≡ it

-- the bytes behind an opening were read to their end, or to their first bad line
abbrev pub ReadsBehind : ℕ → Opens → Option (List ℕ) → Type 0
ReadsBehind cap (Accepts h text rest) left = ReadsEnough cap (Some rest) left
ReadsBehind cap (Refuses reason) left = ⊤

-- the same of the known bytes of a job
abbrev pub ReadsInput : ℕ → Option (List ℕ) → Option (List ℕ) → Type 0
ReadsInput cap None left = ⊤
ReadsInput cap (Some bytes) left = ReadsBehind cap (opening_of bytes) left

-- ---- The answer

abbrev pub MergeAnswers : ℕ → Status → Io → Type 0
MergeAnswers cap status.Ok io = EndsAs (IsMerged cap io.had) status.Ok io.written_before io.written_after × ReadsInput cap io.had io.left
MergeAnswers cap status.Refused io = EndsAs (IsMerged cap io.had) status.Refused io.written_before io.written_after
MergeAnswers cap status.ReadFault io = BeginsAs (IsMerged cap io.had) io.written_before io.written_after
MergeAnswers cap status.WriteFault io = BeginsAs (IsMerged cap io.had) io.written_before io.written_after
MergeAnswers cap status.OutOfMemory io = BeginsAs (IsMerged cap io.had) io.written_before io.written_after
MergeAnswers cap status.Broken io = ⊥
MergeAnswers cap status.Usage io = ⊥

-- ---- Its parts

-- the opening was written, and the merged lines behind it, or a prefix of both
abbrev pub JobMerges : ℕ → List ℕ → Option (List ℕ) → Option (List ℕ) → Option (List ℕ) → Type 0
JobMerges cap opening start before after = (bytes : List ℕ) × Tells start bytes × Appends before after (opening ++ merged_behind cap bytes)

abbrev pub JobBeginsToMerge : ℕ → List ℕ → Option (List ℕ) → Option (List ℕ) → Option (List ℕ) → Type 0
JobBeginsToMerge cap opening start before after = (bytes : List ℕ) × Tells start bytes × AppendsPrefix before after (opening ++ merged_behind cap bytes)

-- what is answered behind this opening, by the bytes behind it
abbrev pub BehindAnswers : ℕ → List ℕ → Option (List ℕ) → Status → Option (List ℕ) → Option (List ℕ) → Option (List ℕ) → Type 0
BehindAnswers cap opening start status.Ok left before after = JobMerges cap opening start before after × ReadsEnough cap start left
BehindAnswers cap opening start status.ReadFault left before after = JobBeginsToMerge cap opening start before after
BehindAnswers cap opening start status.WriteFault left before after = JobBeginsToMerge cap opening start before after
BehindAnswers cap opening start status.OutOfMemory left before after = JobBeginsToMerge cap opening start before after
BehindAnswers cap opening start status.Refused left before after = ⊥
BehindAnswers cap opening start status.Broken left before after = ⊥
BehindAnswers cap opening start status.Usage left before after = ⊥

-- what is answered where this text is written, and the opening is refused
abbrev pub RefusalAnswers : Status → List ℕ → Option (List ℕ) → Option (List ℕ) → Type 0
RefusalAnswers status.Refused text before after = Appends before after text
RefusalAnswers status.WriteFault text before after = AppendsPrefix before after text
RefusalAnswers status.OutOfMemory text before after = AppendsPrefix before after text
RefusalAnswers status.Ok text before after = ⊥
RefusalAnswers status.ReadFault text before after = ⊥
RefusalAnswers status.Broken text before after = ⊥
RefusalAnswers status.Usage text before after = ⊥
