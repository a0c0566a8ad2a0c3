-- What one writes and answers, by the bytes that its source had and has left, and those that its sink got.
use Rattle.std.specs.Prelude.{ℕ, ◌≡◌, ⊤, List, [], Some, None}
use Rattle.std.specs.declared.option.Option.{Option}
use Rattle.std.specs.Io.KnownBytes.{Appends}
use Rattle.ddr_io.specs.Sink.{AppendsPrefix}
use Rattle.ddr_io.specs.declared.status.Status.{Status}
use Rattle.ddr_io.specs.declared.status.Status.TheVariants as status
use Rattle.ddr_text.specs.Io.{Io}
use Rattle.ddr_text.specs.ReportParts.{Refusal}
use Rattle.ddr_text.specs.Spelling.{spelled}
use Rattle.ddr_text.specs.declared.lines.ReportLine.TheVariants.{Refused}

-- what is written where nothing stops it, and with which status
pub record Outcome : Type 0 where
  pub text : List ℕ
  pub status : Status

-- ---- Refusals

-- the X line of the line that is refused, if there is one
abbrev pub refusal_text : Option Refusal → List ℕ
refusal_text None = []
refusal_text (Some refusal) = spelled (Refused refusal.line refusal.reason)

-- the status by that line
abbrev pub refusal_status : Option Refusal → Status
refusal_status None = status.Ok
refusal_status (Some refusal) = status.Refused

-- an opening that is refused for this reason
abbrev pub refused_opening : ℕ → Outcome
refused_opening reason = record { text = spelled (Refused 0 reason); status = status.Refused }

-- the X line was written, or a prefix of it where the sink failed or memory was wanting
abbrev pub RefusesLine : Status → ℕ → ℕ → Option (List ℕ) → Option (List ℕ) → Type 0
RefusesLine status.Refused number reason before after = Appends before after (spelled (Refused number reason))
RefusesLine status.WriteFault number reason before after = AppendsPrefix before after (spelled (Refused number reason))
RefusesLine status.OutOfMemory number reason before after = AppendsPrefix before after (spelled (Refused number reason))
RefusesLine status.Ok number reason before after = ⊥
RefusesLine status.Usage number reason before after = ⊥
RefusesLine status.ReadFault number reason before after = ⊥
RefusesLine status.Broken number reason before after = ⊥

-- ---- Answers

-- nothing is left of the bytes
abbrev pub ReadsAll : Option (List ℕ) → Option (List ℕ) → Type 0
ReadsAll None new = ⊤
ReadsAll (Some bytes) new = new ≡ Some []

-- an outcome with this status was written
abbrev pub EndsAs : (Outcome → Type 0) → Status → Option (List ℕ) → Option (List ℕ) → Type 0
EndsAs Is answer before after = (it : Outcome) × Is it × (answer ≡ it.status) × Appends before after it.text

-- a prefix of an outcome was written
abbrev pub BeginsAs : (Outcome → Type 0) → Option (List ℕ) → Option (List ℕ) → Type 0
BeginsAs Is before after = (it : Outcome) × Is it × AppendsPrefix before after it.text

-- What is answered where such is the outcome. With Ok the source was read to its end; with a fault, or where memory was
-- wanting, a prefix was written.
abbrev pub AnswersAs : (Outcome → Type 0) → Status → Io → Type 0
AnswersAs Is status.Ok io = EndsAs Is status.Ok io.written_before io.written_after × ReadsAll io.had io.left
AnswersAs Is status.Refused io = EndsAs Is status.Refused io.written_before io.written_after
AnswersAs Is status.Broken io = EndsAs Is status.Broken io.written_before io.written_after
AnswersAs Is status.ReadFault io = BeginsAs Is io.written_before io.written_after
AnswersAs Is status.WriteFault io = BeginsAs Is io.written_before io.written_after
AnswersAs Is status.OutOfMemory io = BeginsAs Is io.written_before io.written_after
AnswersAs Is status.Usage io = ⊥
