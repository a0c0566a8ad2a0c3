-- What the steps of opening a job answer, by the next bytes before and after them.
use Rattle.std.specs.Prelude.{ℕ, ◌≡◌, ◌++◌, ⊤, List, [], Some, None, Ok, Err}
use Rattle.std.specs.declared.option.Option.{Option}
use Rattle.ddr_io.specs.declared.line_reader.Line.{Line}
use Rattle.ddr_io.specs.declared.line_reader.Line.TheVariants.{Text as TextLine}
use Rattle.speed_bin.specs.Document.{header_stated}
use Rattle.speed_bin.specs.Version.{Figures}
use Rattle.ddr_text.specs.Opening.{IsReason, Refuses, judged, heading_in, parts_of, behind, with_feed}
use Rattle.ddr_text.specs.Reason.{HasNumber, number_of}
use Rattle.ddr_text.specs.Separator.{Ends, role_of_line}
use Rattle.ddr_text.specs.declared.opening.Front.{Front}
use Rattle.ddr_text.specs.declared.opening.Front.TheVariants.{Text, Refused as RefusedFront, Failed as FailedFront}
use Rattle.ddr_text.specs.declared.opening.Apart.{Apart}
use Rattle.ddr_text.specs.declared.opening.Apart.TheVariants as apart
use Rattle.ddr_text.specs.declared.opening.Opening.{Opening}
use Rattle.ddr_text.specs.declared.opening.Opening.TheVariants.{Accepted, Refused, Failed}
use Rattle.ddr_text.specs.declared.reason.Reason.{Reason}

-- behind a header that is accepted the reader has neither ended nor failed
abbrev pub GoesOn : Line → Opening → Type 0
GoesOn last (Accepted header text) = last ≡ TextLine
GoesOn last (Refused reason) = ⊤
GoesOn last Failed = ⊤

abbrev pub FrontGoesOn : Line → Front → Type 0
FrontGoesOn last (Text text separator version) = last ≡ TextLine
FrontGoesOn last (RefusedFront reason) = ⊤
FrontGoesOn last FailedFront = ⊤

-- a reason to refuse an opening
abbrev pub IsOpeningReason : Reason → Type 0
IsOpeningReason reason = HasNumber reason × IsReason (number_of reason)

-- a separator of this version, or a reason
abbrev pub HasReason : Front → Type 0
HasReason (Text text separator version) = (line : List ℕ) × (separator ≡ with_feed line) × (role_of_line line ≡ Ends version)
HasReason (RefusedFront reason) = IsOpeningReason reason
HasReason FailedFront = ⊤

-- the text and the separator head whatever they begin
abbrev pub HeadsAgain : Front → Type 0
HeadsAgain (Text text separator version) =
    (line : List ℕ) × (separator ≡ with_feed line)
    × ((more : List ℕ) → heading_in [] (parts_of ((text ++ separator) ++ more)) ≡ Ok (record { text = text; separator = line; version = version }))
HeadsAgain (RefusedFront reason) = ⊤
HeadsAgain FailedFront = ⊤

-- the heading of a job, or the reason that there is none
abbrev pub IsFront : Option (List ℕ) → Option (List ℕ) → Front → Type 0
IsFront None new front = ⊤
IsFront (Some bytes) new (Text text separator version) =
    (line : List ℕ) × (separator ≡ with_feed line) × (heading_in [] (parts_of bytes) ≡ Ok (record { text = text; separator = line; version = version }))
    × (new ≡ Some (behind (text ++ separator) bytes))
IsFront (Some bytes) new (RefusedFront reason) = heading_in [] (parts_of bytes) ≡ Err (number_of reason)
IsFront (Some bytes) new FailedFront = ⊤

-- the header that a text states in front of a separator with this version, or the reason of its first fault
abbrev pub IsJudged : List ℕ → List ℕ → Figures → Apart → Type 0
IsJudged text separator version (apart.Accepted header same own) = (same ≡ text) × (own ≡ separator) × (header_stated version text ≡ Ok header)
IsJudged text separator version (apart.Refused reason) = judged text [] (header_stated version text) ≡ Refuses reason
IsJudged text separator version apart.Failed = ⊥
