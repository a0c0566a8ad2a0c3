-- How a job begins: its header, and the separator behind it. `docs/FORMATS.md` has the same in words.
use Rattle.std.specs.Prelude.{ℕ, ◌≡◌, ◌≤◌, ◌⊎◌, ◌++◌, ◌==◌, ⊤, nat_lt, Bool, if◌then◌else◌, List, [], ◌∷◌, drop, length, Some, None, Result, Ok, Err}
use Rattle.std.specs.List.{slice_split}
use Rattle.std.specs.declared.option.Option.{Option}
use Rattle.ddr_io.specs.Line.{line_feed}
use Rattle.speed_bin.specs.Document.{header_stated}
use Rattle.speed_bin.specs.Header.{IsAccepted}
use Rattle.speed_bin.specs.declared.fault.HeaderFault.{HeaderFault}
use Rattle.speed_bin.specs.declared.header.Header.{Header}
use Rattle.speed_bin.specs.Version.{Figures}
use Rattle.ddr_text.specs.Reason.{number_of, of_header}
use Rattle.ddr_text.specs.Separator.{Role, Ends, Faulty, Text, role_of_line}
use Rattle.ddr_text.specs.declared.opening.Opening.{Opening}
use Rattle.ddr_text.specs.declared.opening.Opening.TheVariants.{Accepted, Refused, Failed}
use Rattle.ddr_text.specs.declared.reason.Reason.{Reason}
use Rattle.ddr_text.specs.declared.reason.Reason.TheVariants.{FaultySeparator, HeaderTooLong, NoSeparator}

abbrev pub is_feed : ℕ → Bool
is_feed byte = byte == line_feed

-- the lines of some bytes, and then what has no line feed behind it
unfoldable pub parts_of : List ℕ → List (List ℕ)
parts_of bytes = slice_split is_feed bytes

-- a line with its line feed
abbrev pub with_feed : List ℕ → List ℕ
with_feed line = line ++ line_feed ∷ []

abbrev pub is_long : List ℕ → Bool
is_long part = nat_lt 511 (length part)

-- a header has at most so many bytes, with its line feeds
abbrev pub is_large : List ℕ → Bool
is_large text = nat_lt 65536 (length text)

-- the text of a header, its separator, and the version that this states
pub record Heading : Type 0 where
  pub text : List ℕ
  pub separator : List ℕ
  pub version : Figures

-- the header text and the separator, each line with its line feed
abbrev pub opening_text : Heading → List ℕ
opening_text heading = heading.text ++ with_feed heading.separator

-- behind this much of a header text: a line of this kind, and what the parts behind it give
abbrev pub after_line : List ℕ → List ℕ → Role → Result Heading ℕ → Result Heading ℕ
after_line text line (Ends version) rest = Ok (record { text = text; separator = line; version = version })
after_line text line Faulty rest = if is_large (text ++ with_feed line) then Err (number_of HeaderTooLong) else Err (number_of FaultySeparator)
after_line text line Text rest = if is_large (text ++ with_feed line) then Err (number_of HeaderTooLong) else rest

-- The heading of a job, of whose header text this much stands before these parts. Or the reason that there is none: the
-- end comes first, a long line or too many bytes, or a line that begins as a separator and is none.
abbrev pub heading_in : List ℕ → List (List ℕ) → Result Heading ℕ
heading_in text [] = Err (number_of NoSeparator)
heading_in text (last ∷ []) = if is_long last then Err (number_of HeaderTooLong) else Err (number_of NoSeparator)
heading_in text (line ∷ next ∷ parts) =
    if is_long line then Err (number_of HeaderTooLong) else after_line text line (role_of_line line) (heading_in (text ++ with_feed line) (next ∷ parts))

abbrev pub number_or_none : Option Reason → ℕ
number_or_none (Some reason) = number_of reason
number_or_none None = 0

-- the number of the reason of a header's fault, and 0 where it has none
abbrev pub reason_of : HeaderFault → ℕ
reason_of fault = number_or_none (of_header fault)

-- How bytes open a job: with this header, its text with the separator, and the bytes behind them; or with this reason to
-- refuse it.
pub data Opens : Type 0 where
  Accepts : Header → List ℕ → List ℕ → Opens
  Refuses : ℕ → Opens

abbrev pub judged : List ℕ → List ℕ → Result Header HeaderFault → Opens
judged text rest (Ok header) = Accepts header text rest
judged text rest (Err fault) = Refuses (reason_of fault)

-- the bytes behind a header text with its separator
abbrev pub behind : List ℕ → List ℕ → List ℕ
behind text bytes = drop (length text) bytes

abbrev pub with_heading : List ℕ → Result Heading ℕ → Opens
with_heading bytes (Ok heading) = judged (opening_text heading) (behind (opening_text heading) bytes) (header_stated heading.version heading.text)
with_heading bytes (Err reason) = Refuses reason

-- how these bytes open a job
abbrev pub opening_of : List ℕ → Opens
opening_of bytes = with_heading bytes (heading_in [] (parts_of bytes))

-- the text is that of a heading, and the header is the one that this states
abbrev pub States : List ℕ → Header → Type 0
States text header =
    (heading : Heading) × (opening_text heading ≡ text) × (role_of_line heading.separator ≡ Ends heading.version)
    × (header_stated heading.version heading.text ≡ Ok header)

-- ---- Answers

-- the reasons of an opening
abbrev pub IsReason : ℕ → Type 0
IsReason reason = ((11 ≤ reason) × (reason ≤ 17)) ⊎ ((21 ≤ reason) × (reason ≤ 29))

-- An answer, by the next bytes before and after it. A header that is accepted leaves the bytes behind its separator.
abbrev pub IsOpening : Option (List ℕ) → Option (List ℕ) → Opening → Type 0
IsOpening None new opening = ⊤
IsOpening (Some bytes) new (Accepted header text) = (rest : List ℕ) × (opening_of bytes ≡ Accepts header text rest) × (new ≡ Some rest)
IsOpening (Some bytes) new (Refused reason) = opening_of bytes ≡ Refuses reason
IsOpening (Some bytes) new Failed = ⊤

-- of the known bytes, those that were taken before these are left open no job
abbrev pub IsUnopened : Option (List ℕ) → Option (List ℕ) → Type 0
IsUnopened None left = ⊤
IsUnopened (Some bytes) None = ⊥
IsUnopened (Some bytes) (Some left) = (taken : List ℕ) × (reason : ℕ) × (bytes ≡ taken ++ left) × (opening_of taken ≡ Refuses reason)

-- what is known of an answer also where the bytes are not
abbrev pub IsAnswer : Opening → Type 0
IsAnswer (Accepted header text) = IsAccepted header × States text header
IsAnswer (Refused reason) = IsReason reason
IsAnswer Failed = ⊤

-- the text of a header that is accepted opens whatever it begins, also where the bytes of the job are not known
abbrev pub OpensAgain : Opening → Type 0
OpensAgain (Accepted header text) = (more : List ℕ) → opening_of (text ++ more) ≡ Accepts header text more
OpensAgain (Refused reason) = ⊤
OpensAgain Failed = ⊤
