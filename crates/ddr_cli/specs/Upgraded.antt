-- A report in version 2. `docs/FORMATS.md` has the same in words.
use Rattle.std.specs.Prelude.{ℕ, ◌≡◌, ⊤, List, [], ◌++◌, codes, if◌then◌else◌, take, length, None, Some, Result, Ok, Err}
use Rattle.std.specs.List.{flat_map}
use Rattle.std.specs.Str.{bytes_eq}
use Rattle.std.specs.declared.option.Option.{Option}
use Rattle.speed_bin.specs.Document.{header_stated}
use Rattle.speed_bin.specs.Header.{shape_of}
use Rattle.speed_bin.specs.declared.fault.HeaderFault.{HeaderFault}
use Rattle.speed_bin.specs.declared.header.Header.{Header}
use Rattle.ddr_io.specs.declared.status.Status.{Status}
use Rattle.ddr_text.specs.Io.{Io}
use Rattle.ddr_text.specs.Opening.{Heading, heading_in, opening_text, behind, parts_of, with_feed, reason_of}
use Rattle.ddr_text.specs.ReportParts.{Refusal}
use Rattle.ddr_text.specs.ReportReading.{Lines, lines_in}
use Rattle.ddr_text.specs.declared.report_reader.Stage.TheVariants.{Body}
use Rattle.ddr_text.specs.Outcome.{AnswersAs, Outcome, refusal_status, refusal_text, refused_opening}

-- ---- Bytes

-- the separator in version 2: `---` becomes `--- 2 4 8`, and one of version 2 stays
abbrev pub newer : List ℕ → List ℕ
newer separator = if bytes_eq separator (codes "---") then codes "--- 2 4 8" else separator

abbrev pub newer_heading : Heading → Heading
newer_heading heading = record { text = heading.text; separator = newer heading.separator; version = heading.version }

-- all bytes; or those of the lines before the one that is refused
abbrev pub kept_of : List ℕ → ℕ → Option Refusal → List ℕ
kept_of rest lines None = rest
kept_of rest lines (Some refusal) = flat_map with_feed (take lines (parts_of rest))

-- the bytes behind the opening as far as they stay, and the X line of the line that is refused
abbrev pub kept : List ℕ → Lines → List ℕ
kept rest found = kept_of rest (length found.lines) found.refusal ++ refusal_text found.refusal

abbrev pub upgraded_of : Heading → List ℕ → Lines → Outcome
upgraded_of heading rest found = record { text = opening_text (newer_heading heading) ++ kept rest found; status = refusal_status found.refusal }

abbrev pub upgraded_with : Heading → List ℕ → Result Header HeaderFault → Outcome
upgraded_with heading rest (Ok h) = upgraded_of heading rest (lines_in (shape_of h) Body 1 (parts_of rest))
upgraded_with heading rest (Err fault) = refused_opening (reason_of fault)

abbrev pub upgraded_from : List ℕ → Result Heading ℕ → Outcome
upgraded_from bytes (Ok heading) = upgraded_with heading (behind (opening_text heading) bytes) (header_stated heading.version heading.text)
upgraded_from bytes (Err reason) = refused_opening reason

-- the bytes of a report in version 2, and the status of the one that writes them
abbrev pub upgraded : List ℕ → Outcome
upgraded bytes = upgraded_from bytes (heading_in [] (parts_of bytes))

-- ---- Well formed bytes

-- the bytes are those of a well formed report with this heading and header, and these bytes behind it
pub record IsWellFormed (bytes : List ℕ) (heading : Heading) (h : Header) (rest : List ℕ) : Type 0 where
  pub heading_is : heading_in [] (parts_of bytes) ≡ Ok heading
  pub stated : header_stated heading.version heading.text ≡ Ok h
  pub rest_is : behind (opening_text heading) bytes ≡ rest
  pub fine : (lines_in (shape_of h) Body 1 (parts_of rest)).refusal ≡ None

-- ---- Answers

-- these are the bytes in version 2 and the status, where the bytes are known
abbrev pub IsUpgraded : Option (List ℕ) → Outcome → Type 0
IsUpgraded None it = ⊤
IsUpgraded (Some bytes) it = upgraded bytes ≡ it

-- What `upgrade` answers.
abbrev pub UpgradeAnswers : Status → Io → Type 0
UpgradeAnswers answer io = AnswersAs (IsUpgraded io.had) answer io
