-- What is known of an opening whose header text and separator are apart.
use Rattle.std.specs.Prelude.{ℕ, ◌≡◌, ◌++◌, ⊤, List, [], Some, None, Ok}
use Rattle.std.specs.declared.option.Option.{Option}
use Rattle.ddr_io.specs.declared.line_reader.Line.{Line}
use Rattle.ddr_io.specs.declared.line_reader.Line.TheVariants.{Text as TextLine}
use Rattle.speed_bin.specs.Document.{header_stated}
use Rattle.speed_bin.specs.Header.{IsAccepted}
use Rattle.speed_bin.specs.declared.header.Header.{Header}
use Rattle.ddr_text.specs.Opening.{Heading, IsReason, Accepts, Refuses, heading_in, opening_of, opening_text, parts_of, behind, with_feed}
use Rattle.ddr_text.specs.Separator.{Ends, role_of_line}
use Rattle.ddr_text.specs.declared.opening.Apart.{Apart}
use Rattle.ddr_text.specs.declared.opening.Apart.TheVariants.{Accepted, Refused, Failed}

-- the heading has this text and this separator, with its line feed, and states this header
pub record HasParts (heading : Heading) (header : Header) (text separator : List ℕ) : Type 0 where
  pub text_is : text ≡ heading.text
  pub separator_is : separator ≡ with_feed heading.separator
  pub stated : header_stated heading.version heading.text ≡ Ok header

-- An answer, by the next bytes before and after it. A header that is accepted leaves the bytes behind its separator.
abbrev pub IsApart : Option (List ℕ) → Option (List ℕ) → Apart → Type 0
IsApart None new opening = ⊤
IsApart (Some bytes) new (Accepted header text separator) =
    (heading : Heading) × HasParts heading header text separator × (heading_in [] (parts_of bytes) ≡ Ok heading)
    × (new ≡ Some (behind (opening_text heading) bytes))
IsApart (Some bytes) new (Refused reason) = opening_of bytes ≡ Refuses reason
IsApart (Some bytes) new Failed = ⊤

-- what is known of an answer also where the bytes are not
abbrev pub IsApartAnswer : Apart → Type 0
IsApartAnswer (Accepted header text separator) =
    IsAccepted header × (heading : Heading) × HasParts heading header text separator × (role_of_line heading.separator ≡ Ends heading.version)
IsApartAnswer (Refused reason) = IsReason reason
IsApartAnswer Failed = ⊤

-- behind a header that is accepted the reader has neither ended nor failed
abbrev pub ApartGoesOn : Line → Apart → Type 0
ApartGoesOn last (Accepted header text separator) = last ≡ TextLine
ApartGoesOn last (Refused reason) = ⊤
ApartGoesOn last Failed = ⊤

-- the text and the separator of a header that is accepted open whatever they begin
abbrev pub ApartAgain : Apart → Type 0
ApartAgain (Accepted header text separator) = (more : List ℕ) → opening_of ((text ++ separator) ++ more) ≡ Accepts header (text ++ separator) more
ApartAgain (Refused reason) = ⊤
ApartAgain Failed = ⊤
