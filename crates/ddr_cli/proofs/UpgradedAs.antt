-- What is written of a report in version 2, by how its bytes open.
use Rattle.std.proofs.Common.{◌≡◌, ◌∙◌, ℕ, List, [], ◌++◌, ap, Result, Ok, Err}
use Rattle.speed_bin.specs.Document.{header_stated}
use Rattle.speed_bin.specs.Header.{shape_of}
use Rattle.speed_bin.specs.declared.fault.HeaderFault.{HeaderFault}
use Rattle.speed_bin.specs.declared.header.Header.{Header}
use Rattle.ddr_text.specs.AcceptedReport.{ReportLines}
use Rattle.ddr_text.specs.Opening.{Heading, Accepts, Refuses, heading_in, opening_text, opening_of, with_heading, behind, judged, parts_of, reason_of}
use Rattle.ddr_text.specs.Spelling.{spelled}
use Rattle.ddr_text.specs.ReportReading.{lines_in}
use Rattle.ddr_text.specs.declared.report_reader.Stage.TheVariants.{Body}
use Rattle.ddr_text.specs.Outcome.{refusal_status, refused_opening}
use Rattle.ddr_cli.specs.Behind.{outcome_behind}
use Rattle.ddr_cli.specs.Upgraded.{newer_heading, upgraded, upgraded_from, upgraded_of, upgraded_with}
use Rattle.ddr_cli.proofs.Copied.{kept-is}

-- an opening that is accepted
pub upgraded-with : (bytes : List ℕ) (heading : Heading) (h : Header) (rest : List ℕ) → heading_in [] (parts_of bytes) ≡ Ok heading → header_stated heading.version heading.text ≡ Ok h → behind (opening_text heading) bytes ≡ rest
    → upgraded bytes ≡ upgraded_of heading rest (lines_in (shape_of h) Body 1 (parts_of rest))
upgraded-with bytes heading h rest found stated left =
    ap (upgraded_from bytes) found
    ∙ ap (upgraded_with heading (behind (opening_text heading) bytes)) stated
    ∙ ap (λ r. upgraded_of heading r (lines_in (shape_of h) Body 1 (parts_of r))) left

-- it is the header text, the newer separator, and the lines written again
pub upgraded-written : ReportLines → (bytes : List ℕ) (heading : Heading) (h : Header) (rest : List ℕ) → heading_in [] (parts_of bytes) ≡ Ok heading → header_stated heading.version heading.text ≡ Ok h → behind (opening_text heading) bytes ≡ rest
    → upgraded bytes ≡ record {
      text = opening_text (newer_heading heading) ++ (outcome_behind spelled (lines_in (shape_of h) Body 1 (parts_of rest))).text;
      status = (outcome_behind spelled (lines_in (shape_of h) Body 1 (parts_of rest))).status;
    }
upgraded-written laws bytes heading h rest found stated left =
    upgraded-with bytes heading h rest found stated left
    ∙ ap (λ t. record { text = opening_text (newer_heading heading) ++ t; status = refusal_status (lines_in (shape_of h) Body 1 (parts_of rest)).refusal }) (kept-is laws (shape_of h) Body rest)

-- an opening that is refused
pub upgraded-refused : (bytes : List ℕ) (reason : ℕ) → opening_of bytes ≡ Refuses reason → upgraded bytes ≡ refused_opening reason
upgraded-refused bytes reason e = go (heading_in [] (parts_of bytes)) e
  where
    refused : (other : ℕ) → Refuses other ≡ Refuses reason → refused_opening other ≡ refused_opening reason
    refused other f = let same : other ≡ reason = cc in ap refused_opening same

    go : (r : Result Heading ℕ) → with_heading bytes r ≡ Refuses reason → upgraded_from bytes r ≡ refused_opening reason
    go (Err other) f = refused other f
    go (Ok heading) f = stated (header_stated heading.version heading.text) f
      where
        stated : (s : Result Header HeaderFault) → judged (opening_text heading) (behind (opening_text heading) bytes) s ≡ Refuses reason → upgraded_with heading (behind (opening_text heading) bytes) s ≡ refused_opening reason
        stated (Ok h) k = absurd (let no : Accepts h (opening_text heading) (behind (opening_text heading) bytes) ≡ Refuses reason = k in cc)
        stated (Err fault) k = refused (reason_of fault) k
