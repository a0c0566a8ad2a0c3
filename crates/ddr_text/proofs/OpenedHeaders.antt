-- A header that opens a job is accepted, since a text that states a header states one that is.
use Rattle.std.proofs.Common.{◌≡◌, ◌∙◌, ap, refl, ℕ, List, [], Result, Ok, Err}
use Rattle.speed_bin.specs.Document.{header_stated}
use Rattle.speed_bin.specs.Header.{IsAccepted}
use Rattle.speed_bin.specs.Version.{Figures, IsVersion}
use Rattle.speed_bin.specs.declared.fault.HeaderFault.{HeaderFault}
use Rattle.speed_bin.specs.declared.header.Header.{Header}
use Rattle.ddr_text.specs.Opening.{Accepts, Heading, behind, heading_in, judged, opening_of, opening_text, parts_of, with_heading}
use Rattle.ddr_text.proofs.Reopened.{own-separator}
use Rattle.ddr_text.proofs.Separators.{ends_in_range}

pub opens-accepted : ((version : Figures) (text : List ℕ) (h : Header) → IsVersion version → header_stated version text ≡ Ok h → IsAccepted h) → (h : Header) (job text rest : List ℕ) → opening_of job ≡ Accepts h text rest → IsAccepted h
opens-accepted law h job text rest e = go (heading_in [] (parts_of job)) refl e
  where
    go : (r : Result Heading ℕ) → heading_in [] (parts_of job) ≡ r → with_heading job r ≡ Accepts h text rest → IsAccepted h
    go (Err reason) is f = absurd cc
    go (Ok heading) is f = stated (header_stated heading.version heading.text) refl f
      where
        stated : (s : Result Header HeaderFault) → header_stated heading.version heading.text ≡ s → judged (opening_text heading) (behind (opening_text heading) job) s ≡ Accepts h text rest → IsAccepted h
        stated (Err fault) was g = absurd cc
        stated (Ok header) was g =
            let same : header ≡ h = cc in
            let own = ends_in_range heading.separator heading.version (own-separator job heading is).role in
            law heading.version heading.text h own (was ∙ ap Ok same)
