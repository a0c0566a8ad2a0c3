-- What a finished report promises.
use Rattle.std.specs.Prelude.{ℕ, ◌≡◌, None, List, ◌∷◌, ◌++◌, reverse}
use Rattle.error_scrub.specs.declared.cells.LineRead.{LineRead}
use Rattle.error_scrub.specs.Reading.{IsGood}
use Rattle.error_scrub.specs.Tame.{IsTame}
use Rattle.speed_bin.specs.Log.{Log}
use Rattle.speed_bin.specs.Rules.{verdict_at_end}
use Rattle.speed_bin.specs.declared.header.Header.{Header}
use Rattle.speed_bin.specs.Header.{shape_of}
use Rattle.requests.specs.declared.request.Kind.TheVariants.{Read as Reads}
use Rattle.ddr_text.specs.ReportParts.{places_of}
use Rattle.ddr_text.specs.declared.lines.TraceLine.{TraceLine}
use Rattle.reports.specs.Requests.{Request, requests}
use Rattle.reports.specs.Runs.{Run}
use Rattle.reports.specs.Accesses.{InOrder}
use Rattle.reports.specs.Barriers.{bits_of, turned_bits}
use Rattle.reports.specs.Memory.{memory}
use Rattle.reports.specs.Readings.{changes_before, reading_of}
use Rattle.reports.specs.Report.{answers, report, values}
use Rattle.reports.specs.Sound.{AllBounded}

-- the log of the C lines of a run's report
abbrev pub shown_log : Header → List TraceLine → Run → Log
shown_log h trace run = reverse (places_of (report h trace run))

-- a reading has plain memory's bytes, and its words were clean or fixed
pub record IsRight (trace : List TraceLine) (r : Request) (read : LineRead) : Type 0 where
  pub bytes : read.bytes ≡ memory trace r.number r.line
  pub state : IsGood read.state

-- The command log satisfies every rule at each place and at the end, the R and W lines are served in the order of their line and the
-- F lines carried out in theirs, each R line is answered once, in the order of the trace, with plain memory's bytes
-- wherever no stored word took two turned bits between rewrites, and up to no place has a row more activations since its
-- last mitigation than the bound.
pub record Headline (h : Header) (trace : List TraceLine) (run : Run) (clock : ℕ) : Type 0 where
  pub rules : verdict_at_end h clock (shown_log h trace run) ≡ None
  pub serves : InOrder (shape_of h) trace (shown_log h trace run)
  pub turns : turned_bits (report h trace run) ≡ bits_of trace
  pub reads : values (report h trace run) ≡ answers h trace run (requests trace)
  pub memory : (earlier later : List Request) (r : Request) → requests trace ≡ earlier ++ r ∷ later → r.kind ≡ Reads
      → IsTame (changes_before h trace run r) r.line → IsRight trace r (reading_of h trace run r)
  pub bounded : AllBounded h (shown_log h trace run)
