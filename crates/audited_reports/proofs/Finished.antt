-- A finished run of a job within the limits ended within what a report can hold.
use Rattle.std.proofs.Common.{◌≡◌, ℕ, ◌<◌, ◌≤◌, ◌++◌, Option, None, List, length, sum, sym, subst, arith}
use Rattle.std.specs.List.{flat_map}
use Rattle.ddr_text.specs.Opening.{Accepts, opening_of}
use Rattle.ddr_text.specs.ReportParts.{Refusal}
use Rattle.ddr_text.specs.Spelling.{spelled}
use Rattle.ddr_text.specs.declared.lines.TraceLine.{TraceLine}
use Rattle.reports.specs.Barriers.{idle_clocks}
use Rattle.reports.specs.Delivered.{AreInside}
use Rattle.reports.specs.Headline.{shown_log}
use Rattle.reports.specs.Runs.{Run}
use Rattle.reports.specs.Sound.{IsRun}
use Rattle.reports.specs.Whole.{IsReportOf, whole}
use Rattle.speed_bin.specs.Header.{IsAccepted, shape_of}
use Rattle.speed_bin.specs.Rules.{verdict_at_end}
use Rattle.speed_bin.specs.declared.header.Header.{Header}
use Rattle.audited_reports.specs.Audited.{IsAuditedOk, IsEnding, IsTold, IsWithinLimits}
use Rattle.audited_reports.proofs.Counts.{end-low, log-short}

-- what is taken from other laws
pub record FinishedLaws : Type 0 where
  pub ended : (h : Header) (job text rest : List ℕ) (trace : List TraceLine) (run : Run) (clock : ℕ) (refusal : Option Refusal) → opening_of job ≡ Accepts h text rest → AreInside (shape_of h) trace → length trace ≤ 1048576 → IsTold refusal
      → IsEnding h trace run clock refusal → IsAuditedOk (text ++ flat_map spelled (whole h trace run clock refusal))
  pub verdict : (h : Header) (trace : List TraceLine) (run : Run) (clock : ℕ) → IsAccepted h → AreInside (shape_of h) trace → IsRun h trace run clock → verdict_at_end h clock (shown_log h trace run) ≡ None
  pub few : (h : Header) (trace : List TraceLine) (run : Run) (clock : ℕ) (refusal : Option Refusal) → IsAccepted h → IsRun h trace run clock → length trace ≤ 1048576 → sum (idle_clocks trace) ≤ 4294967296 → length (whole h trace run clock refusal) < 4294967295

is_ending : FinishedLaws → (h : Header) (trace : List TraceLine) (run : Run) (clock : ℕ) (refusal : Option Refusal) → IsAccepted h → IsWithinLimits h trace → IsRun h trace run clock → IsEnding h trace run clock refusal
is_ending laws h trace run clock refusal accepted limits r = record {
  sound = r.sound;
  rules = laws.verdict h trace run clock accepted limits.inside r;
  low = (let low = end-low h trace run clock accepted limits.few limits.idle r in omega (arith, low));
  commands = log-short h trace run clock accepted limits.few limits.idle r;
  lines = laws.few h trace run clock refusal accepted r limits.few limits.idle;
}

pub finished : FinishedLaws → (h : Header) (job text rest : List ℕ) (trace : List TraceLine) (refusal : Option Refusal) (bytes : List ℕ) → IsAccepted h → opening_of job ≡ Accepts h text rest → IsWithinLimits h trace → IsTold refusal
    → IsReportOf spelled h text trace refusal bytes → IsAuditedOk bytes
finished laws h job text rest trace refusal bytes accepted opens limits told written =
    subst IsAuditedOk (sym written.3)
    (laws.ended h job text rest trace written.0 written.1 refusal opens limits.inside limits.few told (is_ending laws h trace written.0 written.1 refusal accepted limits written.2))
