-- The report of a run by the policy.
use Rattle.std.specs.Prelude.{ℕ, ◌≡◌, Option, List, ◌++◌}
use Rattle.std.specs.List.{flat_map}
use Rattle.speed_bin.specs.declared.header.Header.{Header}
use Rattle.ddr_text.specs.ReportParts.{Refusal}
use Rattle.ddr_text.specs.Spelling.{spelled}
use Rattle.ddr_text.specs.declared.lines.TraceLine.{TraceLine}
use Rattle.reports.specs.Runs.{Run}
use Rattle.reports.specs.Sound.{IsRun}
use Rattle.reports.specs.Whole.{whole}
use Rattle.policed_runs.specs.Progress.{EndsByPolicy}

-- these bytes are the report of the trace by the policy, under this header whose text with the separator is this
pub record IsPolicyReport (h : Header) (text : List ℕ) (trace : List TraceLine) (refusal : Option Refusal) (bytes : List ℕ) : Type 0 where
  pub run : Run
  pub clock : ℕ
  pub is_run : IsRun h trace run clock
  pub by_policy : EndsByPolicy h trace run clock
  pub are : bytes ≡ text ++ flat_map spelled (whole h trace run clock refusal)
