-- The part of a rank in the bytes of a finished report of two ranks.
use Rattle.std.proofs.Common.{inl, inr, ◌≡◌, ◌∙◌, ℕ, ◌*◌, ◌^◌, ◌≤◌, sym, ap, subst, arith, Option, None, List, ◌++◌, length, sum}
use Rattle.std.specs.List.{flat_map}
use Rattle.std.proofs.lemmas.List.{append_cancel_left}
use Rattle.audited_reports.proofs.Whole.{whole-stands}
use Rattle.audited_reports.specs.Audited.{IsAuditedOk, IsTold}
use Rattle.command_words.specs.Geometry.{IsGroups, lines_of as lines_in}
use Rattle.ddr_text.specs.Opening.{Accepts, opening_of}
use Rattle.ddr_text.specs.ReportParts.{Refusal}
use Rattle.ddr_text.specs.Spelling.{spelled}
use Rattle.ddr_text.specs.declared.lines.ReportLine.{ReportLine}
use Rattle.ddr_text.specs.declared.lines.TraceLine.{TraceLine}
use Rattle.ddr_text.specs.declared.report_reader.Stage.TheVariants.{Body}
use Rattle.device_core.specs.Steps.{log_of as device_log}
use Rattle.rank_bus.specs.declared.rank.Rank.{Rank}
use Rattle.rank_bus.specs.declared.rank.Rank.TheVariants.{Zero, One}
use Rattle.reports.specs.Barriers.{idle_clocks}
use Rattle.reports.specs.Delivered.{AreInside, device_steps}
use Rattle.reports.specs.Runs.{Run, log_of}
use Rattle.speed_bin.specs.Header.{IsAccepted, shape_of}
use Rattle.speed_bin.specs.declared.header.Header.{Header}
use Rattle.pair_headline.proofs.Promised.{all_inside}
use Rattle.pair_reports.specs.Lines.{lines_of, only}
use Rattle.pair_reports.specs.Report.{digit_of, pair_bytes, told_of, whole_pair}
use Rattle.pair_reports.specs.Runs.{PairRun, run_of}
use Rattle.pair_reports.specs.Sound.{IsPairRun}
use Rattle.pair_reports.specs.Whole.{IsPairReportOf}
use Rattle.pair_reports.specs.declared.rank_line.RankLine.{RankLine}
use Rattle.audited_pairs.specs.Split.{own_lines}
use Rattle.audited_pairs.proofs.Ended.{Laws, ending, own_length}
use Rattle.audited_pairs.proofs.Split.{AreBoth, AreLines, are_both, are_lines, split}

-- what is taken from laws
pub record SplitLaws : Type 0 where
  pub laws : Laws
  pub device : (h : Header) (trace : List TraceLine) (run : Run) → device_log (device_steps h trace run) ≡ log_of run
  pub whole : (h : Header) (job text rest : List ℕ) (trace : List RankLine) (run : PairRun) (clock : ℕ) (rank : Rank) → opening_of job ≡ Accepts h text rest → AreInside (shape_of h) (lines_of trace) → length trace ≤ 1048576
      → sum (idle_clocks (lines_of trace)) ≤ 4294967296 → IsPairRun h trace run clock → IsAuditedOk (text ++ flat_map spelled (told_of rank (whole_pair h trace run clock)))

small_shape : (h : Header) → IsAccepted h → lines_in (shape_of h) ≤ 2 ^ 64
small_shape h accepted = go h.version.groups accepted.version.2
  where
    go : (groups : ℕ) → IsGroups groups → h.settings.rows * 256 * groups ≤ 2 ^ 64
    go groups (inl e) = let k = accepted.settings.rows.1 in rw e (omega (arith, k))
    go groups (inr e) = let k = accepted.settings.rows.1 in rw e (omega (arith, k))

own_fine : SplitLaws → (h : Header) (trace : List RankLine) (run : PairRun) (clock : ℕ) (rank : Rank) → IsAccepted h → AreInside (shape_of h) (lines_of trace) → length trace ≤ 1048576 → sum (idle_clocks (lines_of trace)) ≤ 4294967296
    → IsPairRun h trace run clock → AreLines (shape_of h) (told_of rank (whole_pair h trace run clock))
own_fine l h trace run clock rank accepted inside few idle it =
    subst (λ (lines : List ReportLine). AreLines (shape_of h) lines) (sym (l.laws.told h trace run clock rank))
    (are_lines (shape_of h) Body _
    (whole-stands h (only rank trace) (run_of rank run) clock None (l.device h (only rank trace) (run_of rank run)) accepted (all_inside (shape_of h) rank trace inside) (let e = own_length rank trace in omega (arith, e, few)) tt
    (ending l.laws h trace run clock rank accepted inside few idle it)))

all_fine : SplitLaws → (h : Header) (trace : List RankLine) (run : PairRun) (clock : ℕ) → IsAccepted h → AreInside (shape_of h) (lines_of trace) → length trace ≤ 1048576 → sum (idle_clocks (lines_of trace)) ≤ 4294967296
    → IsPairRun h trace run clock → AreBoth (shape_of h) (whole_pair h trace run clock)
all_fine l h trace run clock accepted inside few idle it =
    are_both (shape_of h) (whole_pair h trace run clock) (own_fine l h trace run clock Zero accepted inside few idle it) (own_fine l h trace run clock One accepted inside few idle it)

pub part_is_ok : SplitLaws → (h : Header) (job text rest : List ℕ) (trace : List RankLine) (refusal : Option Refusal) (lines : List ℕ) (rank : Rank) → IsAccepted h → opening_of job ≡ Accepts h text rest → AreInside (shape_of h) (lines_of trace)
    → length trace ≤ 1048576 → sum (idle_clocks (lines_of trace)) ≤ 4294967296 → IsTold refusal → IsPairReportOf h text trace refusal (text ++ lines) → IsAuditedOk (text ++ own_lines (digit_of rank) lines)
part_is_ok l h job text rest trace refusal lines rank accepted opens inside few idle told written =
    let run = written.0 in
    let clock = written.1 in
    let is = append_cancel_left text lines (pair_bytes (whole_pair h trace run clock) refusal) written.3 in
    let own = ap (own_lines (digit_of rank)) is ∙ split (shape_of h) rank (whole_pair h trace run clock) refusal (small_shape h accepted) (all_fine l h trace run clock accepted inside few idle written.2) told in
    subst (λ (bytes : List ℕ). IsAuditedOk (text ++ bytes)) (sym own) (l.whole h job text rest trace run clock rank opens inside few idle written.2)
