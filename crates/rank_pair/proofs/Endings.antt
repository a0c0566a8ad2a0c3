-- The lines that end a report of two ranks.
use Rattle.std.proofs.Common.{◌≡◌, ◌∙◌, ℕ, sym, ap, List, [], ◌∷◌, ◌++◌, append-nil}
use Rattle.std.specs.List.{flat_map}
use Rattle.std.proofs.lemmas.Grind.{flat_map-append}
use Rattle.ddr_text.specs.declared.lines.ReportLine.{ReportLine}
use Rattle.ddr_text.specs.declared.lines.ReportLine.TheVariants.{End as EndLine}
use Rattle.ddr_text.specs.declared.lines.TraceLine.{TraceLine}
use Rattle.device_core.specs.Stored.{scrub_counts}
use Rattle.error_scrub.specs.declared.scrub.ScrubCounts.{ScrubCounts}
use Rattle.log_counts.specs.Counts.{counts_of, with_peak}
use Rattle.log_counts.specs.declared.counts.Counts.{Counts}
use Rattle.rank_bus.specs.declared.rank.Rank.{Rank}
use Rattle.reports.specs.Delivered.{device_steps}
use Rattle.reports.specs.Runs.{Run, log_of}
use Rattle.reports.specs.Stats.{stat_lines, stats}
use Rattle.speed_bin.specs.Counts.{log_counts, peak as peak_of}
use Rattle.speed_bin.specs.declared.header.Header.{Header}
use Rattle.pair_reports.specs.Report.{of_rank, spelled_for}
use Rattle.rank_pair.specs.Pairs.{spelled_by}
use Rattle.rank_pair.proofs.Pieces.{rank-text}

-- the counts that are kept are those of the run
pub stats_are : (h : Header) (trace : List TraceLine) (run : Run) (counts : Counts) (peak : ℕ) (scrub : ScrubCounts) → counts ≡ counts_of h (log_of run) → peak ≡ peak_of h (log_of run) → scrub ≡ scrub_counts h (device_steps h trace run)
    → stat_lines (with_peak counts peak) scrub ≡ stats h trace run
unfolding counts_of
stats_are h trace run counts peak scrub a b d =
    ap (λ (k : Counts). stat_lines (with_peak k peak) scrub) a
    ∙ ap (λ (n : ℕ). stat_lines (with_peak (counts_of h (log_of run)) n) scrub) b
    ∙ ap (λ (s : ScrubCounts). stat_lines (log_counts h (log_of run)) s) d

-- the S lines of a rank, and its E line
pub end-text : (rank : Rank) (lines : List ReportLine) (clock : ℕ) → flat_map (spelled_by rank) lines ++ spelled_by rank (EndLine clock) ≡ flat_map spelled_for (of_rank rank (lines ++ EndLine clock ∷ []))
end-text rank lines clock =
    ap (λ (l : List ℕ). flat_map (spelled_by rank) lines ++ l) (sym (append-nil (spelled_by rank (EndLine clock))))
    ∙ sym (flat_map-append (spelled_by rank) lines (EndLine clock ∷ []))
    ∙ rank-text rank (lines ++ EndLine clock ∷ [])
