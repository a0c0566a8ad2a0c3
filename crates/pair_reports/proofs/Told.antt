-- The lines of one rank in the report of both.
use Rattle.std.proofs.Common.{◌≡◌, ◌∙◌, ℕ, refl, sym, ap, None, List, [], ◌∷◌, ◌++◌, append-nil, append_assoc, if◌then◌else◌}
use Rattle.speed_bin.specs.declared.header.Header.{Header}
use Rattle.ddr_text.specs.declared.lines.ReportLine.{ReportLine}
use Rattle.ddr_text.specs.declared.lines.ReportLine.TheVariants.{End as EndLine}
use Rattle.rank_bus.specs.Buses.{is_same}
use Rattle.rank_bus.specs.declared.rank.Rank.{Rank}
use Rattle.rank_bus.specs.declared.rank.Rank.TheVariants.{Zero, One}
use Rattle.reports.specs.Report.{latest, report}
use Rattle.reports.specs.Runs.{Step}
use Rattle.reports.specs.Stats.{stats}
use Rattle.reports.specs.Whole.{whole}
use Rattle.pair_reports.specs.Lines.{only}
use Rattle.pair_reports.specs.Report.{end_of, latest_of, of_rank, pair_report, told_of, whole_pair}
use Rattle.pair_reports.specs.Runs.{PairRun, run_of}
use Rattle.pair_reports.specs.declared.rank_line.RankLine.{RankLine}
use Rattle.pair_reports.specs.declared.rank_line.RankReportLine.{RankReportLine}

told-both : (rank owner : Rank) (line : ReportLine) (a b c : List ReportLine) → c ≡ a ++ b
    → (if is_same rank owner then line ∷ c else c) ≡ (if is_same rank owner then line ∷ a else a) ++ b
told-both Zero Zero line a b c same = ap (λ lines. line ∷ lines) same
told-both Zero One line a b c same = same
told-both One Zero line a b c same = same
told-both One One line a b c same = ap (λ lines. line ∷ lines) same

told-append : (rank : Rank) (a b : List RankReportLine) → told_of rank (a ++ b) ≡ told_of rank a ++ told_of rank b
told-append rank [] b = refl
told-append rank (it ∷ a) b = told-both rank it.rank it.line (told_of rank a) (told_of rank b) (told_of rank (a ++ b)) (told-append rank a b)

told-own : (rank : Rank) (lines : List ReportLine) → told_of rank (of_rank rank lines) ≡ lines
told-own Zero [] = refl
told-own Zero (line ∷ lines) = ap (λ rest. line ∷ rest) (told-own Zero lines)
told-own One [] = refl
told-own One (line ∷ lines) = ap (λ rest. line ∷ rest) (told-own One lines)

told-zero : (lines : List ReportLine) → told_of Zero (of_rank One lines) ≡ []
told-zero [] = refl
told-zero (line ∷ lines) = told-zero lines

told-one : (lines : List ReportLine) → told_of One (of_rank Zero lines) ≡ []
told-one [] = refl
told-one (line ∷ lines) = told-one lines

-- one more step of a rank, told of a rank
one-more : (h : Header) (trace : List RankLine) (rank owner : Rank) (step : Step) (run : PairRun) (told : List ReportLine)
    → told ≡ report h (only rank trace) (run_of rank run)
    → told ++ told_of rank (latest_of h trace run (record { rank = owner; step = step })) ≡ report h (only rank trace) (if is_same rank owner then step ∷ run_of rank run else run_of rank run)
one-more h trace Zero Zero step run told same =
    let own = latest h (only Zero trace) (run_of Zero run) step in
    ap (λ lines. told ++ lines) (told-own Zero own) ∙ ap (λ lines. lines ++ own) same
one-more h trace Zero One step run told same =
    ap (λ lines. told ++ lines) (told-zero (latest h (only One trace) (run_of One run) step)) ∙ append-nil told ∙ same
one-more h trace One Zero step run told same =
    ap (λ lines. told ++ lines) (told-one (latest h (only Zero trace) (run_of Zero run) step)) ∙ append-nil told ∙ same
one-more h trace One One step run told same =
    let own = latest h (only One trace) (run_of One run) step in
    ap (λ lines. told ++ lines) (told-own One own) ∙ ap (λ lines. lines ++ own) same

pub tells : (h : Header) (trace : List RankLine) (run : PairRun) (rank : Rank) → told_of rank (pair_report h trace run) ≡ report h (only rank trace) (run_of rank run)
tells h trace [] rank = refl
tells h trace (it ∷ run) rank =
    told-append rank (pair_report h trace run) (latest_of h trace run it)
    ∙ one-more h trace rank it.rank it.step run (told_of rank (pair_report h trace run)) (tells h trace run rank)

-- the S lines and the E line of both, told of a rank
ends : (h : Header) (trace : List RankLine) (run : PairRun) (clock : ℕ) (rank : Rank)
    → told_of rank (end_of h trace run clock Zero ++ end_of h trace run clock One) ≡ stats h (only rank trace) (run_of rank run) ++ EndLine clock ∷ []
ends h trace run clock Zero =
    let zero = stats h (only Zero trace) (run_of Zero run) ++ EndLine clock ∷ [] in
    let one = stats h (only One trace) (run_of One run) ++ EndLine clock ∷ [] in
    told-append Zero (of_rank Zero zero) (of_rank One one)
    ∙ ap (λ lines. told_of Zero (of_rank Zero zero) ++ lines) (told-zero one) ∙ append-nil _ ∙ told-own Zero zero
ends h trace run clock One =
    let zero = stats h (only Zero trace) (run_of Zero run) ++ EndLine clock ∷ [] in
    let one = stats h (only One trace) (run_of One run) ++ EndLine clock ∷ [] in
    told-append One (of_rank Zero zero) (of_rank One one)
    ∙ ap (λ lines. lines ++ told_of One (of_rank One one)) (told-one zero) ∙ told-own One one

pub tells_all : (h : Header) (trace : List RankLine) (run : PairRun) (clock : ℕ) (rank : Rank)
    → told_of rank (whole_pair h trace run clock) ≡ whole h (only rank trace) (run_of rank run) clock None
tells_all h trace run clock rank =
    let last = stats h (only rank trace) (run_of rank run) in
    told-append rank (pair_report h trace run) (end_of h trace run clock Zero ++ end_of h trace run clock One)
    ∙ ap (λ lines. lines ++ told_of rank (end_of h trace run clock Zero ++ end_of h trace run clock One)) (tells h trace run rank)
    ∙ ap (λ lines. report h (only rank trace) (run_of rank run) ++ lines) (ends h trace run clock rank)
    ∙ sym (append_assoc (report h (only rank trace) (run_of rank run)) last (EndLine clock ∷ []))
