-- The lines that begin with the digit of a rank are those that are told of it.
use Rattle.std.proofs.Common.{◌≡◌, ◌∙◌, ℕ, ◌^◌, ◌≤◌, false, refl, ap, Option, Some, None, List, [], ◌∷◌, ◌++◌, append-nil, append_assoc, if◌then◌else◌}
use Rattle.std.specs.Prelude.{⊤}
use Rattle.std.specs.List.{flat_map}
use Rattle.std.proofs.lemmas.List.Elements.{All-cons}
use Rattle.audited_reports.proofs.Read.{MayStand}
use Rattle.audited_reports.proofs.Texts.{text-fits}
use Rattle.audited_reports.specs.Audited.{IsTold}
use Rattle.command_words.specs.Geometry.{Shape, lines_of}
use Rattle.ddr_text.proofs.CleanParts.{HasNoFeed, line-part}
use Rattle.ddr_text.specs.AcceptedReport.{IsReportLine}
use Rattle.ddr_text.specs.Opening.{is_feed, parts_of, with_feed}
use Rattle.ddr_text.specs.ReportParts.{Refusal, refusal_lines}
use Rattle.ddr_text.specs.Spelling.{report_text, spelled}
use Rattle.ddr_text.specs.declared.lines.ReportLine.{ReportLine}
use Rattle.ddr_text.specs.declared.lines.ReportLine.TheVariants.{Refused}
use Rattle.ddr_text.specs.declared.report_reader.Stage.{Stage}
use Rattle.rank_bus.specs.Buses.{is_same}
use Rattle.rank_bus.specs.declared.rank.Rank.{Rank}
use Rattle.rank_bus.specs.declared.rank.Rank.TheVariants.{Zero, One}
use Rattle.pair_reports.specs.Report.{digit_of, pair_bytes, spelled_for, told_of}
use Rattle.pair_reports.specs.declared.rank_line.RankReportLine.{RankReportLine}
use Rattle.audited_pairs.specs.Split.{own_line, own_lines}

-- ---- Lines within their ranges

abbrev pub AreLines : Shape → List ReportLine → Type 0
AreLines g [] = ⊤
AreLines g (line ∷ lines) = IsReportLine g line × AreLines g lines

pub are_lines : (g : Shape) (stage : Stage) (lines : List ReportLine) → MayStand g stage lines → AreLines g lines
are_lines g stage [] stands = tt
are_lines g stage (line ∷ lines) stands = (stands.0, are_lines g stands.1 lines stands.3)

abbrev pub AreBoth : Shape → List RankReportLine → Type 0
AreBoth g [] = ⊤
AreBoth g (it ∷ lines) = IsReportLine g it.line × AreBoth g lines

both_more : (g : Shape) (owner : Rank) (line : ReportLine) (zero one : List ReportLine) → AreLines g (if is_same Zero owner then line ∷ zero else zero) → AreLines g (if is_same One owner then line ∷ one else one)
    → IsReportLine g line × AreLines g zero × AreLines g one
both_more g Zero line zero one a b = (a.0, a.1, b)
both_more g One line zero one a b = (b.0, a, b.1)

-- where the lines that are told of each rank are, all are
pub are_both : (g : Shape) (lines : List RankReportLine) → AreLines g (told_of Zero lines) → AreLines g (told_of One lines) → AreBoth g lines
are_both g [] a b = tt
are_both g (it ∷ lines) a b =
    let more = both_more g it.rank it.line (told_of Zero lines) (told_of One lines) a b in
    (more.0, are_both g lines more.1 more.2)

-- ---- One line

one_part : (digit : ℕ) (text more : List ℕ) → HasNoFeed text → own_lines digit (with_feed text ++ more) ≡ own_line digit text ++ own_lines digit more
unfolding parts_of
one_part digit text more clean = ap (flat_map (own_line digit)) (line-part text more clean)

clean_digit : (rank : Rank) → is_feed (digit_of rank) ≡ false
clean_digit Zero = refl
clean_digit One = refl

clean_for : (rank : Rank) (text : List ℕ) → HasNoFeed text → HasNoFeed (digit_of rank ∷ 32 ∷ text)
clean_for rank text clean =
    All-cons (λ byte. is_feed byte ≡ false) (digit_of rank) (32 ∷ text) (clean_digit rank) (All-cons (λ byte. is_feed byte ≡ false) 32 text refl clean)

line_is : (rank : Rank) (line : ReportLine) → spelled_for (record { rank = rank; line = line }) ≡ with_feed (digit_of rank ∷ 32 ∷ report_text line)
unfolding spelled
line_is rank line = refl

told_one : (rank owner : Rank) (line : ReportLine) (lines : List ReportLine) (bytes : List ℕ) → bytes ≡ flat_map spelled lines
    → own_line (digit_of rank) (digit_of owner ∷ 32 ∷ report_text line) ++ bytes ≡ flat_map spelled (if is_same rank owner then line ∷ lines else lines)
unfolding spelled
told_one Zero Zero line lines bytes same = ap (λ (b : List ℕ). with_feed (report_text line) ++ b) same
told_one Zero One line lines bytes same = same
told_one One Zero line lines bytes same = same
told_one One One line lines bytes same = ap (λ (b : List ℕ). with_feed (report_text line) ++ b) same

-- ---- All lines

none_left : (digit : ℕ) → own_lines digit [] ≡ []
unfolding parts_of
none_left digit = refl

no_digit : (rank : Rank) (line reason : ℕ) → own_line (digit_of rank) (report_text (Refused line reason)) ≡ []
unfolding report_text
no_digit Zero line reason = refl
no_digit One line reason = refl

refused_left : (g : Shape) (rank : Rank) (refusal : Option Refusal) → lines_of g ≤ 2 ^ 64 → IsTold refusal → own_lines (digit_of rank) (flat_map spelled (refusal_lines refusal)) ≡ []
unfolding spelled
refused_left g rank None small told = none_left (digit_of rank)
refused_left g rank (Some x) small told =
    one_part (digit_of rank) (report_text (Refused x.line x.reason)) [] (text-fits g (Refused x.line x.reason) small told).clean
    ∙ ap (λ (b : List ℕ). own_line (digit_of rank) (report_text (Refused x.line x.reason)) ++ b) (none_left (digit_of rank))
    ∙ append-nil (own_line (digit_of rank) (report_text (Refused x.line x.reason)))
    ∙ no_digit rank x.line x.reason

pub split : (g : Shape) (rank : Rank) (lines : List RankReportLine) (refusal : Option Refusal) → lines_of g ≤ 2 ^ 64 → AreBoth g lines → IsTold refusal
    → own_lines (digit_of rank) (pair_bytes lines refusal) ≡ flat_map spelled (told_of rank lines)
split g rank [] refusal small both told = refused_left g rank refusal small told
split g rank (it ∷ lines) refusal small both told =
    let last = flat_map spelled (refusal_lines refusal) in
    let text = digit_of it.rank ∷ 32 ∷ report_text it.line in
    ap (own_lines (digit_of rank)) (append_assoc (spelled_for it) (flat_map spelled_for lines) last ∙ ap (λ (b : List ℕ). b ++ pair_bytes lines refusal) (line_is it.rank it.line))
    ∙ one_part (digit_of rank) text (pair_bytes lines refusal) (clean_for it.rank (report_text it.line) (text-fits g it.line small both.0).clean)
    ∙ told_one rank it.rank it.line (told_of rank lines) (own_lines (digit_of rank) (pair_bytes lines refusal)) (split g rank lines refusal small both.1 told)
