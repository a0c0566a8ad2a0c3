-- Pieces that are written one behind the other, and the lines of a rank.
use Rattle.std.proofs.Common.{◌≡◌, ◌∙◌, ℕ, ◌+◌, ◌<◌, Option, List, [], ◌∷◌, ◌++◌, take, drop, length, get_or, sym, ap, subst, append-nil, Result, Ok, Err, OnOk, IfErr}
use Rattle.std.specs.List.{flat_map}
use Rattle.std.specs.Io.KnownBytes.{Appends}
use Rattle.std.proofs.KnownBytes.{Appends-trans}
use Rattle.std.proofs.lemmas.List.{take_more, take-append-drop}
use Rattle.std.proofs.lemmas.List.Folds.{flat_map-map}
use Rattle.std.proofs.lemmas.Grind.{flat_map-append}
use Rattle.ddr_io.specs.Sink.{AppendsPrefix}
use Rattle.ddr_text.proofs.Prefixes.{prefix-behind, prefix-longer}
use Rattle.ddr_text.specs.declared.lines.ReportLine.{ReportLine}
use Rattle.pair_reports.specs.Report.{of_rank, spelled_for}
use Rattle.rank_bus.specs.declared.rank.Rank.{Rank}
use Rattle.rank_pair.specs.Pairs.{spelled_by}

-- ---- One piece behind the other

pub whole-behind : {T E : Type 0} (r : Result T E) (a b c : Option (List ℕ)) (xs ys : List ℕ) → Appends a b xs → OnOk r (Appends b c ys) → OnOk r (Appends a c (xs ++ ys))
whole-behind (Ok x) a b c xs ys h more = Appends-trans a b c xs ys h more
whole-behind (Err e) a b c xs ys h more = tt

pub cut-behind : {T E : Type 0} (r : Result T E) (a b c : Option (List ℕ)) (xs ys : List ℕ) → Appends a b xs → IfErr r (λ e. AppendsPrefix b c ys) → IfErr r (λ e. AppendsPrefix a c (xs ++ ys))
cut-behind (Ok x) a b c xs ys h cut = tt
cut-behind (Err e) a b c xs ys h cut = prefix-behind a b c xs ys h cut

-- ---- The lines of a rank

pub rank-text : (rank : Rank) (lines : List ReportLine) → flat_map (spelled_by rank) lines ≡ flat_map spelled_for (of_rank rank lines)
rank-text rank lines = sym (flat_map-map spelled_for (λ (line : ReportLine). record { rank = rank; line = line }) lines)

lines-more : (f : ReportLine → List ℕ) (lines : List ReportLine) (i : ℕ) (line : ReportLine) → i < length lines → line ≡ get_or lines i line → flat_map f (take (i + 1) lines) ≡ flat_map f (take i lines) ++ f line
lines-more f lines i line low is =
    ap (flat_map f) (take_more lines i line low ∙ ap (λ v. take i lines ++ v ∷ []) (sym is))
    ∙ flat_map-append f (take i lines) (line ∷ [])
    ∙ ap (λ l. flat_map f (take i lines) ++ l) (append-nil (f line))

pub lines-cut : (f : ReportLine → List ℕ) (a b c : Option (List ℕ)) (lines : List ReportLine) (i : ℕ) (line : ReportLine) → i < length lines → line ≡ get_or lines i line → Appends a b (flat_map f (take i lines)) → AppendsPrefix b c (f line) → AppendsPrefix a c (flat_map f lines)
lines-cut f a b c lines i line low is h cut =
    let first = flat_map f (take i lines) in
    let whole : (first ++ f line) ++ flat_map f (drop (i + 1) lines) ≡ flat_map f lines
    = ap (λ l. l ++ flat_map f (drop (i + 1) lines)) (sym (lines-more f lines i line low is)) ∙ sym (flat_map-append f (take (i + 1) lines) (drop (i + 1) lines)) ∙ ap (flat_map f) (take-append-drop (i + 1) lines) in
    subst (AppendsPrefix a c) whole (prefix-longer a c (first ++ f line) (flat_map f (drop (i + 1) lines)) (prefix-behind a b c first (f line) h cut))
