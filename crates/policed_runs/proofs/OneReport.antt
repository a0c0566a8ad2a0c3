-- A job has one report by the policy.
use Rattle.std.proofs.Common.{◌≡◌, ◌∙◌, ℕ, ◌<◌, ◌≤◌, ◌⊎◌, inl, inr, Option, List, ◌∷◌, ◌++◌, length, take, sym, ap, arith, append_assoc}
use Rattle.std.specs.List.{flat_map}
use Rattle.std.proofs.lemmas.Grind.{flat_map-append}
use Rattle.std.proofs.lemmas.List.{take-append-le, take_all}
use Rattle.speed_bin.specs.declared.header.Header.{Header}
use Rattle.ddr_text.specs.ReportParts.{Refusal, refusal_lines}
use Rattle.ddr_text.specs.Spelling.{spelled}
use Rattle.ddr_text.specs.declared.lines.TraceLine.{TraceLine}
use Rattle.ddr_text.specs.declared.lines.ReportLine.{ReportLine}
use Rattle.ddr_text.specs.declared.lines.ReportLine.TheVariants.{End as EndLine}
use Rattle.reports.specs.Runs.{Run}
use Rattle.reports.specs.Report.{report}
use Rattle.reports.specs.Stats.{stats}
use Rattle.reports.specs.Whole.{whole}
use Rattle.policed_runs.specs.Progress.{IsByPolicy, EndsByPolicy}
use Rattle.policed_runs.specs.Reports.{IsPolicyReport}

abbrev pub OneRun : Type 0
OneRun = (h : Header) (trace : List TraceLine) (run other : Run) (clock end : ℕ) → EndsByPolicy h trace run clock → EndsByPolicy h trace other end → run ≡ other

abbrev pub OneClock : Type 0
OneClock = (h : Header) (trace : List TraceLine) (run other : Run) (clock end : ℕ) → EndsByPolicy h trace run clock → EndsByPolicy h trace other end → clock ≡ end

abbrev pub GoesOn : Type 0
GoesOn = (h : Header) (trace : List TraceLine) (run whole : Run) (clock : ℕ) → IsByPolicy h trace run → EndsByPolicy h trace whole clock → (later : Run) × (whole ≡ later ++ run)

abbrev pub ReportGoesOn : Type 0
ReportGoesOn = (h : Header) (trace : List TraceLine) (later run : Run) → (rest : List ReportLine) × (report h trace (later ++ run) ≡ report h trace run ++ rest)

pub same_report : OneRun → OneClock → (h : Header) (text : List ℕ) (trace : List TraceLine) (refusal : Option Refusal) (bytes other : List ℕ) → IsPolicyReport h text trace refusal bytes → IsPolicyReport h text trace refusal other → bytes ≡ other
same_report runs clocks h text trace refusal bytes other x y =
    let e = runs h trace x.run y.run x.clock y.clock x.by_policy y.by_policy in
    let f = clocks h trace x.run y.run x.clock y.clock x.by_policy y.by_policy in
    x.are ∙ ap (λ (run : Run). text ++ flat_map spelled (whole h trace run x.clock refusal)) e ∙ ap (λ (clock : ℕ). text ++ flat_map spelled (whole h trace y.run clock refusal)) f ∙ sym y.are

-- the front of a front
le_or_gt : (a b : ℕ) → (a ≤ b) ⊎ (b < a)
le_or_gt a b = grind arith

pub record Front (count : ℕ) (xs whole : List ℕ) : Type 0 where
  pub shorter : ℕ
  pub is : take count xs ≡ take shorter whole

pub front_of : (count : ℕ) (xs ys whole : List ℕ) → whole ≡ xs ++ ys → Front count xs whole
front_of count xs ys whole e = go (le_or_gt count (length xs))
  where
    at_whole : (n : ℕ) → take n (xs ++ ys) ≡ take n whole
    at_whole n = ap (λ (l : List ℕ). take n l) (sym e)

    go : (count ≤ length xs) ⊎ (length xs < count) → Front count xs whole
    go (inl le) = record { shorter = count; is = sym (take-append-le count xs ys le) ∙ at_whole count }
    go (inr gt) = record {
      shorter = length xs;
      is = take_all count xs (omega (arith, gt)) ∙ sym (take_all (length xs) xs (omega arith)) ∙ sym (take-append-le (length xs) xs ys (omega arith)) ∙ at_whole (length xs);
    }

lines_behind : (xs rest ss es : List ReportLine) → ((xs ++ rest) ++ ss) ++ es ≡ xs ++ (rest ++ (ss ++ es))
lines_behind xs rest ss es = append_assoc (xs ++ rest) ss es ∙ append_assoc xs rest (ss ++ es)

bytes_behind : (text : List ℕ) (xs rest ss es : List ReportLine) → text ++ flat_map spelled (((xs ++ rest) ++ ss) ++ es) ≡ (text ++ flat_map spelled xs) ++ flat_map spelled (rest ++ (ss ++ es))
bytes_behind text xs rest ss es =
    ap (λ (l : List ReportLine). text ++ flat_map spelled l) (lines_behind xs rest ss es)
    ∙ ap (λ (l : List ℕ). text ++ l) (flat_map-append spelled xs (rest ++ (ss ++ es)))
    ∙ sym (append_assoc text (flat_map spelled xs) (flat_map spelled (rest ++ (ss ++ es))))

pub started_front : GoesOn → ReportGoesOn → (h : Header) (text : List ℕ) (trace : List TraceLine) (refusal : Option Refusal) (run : Run) (count : ℕ) (bytes : List ℕ) → IsByPolicy h trace run → IsPolicyReport h text trace refusal bytes → (shorter : ℕ) × (take count (text ++ flat_map spelled (report h trace run)) ≡ take shorter bytes)
started_front goes_on report_goes h text trace refusal run count bytes x y =
    let k = goes_on h trace run y.run y.clock x y.by_policy in
    let r = report_goes h trace k.0 run in
    let e : report h trace y.run ≡ report h trace run ++ r.0 = ap (λ (l : Run). report h trace l) k.1 ∙ r.1 in
    let ss = stats h trace y.run in
    let es = EndLine y.clock ∷ refusal_lines refusal in
    let same : bytes ≡ (text ++ flat_map spelled (report h trace run)) ++ flat_map spelled (r.0 ++ (ss ++ es)) =
    y.are ∙ ap (λ (l : List ReportLine). text ++ flat_map spelled ((l ++ ss) ++ es)) e ∙ bytes_behind text (report h trace run) r.0 ss es in
    let f = front_of count (text ++ flat_map spelled (report h trace run)) (flat_map spelled (r.0 ++ (ss ++ es))) bytes same in
    (f.shorter, f.is)
