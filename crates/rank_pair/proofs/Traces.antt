-- A trace with one line more.
use Rattle.std.proofs.Common.{◌≡◌, ◌∙◌, ℕ, suc, ◌+◌, ◌≤◌, refl, sym, ap, subst, arith, List, [], ◌∷◌, ◌++◌, length, sum, append-nil, append_assoc, if◌then◌else◌, slice_get, Some}
use Rattle.std.proofs.lemmas.List.{length-append, map-append}
use Rattle.std.proofs.lemmas.List.Sums.{sum_by-append}
use Rattle.ddr_text.specs.declared.lines.TraceLine.{TraceLine}
use Rattle.ddr_text.specs.declared.lines.TraceLine.TheVariants.{Read, Write, Flip, Idle}
use Rattle.rank_bus.specs.Buses.{is_same, other}
use Rattle.rank_bus.specs.declared.rank.Rank.{Rank}
use Rattle.rank_bus.specs.declared.rank.Rank.TheVariants.{Zero, One}
use Rattle.reports.specs.Barriers.{idle_clocks}
use Rattle.reports.proofs.Found.{requests-append}
use Rattle.reports.proofs.Lines.{idle-append}
use Rattle.reports.specs.Requests.{Request, request_of, requests, requests_from}
use Rattle.pair_reports.specs.Lines.{deed_of, deeds_from, line_for, lines_of, only}
use Rattle.pair_reports.specs.declared.rank_line.RankLine.{RankLine}
use Rattle.rank_pair.specs.Under.{asked_in, idle_in}

-- ---- By rank

-- a line as its own rank has it, and as the other one has it
pub own_line : (rank : Rank) (it : RankLine) → it.rank ≡ rank → line_for rank it ≡ it.line
own_line rank it own = subst (λ (r : Rank). line_for r it ≡ it.line) own (same it.rank it)
  where
    same : (r : Rank) (line : RankLine) → (if is_same r r then line.line else Idle 0) ≡ line.line
    same Zero line = refl
    same One line = refl

pub rest_line : (rank : Rank) (it : RankLine) → it.rank ≡ rank → line_for (other rank) it ≡ Idle 0
rest_line rank it own = subst (λ (r : Rank). line_for (other r) it ≡ Idle 0) own (apart it.rank it)
  where
    apart : (r : Rank) (line : RankLine) → (if is_same (other r) r then line.line else Idle 0) ≡ Idle 0
    apart Zero line = refl
    apart One line = refl

-- ---- How many requests

few_asked : (n : ℕ) (line : TraceLine) → length (request_of n line) ≤ 1
few_asked n (Read line) = omega arith
few_asked n (Write line bytes) = omega arith
few_asked n (Flip line device bit) = omega arith
few_asked n (Idle clocks) = omega arith

few_from : (n : ℕ) (trace : List RankLine) → length (requests_from n (lines_of trace)) ≤ length trace
few_from n [] = omega arith
few_from n (it ∷ trace) =
    let a = few_asked n it.line in
    let b = few_from (suc n) trace in
    let e = length-append (request_of n it.line) (requests_from (suc n) (lines_of trace)) in
    omega (arith, a, b, e)

-- a trace has no more requests than lines
pub asked_few : (trace : List RankLine) → asked_in trace ≤ length trace
asked_few trace = few_from 1 trace

-- ---- One line more

pub lines_more : (front : List RankLine) (it : RankLine) → lines_of (front ++ it ∷ []) ≡ lines_of front ++ it.line ∷ []
lines_more front it = map-append (λ (line : RankLine). line.line) front (it ∷ [])

pub only_more : (rank : Rank) (front : List RankLine) (it : RankLine) → only rank (front ++ it ∷ []) ≡ only rank front ++ line_for rank it ∷ []
only_more rank front it = map-append (line_for rank) front (it ∷ [])

pub length_only : (rank : Rank) (trace : List RankLine) → length (only rank trace) ≡ length trace
length_only rank [] = refl
length_only rank (it ∷ trace) = ap suc (length_only rank trace)

pub length_lines : (trace : List RankLine) → length (lines_of trace) ≡ length trace
length_lines [] = refl
length_lines (it ∷ trace) = ap suc (length_lines trace)

pub length_more : (front : List RankLine) (it : RankLine) → length (front ++ it ∷ []) ≡ length front + 1
length_more front it = length-append front (it ∷ [])

pub last_line : (front : List TraceLine) (line : TraceLine) (n : ℕ) → n ≡ length front → slice_get (front ++ line ∷ []) n ≡ Some line
last_line front line n is = ap (slice_get (front ++ line ∷ [])) is ∙ there front
  where
    there : (xs : List TraceLine) → slice_get (xs ++ line ∷ []) (length xs) ≡ Some line
    there [] = refl
    there (x ∷ xs) = there xs

-- what is to be done with one line more
pub deeds_more : (n : ℕ) (front : List TraceLine) (line : TraceLine) → deeds_from n (front ++ line ∷ []) ≡ deeds_from n front ++ deed_of (n + length front) line
deeds_more n [] line = append-nil (deed_of n line) ∙ ap (λ (m : ℕ). deed_of m line) (sym (plus-zero n))
  where
    plus-zero : (n : ℕ) → n + 0 ≡ n
    plus-zero n = omega arith
deeds_more n (first ∷ front) line =
    ap (λ (xs : List ℕ). deed_of n first ++ xs) (deeds_more (suc n) front line ∙ ap (λ (m : ℕ). deeds_from (suc n) front ++ deed_of m line) (count n (length front)))
    ∙ sym (append_assoc (deed_of n first) (deeds_from (suc n) front) (deed_of (n + suc (length front)) line))
  where
    count : (a b : ℕ) → suc a + b ≡ a + suc b
    count a b = omega arith

-- a line that is no I line lets no clock pass
pub idle_more : (front : List RankLine) (it : RankLine) → idle_clocks (it.line ∷ []) ≡ [] → idle_in (front ++ it ∷ []) ≡ idle_in front
idle_more front it none =
    ap (λ (l : List TraceLine). sum (idle_clocks l)) (lines_more front it) ∙ ap sum (idle-append (lines_of front) (it.line ∷ []))
    ∙ ap (λ (l : List ℕ). sum (idle_clocks (lines_of front) ++ l)) none ∙ ap sum (append-nil (idle_clocks (lines_of front)))

-- the clocks of one line more
pub idle_sum : (front : List RankLine) (it : RankLine) → idle_in (front ++ it ∷ []) ≡ idle_in front + sum (idle_clocks (it.line ∷ []))
idle_sum front it =
    ap (λ (l : List TraceLine). sum (idle_clocks l)) (lines_more front it) ∙ ap sum (idle-append (lines_of front) (it.line ∷ []))
    ∙ sum_by-append (λ x. x) (idle_clocks (lines_of front)) (idle_clocks (it.line ∷ []))

-- one more request
pub asked_more : (front : List RankLine) (it : RankLine) (r : Request) → request_of (1 + length front) it.line ≡ r ∷ [] → asked_in (front ++ it ∷ []) ≡ suc (asked_in front)
asked_more front it r asks =
    ap (λ (l : List TraceLine). length (requests l)) (lines_more front it)
    ∙ ap length (requests-append 1 (lines_of front) (it.line ∷ []) (1 + length front) (ap (λ (n : ℕ). 1 + n) (sym (length_lines front))))
    ∙ ap (λ (rs : List Request). length (requests (lines_of front) ++ (rs ++ []))) asks
    ∙ long (requests (lines_of front)) r
  where
    long : (rs : List Request) (q : Request) → length (rs ++ (q ∷ [])) ≡ suc (length rs)
    long rs q = let e = length-append rs (q ∷ []) in omega (arith, e)

-- the requests of a rank: one more of its own, and none of a line of the other one
pub own_asked : (rank : Rank) (front : List RankLine) (it : RankLine) (r : Request) → it.rank ≡ rank → request_of (1 + length front) it.line ≡ r ∷ []
    → length (requests (only rank (front ++ it ∷ []))) ≡ suc (length (requests (only rank front)))
own_asked rank front it r own asks =
    ap (λ (l : List TraceLine). length (requests l)) (only_more rank front it)
    ∙ ap length (requests-append 1 (only rank front) (line_for rank it ∷ []) (1 + length front) (ap (λ (n : ℕ). 1 + n) (sym (length_only rank front))))
    ∙ ap (λ (line : TraceLine). length (requests (only rank front) ++ (request_of (1 + length front) line ++ []))) (own_line rank it own)
    ∙ ap (λ (rs : List Request). length (requests (only rank front) ++ (rs ++ []))) asks
    ∙ long (requests (only rank front)) r
  where
    long : (rs : List Request) (q : Request) → length (rs ++ (q ∷ [])) ≡ suc (length rs)
    long rs q = let e = length-append rs (q ∷ []) in omega (arith, e)

pub rest_asked : (rank : Rank) (front : List RankLine) (it : RankLine) → it.rank ≡ rank → length (requests (only (other rank) (front ++ it ∷ []))) ≡ length (requests (only (other rank) front))
rest_asked rank front it own =
    ap (λ (l : List TraceLine). length (requests l)) (only_more (other rank) front it)
    ∙ ap length (requests-append 1 (only (other rank) front) (line_for (other rank) it ∷ []) (1 + length front) (ap (λ (n : ℕ). 1 + n) (sym (length_only (other rank) front))))
    ∙ ap (λ (line : TraceLine). length (requests (only (other rank) front) ++ (request_of (1 + length front) line ++ []))) (rest_line rank it own)
    ∙ ap length (append-nil (requests (only (other rank) front)))
