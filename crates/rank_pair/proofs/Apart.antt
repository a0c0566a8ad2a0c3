-- Requests that are served one after another are apart by the I lines between them.
use Rattle.std.proofs.Common.{◌≡◌, ◌∙◌, ℕ, suc, zero, ◌+◌, ◌-◌, ◌<◌, ◌≤◌, ◌&&◌, refl, sym, ap, subst, arith, List, [], ◌∷◌, ◌++◌, drop, take, length, sum, lt-ltb}
use Rattle.std.specs.Prelude.{IsTrue}
use Rattle.std.specs.List.{list_all}
use Rattle.std.proofs.lemmas.List.Sums.{sum_by-append}
use Rattle.std.proofs.lemmas.List.{drop-append-le, length-append, take-append-le}
use Rattle.ddr_text.specs.declared.lines.TraceLine.{TraceLine}
use Rattle.reports.proofs.Lines.{idle-append}
use Rattle.reports.proofs.Underway.{and-both, drop-past, idle-front}
use Rattle.reports.specs.Barriers.{AreApart, Serving, idle_clocks, idles_between, is_apart, is_past}
use Rattle.reports.specs.Window.{AreRequests}
use Rattle.rank_pair.specs.Under.{AllPassed, IsPaced}

-- ---- Time passes

passed_later : (trace : List TraceLine) (all : List Serving) (now later : ℕ) → now ≤ later → AllPassed trace all now → AllPassed trace all later
passed_later trace [] now later le p = tt
passed_later trace (it ∷ rest) now later le p = (p.0, (let a = p.1 in omega (arith, a, le)), passed_later trace rest now later le p.2)

pub paced_later : (trace : List TraceLine) (all : List Serving) (now later : ℕ) → now ≤ later → IsPaced trace all now → IsPaced trace all later
paced_later trace all now later le p = record { apart = p.apart; passed = passed_later trace all now later le p.passed; idled = (let a = p.idled in omega (arith, a, le)) }

-- ---- One line more

length_drop : (a : ℕ) (xs : List TraceLine) → a ≤ length xs → length (drop a xs) + a ≡ length xs
length_drop zero xs le = omega arith
length_drop (suc a) [] le = absurd (omega (arith, le))
length_drop (suc a) (x ∷ xs) le = let k = length_drop a xs (omega (arith, le)) in omega (arith, k)

between_more : (trace : List TraceLine) (line : TraceLine) (a b : ℕ) → a ≤ length trace → b ≤ length trace → idles_between (trace ++ line ∷ []) a b ≡ idles_between trace a b
between_more trace line a b low high =
    let k = length_drop a trace low in
    ap (λ l. idle_clocks (take (b - 1 - a) l)) (drop-append-le a trace (line ∷ []) low)
    ∙ ap idle_clocks (take-append-le (b - 1 - a) (drop a trace) (line ∷ []) (omega (arith, k, high)))

apart_same : (trace : List TraceLine) (line : TraceLine) (a b : Serving) → a.number ≤ length trace → b.number ≤ length trace → is_apart (trace ++ line ∷ []) a b ≡ is_apart trace a b
apart_same trace line a b low high =
    ap (λ l. is_past l a.clock b.clock && is_past (idles_between (trace ++ line ∷ []) b.number a.number) b.clock a.clock) (between_more trace line a.number b.number low high)
    ∙ ap (λ l. is_past (idles_between trace a.number b.number) a.clock b.clock && is_past l b.clock a.clock) (between_more trace line b.number a.number high low)

each_same : (trace : List TraceLine) (line : TraceLine) (a : Serving) (all : List Serving) (now : ℕ) → a.number ≤ length trace → AllPassed trace all now
    → list_all (is_apart (trace ++ line ∷ []) a) all ≡ list_all (is_apart trace a) all
each_same trace line a [] now low p = refl
each_same trace line a (b ∷ all) now low p =
    ap (λ t. t && list_all (is_apart (trace ++ line ∷ []) a) all) (apart_same trace line a b low p.0)
    ∙ ap (λ t. is_apart trace a b && t) (each_same trace line a all now low p.2)

apart_more : (trace : List TraceLine) (line : TraceLine) (all : List Serving) (now : ℕ) → AllPassed trace all now → AreApart trace all → AreApart (trace ++ line ∷ []) all
apart_more trace line [] now p k = tt
apart_more trace line (a ∷ all) now p k = (each_same trace line a all now p.0 p.2 ∙ k.0, apart_more trace line all now p.2 k.1)

-- the clocks behind a line, with one line more
sum_behind : (trace : List TraceLine) (line : TraceLine) (n : ℕ) → n ≤ length trace → sum (idle_clocks (drop n (trace ++ line ∷ []))) ≡ sum (idle_clocks (drop n trace)) + sum (idle_clocks (line ∷ []))
sum_behind trace line n low =
    ap (λ l. sum (idle_clocks l)) (drop-append-le n trace (line ∷ []) low) ∙ ap sum (idle-append (drop n trace) (line ∷ [])) ∙ sum_append (idle_clocks (drop n trace)) (idle_clocks (line ∷ []))
  where
    sum_append : (xs ys : List ℕ) → sum (xs ++ ys) ≡ sum xs + sum ys
    sum_append xs ys = sum_by-append (λ x. x) xs ys

sum_whole : (trace : List TraceLine) (line : TraceLine) → sum (idle_clocks (trace ++ line ∷ [])) ≡ sum (idle_clocks trace) + sum (idle_clocks (line ∷ []))
sum_whole trace line = sum_behind trace line 0 (omega arith)

passed_more : (trace : List TraceLine) (line : TraceLine) (all : List Serving) (now later : ℕ) → now + sum (idle_clocks (line ∷ [])) ≤ later → AllPassed trace all now → AllPassed (trace ++ line ∷ []) all later
passed_more trace line [] now later le p = tt
passed_more trace line (it ∷ rest) now later le p = (
  (let a = p.0 in let e = length-append trace (line ∷ []) in omega (arith, a, e)),
  (let a = p.1 in let e = sum_behind trace line it.number p.0 in omega (arith, a, e, le)),
  passed_more trace line rest now later le p.2,
)

-- a line that serves nothing, whose clocks have passed
pub paced_more : (trace : List TraceLine) (line : TraceLine) (all : List Serving) (now later : ℕ) → now + sum (idle_clocks (line ∷ [])) ≤ later → IsPaced trace all now → IsPaced (trace ++ line ∷ []) all later
paced_more trace line all now later le p = record {
  apart = apart_more trace line all now p.passed p.apart;
  passed = passed_more trace line all now later le p.passed;
  idled = (let a = p.idled in let e = sum_whole trace line in omega (arith, a, e, le));
}

-- ---- A request

past_by : (idles : List ℕ) (before clock : ℕ) → before + sum idles < clock → IsTrue (is_past idles before clock)
past_by [] before clock low = refl
past_by (first ∷ idles) before clock low = lt-ltb (before + sum (first ∷ idles)) clock low

apart_one : (trace : List TraceLine) (line : TraceLine) (clock since : ℕ) (b : Serving) → AreRequests (line ∷ []) → since ≤ clock → b.number ≤ length trace → b.clock + sum (idle_clocks (drop b.number trace)) < since
    → IsTrue (is_apart (trace ++ line ∷ []) (record { number = length trace + 1; clock = clock }) b)
apart_one trace line clock since b request late low passed =
    let back : idles_between (trace ++ line ∷ []) (length trace + 1) b.number ≡ [] = ap (λ (l : List TraceLine). idle_clocks (take (b.number - 1 - (length trace + 1)) l))
    (drop-past (trace ++ line ∷ []) (length trace + 1) (let e = length-append trace (line ∷ []) in omega (arith, e))) ∙ none (b.number - 1 - (length trace + 1)) in
    let there : idles_between (trace ++ line ∷ []) b.number (length trace + 1) ≡ idle_clocks (drop b.number trace)
    = idle-front trace (line ∷ []) b.number (length trace + 1 - 1 - b.number) request (enough (length trace) b.number) in
    and-both (is_past (idles_between (trace ++ line ∷ []) (length trace + 1) b.number) clock b.clock) (is_past (idles_between (trace ++ line ∷ []) b.number (length trace + 1)) b.clock clock)
    (ap (λ l. is_past l clock b.clock) back)
    (ap (λ l. is_past l b.clock clock) there ∙ past_by (idle_clocks (drop b.number trace)) b.clock clock (omega (arith, passed, late)))
  where
    none : (k : ℕ) → idle_clocks (take k []) ≡ []
    none zero = refl
    none (suc k) = refl

    enough : (n b : ℕ) → n ≤ b + (n + 1 - 1 - b)
    enough n b = omega arith

apart_each : (trace : List TraceLine) (line : TraceLine) (clock since : ℕ) (all : List Serving) → AreRequests (line ∷ []) → since ≤ clock → AllPassed trace all since
    → IsTrue (list_all (is_apart (trace ++ line ∷ []) (record { number = length trace + 1; clock = clock })) all)
apart_each trace line clock since [] request late p = refl
apart_each trace line clock since (b ∷ all) request late p =
    let own : Serving = record { number = length trace + 1; clock = clock } in
    and-both (is_apart (trace ++ line ∷ []) own b) (list_all (is_apart (trace ++ line ∷ []) own) all) (apart_one trace line clock since b request late p.0 p.1) (apart_each trace line clock since all request late p.2)

requests_idle : (line : TraceLine) → AreRequests (line ∷ []) → sum (idle_clocks (line ∷ [])) ≡ 0
requests_idle line request = ap sum (idle-front [] (line ∷ []) 0 1 request (omega arith))

-- a line that is served at a clock not before
pub paced_served : (trace : List TraceLine) (line : TraceLine) (all : List Serving) (since clock number : ℕ) → AreRequests (line ∷ []) → since ≤ clock → number ≡ length trace + 1 → IsPaced trace all since
    → IsPaced (trace ++ line ∷ []) (record { number = number; clock = clock } ∷ all) (clock + 1)
paced_served trace line all since clock number request late is p =
    let idle = requests_idle line request in
    let long = length-append trace (line ∷ []) in
    let all_long : IsPaced (trace ++ line ∷ []) all (clock + 1) = paced_more trace line all since (clock + 1) (omega (arith, late, idle)) p in
    let behind : drop number (trace ++ line ∷ []) ≡ [] = drop-past (trace ++ line ∷ []) number (omega (arith, long, is)) in
    record {
      apart = (subst (λ (n : ℕ). IsTrue (list_all (is_apart (trace ++ line ∷ []) (record { number = n; clock = clock })) all)) (sym is) (apart_each trace line clock since all request late p.passed), all_long.apart);
      passed = (omega (arith, long, is), subst (λ (l : List TraceLine). clock + sum (idle_clocks l) < clock + 1) (sym behind) (omega arith), all_long.passed);
      idled = all_long.idled;
    }
