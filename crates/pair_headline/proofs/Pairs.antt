-- The requests of both ranks, each with its rank: those of a trace, and those that a run serves, which are the first of them.
use Rattle.std.proofs.Common.{◌≡◌, ◌∙◌, ℕ, suc, ◌+◌, ◌-◌, refl, sym, ap, subst, arith, Option, Some, None, List, [], ◌∷◌, ◌++◌, map, reverse, slice_get, append-nil, if◌then◌else◌}
use Rattle.std.specs.Prelude.{IfSome}
use Rattle.std.specs.List.{flat_map}
use Rattle.std.proofs.lemmas.Grind.{flat_map-append}
use Rattle.std.proofs.lemmas.List.{reverse-append}
use Rattle.device_core.specs.Stored.{also}
use Rattle.speed_bin.specs.declared.header.Header.{Header}
use Rattle.ddr_text.specs.declared.lines.TraceLine.{TraceLine}
use Rattle.ddr_text.specs.declared.lines.TraceLine.TheVariants.{Read, Write, Flip, Idle}
use Rattle.rank_bus.specs.Buses.{is_same}
use Rattle.rank_bus.specs.declared.rank.Rank.{Rank}
use Rattle.rank_bus.specs.declared.rank.Rank.TheVariants.{Zero, One}
use Rattle.reports.specs.Requests.{Request, request_of, requests, requests_from}
use Rattle.reports.specs.Runs.{IsNext, Issues, Flips, Run, Served, Step, served}
use Rattle.reports.specs.Sound.{IsSoundPlace, IsSoundStep}
use Rattle.pair_reports.specs.Lines.{deed_of, deeds, deeds_from, lines_of, only}
use Rattle.pair_reports.specs.Runs.{PairRun, deed, done, number_of, run_of}
use Rattle.pair_reports.specs.declared.rank_line.RankLine.{RankLine}
use Rattle.pair_reports.proofs.Grown.{AllSound, fewer_steps, own_step}
use Rattle.pair_headline.proofs.Deeds.{AsksAt, FlipsAt, asks_at, flips_at}

-- a request, and the rank that it is for
pub record RankRequest : Type 0 where
  pub rank : Rank
  pub request : Request

abbrev pub of_requests : Rank → List Request → List RankRequest
of_requests rank rs = map (λ r. record { rank = rank; request = r }) rs

-- those of these trace lines, numbered from n
abbrev pub pairs_from : ℕ → List RankLine → List RankRequest
pairs_from n [] = []
pairs_from n (it ∷ trace) = of_requests it.rank (request_of n it.line) ++ pairs_from (suc n) trace

-- the request that a step serves
abbrev pub request_in : Step → Option Request
request_in (Issues s) = s.request
request_in (Flips number) = None

abbrev pub pair_with : Rank → Option Request → Option RankRequest
pair_with rank None = None
pair_with rank (Some r) = Some (record { rank = rank; request = r })

-- the requests that a run serves, the newest first
abbrev pub served_pairs : PairRun → List RankRequest
served_pairs [] = []
served_pairs (it ∷ run) = also (pair_with it.rank (request_in it.step)) (served_pairs run)

-- ---- The line with a number

-- the request of a trace line with this number
abbrev pub pairs_in : ℕ → Option RankLine → List RankRequest
pairs_in number None = []
pairs_in number (Some it) = of_requests it.rank (request_of number it.line)

abbrev pub pairs_at : List RankLine → List ℕ → List RankRequest
pairs_at trace numbers = flat_map (λ number. pairs_in number (slice_get trace (number - 1))) numbers

-- a step does the line with its number
pub asks_in : (rank : Rank) (trace : List RankLine) (r : Request) → AsksAt rank trace r → pairs_in r.number (slice_get trace (r.number - 1)) ≡ record { rank = rank; request = r } ∷ []
asks_in rank trace r a = ap (pairs_in r.number) a.there ∙ ap (of_requests rank) a.is

pub flips_in : (rank : Rank) (trace : List RankLine) (number : ℕ) → FlipsAt rank trace number → pairs_in number (slice_get trace (number - 1)) ≡ []
flips_in rank trace number f = ap (pairs_in number) f.there

one_asked : (rank : Rank) (trace : List RankLine) (o : Option Request) → ((r : Request) → o ≡ Some r → AsksAt rank trace r) → pairs_at trace (also (number_of o) []) ≡ also (pair_with rank o) []
one_asked rank trace None a = refl
one_asked rank trace (Some r) a = append-nil (pairs_in r.number (slice_get trace (r.number - 1))) ∙ asks_in rank trace r (a r refl)

-- the request of a sound command is that of a line of its rank
pub asks_of : (h : Header) (rank : Rank) (trace : List RankLine) (run : Run) (s : Served) → IsSoundPlace h (only rank trace) run s → (r : Request) → s.request ≡ Some r → AsksAt rank trace r
asks_of h rank trace run s sound r is = asks_at rank trace run r (go s.request is sound.is_next)
  where
    go : (o : Option Request) → o ≡ Some r → IfSome o (λ q. IsNext (requests (only rank trace)) run q) → IsNext (requests (only rank trace)) run r
    go None is next = absurd cc
    go (Some q) is next = let same : q ≡ r = cc in subst (IsNext (requests (only rank trace)) run) same next

one_step : (h : Header) (rank : Rank) (trace : List RankLine) (run : Run) (step : Step) → IsSoundStep h (only rank trace) run step → pairs_at trace (also (deed step) []) ≡ also (pair_with rank (request_in step)) []
one_step h rank trace run (Issues s) sound = one_asked rank trace s.request (asks_of h rank trace run s sound)
one_step h rank trace run (Flips number) sound = append-nil (pairs_in number (slice_get trace (number - 1))) ∙ flips_in rank trace number (flips_at rank trace _ number sound.is_next)

-- ---- The requests that a run serves

pub reverse-also : {A : Type 0} (o : Option A) (xs : List A) → reverse (also o xs) ≡ reverse xs ++ also o []
reverse-also None xs = sym (append-nil (reverse xs))
reverse-also (Some x) xs = reverse-append (x ∷ []) xs

pub served_done : (h : Header) (trace : List RankLine) (run : PairRun) → AllSound h trace run → reverse (served_pairs run) ≡ pairs_at trace (reverse (done run))
served_done h trace [] sound = refl
served_done h trace (it ∷ run) sound =
    let own = own_step h trace it.rank it.step run sound in
    reverse-also (pair_with it.rank (request_in it.step)) (served_pairs run)
    ∙ ap (λ l. l ++ also (pair_with it.rank (request_in it.step)) []) (served_done h trace run (fewer_steps h trace it.rank it.step run sound))
    ∙ ap (λ l. pairs_at trace (reverse (done run)) ++ l) (sym (one_step h it.rank trace (run_of it.rank run) it.step own.0))
    ∙ sym (flat_map-append (λ number. pairs_in number (slice_get trace (number - 1))) (reverse (done run)) (also (deed it.step) []))
    ∙ ap (pairs_at trace) (sym (reverse-also (deed it.step) (done run)))

-- ---- The requests of a trace

one_line : (whole : List RankLine) (number : ℕ) (rank : Rank) (line : TraceLine) → slice_get whole (number - 1) ≡ Some (record { rank = rank; line = line })
    → pairs_at whole (deed_of number line) ≡ of_requests rank (request_of number line)
one_line whole number rank (Read line) e = append-nil (pairs_in number (slice_get whole (number - 1))) ∙ ap (pairs_in number) e
one_line whole number rank (Write line bytes) e = append-nil (pairs_in number (slice_get whole (number - 1))) ∙ ap (pairs_in number) e
one_line whole number rank (Flip line device bit) e = append-nil (pairs_in number (slice_get whole (number - 1))) ∙ ap (pairs_in number) e
one_line whole number rank (Idle clocks) e = refl

all_lines : (whole : List RankLine) (n : ℕ) (trace : List RankLine) → ((j : ℕ) → slice_get whole (n + j) ≡ slice_get trace j) → pairs_at whole (deeds_from (suc n) (lines_of trace)) ≡ pairs_from (suc n) trace
all_lines whole n [] k = refl
all_lines whole n (it ∷ trace) k =
    flat_map-append (λ number. pairs_in number (slice_get whole (number - 1))) (deed_of (suc n) it.line) (deeds_from (suc (suc n)) (lines_of trace))
    ∙ ap (λ l. l ++ pairs_at whole (deeds_from (suc (suc n)) (lines_of trace))) (one_line whole (suc n) it.rank it.line (ap (slice_get whole) (omega arith) ∙ k 0))
    ∙ ap (λ l. of_requests it.rank (request_of (suc n) it.line) ++ l) (all_lines whole (suc n) trace (λ j. ap (slice_get whole) (omega arith) ∙ k (suc j)))

pub all_deeds : (trace : List RankLine) → pairs_at trace (deeds (lines_of trace)) ≡ pairs_from 1 trace
all_deeds trace = all_lines trace 0 trace (λ j. ap (slice_get trace) (omega arith))

-- those that a run serves are the first of the trace's
pub begins_all : (h : Header) (trace : List RankLine) (run : PairRun) (left : List ℕ) → AllSound h trace run → reverse (done run) ++ left ≡ deeds (lines_of trace)
    → reverse (served_pairs run) ++ pairs_at trace left ≡ pairs_from 1 trace
begins_all h trace run left sound order =
    ap (λ l. l ++ pairs_at trace left) (served_done h trace run sound)
    ∙ sym (flat_map-append (λ number. pairs_in number (slice_get trace (number - 1))) (reverse (done run)) left)
    ∙ ap (pairs_at trace) order
    ∙ all_deeds trace

-- ---- Those of one rank

abbrev pub of_one : Rank → List RankRequest → List Request
of_one rank [] = []
of_one rank (p ∷ ps) = if is_same rank p.rank then p.request ∷ of_one rank ps else of_one rank ps

one-front : (rank owner : Rank) (r : Request) (a b c : List Request) → c ≡ a ++ b → (if is_same rank owner then r ∷ c else c) ≡ (if is_same rank owner then r ∷ a else a) ++ b
one-front Zero Zero r a b c same = ap (λ rs. r ∷ rs) same
one-front Zero One r a b c same = same
one-front One Zero r a b c same = same
one-front One One r a b c same = ap (λ rs. r ∷ rs) same

pub of_one-append : (rank : Rank) (a b : List RankRequest) → of_one rank (a ++ b) ≡ of_one rank a ++ of_one rank b
of_one-append rank [] b = refl
of_one-append rank (p ∷ a) b = one-front rank p.rank p.request (of_one rank a) (of_one rank b) (of_one rank (a ++ b)) (of_one-append rank a b)

one-reverse : (rank owner : Rank) (r : Request) (a : List Request) → reverse a ++ of_one rank (record { rank = owner; request = r } ∷ []) ≡ reverse (if is_same rank owner then r ∷ a else a)
one-reverse Zero Zero r a = sym (reverse-append (r ∷ []) a)
one-reverse Zero One r a = append-nil (reverse a)
one-reverse One Zero r a = append-nil (reverse a)
one-reverse One One r a = sym (reverse-append (r ∷ []) a)

of_one-reverse : (rank : Rank) (ps : List RankRequest) → of_one rank (reverse ps) ≡ reverse (of_one rank ps)
of_one-reverse rank [] = refl
of_one-reverse rank (p ∷ ps) =
    ap (of_one rank) (reverse-append (p ∷ []) ps)
    ∙ of_one-append rank (reverse ps) (p ∷ [])
    ∙ ap (λ l. l ++ of_one rank (p ∷ [])) (of_one-reverse rank ps)
    ∙ one-reverse rank p.rank p.request (of_one rank ps)

served_more : (rank owner : Rank) (o : Option Request) (step : Step) (run : Run) (ps : List RankRequest) → served (step ∷ run) ≡ also o (served run) → served run ≡ of_one rank ps
    → served (if is_same rank owner then step ∷ run else run) ≡ of_one rank (also (pair_with owner o) ps)
served_more Zero Zero None step run ps own same = own ∙ same
served_more Zero Zero (Some r) step run ps own same = own ∙ ap (λ rs. r ∷ rs) same
served_more Zero One None step run ps own same = same
served_more Zero One (Some r) step run ps own same = same
served_more One Zero None step run ps own same = same
served_more One Zero (Some r) step run ps own same = same
served_more One One None step run ps own same = own ∙ same
served_more One One (Some r) step run ps own same = own ∙ ap (λ rs. r ∷ rs) same

pub served_by : (step : Step) (run : Run) → served (step ∷ run) ≡ also (request_in step) (served run)
served_by (Issues s) run = refl
served_by (Flips number) run = refl

pub served_one : (rank : Rank) (run : PairRun) → served (run_of rank run) ≡ of_one rank (served_pairs run)
served_one rank [] = refl
served_one rank (it ∷ run) = served_more rank it.rank (request_in it.step) it.step (run_of rank run) (served_pairs run) (served_by it.step (run_of rank run)) (served_one rank run)

asked_line : (rank owner : Rank) (n : ℕ) (line : TraceLine) (rs : List Request) (ps : List RankRequest) → rs ≡ of_one rank ps
    → request_of n (if is_same rank owner then line else Idle 0) ++ rs ≡ of_one rank (of_requests owner (request_of n line) ++ ps)
asked_line Zero Zero n (Read line) rs ps same = ap (λ l. request_of n (Read line) ++ l) same
asked_line Zero Zero n (Write line bytes) rs ps same = ap (λ l. request_of n (Write line bytes) ++ l) same
asked_line Zero Zero n (Flip line device bit) rs ps same = same
asked_line Zero Zero n (Idle clocks) rs ps same = same
asked_line Zero One n (Read line) rs ps same = same
asked_line Zero One n (Write line bytes) rs ps same = same
asked_line Zero One n (Flip line device bit) rs ps same = same
asked_line Zero One n (Idle clocks) rs ps same = same
asked_line One Zero n (Read line) rs ps same = same
asked_line One Zero n (Write line bytes) rs ps same = same
asked_line One Zero n (Flip line device bit) rs ps same = same
asked_line One Zero n (Idle clocks) rs ps same = same
asked_line One One n (Read line) rs ps same = ap (λ l. request_of n (Read line) ++ l) same
asked_line One One n (Write line bytes) rs ps same = ap (λ l. request_of n (Write line bytes) ++ l) same
asked_line One One n (Flip line device bit) rs ps same = same
asked_line One One n (Idle clocks) rs ps same = same

asked_lines : (rank : Rank) (n : ℕ) (trace : List RankLine) → requests_from n (only rank trace) ≡ of_one rank (pairs_from n trace)
asked_lines rank n [] = refl
asked_lines rank n (it ∷ trace) = asked_line rank it.rank n it.line (requests_from (suc n) (only rank trace)) (pairs_from (suc n) trace) (asked_lines rank (suc n) trace)

-- each rank serves the first of its requests
pub begins_one : (h : Header) (trace : List RankLine) (run : PairRun) (left : List ℕ) (rank : Rank) → AllSound h trace run → reverse (done run) ++ left ≡ deeds (lines_of trace)
    → reverse (served (run_of rank run)) ++ of_one rank (pairs_at trace left) ≡ requests (only rank trace)
begins_one h trace run left rank sound order =
    ap (λ l. reverse l ++ of_one rank (pairs_at trace left)) (served_one rank run)
    ∙ ap (λ l. l ++ of_one rank (pairs_at trace left)) (sym (of_one-reverse rank (served_pairs run)))
    ∙ sym (of_one-append rank (reverse (served_pairs run)) (pairs_at trace left))
    ∙ ap (of_one rank) (begins_all h trace run left sound order)
    ∙ sym (asked_lines rank 1 trace)
