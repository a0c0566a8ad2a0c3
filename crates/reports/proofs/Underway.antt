-- A run that is under way, from turn to turn.
use Rattle.std.proofs.Common.{◌≡◌, ℕ, zero, suc, ◌+◌, ◌-◌, ◌<◌, ◌≤◌, ◌&&◌, Bool, true, false, cond, Option, Some, None, List, [], ◌∷◌, ◌++◌, map, reverse, length, take, drop, sum, refl, sym, ap, ◌∙◌, arith, append_assoc, append-nil}
use Rattle.std.specs.Prelude.{IsTrue, IfSome, not, filter}
use Rattle.std.specs.List.{list_all}
use Rattle.std.proofs.lemmas.Bool.{lt-ltb, ltb-true}
use Rattle.std.proofs.lemmas.List.{length-append, take-append-le, take-append-drop, map-append, length-take}
use Rattle.speed_bin.specs.declared.header.Header.{Header}
use Rattle.requests.specs.Queue.{Step as NumberedStep, waiting, is_served as is_served_number}
use Rattle.requests.specs.declared.request.Request.{Request as Asked}
use Rattle.requests.specs.declared.waiting.Waiting.{Waiting}
use Rattle.ddr_text.specs.declared.lines.TraceLine.{TraceLine}
use Rattle.ddr_text.specs.declared.lines.TraceLine.TheVariants.{Read, Write, Flip, Idle}
use Rattle.reports.specs.Requests.{Request, requests_from, requests, on}
use Rattle.reports.specs.Runs.{Step, Issues, Flips, Run, served, is_served, Serves, IsNext, held, ready}
use Rattle.reports.specs.Barriers.{Serving, with_serving, idle_clocks, idles_between, is_past, is_apart, AreApart}
use Rattle.reports.specs.Offered.{asked, offered, rank, rank_of, controller_steps}
use Rattle.reports.specs.Sound.{Sound}
use Rattle.reports.specs.Window.{AreRequests}
use Rattle.reports.specs.Underway.{is_waited}
use Rattle.reports.proofs.Ready.{still, ready-held}
use Rattle.reports.proofs.Found.{requests-append, Between-asked, Between-inside}
use Rattle.reports.proofs.Order.{waits, is_split}
use Rattle.reports.proofs.Offered.{wait, numbered-part, rank-split, served-rank}
use Rattle.reports.proofs.Served.{next-unserved}

-- ---- All requests are served

all-step : (b : Bool) (q : Request) (rs held_rs : List Request) (P : Type 0) → cond b held_rs (q ∷ rs) ≡ [] → (b ≡ true → held_rs ≡ [] → P) → P
all-step true q rs held_rs P e f = f refl e
all-step false q rs held_rs P e f = cc

pub each-served : (rs earlier later : List Request) (r : Request) (run : Run) → held rs run ≡ [] → rs ≡ earlier ++ r ∷ later → is_served r.number run ≡ true
each-served [] [] later r run h e = cc
each-served [] (x ∷ earlier) later r run h e = cc
each-served (q ∷ rs) [] later r run h e =
    let f : q ≡ r = cc in
    all-step (is_served q.number run) q rs (held rs run) (is_served r.number run ≡ true) h (λ b k. ap (λ (v : Request). is_served v.number run) (sym f) ∙ b)
each-served (q ∷ rs) (x ∷ earlier) later r run h e =
    let f : rs ≡ earlier ++ r ∷ later = cc in
    all-step (is_served q.number run) q rs (held rs run) (is_served r.number run ≡ true) h (λ b k. each-served rs earlier later r run k f)

pub none-held : (rs : List Request) (run : Run) → ((earlier later : List Request) (r : Request) → rs ≡ earlier ++ r ∷ later → is_served r.number run ≡ true) → held rs run ≡ []
none-held [] run h = refl
none-held (q ∷ rs) run h =
    ap (λ b. cond b (held rs run) (q ∷ rs)) (h [] rs q refl)
    ∙ none-held rs run (λ earlier later r e. h (q ∷ earlier) later r (ap (λ l. q ∷ l) e))

pub apart-bools : false ≡ true → ⊥
apart-bools e = cc

serves-line : (h : Header) (trace : List TraceLine) (run : Run) (line : ℕ) → Sound h trace run → held (requests trace) run ≡ [] → (left : List Request) → reverse (on line (served run)) ++ left ≡ on line (requests trace) → reverse (on line (served run)) ++ [] ≡ on line (requests trace)
serves-line h trace run line sound none [] e = e
serves-line h trace run line sound none (q ∷ rest) e =
    let f = is_split line (requests trace) (reverse (on line (served run))) rest q (sym e) in
    let next : IsNext (requests trace) run q = record { earlier = f.earlier; later = f.later; is_offered = f.is; in_order = ap (λ l. reverse (on l (served run))) f.of_line ∙ sym f.on_line ∙ ap (λ l. on l f.earlier) (sym f.of_line) } in
    absurd (apart-bools (sym (next-unserved h trace run q sound next) ∙ each-served (requests trace) f.earlier f.later q run none f.is))

-- each line's requests are served, in order, where none is held
pub serves-all : (h : Header) (trace : List TraceLine) (run : Run) → Sound h trace run → held (requests trace) run ≡ [] → Serves (requests trace) run []
serves-all h trace run sound none line = let w = waits h trace run line sound in serves-line h trace run line sound none w.waiting w.is

-- what the controller says of it
abbrev pub NoneLeft : Type 0
NoneLeft = (h : Header) (offered : List Asked) (log : List NumberedStep) (n : ℕ) → waiting h offered log ≡ [] → 1 ≤ n → n ≤ length offered → is_served_number n log ≡ true

pub none-waits : NoneLeft → (h : Header) (trace : List TraceLine) (run : Run) → Sound h trace run → waiting h (offered trace) (controller_steps trace run) ≡ [] → held (requests trace) run ≡ []
none-waits law h trace run sound none =
    none-held (requests trace) run (λ earlier later r e.
    sym (served-rank h trace run earlier later r sound e)
    ∙ law h (offered trace) (controller_steps trace run) (rank trace r.number) none
    (omega (arith, rank-split trace earlier later r e))
    (omega (arith, rank-split trace earlier later r e, long earlier later r e)))
  where
    long : (earlier later : List Request) (r : Request) → requests trace ≡ earlier ++ r ∷ later → length earlier + 1 ≤ length (offered trace)
    long earlier later r e = let k : length (offered trace) ≡ length earlier + suc (length later) = ap (λ l. length (map asked l)) e ∙ same (earlier ++ r ∷ later) ∙ length-append earlier (r ∷ later) in omega (arith, k)
      where
        same : (rs : List Request) → length (map asked rs) ≡ length rs
        same [] = refl
        same (q ∷ rs) = ap suc (same rs)

-- ---- A longer trace, for a controller

abbrev rank-longer_of : List TraceLine → List TraceLine → Option Request → Type 0
rank-longer_of trace more o = rank_of (trace ++ more) o ≡ rank_of trace o

pub rank-longer : (trace more : List TraceLine) (run : Run) (o : Option Request) → IfSome o (λ r. IsNext (requests trace) run r) → rank-longer_of trace more o
rank-longer trace more run None n = refl
rank-longer trace more run (Some r) n =
    let k = Between-inside 1 (1 + length trace) n.earlier n.later r (requests trace) (Between-asked 1 trace (1 + length trace) refl) n.is_offered in
    ap (λ l. Some (length (requests l))) (take-append-le r.number trace more (omega (arith, k.1)))

pub steps-longer : (h : Header) (trace more : List TraceLine) (run : Run) → Sound h trace run → controller_steps (trace ++ more) run ≡ controller_steps trace run
steps-longer h trace more [] sound = refl
steps-longer h trace more (Issues s ∷ run) sound =
    ap (λ id. record { issued = s.issued; id = id } ∷ controller_steps (trace ++ more) run) (rank-longer trace more run s.request sound.0.is_next)
    ∙ ap (λ l. record { issued = s.issued; id = rank_of trace s.request } ∷ l) (steps-longer h trace more run sound.1)
steps-longer h trace more (Flips k ∷ run) sound = steps-longer h trace more run sound.1

pub offered-longer : (trace more : List TraceLine) → offered (trace ++ more) ≡ offered trace ++ map asked (requests_from (1 + length trace) more)
offered-longer trace more = ap (map asked) (requests-append 1 trace more (1 + length trace) refl) ∙ map-append asked (requests trace) (requests_from (1 + length trace) more)

-- ---- Where none is held, none waits

waits-none_part : (h : Header) (trace : List TraceLine) (run : Run) (before rs : List Request) → Sound h trace run → requests trace ≡ before ++ rs → held rs run ≡ [] → filter (λ w. not (is_served_number w.id (controller_steps trace run))) (map (wait h trace) rs) ≡ []
waits-none_part h trace run before [] sound e none = refl
waits-none_part h trace run before (r ∷ rs) sound e none =
    let rest : List Waiting = filter (λ w. not (is_served_number w.id (controller_steps trace run))) (map (wait h trace) rs) in
    all-step (is_served r.number run) r rs (held rs run) (cond (not (is_served_number (rank trace r.number) (controller_steps trace run))) (wait h trace r ∷ rest) rest ≡ []) none
    (λ b k.
    ap (λ t. cond (not t) (wait h trace r ∷ rest) rest) (served-rank h trace run before rs r sound e ∙ b)
    ∙ waits-none_part h trace run (before ++ r ∷ []) rs sound (e ∙ sym (append_assoc before (r ∷ []) rs)) k)

pub waits-none : (h : Header) (trace : List TraceLine) (run : Run) → Sound h trace run → held (requests trace) run ≡ [] → waiting h (offered trace) (controller_steps trace run) ≡ []
waits-none h trace run sound none =
    ap (filter (λ w. not (is_served_number w.id (controller_steps trace run)))) (numbered-part h trace 1 [] (requests trace) [] refl (sym (append-nil (requests trace))))
    ∙ waits-none_part h trace run [] (requests trace) sound refl none

-- ---- The parts of a trace under way

pub lengths : (trace : List TraceLine) (n : ℕ) → n ≤ length trace → length (take n trace) ≡ n
lengths trace n le = omega (arith, length-take n trace, le)

pub two-parts : (trace : List TraceLine) (n : ℕ) → n ≤ length trace → requests trace ≡ requests (take n trace) ++ requests_from (1 + n) (drop n trace)
two-parts trace n le =
    ap requests (sym (take-append-drop n trace))
    ∙ requests-append 1 (take n trace) (drop n trace) (1 + n) (omega (arith, lengths trace n le))

pub whole : (rs : List Request) (run : Run) → held rs run ≡ [] → ready rs run ≡ rs
whole rs run e = sym (append-nil (ready rs run)) ∙ ap (λ l. ready rs run ++ l) (sym e) ∙ ready-held rs run

pub still-done : (rs : List Request) (step : Step) (run : Run) → held rs run ≡ [] → held rs (step ∷ run) ≡ []
still-done rs step run e = none-held rs (step ∷ run) (λ earlier later r f. still r.number step run (each-served rs earlier later r run e f))

-- a request is in one of two lists
in-two : (xs ys earlier later : List Request) (r : Request) (P : Type 0) → xs ++ ys ≡ earlier ++ r ∷ later → ((l : List Request) → xs ≡ earlier ++ r ∷ l → P) → ((e : List Request) → ys ≡ e ++ r ∷ later → P) → P
in-two [] ys earlier later r P e f g = g earlier e
in-two (x ∷ xs) ys [] later r P e f g = f xs (let k : x ≡ r = cc in ap (λ v. v ∷ xs) k)
in-two (x ∷ xs) ys (y ∷ earlier) later r P e f g =
    let rest : xs ++ ys ≡ earlier ++ r ∷ later = cc in
    let head : x ≡ y = cc in
    in-two xs ys earlier later r P rest (λ l k. f l (ap (λ v. v ∷ xs) head ∙ ap (λ l. y ∷ l) k)) g

-- what is not served yet stands behind the lines that are done
pub behind-done : (h : Header) (trace : List TraceLine) (n : ℕ) (run : Run) (r : Request) → Sound h trace run → n ≤ length trace → held (requests (take n trace)) run ≡ [] → IsNext (requests trace) run r → n < r.number
behind-done h trace n run r sound le done next =
    in-two (requests (take n trace)) (requests_from (1 + n) (drop n trace)) next.earlier next.later r (n < r.number) (sym (two-parts trace n le) ∙ next.is_offered)
    (λ l e. absurd (apart-bools (sym (next-unserved h trace run r sound next) ∙ each-served (requests (take n trace)) next.earlier l r run done e)))
    (λ l e. let k = Between-inside (1 + n) (1 + n + length (drop n trace)) l next.later r (requests_from (1 + n) (drop n trace)) (Between-asked (1 + n) (drop n trace) (1 + n + length (drop n trace)) refl) e in omega (arith, k.0))

-- ---- I lines

pub requests-idle : (k : ℕ) (q : List TraceLine) → AreRequests q → idle_clocks (take k q) ≡ []
requests-idle zero q r = refl
requests-idle (suc k) [] r = refl
requests-idle (suc k) (Read line ∷ q) r = requests-idle k q r
requests-idle (suc k) (Write line bytes ∷ q) r = requests-idle k q r
requests-idle (suc k) (Flip line device bit ∷ q) r = absurd r
requests-idle (suc k) (Idle clocks ∷ q) r = absurd r

pub requests-drop : (b : ℕ) (q : List TraceLine) → AreRequests q → AreRequests (drop b q)
requests-drop zero q r = r
requests-drop (suc b) [] r = tt
requests-drop (suc b) (Read line ∷ q) r = requests-drop b q r
requests-drop (suc b) (Write line bytes ∷ q) r = requests-drop b q r
requests-drop (suc b) (Flip line device bit ∷ q) r = absurd r
requests-drop (suc b) (Idle clocks ∷ q) r = absurd r

pub idle-front : (p q : List TraceLine) (b k : ℕ) → AreRequests q → length p ≤ b + k → idle_clocks (take k (drop b (p ++ q))) ≡ idle_clocks (drop b p)
idle-front [] q b k r le = requests-idle k (drop b q) (requests-drop b q r) ∙ none b
  where
    none : (b : ℕ) → [] ≡ idle_clocks (drop b [])
    none zero = refl
    none (suc b) = refl
idle-front (t ∷ p) q (suc b) k r le = idle-front p q b k r (omega (arith, le))
idle-front (t ∷ p) q zero zero r le = absurd (omega (arith, le))
idle-front (Read line ∷ p) q zero (suc k) r le = idle-front p q 0 k r (omega (arith, le))
idle-front (Write line bytes ∷ p) q zero (suc k) r le = idle-front p q 0 k r (omega (arith, le))
idle-front (Flip line device bit ∷ p) q zero (suc k) r le = idle-front p q 0 k r (omega (arith, le))
idle-front (Idle clocks ∷ p) q zero (suc k) r le = ap (λ l. clocks ∷ l) (idle-front p q 0 k r (omega (arith, le)))

pub drop-past : (p : List TraceLine) (b : ℕ) → length p ≤ b → drop b p ≡ []
drop-past [] zero le = refl
drop-past [] (suc b) le = refl
drop-past (t ∷ p) zero le = absurd (omega (arith, le))
drop-past (t ∷ p) (suc b) le = drop-past p b (omega (arith, le))

pub past-later : (idles : List ℕ) (before now later : ℕ) → now ≤ later → IsTrue (is_past idles before now) → IsTrue (is_past idles before later)
past-later [] before now later le e = e
past-later (first ∷ idles) before now later le e =
    let k : before + sum (first ∷ idles) < now = ltb-true (before + sum (first ∷ idles)) now e in lt-ltb (before + sum (first ∷ idles)) later (omega (arith, k, le))

pub and-both : (a b : Bool) → IsTrue a → IsTrue b → IsTrue (a && b)
and-both true b h k = k
and-both false b h k = cc

pub and-left : (a b : Bool) → IsTrue (a && b) → IsTrue a
and-left true b h = refl
and-left false b h = cc

pub and-right : (a b : Bool) → IsTrue (a && b) → IsTrue b
and-right true b h = h
and-right false b h = cc

pub still-waited : (trace : List TraceLine) (n now later : ℕ) (all : List Serving) → now ≤ later → IsTrue (list_all (is_waited trace n now) all) → IsTrue (list_all (is_waited trace n later) all)
still-waited trace n now later [] le e = refl
still-waited trace n now later (b ∷ all) le e =
    and-both (is_waited trace n later b) (list_all (is_waited trace n later) all)
    (past-later (idle_clocks (drop b.number (take n trace))) b.clock now later le (and-left (is_waited trace n now b) (list_all (is_waited trace n now) all) e))
    (still-waited trace n now later all le (and-right (is_waited trace n now b) (list_all (is_waited trace n now) all) e))

-- a request that is served behind the lines that are done is apart from each that was served before
apart-one : (trace : List TraceLine) (n now : ℕ) (a b : Serving) → n ≤ length trace → AreRequests (drop n trace) → n < a.number → now ≤ a.clock → IsTrue (is_waited trace n now b) → IsTrue (is_apart trace a b)
apart-one trace n now a b le block low late e =
    let back : idles_between trace a.number b.number ≡ []
    = ap (λ l. idle_clocks (take (b.number - 1 - a.number) (drop a.number l))) (sym (take-append-drop n trace))
    ∙ idle-front_any (take n trace) (drop n trace) a.number (b.number - 1 - a.number) block (omega (arith, lengths trace n le, low)) in
    let there : idles_between trace b.number a.number ≡ idle_clocks (drop b.number (take n trace))
    = ap (λ l. idle_clocks (take (a.number - 1 - b.number) (drop b.number l))) (sym (take-append-drop n trace))
    ∙ idle-front (take n trace) (drop n trace) b.number (a.number - 1 - b.number) block (enough (length (take n trace)) a.number b.number (omega (arith, lengths trace n le, low))) in
    and-both (is_past (idles_between trace a.number b.number) a.clock b.clock) (is_past (idles_between trace b.number a.number) b.clock a.clock)
    (ap (λ l. is_past l a.clock b.clock) back)
    (ap (λ l. is_past l b.clock a.clock) there ∙ past-later (idle_clocks (drop b.number (take n trace))) b.clock now a.clock late e)
  where
    enough : (n a b : ℕ) → n < a → n ≤ b + (a - 1 - b)
    enough n a b h = omega (arith, h)

    idle-front_any : (p q : List TraceLine) (b k : ℕ) → AreRequests q → length p ≤ b → idle_clocks (take k (drop b (p ++ q))) ≡ []
    idle-front_any p q b k r le = idle-front p q b k r (omega (arith, le)) ∙ ap idle_clocks (drop-past p b le)

apart-each : (trace : List TraceLine) (n now : ℕ) (a : Serving) (all : List Serving) → n ≤ length trace → AreRequests (drop n trace) → n < a.number → now ≤ a.clock → IsTrue (list_all (is_waited trace n now) all) → IsTrue (list_all (is_apart trace a) all)
apart-each trace n now a [] le block low late e = refl
apart-each trace n now a (b ∷ all) le block low late e =
    and-both (is_apart trace a b) (list_all (is_apart trace a) all)
    (apart-one trace n now a b le block low late (and-left (is_waited trace n now b) (list_all (is_waited trace n now) all) e))
    (apart-each trace n now a all le block low late (and-right (is_waited trace n now b) (list_all (is_waited trace n now) all) e))

pub apart-place : (trace : List TraceLine) (n now clock : ℕ) (all : List Serving) (o : Option Request) → n ≤ length trace → AreRequests (drop n trace) → IfSome o (λ r. (n < r.number) × (now ≤ clock)) → IsTrue (list_all (is_waited trace n now) all) → AreApart trace all → AreApart trace (with_serving o clock all)
apart-place trace n now clock all None le block low e h = h
apart-place trace n now clock all (Some r) le block low e h = (apart-each trace n now (record { number = r.number; clock = clock }) all le block low.0 low.1 e, h)

pub waited-place : (trace : List TraceLine) (n now later clock : ℕ) (all : List Serving) (o : Option Request) → n ≤ length trace → now ≤ later → IfSome o (λ r. (n < r.number) × (now ≤ clock)) → IsTrue (list_all (is_waited trace n now) all) → IsTrue (list_all (is_waited trace n later) (with_serving o clock all))
waited-place trace n now later clock all None le late low e = still-waited trace n now later all late e
waited-place trace n now later clock all (Some r) le late low e =
    let a : Serving = record { number = r.number; clock = clock } in
    and-both (is_waited trace n later a) (list_all (is_waited trace n later) all)
    (ap (λ l. is_past (idle_clocks l) clock later) (drop-past (take n trace) r.number (omega (arith, lengths trace n le, low.0))))
    (still-waited trace n now later all late e)
