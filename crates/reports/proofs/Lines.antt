-- What the next line of a trace adds to a run under way: a request, a turned bit, a wait, or the end.
use Rattle.std.proofs.Common.{◌≡◌, ℕ, zero, suc, ◌+◌, ◌-◌, ◌<◌, ◌≤◌, ◌&&◌, Bool, true, false, cond, Option, Some, None, List, [], ◌∷◌, ◌++◌, map, reverse, length, take, drop, sum, slice_get, refl, sym, ap, ◌∙◌, subst, arith, append_assoc, append-nil}
use Rattle.std.specs.Prelude.{IsTrue, nat_lt}
use Rattle.std.specs.List.{list_all}
use Rattle.std.proofs.lemmas.Bool.{lt-ltb, ltb-true}
use Rattle.std.proofs.lemmas.List.{length-append, take-append-le, drop-append-le, take-append-drop, take_all, map-append, reverse-append}
use Rattle.std.proofs.lemmas.List.Sums.{sum_by-append}
use Rattle.speed_bin.specs.declared.header.Header.{Header}
use Rattle.ddr_text.specs.declared.lines.TraceLine.{TraceLine}
use Rattle.ddr_text.specs.declared.lines.TraceLine.TheVariants.{Read, Write, Flip, Idle}
use Rattle.ddr_text.specs.declared.lines.ReportLine.TheVariants.{Flip as FlipLine}
use Rattle.device_core.specs.Stored.{also}
use Rattle.reports.specs.Requests.{Request, request_of, requests, flips_from, flips}
use Rattle.reports.specs.Runs.{Issues, Flips, Run, served, flipped, log_of, is_served, held, ready}
use Rattle.reports.specs.Barriers.{Serving, servings, with_serving, idle_clocks, idles_between, is_past, is_apart, AreApart}
use Rattle.reports.specs.Offered.{asked, offered, rank, ranked}
use Rattle.reports.specs.Report.{flip_lines, latest}
use Rattle.speed_bin.specs.Log.{last_clock}
use Rattle.reports.specs.Sound.{IsSoundFlip, Sound, IsRun}
use Rattle.reports.specs.Window.{AreRequests, KeepsWindow}
use Rattle.reports.specs.Underway.{Ahead, Unknown, Next, Ended, is_waited, IsUnderway, IsEnded}
use Rattle.reports.proofs.Found.{requests-append, flips-append, Between, Between-has}
use Rattle.reports.proofs.Grows.{sound-longer}
use Rattle.reports.proofs.Idles.{idle-drop}
use Rattle.reports.proofs.Longer.{Between-served}
use Rattle.reports.proofs.Offered.{cut-at, rank-split}
use Rattle.reports.proofs.Ready.{ready-held}
use Rattle.reports.proofs.Through.{own-number}
use Rattle.reports.proofs.Underway.{still-done, still-waited, and-both, and-left, and-right, serves-all}

-- ---- Lists of trace lines

pub idle-append : (p q : List TraceLine) → idle_clocks (p ++ q) ≡ idle_clocks p ++ idle_clocks q
idle-append [] q = refl
idle-append (Idle clocks ∷ p) q = ap (λ l. clocks ∷ l) (idle-append p q)
idle-append (Read line ∷ p) q = idle-append p q
idle-append (Write line bytes ∷ p) q = idle-append p q
idle-append (Flip line device bit ∷ p) q = idle-append p q

requests-none : (q : List TraceLine) → AreRequests q → idle_clocks q ≡ []
requests-none [] r = refl
requests-none (Read line ∷ q) r = requests-none q r
requests-none (Write line bytes ∷ q) r = requests-none q r
requests-none (Flip line device bit ∷ q) r = absurd r
requests-none (Idle clocks ∷ q) r = absurd r

requests-flips : (n : ℕ) (q : List TraceLine) → AreRequests q → flips_from n q ≡ []
requests-flips n [] r = refl
requests-flips n (Read line ∷ q) r = requests-flips (suc n) q r
requests-flips n (Write line bytes ∷ q) r = requests-flips (suc n) q r
requests-flips n (Flip line device bit ∷ q) r = absurd r
requests-flips n (Idle clocks ∷ q) r = absurd r

requests-more : (q : List TraceLine) (t : TraceLine) (n : ℕ) (r : Request) → AreRequests q → request_of n t ≡ r ∷ [] → AreRequests (q ++ t ∷ [])
requests-more [] (Read line) n r a e = tt
requests-more [] (Write line bytes) n r a e = tt
requests-more [] (Flip line device bit) n r a e = cc
requests-more [] (Idle clocks) n r a e = cc
requests-more (Read line ∷ q) t n r a e = requests-more q t n r a e
requests-more (Write line bytes ∷ q) t n r a e = requests-more q t n r a e
requests-more (Flip line device bit ∷ q) t n r a e = absurd a
requests-more (Idle clocks ∷ q) t n r a e = absurd a

-- behind the lines that are done no I line stands
idle-behind : (p q : List TraceLine) (b : ℕ) → idle_clocks q ≡ [] → idle_clocks (drop b (p ++ q)) ≡ idle_clocks (drop b p)
idle-behind [] q b e = idle-drop b q e ∙ none b
  where
    none : (b : ℕ) → [] ≡ idle_clocks (drop b [])
    none zero = refl
    none (suc b) = refl
idle-behind (t ∷ p) q zero e = idle-append (t ∷ p) q ∙ ap (λ l. idle_clocks (t ∷ p) ++ l) e ∙ append-nil (idle_clocks (t ∷ p))
idle-behind (t ∷ p) q (suc b) e = idle-behind p q b e

idle-done : (trace : List TraceLine) (n b : ℕ) → AreRequests (drop n trace) → idle_clocks (drop b trace) ≡ idle_clocks (drop b (take n trace))
idle-done trace n b r = ap (λ l. idle_clocks (drop b l)) (sym (take-append-drop n trace)) ∙ idle-behind (take n trace) (drop n trace) b (requests-none (drop n trace) r)

flips-done : (trace : List TraceLine) (n : ℕ) → n ≤ length trace → AreRequests (drop n trace) → flips trace ≡ flips (take n trace)
flips-done trace n le r =
    ap flips (sym (take-append-drop n trace))
    ∙ flips-append 1 (take n trace) (drop n trace) (1 + length (take n trace)) refl
    ∙ ap (λ l. flips (take n trace) ++ l) (requests-flips (1 + length (take n trace)) (drop n trace) r)
    ∙ append-nil (flips (take n trace))

slice-last : (xs : List TraceLine) (t : TraceLine) → slice_get (xs ++ t ∷ []) (length xs) ≡ Some t
slice-last [] t = refl
slice-last (x ∷ xs) t = slice-last xs t

slice-last_number : (xs : List ℕ) (k n : ℕ) → n ≡ length xs → slice_get (xs ++ k ∷ []) n ≡ Some k
slice-last_number xs k n e = ap (slice_get (xs ++ k ∷ [])) e ∙ here xs
  where
    here : (xs : List ℕ) → slice_get (xs ++ k ∷ []) (length xs) ≡ Some k
    here [] = refl
    here (x ∷ xs) = here xs

length-reverse : (xs : List ℕ) → length (reverse xs) ≡ length xs
length-reverse [] = refl
length-reverse (x ∷ xs) = ap length (reverse-append (x ∷ []) xs) ∙ length-append (reverse xs) (x ∷ []) ∙ omega (arith, length-reverse xs)

length-drop : (a : ℕ) (xs : List TraceLine) → a ≤ length xs → length (drop a xs) + a ≡ length xs
length-drop zero xs le = omega arith
length-drop (suc a) [] le = absurd (omega (arith, le))
length-drop (suc a) (x ∷ xs) le = let k = length-drop a xs (omega (arith, le)) in omega (arith, k)

-- ---- More lines behind, for what was served

between-longer : (trace more : List TraceLine) (a b : ℕ) → a < 1 + length trace → b < 1 + length trace → idles_between (trace ++ more) a b ≡ idles_between trace a b
between-longer trace more a b low high =
    ap (λ l. idle_clocks (take (b - 1 - a) l)) (drop-append-le a trace more (omega (arith, low)))
    ∙ ap idle_clocks (take-append-le (b - 1 - a) (drop a trace) more (omega (arith, length-drop a trace (omega (arith, low)), low, high)))

-- each number is that of a line of the trace
abbrev AreLow : ℕ → List Serving → Type 0
AreLow high [] = Unit {0}
AreLow high (a ∷ all) = (1 ≤ a.number) × (a.number < high) × AreLow high all

low-place : (high clock : ℕ) (o : Option Request) (rs : List Request) (all : List Serving) → Between 1 high (also o rs) → (Between 1 high rs → AreLow high all) → AreLow high (with_serving o clock all)
low-place high clock None rs all b f = f b
low-place high clock (Some r) rs all b f = (b.0, b.1, f b.2)

low-servings : (high : ℕ) (run : Run) → Between 1 high (served run) → AreLow high (servings run)
low-servings high [] b = tt
low-servings high (Issues s ∷ run) b = low-place high s.issued.clock s.request (served run) (servings run) b (low-servings high run)
low-servings high (Flips k ∷ run) b = low-servings high run b

apart-same : (trace more : List TraceLine) (a b : Serving) → a.number < 1 + length trace → b.number < 1 + length trace → is_apart (trace ++ more) a b ≡ is_apart trace a b
apart-same trace more a b low high =
    ap (λ l. is_past l a.clock b.clock && is_past (idles_between (trace ++ more) b.number a.number) b.clock a.clock) (between-longer trace more a.number b.number low high)
    ∙ ap (λ l. is_past (idles_between trace a.number b.number) a.clock b.clock && is_past l b.clock a.clock) (between-longer trace more b.number a.number high low)

each-same : (trace more : List TraceLine) (a : Serving) (all : List Serving) → a.number < 1 + length trace → AreLow (1 + length trace) all → list_all (is_apart (trace ++ more) a) all ≡ list_all (is_apart trace a) all
each-same trace more a [] low h = refl
each-same trace more a (b ∷ all) low h =
    ap (λ t. t && list_all (is_apart (trace ++ more) a) all) (apart-same trace more a b low h.1)
    ∙ ap (λ t. is_apart trace a b && t) (each-same trace more a all low h.2)

pub apart-longer : (trace more : List TraceLine) (all : List Serving) → AreLow (1 + length trace) all → AreApart trace all → AreApart (trace ++ more) all
apart-longer trace more [] h k = tt
apart-longer trace more (a ∷ all) h k = (each-same trace more a all h.1 h.2 ∙ k.0, apart-longer trace more all h.2 k.1)

waited-same : (trace more : List TraceLine) (n now : ℕ) (all : List Serving) → n ≤ length trace → list_all (is_waited (trace ++ more) n now) all ≡ list_all (is_waited trace n now) all
waited-same trace more n now all le = ap (λ l. list_all (λ s. is_past (idle_clocks (drop s.number l)) s.clock now) all) (take-append-le n trace more le)

low-run : (h : Header) (trace : List TraceLine) (run : Run) → Sound h trace run → AreLow (1 + length trace) (servings run)
low-run h trace run sound = low-servings (1 + length trace) run (Between-served h trace run (1 + length trace) refl sound)

-- ---- The start, and a look ahead

pub starts : (h : Header) → IsUnderway h [] 0 0 [] Unknown
starts h = record { sound = tt; within = omega arith; block = tt; done = refl; flips = refl; window = λ more f. tt; apart = tt; past = refl; waited = refl; idle = omega arith }

pub looks : (h : Header) (trace : List TraceLine) (n now : ℕ) (run : Run) (ahead : Ahead) → IsUnderway h trace n now run Unknown → IsUnderway h trace n now run ahead
looks h trace n now run ahead u = record {
  sound = u.sound;
  within = u.within;
  block = u.block;
  done = u.done;
  flips = u.flips;
  window = λ more f. u.window more tt;
  apart = u.apart;
  past = u.past;
  waited = u.waited;
  idle = u.idle;
}

-- ---- A request

pub takes : (h : Header) (trace : List TraceLine) (n now : ℕ) (run : Run) (t : TraceLine) (r : Request) → IsUnderway h trace n now run (Next t) → request_of (1 + length trace) t ≡ r ∷ [] → IsUnderway h (trace ++ t ∷ []) n now run Unknown
takes h trace n now run t r u e =
    let same : take n (trace ++ t ∷ []) ≡ take n trace = take-append-le n trace (t ∷ []) u.within in
    record {
      sound = sound-longer h trace (t ∷ []) run u.sound;
      within = omega (arith, length-append trace (t ∷ []), u.within);
      block = subst AreRequests (sym (drop-append-le n trace (t ∷ []) u.within)) (requests-more (drop n trace) t (1 + length trace) r u.block e);
      done = ap (λ l. held (requests l) run) same ∙ u.done;
      flips = u.flips ∙ ap flips (sym same);
      window = λ more f. subst (λ l. KeepsWindow h l run) (sym (append_assoc trace (t ∷ []) more)) (u.window (t ∷ more) refl);
      apart = apart-longer trace (t ∷ []) (servings run) (low-run h trace run u.sound) u.apart;
      past = u.past;
      waited = waited-same trace (t ∷ []) n now (servings run) u.within ∙ u.waited;
      idle = let k : sum (idle_clocks (take n (trace ++ t ∷ []))) ≡ sum (idle_clocks (take n trace)) = ap (λ l. sum (idle_clocks l)) same in omega (arith, k, u.idle);
    }

pub takes-offered : (trace : List TraceLine) (t : TraceLine) (r : Request) → request_of (1 + length trace) t ≡ r ∷ [] → offered (trace ++ t ∷ []) ≡ offered trace ++ asked r ∷ []
takes-offered trace t r e =
    ap (map asked) (requests-append 1 trace (t ∷ []) (1 + length trace) refl ∙ ap (λ l. requests trace ++ l) (append-nil (request_of (1 + length trace) t) ∙ e))
    ∙ map-append asked (requests trace) (r ∷ [])

pub passes-offered : (trace : List TraceLine) (t : TraceLine) → request_of (1 + length trace) t ≡ [] → offered (trace ++ t ∷ []) ≡ offered trace
passes-offered trace t e = ap (map asked) (requests-append 1 trace (t ∷ []) (1 + length trace) refl ∙ ap (λ l. requests trace ++ l) (append-nil (request_of (1 + length trace) t) ∙ e) ∙ append-nil (requests trace))

not-true : (b : Bool) → (b ≡ true → ⊥) → b ≡ false
not-true true h = absurd (h refl)
not-true false h = refl

held-more : (rs : List Request) (r : Request) (run : Run) → is_served r.number run ≡ false → held (rs ++ r ∷ []) run ≡ held rs run ++ r ∷ []
held-more [] r run e = ap (λ b. cond b [] (r ∷ [])) e
held-more (q ∷ rs) r run e = step (is_served q.number run) (held-more rs r run e)
  where
    step : (b : Bool) → held (rs ++ r ∷ []) run ≡ held rs run ++ r ∷ [] → cond b (held (rs ++ r ∷ []) run) (q ∷ (rs ++ r ∷ [])) ≡ cond b (held rs run) (q ∷ rs) ++ r ∷ []
    step true k = k
    step false k = refl

pub takes-held : (h : Header) (trace : List TraceLine) (run : Run) (t : TraceLine) (r : Request) → Sound h trace run → request_of (1 + length trace) t ≡ r ∷ [] → held (requests (trace ++ t ∷ [])) run ≡ held (requests trace) run ++ r ∷ []
takes-held h trace run t r sound e =
    let own : r.number ≡ 1 + length trace = own-number (1 + length trace) t r e in
    let new : is_served r.number run ≡ false = not-true (is_served r.number run) (λ k. let b = Between-has 1 (1 + length trace) r.number (served run) (Between-served h trace run (1 + length trace) refl sound) k in omega (arith, own, b.1)) in
    ap (λ l. held l run) (requests-append 1 trace (t ∷ []) (1 + length trace) refl ∙ ap (λ l. requests trace ++ l) (append-nil (request_of (1 + length trace) t) ∙ e))
    ∙ held-more (requests trace) r run new

slice-behind : (xs ys : List Request) (i k : ℕ) → k ≡ length xs + i → slice_get (xs ++ ys) k ≡ slice_get ys i
slice-behind [] ys i k e = ap (slice_get ys) (omega (arith, e))
slice-behind (x ∷ xs) ys i zero e = absurd (omega (arith, e))
slice-behind (x ∷ xs) ys i (suc k) e = slice-behind xs ys i k (omega (arith, e))

pub ranked-held : (trace : List TraceLine) (run : Run) (i id : ℕ) → id ≡ length (ready (requests trace) run) + i + 1 → ranked trace (Some id) ≡ slice_get (held (requests trace) run) i
ranked-held trace run i id e =
    ap (λ l. slice_get l (id - 1)) (sym (ready-held (requests trace) run))
    ∙ slice-behind (ready (requests trace) run) (held (requests trace) run) i (id - 1) (omega (arith, e))

pub apart-numbers : (trace : List TraceLine) (i j : ℕ) (r q : Request) → slice_get (requests trace) i ≡ Some r → slice_get (requests trace) j ≡ Some q → r.number ≡ q.number → i ≡ j
apart-numbers trace i j r q e f same =
    let a = cut-at (requests trace) i r e in
    let b = cut-at (requests trace) j q f in
    let k : rank trace r.number ≡ rank trace q.number = ap (rank trace) same in
    omega (arith, a.long, b.long, k, rank-split trace a.before a.after r a.is, rank-split trace b.before b.after q b.is)

-- ---- An F line

requests-pass : (trace : List TraceLine) (t : TraceLine) → request_of (1 + length trace) t ≡ [] → requests (trace ++ t ∷ []) ≡ requests trace
requests-pass trace t e = requests-append 1 trace (t ∷ []) (1 + length trace) refl ∙ ap (λ l. requests trace ++ l) (append-nil (request_of (1 + length trace) t) ∙ e) ∙ append-nil (requests trace)

none-later : (number : ℕ) (rs : List Request) → Between 1 number rs → IsTrue (list_all (λ r. nat_lt r.number number) rs)
none-later number [] b = refl
none-later number (r ∷ rs) b = and-both (nat_lt r.number number) (list_all (λ r. nat_lt r.number number) rs) (lt-ltb r.number number b.1) (none-later number rs b.2)

sound-flip : (h : Header) (trace : List TraceLine) (n now : ℕ) (run : Run) (line device bit : ℕ) → IsUnderway h trace n now run (Next (Flip line device bit)) → held (requests trace) run ≡ [] → IsSoundFlip (trace ++ Flip line device bit ∷ []) run (1 + length trace)
sound-flip h trace n now run line device bit u none = record {
  is_next =
      ap (λ l. slice_get l (length (flipped run))) (flips-append 1 trace (Flip line device bit ∷ []) (1 + length trace) refl)
      ∙ slice-last_number (flips trace) (1 + length trace) (length (flipped run)) (sym (length-reverse (flipped run)) ∙ ap length (u.flips ∙ sym (flips-done trace n u.within u.block)));
  none_later = none-later (1 + length trace) (served run) (Between-served h trace run (1 + length trace) refl u.sound);
  all_earlier = ap (λ l. list_all (λ r. nat_lt (1 + length trace) r.number) (held l run)) (requests-pass trace (Flip line device bit) refl) ∙ ap (list_all (λ r. nat_lt (1 + length trace) r.number)) none;
}

drop-whole : (xs : List TraceLine) (n : ℕ) → length xs ≡ n → drop n xs ≡ []
drop-whole [] zero e = refl
drop-whole [] (suc n) e = refl
drop-whole (x ∷ xs) zero e = absurd (omega (arith, e))
drop-whole (x ∷ xs) (suc n) e = drop-whole xs n (omega (arith, e))

-- what was waited for before the F line
waited-flip : (trace : List TraceLine) (n now line device bit : ℕ) (all : List Serving) → AreRequests (drop n trace) → IsTrue (list_all (is_waited trace n now) all) → IsTrue (list_all (λ s. is_past (idle_clocks (drop s.number (trace ++ Flip line device bit ∷ []))) s.clock now) all)
waited-flip trace n now line device bit [] r e = refl
waited-flip trace n now line device bit (b ∷ all) r e =
    let own : idle_clocks (drop b.number (trace ++ Flip line device bit ∷ [])) ≡ idle_clocks (drop b.number (take n trace)) = idle-behind trace (Flip line device bit ∷ []) b.number refl ∙ idle-done trace n b.number r in
    and-both (is_past (idle_clocks (drop b.number (trace ++ Flip line device bit ∷ []))) b.clock now) (list_all (λ s. is_past (idle_clocks (drop s.number (trace ++ Flip line device bit ∷ []))) s.clock now) all)
    (ap (λ l. is_past l b.clock now) own ∙ and-left (is_waited trace n now b) (list_all (is_waited trace n now) all) e)
    (waited-flip trace n now line device bit all r (and-right (is_waited trace n now b) (list_all (is_waited trace n now) all) e))

pub flips-line : (h : Header) (trace : List TraceLine) (n now : ℕ) (run : Run) (line device bit : ℕ) → IsUnderway h trace n now run (Next (Flip line device bit)) → held (requests trace) run ≡ []
    → IsUnderway h (trace ++ Flip line device bit ∷ []) (1 + length trace) now (Flips (1 + length trace) ∷ run) Unknown
flips-line h trace n now run line device bit u none =
    let t : TraceLine = Flip line device bit in
    let number : ℕ = 1 + length trace in
    let long : length (trace ++ t ∷ []) ≡ number = length-append trace (t ∷ []) ∙ omega arith in
    let all : take number (trace ++ t ∷ []) ≡ trace ++ t ∷ [] = take_all number (trace ++ t ∷ []) (omega (arith, long)) in
    record {
      sound = (sound-flip h trace n now run line device bit u none, sound-longer h trace (t ∷ []) run u.sound);
      within = omega (arith, long);
      block = subst AreRequests (sym (drop-whole (trace ++ t ∷ []) number long)) tt;
      done = ap (λ l. held (requests l) (Flips number ∷ run)) all ∙ ap (λ l. held l (Flips number ∷ run)) (requests-pass trace t refl) ∙ still-done (requests trace) (Flips number) run none;
      flips =
          reverse-append (number ∷ []) (flipped run) ∙ ap (λ l. l ++ number ∷ []) (u.flips ∙ sym (flips-done trace n u.within u.block))
          ∙ sym (flips-append 1 trace (t ∷ []) number refl) ∙ ap flips (sym all);
      window = λ more f. subst (λ l. KeepsWindow h l run) (sym (append_assoc trace (t ∷ []) more)) (u.window (t ∷ more) refl);
      apart = apart-longer trace (t ∷ []) (servings run) (low-run h trace run u.sound) u.apart;
      past = u.past;
      waited = ap (λ l. list_all (λ s. is_past (idle_clocks (drop s.number l)) s.clock now) (servings run)) all ∙ waited-flip trace n now line device bit (servings run) u.block u.waited;
      idle =
          let k : sum (idle_clocks (take number (trace ++ t ∷ []))) ≡ sum (idle_clocks (take n trace)) = ap (λ l. sum (idle_clocks l)) all ∙ ap sum (idle-behind trace (t ∷ []) 0 refl ∙ idle-done trace n 0 u.block) in
          omega (arith, k, u.idle);
    }

pub flip-latest : (h : Header) (trace : List TraceLine) (run : Run) (line device bit : ℕ) → latest h (trace ++ Flip line device bit ∷ []) run (Flips (1 + length trace)) ≡ FlipLine (last_clock (log_of run)) line device bit ∷ []
flip-latest h trace run line device bit =
    ap (flip_lines (last_clock (log_of run))) (ap (slice_get (trace ++ Flip line device bit ∷ [])) (omega arith) ∙ slice-last trace (Flip line device bit))

-- ---- An I line

sum-append : (xs ys : List ℕ) → sum (xs ++ ys) ≡ sum xs + sum ys
sum-append xs ys = sum_by-append (λ x. x) xs ys

past-more : (idles : List ℕ) (before now later clocks : ℕ) → now + clocks ≤ later → before < now → IsTrue (is_past idles before now) → IsTrue (is_past (idles ++ clocks ∷ []) before later)
past-more [] before now later clocks le low e = lt-ltb (before + sum (clocks ∷ [])) later (let k : sum (clocks ∷ []) ≡ clocks = omega arith in omega (arith, k, le, low))
past-more (first ∷ idles) before now later clocks le low e =
    let k : before + sum (first ∷ idles) < now = ltb-true (before + sum (first ∷ idles)) now e in
    let j : sum ((first ∷ idles) ++ clocks ∷ []) ≡ sum (first ∷ idles) + sum (clocks ∷ []) = sum-append (first ∷ idles) (clocks ∷ []) in
    let i : sum (clocks ∷ []) ≡ clocks = omega arith in
    lt-ltb (before + sum ((first ∷ idles) ++ clocks ∷ [])) later (omega (arith, k, j, i, le))

waited-idle : (trace : List TraceLine) (n now later clocks : ℕ) (all : List Serving) → AreRequests (drop n trace) → AreLow (1 + length trace) all → now + clocks ≤ later → IsTrue (list_all (λ s. nat_lt s.clock now) all) → IsTrue (list_all (is_waited trace n now) all)
    → IsTrue (list_all (λ s. is_past (idle_clocks (drop s.number (trace ++ Idle clocks ∷ []))) s.clock later) all)
waited-idle trace n now later clocks [] r low le past e = refl
waited-idle trace n now later clocks (b ∷ all) r low le past e =
    let own : idle_clocks (drop b.number (trace ++ Idle clocks ∷ [])) ≡ idle_clocks (drop b.number (take n trace)) ++ clocks ∷ []
    = ap idle_clocks (drop-append-le b.number trace (Idle clocks ∷ []) (omega (arith, low.1))) ∙ idle-append (drop b.number trace) (Idle clocks ∷ []) ∙ ap (λ l. l ++ clocks ∷ []) (idle-done trace n b.number r) in
    let before : b.clock < now = ltb-true b.clock now (and-left (nat_lt b.clock now) (list_all (λ s. nat_lt s.clock now) all) past) in
    and-both (is_past (idle_clocks (drop b.number (trace ++ Idle clocks ∷ []))) b.clock later) (list_all (λ s. is_past (idle_clocks (drop s.number (trace ++ Idle clocks ∷ []))) s.clock later) all)
    (ap (λ l. is_past l b.clock later) own ∙ past-more (idle_clocks (drop b.number (take n trace))) b.clock now later clocks le before (and-left (is_waited trace n now b) (list_all (is_waited trace n now) all) e))
    (waited-idle trace n now later clocks all r low.2 le (and-right (nat_lt b.clock now) (list_all (λ s. nat_lt s.clock now) all) past) (and-right (is_waited trace n now b) (list_all (is_waited trace n now) all) e))

past-on : (now later : ℕ) (all : List Serving) → now ≤ later → IsTrue (list_all (λ s. nat_lt s.clock now) all) → IsTrue (list_all (λ s. nat_lt s.clock later) all)
past-on now later [] le e = refl
past-on now later (b ∷ all) le e =
    let before : b.clock < now = ltb-true b.clock now (and-left (nat_lt b.clock now) (list_all (λ s. nat_lt s.clock now) all) e) in
    and-both (nat_lt b.clock later) (list_all (λ s. nat_lt s.clock later) all) (lt-ltb b.clock later (omega (arith, before, le)))
    (past-on now later all le (and-right (nat_lt b.clock now) (list_all (λ s. nat_lt s.clock now) all) e))

pub idles-line : (h : Header) (trace : List TraceLine) (n now later : ℕ) (run : Run) (clocks : ℕ) → IsUnderway h trace n now run (Next (Idle clocks)) → held (requests trace) run ≡ [] → now + clocks ≤ later
    → IsUnderway h (trace ++ Idle clocks ∷ []) (1 + length trace) later run Unknown
idles-line h trace n now later run clocks u none le =
    let t : TraceLine = Idle clocks in
    let number : ℕ = 1 + length trace in
    let long : length (trace ++ t ∷ []) ≡ number = length-append trace (t ∷ []) ∙ omega arith in
    let all : take number (trace ++ t ∷ []) ≡ trace ++ t ∷ [] = take_all number (trace ++ t ∷ []) (omega (arith, long)) in
    record {
      sound = sound-longer h trace (t ∷ []) run u.sound;
      within = omega (arith, long);
      block = subst AreRequests (sym (drop-whole (trace ++ t ∷ []) number long)) tt;
      done = ap (λ l. held (requests l) run) all ∙ ap (λ l. held l run) (requests-pass trace t refl) ∙ none;
      flips =
          u.flips ∙ sym (flips-done trace n u.within u.block) ∙ sym (append-nil (flips trace))
          ∙ sym (flips-append 1 trace (t ∷ []) number refl) ∙ ap flips (sym all);
      window = λ more f. subst (λ l. KeepsWindow h l run) (sym (append_assoc trace (t ∷ []) more)) (u.window (t ∷ more) refl);
      apart = apart-longer trace (t ∷ []) (servings run) (low-run h trace run u.sound) u.apart;
      past = past-on now later (servings run) (omega (arith, le)) u.past;
      waited = ap (λ l. list_all (λ s. is_past (idle_clocks (drop s.number l)) s.clock later) (servings run)) all ∙ waited-idle trace n now later clocks (servings run) u.block (low-run h trace run u.sound) le u.past u.waited;
      idle =
          let k : sum (idle_clocks (take number (trace ++ t ∷ []))) ≡ sum (idle_clocks (take n trace)) + sum (clocks ∷ [])
          = ap (λ l. sum (idle_clocks l)) all ∙ ap sum (idle-append trace (t ∷ []) ∙ ap (λ l. l ++ clocks ∷ []) (idle-done trace n 0 u.block)) ∙ sum-append (idle_clocks (take n trace)) (clocks ∷ []) in
          let i : sum (clocks ∷ []) ≡ clocks = omega arith in
          omega (arith, k, i, u.idle, le);
    }

-- ---- Time that passes

pub waits-on : (h : Header) (trace : List TraceLine) (n now later : ℕ) (run : Run) (ahead : Ahead) → IsUnderway h trace n now run ahead → now ≤ later → IsUnderway h trace n later run ahead
waits-on h trace n now later run ahead u le = record {
  sound = u.sound;
  within = u.within;
  block = u.block;
  done = u.done;
  flips = u.flips;
  window = u.window;
  apart = u.apart;
  past = past-on now later (servings run) le u.past;
  waited = still-waited trace n now later (servings run) le u.waited;
  idle = omega (arith, u.idle, le);
}

-- ---- The end

pub ends : (h : Header) (trace : List TraceLine) (n now clock : ℕ) (run : Run) → IsUnderway h trace n now run Ended → held (requests trace) run ≡ [] → now ≤ clock → IsEnded h trace run clock → IsRun h trace run clock
ends h trace n now clock run u none le e = record {
  sound = u.sound;
  serves = serves-all h trace run u.sound none;
  flips = u.flips ∙ sym (flips-done trace n u.within u.block);
  ends = e.rules;
  idled = record { apart = u.apart; total = let k : sum (idle_clocks trace) ≡ sum (idle_clocks (take n trace)) = ap sum (idle-done trace n 0 u.block) in omega (arith, k, u.idle, le) };
  page = e.page;
  window = subst (λ l. KeepsWindow h l run) (append-nil trace) (u.window [] tt);
  short = e.short;
}
