-- No request is served before one that stands behind it with an I line between them; so a cap on the requests between I
-- lines is a cap on those that go first.
use Rattle.std.proofs.Common.{◌≡◌, ℕ, zero, suc, ◌+◌, ◌-◌, ◌<◌, ◌≤◌, ◌==◌, ◌&&◌, ◌||◌, Bool, true, false, cond, Option, Some, None, List, [], ◌∷◌, ◌++◌, length, take, drop, sum, slice_get, refl, sym, ap, ◌∙◌, arith}
use Rattle.std.specs.Prelude.{nat_lt, filter}
use Rattle.std.specs.List.{list_all}
use Rattle.std.proofs.lemmas.Bool.{ltb-true, lt-ltb, eqb-true}
use Rattle.std.proofs.lemmas.List.Elements.{filter-append}
use Rattle.speed_bin.specs.Log.{Log}
use Rattle.speed_bin.specs.Rules.{rule_1}
use Rattle.speed_bin.specs.declared.header.Header.{Header}
use Rattle.ddr_text.specs.declared.lines.TraceLine.{TraceLine}
use Rattle.ddr_text.specs.declared.lines.TraceLine.TheVariants.{Read, Write, Flip, Idle}
use Rattle.device_core.specs.Stored.{also}
use Rattle.reports.specs.Barriers.{idle_clocks, idles_between, is_past, Serving, with_serving, servings, is_apart, AreApart}
use Rattle.reports.specs.Readings.{before}
use Rattle.reports.specs.Requests.{Request, request_of, requests_from, requests}
use Rattle.reports.specs.Runs.{Issues, Flips, Run, log_of, served, has, is_served}
use Rattle.reports.specs.Sound.{Sound}
use Rattle.reports.proofs.Found.{IsAt, is_at, requests-append, Between, Between-asked}
use Rattle.reports.proofs.Kept.{first-rule}
use Rattle.reports.proofs.Offered.{and-false}
use Rattle.reports.proofs.Underway.{and-left, and-right}
use Rattle.reports.specs.Ages.{IsCapped, overtaking}

-- ---- Clocks

-- a clock above the last one is above every clock at which a request was served
rises-on : (a b : ℕ) (log : Log) → a < b → rule_1 a log ≡ true → rule_1 b log ≡ true
rises-on a b [] lt e = refl
rises-on a b (place ∷ log) lt e = let k = ltb-true place.clock a e in lt-ltb place.clock b (omega (arith, lt, k))

with-older : (o : Option Request) (at clock : ℕ) (rest : List Serving) → nat_lt at clock ≡ true → list_all (λ b. nat_lt b.clock clock) rest ≡ true → list_all (λ b. nat_lt b.clock clock) (with_serving o at rest) ≡ true
with-older None at clock rest lt e = e
with-older (Some r) at clock rest lt e = ap (λ b. b && list_all (λ b. nat_lt b.clock clock) rest) lt ∙ e

older : (h : Header) (trace : List TraceLine) (run : Run) (clock : ℕ) → Sound h trace run → rule_1 clock (log_of run) ≡ true → list_all (λ b. nat_lt b.clock clock) (servings run) ≡ true
older h trace [] clock sound e = refl
older h trace (Issues s ∷ run) clock sound e =
    with-older s.request s.issued.clock clock (servings run) e
    (older h trace run clock sound.1 (rises-on s.issued.clock clock (log_of run) (ltb-true s.issued.clock clock e) (first-rule h s.issued.clock s.issued.command (log_of run) sound.0.rules)))
older h trace (Flips n ∷ run) clock sound e = older h trace run clock sound.1 e

-- ---- Servings

-- a serving of the request with this number, of which two tests say yes
record IsServing (k : ℕ) (p q : Serving → Bool) : Type 0 where
  serving : Serving
  number : serving.number ≡ k
  first : p serving ≡ true
  second : q serving ≡ true

found-own : (b rest : Bool) (P : Type 0) → (b || rest) ≡ true → (b ≡ true → P) → (rest ≡ true → P) → P
found-own true rest P e f g = f refl
found-own false rest P e f g = g e

found-in : (k : ℕ) (p q : Serving → Bool) (more : List Serving) (had : List Request) (o : Option Request) (clock : ℕ) → (list_all p more ≡ true → list_all q more ≡ true → has k had ≡ true → IsServing k p q)
    → list_all p (with_serving o clock more) ≡ true → list_all q (with_serving o clock more) ≡ true → has k (also o had) ≡ true → IsServing k p q
found-in k p q more had None clock ih a b e = ih a b e
found-in k p q more had (Some r) clock ih a b e =
    let own : Serving = record { number = r.number; clock = clock } in
    found-own (r.number == k) (has k had) (IsServing k p q) e
    (λ f. record { serving = own; number = eqb-true r.number k f; first = and-left (p own) (list_all p more) a; second = and-left (q own) (list_all q more) b })
    (λ f. ih (and-right (p own) (list_all p more) a) (and-right (q own) (list_all q more) b) f)

found : (k : ℕ) (p q : Serving → Bool) (run : Run) → list_all p (servings run) ≡ true → list_all q (servings run) ≡ true → has k (served run) ≡ true → IsServing k p q
found k p q [] a b e = cc
found k p q (Issues s ∷ run) a b e = found-in k p q (servings run) (served run) s.request s.issued.clock (found k p q run) a b e
found k p q (Flips n ∷ run) a b e = found k p q run a b e

-- ---- Over an I line

past-clock : (c : ℕ) (cs idles : List ℕ) (a b : ℕ) → idles ≡ c ∷ cs → is_past idles a b ≡ true → a < b
past-clock c cs [] a b e p = cc
past-clock c cs (x ∷ xs) a b e p = let k = ltb-true (a + sum (x ∷ xs)) b p in omega (arith, k)

-- the newest serving is not before one from which an I line divides it
divided : (trace : List TraceLine) (h : Header) (run : Run) (number clock r k c : ℕ) (cs : List ℕ) → number ≡ r → Sound h trace run → rule_1 clock (log_of run) ≡ true
    → list_all (is_apart trace (record { number = number; clock = clock })) (servings run) ≡ true → idles_between trace r k ≡ c ∷ cs → (b : Bool) → is_served k run ≡ b → b ≡ false
divided trace h run number clock r k c cs same sound rises apart idles false e = refl
divided trace h run number clock r k c cs same sound rises apart idles true e =
    let own : Serving = record { number = number; clock = clock } in
    let f = found k (is_apart trace own) (λ b. nat_lt b.clock clock) run apart (older h trace run clock sound rises) e in
    let before_it = ltb-true f.serving.clock clock f.second in
    let behind_it = past-clock c cs (idles_between trace number f.serving.number) clock f.serving.clock
    (ap (λ n. idles_between trace n f.serving.number) same ∙ ap (idles_between trace r) f.number ∙ idles)
    (and-left (is_past (idles_between trace number f.serving.number) clock f.serving.clock) (is_past (idles_between trace f.serving.number number) f.serving.clock clock) f.first) in
    absurd (omega (arith, before_it, behind_it))

or-rest : (b rest : Bool) → (b || rest) ≡ true → rest ≡ false → b ≡ true
or-rest true rest e f = refl
or-rest false rest e f = let g : true ≡ false = sym e ∙ f in cc

not-overtaken-step : (h : Header) (trace : List TraceLine) (run : Run) (o : Option Request) (clock r k c : ℕ) (cs : List ℕ) → idles_between trace r k ≡ c ∷ cs → Sound h trace run → rule_1 clock (log_of run) ≡ true
    → AreApart trace (with_serving o clock (servings run)) → has r (also o (served run)) ≡ true → (AreApart trace (servings run) → is_served r run ≡ true → is_served k (before r run) ≡ false)
    → (b : Bool) → is_served r run ≡ b → is_served k (cond b (before r run) run) ≡ false
not-overtaken-step h trace run None clock r k c cs idles sound rises apart e ih true is = ih apart is
not-overtaken-step h trace run (Some s) clock r k c cs idles sound rises apart e ih true is = ih apart.1 is
not-overtaken-step h trace run None clock r k c cs idles sound rises apart e ih false is = let f : true ≡ false = sym e ∙ is in cc
not-overtaken-step h trace run (Some s) clock r k c cs idles sound rises apart e ih false is =
    divided trace h run s.number clock r k c cs (eqb-true s.number r (or-rest (s.number == r) (has r (served run)) e is)) sound rises apart.0 idles (is_served k run) refl

pub not-overtaken : (h : Header) (trace : List TraceLine) (run : Run) (r k c : ℕ) (cs : List ℕ) → idles_between trace r k ≡ c ∷ cs → Sound h trace run → AreApart trace (servings run) → is_served r run ≡ true → is_served k (before r run) ≡ false
not-overtaken h trace [] r k c cs idles sound apart e = cc
not-overtaken h trace (Issues s ∷ run) r k c cs idles sound apart e =
    not-overtaken-step h trace run s.request s.issued.clock r k c cs idles sound.1 (first-rule h s.issued.clock s.issued.command (log_of run) sound.0.rules) apart e
    (λ a f. not-overtaken h trace run r k c cs idles sound.1 a f) (is_served r run) refl
not-overtaken h trace (Flips n ∷ run) r k c cs idles sound apart e =
    ap (λ b. is_served k (cond b (before r run) run)) e ∙ not-overtaken h trace run r k c cs idles sound.1 apart e

-- ---- Counting

-- the lines before the first I line
abbrev up_to_idle : List TraceLine → List TraceLine
up_to_idle [] = []
up_to_idle (Idle clocks ∷ trace) = []
up_to_idle (Read line ∷ trace) = Read line ∷ up_to_idle trace
up_to_idle (Write line bytes ∷ trace) = Write line bytes ∷ up_to_idle trace
up_to_idle (Flip line device bit ∷ trace) = Flip line device bit ∷ up_to_idle trace

-- those behind them
abbrev from_idle : List TraceLine → List TraceLine
from_idle [] = []
from_idle (Idle clocks ∷ trace) = Idle clocks ∷ trace
from_idle (Read line ∷ trace) = from_idle trace
from_idle (Write line bytes ∷ trace) = from_idle trace
from_idle (Flip line device bit ∷ trace) = from_idle trace

idle-parts : (trace : List TraceLine) → trace ≡ up_to_idle trace ++ from_idle trace
idle-parts [] = refl
idle-parts (Idle clocks ∷ trace) = refl
idle-parts (Read line ∷ trace) = ap (λ l. Read line ∷ l) (idle-parts trace)
idle-parts (Write line bytes ∷ trace) = ap (λ l. Write line bytes ∷ l) (idle-parts trace)
idle-parts (Flip line device bit ∷ trace) = ap (λ l. Flip line device bit ∷ l) (idle-parts trace)

idle-none : (trace : List TraceLine) → idle_clocks (up_to_idle trace) ≡ []
idle-none [] = refl
idle-none (Idle clocks ∷ trace) = refl
idle-none (Read line ∷ trace) = idle-none trace
idle-none (Write line bytes ∷ trace) = idle-none trace
idle-none (Flip line device bit ∷ trace) = idle-none trace

-- a request counts where the test of its number says yes
abbrev counted : (ℕ → Bool) → List Request → List Request
counted p rs = filter (λ q. p q.number) rs

cond-le : (b : Bool) (q : Request) (rs : List Request) (n : ℕ) → length rs ≤ n → length (cond b (q ∷ rs) rs) ≤ suc n
cond-le true q rs n le = omega (arith, le)
cond-le false q rs n le = omega (arith, le)

cond-none : (b : Bool) (q : Request) (rs : List Request) → b ≡ false → rs ≡ [] → cond b (q ∷ rs) rs ≡ []
cond-none true q rs e f = cc
cond-none false q rs e f = f

none-counted : (p : ℕ → Bool) (n : ℕ) (trace : List TraceLine) → ((j : ℕ) → p (n + j) ≡ false) → counted p (requests_from n trace) ≡ []
none-counted p n [] never = refl
none-counted p n (Read line ∷ trace) never = cond-none (p n) _ _ (ap p (omega arith) ∙ never 0) (none-counted p (suc n) trace (λ j. ap p (omega arith) ∙ never (suc j)))
none-counted p n (Write line bytes ∷ trace) never = cond-none (p n) _ _ (ap p (omega arith) ∙ never 0) (none-counted p (suc n) trace (λ j. ap p (omega arith) ∙ never (suc j)))
none-counted p n (Flip line device bit ∷ trace) never = none-counted p (suc n) trace (λ j. ap p (omega arith) ∙ never (suc j))
none-counted p n (Idle clocks ∷ trace) never = none-counted p (suc n) trace (λ j. ap p (omega arith) ∙ never (suc j))

count-free : (p : ℕ → Bool) (n m : ℕ) (trace : List TraceLine) → ((j c : ℕ) (cs : List ℕ) → idle_clocks (take j trace) ≡ c ∷ cs → p (n + j) ≡ false)
    → length (counted p (requests_from n trace)) ≤ length (requests_from m (up_to_idle trace))
count-free p n m [] never = omega arith
count-free p n m (Read line ∷ trace) never = cond-le (p n) _ _ _ (count-free p (suc n) (suc m) trace (λ j c cs e. ap p (omega arith) ∙ never (suc j) c cs e))
count-free p n m (Write line bytes ∷ trace) never = cond-le (p n) _ _ _ (count-free p (suc n) (suc m) trace (λ j c cs e. ap p (omega arith) ∙ never (suc j) c cs e))
count-free p n m (Flip line device bit ∷ trace) never = count-free p (suc n) (suc m) trace (λ j c cs e. ap p (omega arith) ∙ never (suc j) c cs e)
count-free p n m (Idle clocks ∷ trace) never =
    let none = none-counted p (suc n) trace (λ j. ap p (omega arith) ∙ never (suc j) clocks (idle_clocks (take j trace)) refl) in
    let z : length (counted p (requests_from (suc n) trace)) ≡ 0 = ap length none in omega (arith, z)

-- ---- The cap

record IsSplit (trace : List TraceLine) (place : ℕ) (line : TraceLine) : Type 0 where
  parts : trace ≡ take place trace ++ line ∷ drop (suc place) trace
  long : length (take place trace) ≡ place

split-at : (place : ℕ) (trace : List TraceLine) (line : TraceLine) → slice_get trace place ≡ Some line → IsSplit trace place line
split-at place [] line e = cc
split-at zero (t ∷ trace) line e = let f : t ≡ line = cc in record { parts = ap (λ l. l ∷ trace) f; long = refl }
split-at (suc place) (t ∷ trace) line e = let k = split-at place trace line e in record { parts = ap (λ l. t ∷ l) k.parts; long = ap suc k.long }

front-none : (p : ℕ → Bool) (low high : ℕ) (rs : List Request) → Between low high rs → ((k : ℕ) → k < high → p k ≡ false) → counted p rs ≡ []
front-none p low high [] b f = refl
front-none p low high (q ∷ rs) b f = cond-none (p q.number) q (counted p rs) (f q.number b.1) (front-none p low high rs b.2 f)

is-request : (n : ℕ) (line : TraceLine) (r : Request) (more : List TraceLine) → request_of n line ≡ r ∷ [] → (length (requests (line ∷ more)) ≡ suc (length (requests_from 2 more))) × (idle_clocks (line ∷ more) ≡ idle_clocks more)
is-request n (Read line) r more e = (refl, refl)
is-request n (Write line bytes) r more e = (refl, refl)
is-request n (Flip line device bit) r more e = cc
is-request n (Idle clocks) r more e = cc

not-later : (a k : ℕ) (b : Bool) → k ≤ a → (nat_lt a k && b) ≡ false
not-later a k b le = go (nat_lt a k) refl
  where
    go : (t : Bool) → nat_lt a k ≡ t → (t && b) ≡ false
    go false e = refl
    go true e = let f = ltb-true a k e in absurd (omega (arith, f, le))

pub capped-ages : (h : Header) (trace : List TraceLine) (run : Run) (cap : ℕ) (earlier later : List Request) (r : Request) → Sound h trace run → AreApart trace (servings run) → is_served r.number run ≡ true
    → IsCapped cap trace → requests trace ≡ earlier ++ r ∷ later → length (overtaking trace run r) < cap
capped-ages h trace run cap earlier later r sound apart served_it capped e =
    let f : IsAt 1 trace earlier r = is_at 1 trace earlier later r e in
    let s = split-at f.place trace f.line f.there in
    let front : List TraceLine = take f.place trace in
    let rest : List TraceLine = drop (suc f.place) trace in
    let p : ℕ → Bool = λ k. nat_lt r.number k && is_served k (before r.number run) in
    let number : r.number ≡ suc f.place = omega (arith, f.number) in
    let in_front : counted p (requests_from 1 front) ≡ [] =
    front-none p 1 (1 + length front) (requests_from 1 front) (Between-asked 1 front (1 + length front) refl)
    (λ k lt. not-later r.number k (is_served k (before r.number run)) (omega (arith, number, lt, s.long))) in
    let own : counted p (request_of r.number f.line) ≡ [] = ap (counted p) f.is ∙ cond-none (p r.number) r [] (not-later r.number r.number (is_served r.number (before r.number run)) (omega arith)) refl in
    let whole : requests trace ≡ requests_from 1 front ++ (request_of r.number f.line ++ requests_from (suc r.number) rest) =
    ap requests s.parts ∙ requests-append 1 front (f.line ∷ rest) r.number (omega (arith, number, s.long)) in
    let few = count-free p (suc r.number) 2 rest
    (λ j c cs idles.
    and-false (nat_lt r.number (suc r.number + j)) (is_served (suc r.number + j) (before r.number run))
    (not-overtaken h trace run r.number (suc r.number + j) c cs
    (ap (λ n. idle_clocks (take n (drop r.number trace))) (let k : suc r.number + j - 1 - r.number ≡ j = omega arith in k) ∙ ap (λ n. idle_clocks (take j (drop n trace))) number ∙ idles)
    sound apart served_it)) in
    let q = is-request r.number f.line r (up_to_idle rest) f.is in
    let within = capped front (f.line ∷ up_to_idle rest) (from_idle rest) (s.parts ∙ ap (λ l. front ++ f.line ∷ l) (idle-parts rest)) (q.1 ∙ idle-none rest) in
    let same : overtaking trace run r ≡ counted p (requests_from (suc r.number) rest) =
    ap (counted p) whole
    ∙ filter-append (λ v. p v.number) (requests_from 1 front) (request_of r.number f.line ++ requests_from (suc r.number) rest)
    ∙ ap (λ l. l ++ counted p (request_of r.number f.line ++ requests_from (suc r.number) rest)) in_front
    ∙ filter-append (λ v. p v.number) (request_of r.number f.line) (requests_from (suc r.number) rest)
    ∙ ap (λ l. l ++ counted p (requests_from (suc r.number) rest)) own in
    let long = ap length same in
    omega (arith, long, few, q.0, within)
