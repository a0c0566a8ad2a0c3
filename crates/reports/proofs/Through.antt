-- Runs that go through a trace line by line, and the lines that each step makes.
use Rattle.std.proofs.Common.{◌≡◌, ℕ, ◌+◌, ◌<◌, ◌≤◌, ◌==◌, true, false, cond, Some, None, List, [], ◌∷◌, ◌++◌, reverse, take, drop, length, slice_get, refl, sym, ap, ◌∙◌, subst, arith, append_assoc, append-nil}
use Rattle.std.proofs.lemmas.Bool.{eq-eqb}
use Rattle.std.proofs.lemmas.List.{reverse-append, reverse-reverse, take_more, take-append-drop, take_all, length-take}
use Rattle.std.proofs.lemmas.Option.{slice_get_within, get_or_from_slice_get}
use Rattle.ddr_text.specs.declared.lines.TraceLine.{TraceLine}
use Rattle.ddr_text.specs.declared.lines.TraceLine.TheVariants.{Read, Write, Flip, Idle}
use Rattle.requests.specs.declared.request.Kind.TheVariants.{Read as Reads, Write as Writes}
use Rattle.device_core.specs.Stored.{also}
use Rattle.reports.specs.Requests.{Request, request_of, requests_from, requests, on, flip_of, flips}
use Rattle.reports.specs.Runs.{Served, Issues, Flips, Run, has, served, is_served, flipped, Serves, IsNext, IsThrough, ready, held}
use Rattle.speed_bin.specs.declared.header.Header.{Header}
use Rattle.reports.specs.Report.{answers, issued_line, latest}
use Rattle.reports.proofs.Ready.{has-on, has-reverse, has-append_right, or-left, on-append, on-own, ready-of_held, ready-all, held-past, held-unready}
use Rattle.reports.proofs.Found.{requests-append, flips-append, Between, Between-wider, Between-asked, Between-has}
use Rattle.reports.proofs.Order.{Serves-none, Serves-offer, Serves-issue, Serves-in_order, IsNext-more}
use Rattle.reports.proofs.Longer.{ready-behind_bound}

-- ---- One more trace line

-- the request that a trace line is, and the F line that it is: of the two at most one
pub one_more : (trace : List TraceLine) (n : ℕ) (t : TraceLine) → slice_get trace n ≡ Some t → take (n + 1) trace ≡ take n trace ++ t ∷ []
one_more trace n t e =
    let within : n < length trace = slice_get_within trace n t e in
    take_more trace n t within ∙ ap (λ v. take n trace ++ v ∷ []) (get_or_from_slice_get trace n t t e)

taken : (trace : List TraceLine) (n : ℕ) (t : TraceLine) → slice_get trace n ≡ Some t → length (take n trace) ≡ n
taken trace n t e = omega (arith, length-take n trace, slice_get_within trace n t e)

pub requests-more : (trace : List TraceLine) (n number : ℕ) (t : TraceLine) → slice_get trace n ≡ Some t → number ≡ n + 1 → requests (take number trace) ≡ requests (take n trace) ++ request_of number t
requests-more trace n number t e f =
    ap (λ k. requests (take k trace)) f
    ∙ ap requests (one_more trace n t e)
    ∙ requests-append 1 (take n trace) (t ∷ []) number (omega (arith, f, taken trace n t e))
    ∙ ap (λ l. requests (take n trace) ++ l) (append-nil (request_of number t))

flips-more : (trace : List TraceLine) (n number : ℕ) (t : TraceLine) → slice_get trace n ≡ Some t → number ≡ n + 1 → flips (take number trace) ≡ flips (take n trace) ++ flip_of number t
flips-more trace n number t e f =
    ap (λ k. flips (take k trace)) f
    ∙ ap flips (one_more trace n t e)
    ∙ flips-append 1 (take n trace) (t ∷ []) number (omega (arith, f, taken trace n t e))
    ∙ ap (λ l. flips (take n trace) ++ l) (append-nil (flip_of number t))

no-flip : (number : ℕ) (t : TraceLine) (r : Request) → request_of number t ≡ r ∷ [] → flip_of number t ≡ []
no-flip number (Read line) r e = refl
no-flip number (Write line bytes) r e = refl
no-flip number (Flip line device bit) r e = cc
no-flip number (Idle clocks) r e = refl

-- ---- Going through

pub through-start : (trace : List TraceLine) → IsThrough trace 0 []
through-start trace = record { serves = λ line. refl; flips = refl }

-- a command that serves no request
pub through-none : (trace : List TraceLine) (n : ℕ) (run : Run) (s : Served) → IsThrough trace n run → s.request ≡ None → IsThrough trace n (Issues s ∷ run)
through-none trace n run s h e = record { serves = Serves-none (requests (take n trace)) run [] s h.serves e; flips = h.flips }

-- a command that serves the request of the next line
pub through-serve : (trace : List TraceLine) (n number : ℕ) (run : Run) (s : Served) (t : TraceLine) (r : Request) → IsThrough trace n run → slice_get trace n ≡ Some t → number ≡ n + 1 → request_of number t ≡ r ∷ [] → s.request ≡ Some r → IsThrough trace number (Issues s ∷ run)
through-serve trace n number run s t r h e f is g =
    let all : requests (take number trace) ≡ requests (take n trace) ++ r ∷ [] = requests-more trace n number t e f ∙ ap (λ l. requests (take n trace) ++ l) is in
    record {
      serves = subst (λ l. Serves l (Issues s ∷ run) []) (sym all) (Serves-issue (requests (take n trace) ++ r ∷ []) run [] [] r s (Serves-offer (requests (take n trace)) run [] r h.serves) refl g);
      flips = h.flips ∙ sym (flips-more trace n number t e f ∙ ap (λ l. flips (take n trace) ++ l) (no-flip number t r is) ∙ append-nil (flips (take n trace)));
    }

-- the next line is an F line, and is carried out
pub through-flip : (trace : List TraceLine) (n number : ℕ) (run : Run) (t : TraceLine) → IsThrough trace n run → slice_get trace n ≡ Some t → number ≡ n + 1 → request_of number t ≡ [] → flip_of number t ≡ number ∷ [] → IsThrough trace number (Flips number ∷ run)
through-flip trace n number run t h e f none is = record {
  serves = subst (λ l. Serves l run []) (sym (requests-more trace n number t e f ∙ ap (λ l. requests (take n trace) ++ l) none ∙ append-nil (requests (take n trace)))) h.serves;
  flips = reverse-append (number ∷ []) (flipped run) ∙ ap (λ l. l ++ number ∷ []) h.flips ∙ sym (flips-more trace n number t e f ∙ ap (λ l. flips (take n trace) ++ l) is);
}

-- the next line is an I line
pub through-idle : (trace : List TraceLine) (n number : ℕ) (run : Run) (t : TraceLine) → IsThrough trace n run → slice_get trace n ≡ Some t → number ≡ n + 1 → request_of number t ≡ [] → flip_of number t ≡ [] → IsThrough trace number run
through-idle trace n number run t h e f none is = record {
  serves = subst (λ l. Serves l run []) (sym (requests-more trace n number t e f ∙ ap (λ l. requests (take n trace) ++ l) none ∙ append-nil (requests (take n trace)))) h.serves;
  flips = h.flips ∙ sym (flips-more trace n number t e f ∙ ap (λ l. flips (take n trace) ++ l) is ∙ append-nil (flips (take n trace)));
}

-- it is through the first lines where it served their requests in order, and there are no F lines among them
pub through-in_order : (trace : List TraceLine) (n : ℕ) (run : Run) → reverse (served run) ≡ requests (take n trace) → reverse (flipped run) ≡ flips (take n trace) → IsThrough trace n run
through-in_order trace n run e f = record { serves = Serves-in_order (requests (take n trace)) run [] (append-nil (reverse (served run)) ∙ e); flips = f }

-- what is next of the first lines is next of the whole trace
pub next-taken : (trace : List TraceLine) (n : ℕ) (run : Run) (r : Request) → n ≤ length trace → IsNext (requests (take n trace)) run r → IsNext (requests trace) run r
next-taken trace n run r le h =
    subst (λ l. IsNext l run r)
    (sym (requests-append 1 (take n trace) (drop n trace) (n + 1) (omega (arith, length-take n trace, le))) ∙ ap requests (take-append-drop n trace))
    (IsNext-more (requests (take n trace)) (requests_from (n + 1) (drop n trace)) run r h)

-- at the end all is served and carried out
pub through-all : (trace : List TraceLine) (n : ℕ) (run : Run) → IsThrough trace n run → length trace ≤ n → Serves (requests trace) run []
through-all trace n run h le = subst (λ l. Serves (requests l) run []) (take_all n trace le) h.serves

pub through-all_flips : (trace : List TraceLine) (n : ℕ) (run : Run) → IsThrough trace n run → length trace ≤ n → reverse (flipped run) ≡ flips trace
through-all_flips trace n run h le = h.flips ∙ ap flips (take_all n trace le)

-- ---- The next request

behind : (trace : List TraceLine) (n number : ℕ) (t : TraceLine) (r : Request) → slice_get trace n ≡ Some t → number ≡ n + 1 → request_of number t ≡ r ∷ [] → requests trace ≡ requests (take n trace) ++ r ∷ requests_from (number + 1) (drop number trace)
behind trace n number t r e f is =
    let within : n < length trace = slice_get_within trace n t e in
    ap requests (sym (take-append-drop number trace))
    ∙ requests-append 1 (take number trace) (drop number trace) (number + 1) (omega (arith, length-take number trace, within, f))
    ∙ ap (λ l. l ++ requests_from (number + 1) (drop number trace)) (requests-more trace n number t e f ∙ ap (λ l. requests (take n trace) ++ l) is)
    ∙ append_assoc (requests (take n trace)) (r ∷ []) (requests_from (number + 1) (drop number trace))

-- it is the next one of the whole trace
pub through-next : (trace : List TraceLine) (n number : ℕ) (run : Run) (t : TraceLine) (r : Request) → IsThrough trace n run → slice_get trace n ≡ Some t → number ≡ n + 1 → request_of number t ≡ r ∷ [] → IsNext (requests trace) run r
through-next trace n number run t r h e f is = record {
  earlier = requests (take n trace);
  later = requests_from (number + 1) (drop number trace);
  is_offered = behind trace n number t r e f is;
  in_order = sym (append-nil (reverse (on r.line (served run)))) ∙ h.serves r.line;
}

-- ---- What a run serves is within the numbers of the requests that it was offered

has-there : (n : ℕ) (rs : List Request) → has n rs ≡ true → has n (reverse rs) ≡ true
has-there n rs e = has-reverse n (reverse rs) (ap (has n) (reverse-reverse rs) ∙ e)

Between-each : (low high : ℕ) (all before rs : List Request) → all ≡ before ++ rs → ((earlier later : List Request) (r : Request) → all ≡ earlier ++ r ∷ later → (low ≤ r.number) × (r.number < high)) → Between low high rs
Between-each low high all before [] e h = tt
Between-each low high all before (r ∷ rs) e h =
    let k = h before rs r e in
    (k.0, k.1, Between-each low high all (before ++ r ∷ []) rs (e ∙ sym (append_assoc before (r ∷ []) rs)) h)

pub Between-offered : (low high : ℕ) (offered : List Request) (run : Run) → Serves offered run [] → Between low high offered → Between low high (served run)
Between-offered low high offered run s h =
    Between-each low high (served run) [] (served run) refl (λ earlier later r e.
    let own : has r.number (on r.line (served run)) ≡ true = ap (λ l. has r.number (on r.line l)) e ∙ ap (has r.number) (on-append r.line earlier (r ∷ later) ∙ ap (λ l. on r.line earlier ++ l) (on-own r later)) ∙ has-append_right r.number (on r.line earlier) (r ∷ on r.line later) (or-left (r.number == r.number) (has r.number (on r.line later)) (eq-eqb r.number r.number refl)) in
    let there : has r.number (on r.line offered) ≡ true = ap (has r.number) (sym (s r.line) ∙ append-nil (reverse (on r.line (served run)))) ∙ has-there r.number (on r.line (served run)) own in
    Between-has low high r.number offered h (has-on r.number r.line offered there))

pub through-bound : (trace : List TraceLine) (n : ℕ) (run : Run) → IsThrough trace n run → n ≤ length trace → Between 1 (n + 1) (served run)
through-bound trace n run h le =
    Between-offered 1 (n + 1) (requests (take n trace)) run h.serves (Between-asked 1 (take n trace) (n + 1) (omega (arith, length-take n trace, le)))

-- ---- The lines of a step

-- a command that serves no request makes its C line alone
pub latest-none : (h : Header) (trace : List TraceLine) (run : Run) (s : Served) → s.request ≡ None → latest h trace run (Issues s) ≡ issued_line s.issued ∷ []
latest-none h trace run s e =
    ap (λ l. issued_line s.issued ∷ answers h trace (Issues s ∷ run) l) (none (requests trace))
  where
    same : (rs : List Request) → ready rs (Issues s ∷ run) ≡ ready rs run
    same [] = refl
    same (r ∷ rs) = ap (λ o. cond (has r.number (also o (served run))) (r ∷ ready rs (Issues s ∷ run)) []) e ∙ ap (λ l. cond (is_served r.number run) (r ∷ l) []) (same rs)

    none : (rs : List Request) → ready (held rs run) (Issues s ∷ run) ≡ []
    none rs = same (held rs run) ∙ ready-of_held rs run

pub own-number : (number : ℕ) (t : TraceLine) (r : Request) → request_of number t ≡ r ∷ [] → r.number ≡ number
own-number number (Read line) r e = let f : record { number = number; line = line; kind = Reads } ≡ r = cc in sym (ap (λ (v : Request). v.number) f)
own-number number (Write line bytes) r e = let f : record { number = number; line = line; kind = Writes } ≡ r = cc in sym (ap (λ (v : Request). v.number) f)
own-number number (Flip line device bit) r e = cc
own-number number (Idle clocks) r e = cc

-- the requests from the next line on
abbrev rest_of : List TraceLine → ℕ → List Request
rest_of trace number = requests_from (number + 1) (drop number trace)

Between-rest : (trace : List TraceLine) (number low : ℕ) → low ≤ number + 1 → Between low (number + 1 + length (drop number trace)) (rest_of trace number)
Between-rest trace number low le =
    let high : ℕ = number + 1 + length (drop number trace) in
    Between-wider (number + 1) high low high (rest_of trace number) (Between-asked (number + 1) (drop number trace) high refl) le (omega arith)

-- the held requests are those from the next line on
held-through : (trace : List TraceLine) (n number : ℕ) (run : Run) (t : TraceLine) (r : Request) → IsThrough trace n run → slice_get trace n ≡ Some t → number ≡ n + 1 → request_of number t ≡ r ∷ [] → held (requests trace) run ≡ r ∷ rest_of trace number
held-through trace n number run t r h e f is =
    let rest : List Request = r ∷ rest_of trace number in
    let high : ℕ = number + 1 + length (drop number trace) in
    let within : n < length trace = slice_get_within trace n t e in
    ap (λ l. held l run) (behind trace n number t r e f is)
    ∙ held-past (requests (take n trace)) rest run (ready-all (requests (take n trace)) run h.serves)
    ∙ held-unready rest run (ready-behind_bound (n + 1) rest run high (through-bound trace n run h (omega arith))
    (omega (arith, own-number number t r is, f), omega (arith, own-number number t r is), Between-rest trace number (n + 1) (omega (arith, f))))

ready-own : (r : Request) (rs : List Request) (run : Run) (s : Served) → s.request ≡ Some r → ready rs (Issues s ∷ run) ≡ [] → ready (r ∷ rs) (Issues s ∷ run) ≡ r ∷ []
ready-own r rs run s e none =
    ap (λ b. cond b (r ∷ ready rs (Issues s ∷ run)) []) (ap (λ o. has r.number (also o (served run))) e ∙ or-left (r.number == r.number) (has r.number (served run)) (eq-eqb r.number r.number refl))
    ∙ ap (λ l. r ∷ l) none

-- one that serves the request of the next line makes its C line, and the D line where it reads
pub latest-through : (k : Header) (trace : List TraceLine) (n number : ℕ) (run : Run) (s : Served) (t : TraceLine) (r : Request) → IsThrough trace n run → slice_get trace n ≡ Some t → number ≡ n + 1 → request_of number t ≡ r ∷ [] → s.request ≡ Some r → latest k trace run (Issues s) ≡ issued_line s.issued ∷ answers k trace (Issues s ∷ run) (r ∷ [])
latest-through k trace n number run s t r h e f is g =
    let high : ℕ = number + 1 + length (drop number trace) in
    let within : n < length trace = slice_get_within trace n t e in
    let after = through-serve trace n number run s t r h e f is g in
    let none : ready (rest_of trace number) (Issues s ∷ run) ≡ []
    = ready-behind_bound (number + 1) (rest_of trace number) (Issues s ∷ run) high (through-bound trace number (Issues s ∷ run) after (omega (arith, within, f))) (Between-rest trace number (number + 1) (omega arith)) in
    ap (λ l. issued_line s.issued ∷ answers k trace (Issues s ∷ run) (ready l (Issues s ∷ run))) (held-through trace n number run t r h e f is)
    ∙ ap (λ l. issued_line s.issued ∷ answers k trace (Issues s ∷ run) l) (ready-own r (rest_of trace number) run s g none)

-- ---- A loop that keeps the held requests, and takes from the front those that are served

pub ready-served : (r : Request) (rs : List Request) (run : Run) → is_served r.number run ≡ true → ready (r ∷ rs) run ≡ r ∷ ready rs run
ready-served r rs run e = ap (λ b. cond b (r ∷ ready rs run) []) e

pub held-served : (r : Request) (rs : List Request) (run : Run) → is_served r.number run ≡ true → held (r ∷ rs) run ≡ held rs run
held-served r rs run e = ap (λ b. cond b (held rs run) (r ∷ rs)) e

pub ready-unserved : (r : Request) (rs : List Request) (run : Run) → is_served r.number run ≡ false → ready (r ∷ rs) run ≡ []
ready-unserved r rs run e = ap (λ b. cond b (r ∷ ready rs run) []) e

pub held-unserved : (r : Request) (rs : List Request) (run : Run) → is_served r.number run ≡ false → held (r ∷ rs) run ≡ r ∷ rs
held-unserved r rs run e = ap (λ b. cond b (held rs run) (r ∷ rs)) e
