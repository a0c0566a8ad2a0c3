-- A device that served a line's requests in order answers a read as plain memory does, whatever else it served between.
use Rattle.std.proofs.Common.{◌≡◌, ℕ, zero, suc, ◌+◌, ◌-◌, ◌==◌, Bool, true, false, cond, Option, Some, None, List, [], ◌∷◌, ◌++◌, reverse, take, slice_get, refl, sym, ap, ◌∙◌, arith, append_assoc, append-nil}
use Rattle.std.specs.Prelude.{IfSome}
use Rattle.std.proofs.lemmas.List.{reverse-append, reverse-reverse}
use Rattle.speed_bin.specs.declared.header.Header.{Header}
use Rattle.ddr_text.specs.declared.lines.TraceLine.{TraceLine}
use Rattle.ddr_text.specs.declared.lines.TraceLine.TheVariants.{Read, Write, Flip, Idle}
use Rattle.requests.specs.declared.request.Kind.TheVariants.{Read as Reads, Write as Writes}
use Rattle.device_core.specs.Stored.{also}
use Rattle.reports.specs.Requests.{Request, request_of, requests_from, requests, on}
use Rattle.reports.specs.Runs.{Served, Issues, Flips, Run, served, IsNext}
use Rattle.reports.specs.Memory.{zeros, written, last_write, memory, after_line, stored_by, stored}
use Rattle.reports.specs.Sound.{Sound}
use Rattle.reports.proofs.Found.{IsAt, is_at}

-- what a line holds after these requests, the oldest first
abbrev forward : List TraceLine → ℕ → List ℕ → List Request → List ℕ
forward trace x before [] = before
forward trace x before (r ∷ rs) = forward trace x (after_line x (slice_get trace (r.number - 1)) before) rs

-- a trace line is of the line that its request is of, and writes no other
elsewhere : (n x : ℕ) (t : TraceLine) (r : Request) (before : List ℕ) → request_of n t ≡ r ∷ [] → (r.line == x) ≡ false → written x t before ≡ before
elsewhere n x (Read line) r before e f = refl
elsewhere n x (Write line bytes) r before e f =
    let q : Request = record { number = n; line = line; kind = Writes } in
    let g : q ≡ r = cc in
    let k : (line == x) ≡ false = ap (λ (v : Request). v.line == x) g ∙ f in
    ap (λ b. cond b bytes before) k
elsewhere n x (Flip line device bit) r before e f = refl
elsewhere n x (Idle clocks) r before e f = refl

-- ---- The newest first

-- each of them is of the trace line with its number
abbrev pub OfTrace : List TraceLine → List Request → Type 0
OfTrace trace [] = Unit {0}
OfTrace trace (r ∷ rs) = ((earlier : List Request) × IsAt 1 trace earlier r) × OfTrace trace rs

pub line-number : (trace : List TraceLine) (earlier : List Request) (r : Request) (f : IsAt 1 trace earlier r) → slice_get trace (r.number - 1) ≡ Some f.line
line-number trace earlier r f = ap (slice_get trace) (omega (arith, f.number)) ∙ f.there

OfTrace-place : (trace : List TraceLine) (run : Run) (o : Option Request) → IfSome o (λ r. IsNext (requests trace) run r) → OfTrace trace (served run) → OfTrace trace (also o (served run))
OfTrace-place trace run None n h = h
OfTrace-place trace run (Some r) n h = ((n.earlier, is_at 1 trace n.earlier n.later r n.is_offered), h)

pub OfTrace-served : (h : Header) (trace : List TraceLine) (run : Run) → Sound h trace run → OfTrace trace (served run)
OfTrace-served h trace [] sound = tt
OfTrace-served h trace (Issues s ∷ run) sound = OfTrace-place trace run s.request sound.0.is_next (OfTrace-served h trace run sound.1)
OfTrace-served h trace (Flips k ∷ run) sound = OfTrace-served h trace run sound.1

stored-step : (trace : List TraceLine) (x : ℕ) (r : Request) (rest : List Request) (old : List ℕ) (b : Bool) → (r.line == x) ≡ b → ((earlier : List Request) × IsAt 1 trace earlier r) → old ≡ stored_by trace x rest → after_line x (slice_get trace (r.number - 1)) old ≡ stored_by trace x (cond b (r ∷ rest) rest)
stored-step trace x r rest old true e f h = ap (after_line x (slice_get trace (r.number - 1))) h
stored-step trace x r rest old false e (earlier, f) h = ap (λ o. after_line x o old) (line-number trace earlier r f) ∙ elsewhere r.number x f.line r old f.is e ∙ h

-- only the requests of the line count
stored-on : (trace : List TraceLine) (x : ℕ) (rs : List Request) → OfTrace trace rs → stored_by trace x rs ≡ stored_by trace x (on x rs)
stored-on trace x [] h = refl
stored-on trace x (r ∷ rs) h = stored-step trace x r (on x rs) (stored_by trace x rs) (r.line == x) refl h.0 (stored-on trace x rs h.1)

stored-append : (trace : List TraceLine) (x : ℕ) (rs acc : List Request) → stored_by trace x (reverse rs ++ acc) ≡ forward trace x (stored_by trace x acc) rs
stored-append trace x [] acc = refl
stored-append trace x (r ∷ rs) acc =
    ap (λ l. stored_by trace x (l ++ acc)) (reverse-append (r ∷ []) rs)
    ∙ ap (stored_by trace x) (append_assoc (reverse rs) (r ∷ []) acc)
    ∙ stored-append trace x rs (r ∷ acc)

-- ---- In the order of the trace

forward-step : (whole : List TraceLine) (x n : ℕ) (t : TraceLine) (r : Request) (rest : List Request) (before result : List ℕ) (b : Bool) → (r.line == x) ≡ b → request_of n t ≡ r ∷ [] → slice_get whole (r.number - 1) ≡ Some t → forward whole x (written x t before) rest ≡ result → forward whole x before (cond b (r ∷ rest) rest) ≡ result
forward-step whole x n t r rest before result true e is there h = ap (λ o. forward whole x (after_line x o before) rest) there ∙ h
forward-step whole x n t r rest before result false e is there h = ap (λ v. forward whole x v rest) (sym (elsewhere n x t r before is e)) ∙ h

forward-memory : (whole : List TraceLine) (x n : ℕ) (trace : List TraceLine) (at : ℕ) (before : List ℕ) → ((j : ℕ) → slice_get whole (n + j) ≡ slice_get trace j) → forward whole x before (on x (requests_from (suc n) (take at trace))) ≡ last_write x before (take at trace)
forward-memory whole x n trace zero before h = refl
forward-memory whole x n [] (suc at) before h = refl
forward-memory whole x n (Read line ∷ trace) (suc at) before h =
    forward-step whole x (suc n) (Read line) (record { number = suc n; line = line; kind = Reads }) (on x (requests_from (suc (suc n)) (take at trace))) before _ (line == x) refl refl
    (ap (slice_get whole) (omega arith) ∙ h 0)
    (forward-memory whole x (suc n) trace at before (λ j. ap (slice_get whole) (omega arith) ∙ h (suc j)))
forward-memory whole x n (Write line bytes ∷ trace) (suc at) before h =
    forward-step whole x (suc n) (Write line bytes) (record { number = suc n; line = line; kind = Writes }) (on x (requests_from (suc (suc n)) (take at trace))) before _ (line == x) refl refl
    (ap (slice_get whole) (omega arith) ∙ h 0)
    (forward-memory whole x (suc n) trace at (written x (Write line bytes) before) (λ j. ap (slice_get whole) (omega arith) ∙ h (suc j)))
forward-memory whole x n (Flip line device bit ∷ trace) (suc at) before h =
    forward-memory whole x (suc n) trace at before (λ j. ap (slice_get whole) (omega arith) ∙ h (suc j))
forward-memory whole x n (Idle clocks ∷ trace) (suc at) before h =
    forward-memory whole x (suc n) trace at before (λ j. ap (slice_get whole) (omega arith) ∙ h (suc j))

-- what the device holds at the next request of a line is plain memory
pub stored-next : (h : Header) (trace : List TraceLine) (run : Run) (r : Request) → Sound h trace run → IsNext (requests trace) run r → stored trace r.line run ≡ memory trace r.number r.line
stored-next h trace run r sound n =
    let x : ℕ = r.line in
    let f = is_at 1 trace n.earlier n.later r n.is_offered in
    let e : on x (served run) ≡ reverse (on x n.earlier) = sym (reverse-reverse (on x (served run))) ∙ ap reverse n.in_order in
    stored-on trace x (served run) (OfTrace-served h trace run sound)
    ∙ ap (stored_by trace x) (e ∙ sym (append-nil (reverse (on x n.earlier))))
    ∙ stored-append trace x (on x n.earlier) []
    ∙ ap (λ l. forward trace x zeros (on x l)) f.before
    ∙ forward-memory trace x 0 trace f.place zeros (λ j. ap (slice_get trace) (omega arith))
    ∙ ap (λ k. last_write x zeros (take k trace)) (omega (arith, f.number))

-- what one more served request leaves
pub stored-more : (trace : List TraceLine) (run : Run) (s : Served) (r : Request) (t : TraceLine) (x : ℕ) → s.request ≡ Some r → slice_get trace (r.number - 1) ≡ Some t → stored trace x (Issues s ∷ run) ≡ written x t (stored trace x run)
stored-more trace run s r t x e f = ap (λ o. stored_by trace x (also o (served run))) e ∙ ap (λ o. after_line x o (stored trace x run)) f

pub stored-none : (trace : List TraceLine) (run : Run) (s : Served) (x : ℕ) → s.request ≡ None → stored trace x (Issues s ∷ run) ≡ stored trace x run
stored-none trace run s x e = ap (λ o. stored_by trace x (also o (served run))) e
