-- Each step of a sound run is one step of a controller, which numbers the requests by their order.
use Rattle.std.proofs.Common.{◌≡◌, ℕ, zero, suc, ◌+◌, ◌-◌, ◌<◌, ◌≤◌, ◌==◌, ◌&&◌, ◌||◌, Bool, true, false, cond, Option, Some, None, List, [], ◌∷◌, ◌++◌, map, reverse, length, take, slice_get, refl, sym, ap, ◌∙◌, subst, arith, append_assoc, append-nil}
use Rattle.std.specs.Prelude.{IfSome, option_map, filter, nat_lt}
use Rattle.std.proofs.lemmas.Bool.{eqb-true, eq-eqb, lt-ltb}
use Rattle.std.proofs.lemmas.List.{reverse-append, map-append, length-append}
use Rattle.std.proofs.lemmas.List.Elements.{filter-append}
use Rattle.command_words.specs.declared.command.Command.{Command}
use Rattle.command_words.specs.declared.command.Command.TheVariants.{Act, Rd, Wr, PrePb, PreSb, PreAb, RefAb, RefSb, RfmAb, RfmSb, Mrw, Ecs, Nop}
use Rattle.command_words.specs.Command.{bank_number}
use Rattle.command_words.specs.Place.{line_of}
use Rattle.command_words.specs.declared.place.Bank.{Bank}
use Rattle.speed_bin.specs.Log.{open_at}
use Rattle.speed_bin.specs.declared.header.Header.{Header}
use Rattle.requests.specs.Order.{named, served as served_waiting, earlier as earlier_of, Serves as ServesNumbered, IsServing}
use Rattle.requests.specs.Queue.{places, waiting_as, numbered, is_of_line, is_number, is_served as is_served_number}
use Rattle.speed_bin.specs.Header.{shape_of}
use Rattle.requests.specs.declared.request.Kind.{Kind}
use Rattle.requests.specs.declared.request.Kind.TheVariants.{Read as Reads, Write as Writes}
use Rattle.requests.specs.declared.request.Request.{Request as Asked}
use Rattle.requests.specs.declared.waiting.Waiting.{Waiting}
use Rattle.ddr_text.specs.declared.lines.TraceLine.{TraceLine}
use Rattle.device_core.specs.Stored.{also}
use Rattle.reports.specs.Requests.{Request, requests, on}
use Rattle.reports.specs.Runs.{Issues, Flips, Run, log_of, served, has, is_served, IsNext}
use Rattle.reports.specs.Accesses.{access_of, access_at}
use Rattle.reports.specs.Offered.{asked, offered, rank, rank_of, ranked, controller_steps}
use Rattle.reports.specs.Sound.{Sound}
use Rattle.reports.proofs.Columns.{access-rd, access-wr}
use Rattle.reports.proofs.Found.{is_at}
use Rattle.reports.proofs.Order.{reverse-on}
use Rattle.reports.proofs.Through.{requests-more}

-- ---- Where a request stands

-- the request is one of the trace
pub record IsIn (trace : List TraceLine) (r : Request) : Type 0 where
  pub earlier : List Request
  pub later : List Request
  pub is : requests trace ≡ earlier ++ r ∷ later

length-with : (xs : List Request) (r : Request) → length (xs ++ r ∷ []) ≡ length xs + 1
length-with xs r = length-append xs (r ∷ [])

pub rank-split : (trace : List TraceLine) (earlier later : List Request) (r : Request) → requests trace ≡ earlier ++ r ∷ later → rank trace r.number ≡ length earlier + 1
rank-split trace earlier later r e =
    let f = is_at 1 trace earlier later r e in
    ap length (requests-more trace f.place r.number f.line f.there (omega (arith, f.number)) ∙ ap (λ l. requests (take f.place trace) ++ l) f.is ∙ ap (λ l. l ++ r ∷ []) (sym f.before))
    ∙ length-with earlier r

pub record IsCut (xs : List Request) (k : ℕ) (r : Request) : Type 0 where
  pub before : List Request
  pub after : List Request
  pub is : xs ≡ before ++ r ∷ after
  pub long : length before ≡ k

pub cut-at : (xs : List Request) (k : ℕ) (r : Request) → slice_get xs k ≡ Some r → IsCut xs k r
cut-at [] k r e = cc
cut-at (x ∷ xs) zero r e = let f : x ≡ r = cc in record { before = []; after = xs; is = ap (λ v. v ∷ xs) f; long = refl }
cut-at (x ∷ xs) (suc k) r e = let c = cut-at xs k r e in record { before = x ∷ c.before; after = c.after; is = ap (λ l. x ∷ l) c.is; long = ap suc c.long }

-- ---- The offered requests with their numbers

abbrev pub wait : Header → List TraceLine → Request → Waiting
wait h trace r = waiting_as (shape_of h) (rank trace r.number) (asked r)

pub numbered-part : (h : Header) (trace : List TraceLine) (n : ℕ) (before rs after : List Request) → n ≡ length before + 1 → requests trace ≡ before ++ (rs ++ after) → numbered h n (map asked rs) ≡ map (wait h trace) rs
numbered-part h trace n before [] after e f = refl
numbered-part h trace n before (r ∷ rs) after e f =
    ap (λ k. waiting_as (shape_of h) k (asked r) ∷ numbered h (n + 1) (map asked rs)) (e ∙ sym (rank-split trace before (rs ++ after) r f))
    ∙ ap (λ l. wait h trace r ∷ l) (numbered-part h trace (n + 1) (before ++ r ∷ []) rs after (omega (arith, e, length-with before r)) (f ∙ sym (append_assoc before (r ∷ []) (rs ++ after))))

numbered-both : (h : Header) (n m : ℕ) (a b : List Asked) → m ≡ n + length a → numbered h n (a ++ b) ≡ numbered h n a ++ numbered h m b
numbered-both h n m [] b e = ap (λ k. numbered h k b) (omega (arith, e))
numbered-both h n m (r ∷ a) b e = ap (λ l. waiting_as (shape_of h) n r ∷ l) (numbered-both h (n + 1) m a b (omega (arith, e)))

-- ---- The request under a number

ne-above : (n k : ℕ) → k < n → (n == k) ≡ false
ne-above n k h = go (n == k) refl
  where
    go : (b : Bool) → (n == k) ≡ b → (n == k) ≡ false
    go true e = let f : n ≡ k = eqb-true _ _ e in absurd (omega (arith, f, h))
    go false e = e

named-above : (h : Header) (n k : ℕ) (rs : List Asked) → k < n → named (Some k) (numbered h n rs) ≡ []
named-above h n k [] low = refl
named-above h n k (r ∷ rs) low =
    ap (λ b. cond b (waiting_as (shape_of h) n r ∷ named (Some k) (numbered h (n + 1) rs)) (named (Some k) (numbered h (n + 1) rs))) (ne-above n k low)
    ∙ named-above h (n + 1) k rs (omega (arith, low))

ne-below : (n k : ℕ) → n < k → (n == k) ≡ false
ne-below n k h = go (n == k) refl
  where
    go : (b : Bool) → (n == k) ≡ b → (n == k) ≡ false
    go true e = let f : n ≡ k = eqb-true _ _ e in absurd (omega (arith, f, h))
    go false e = e

named-below : (h : Header) (n k : ℕ) (rs : List Asked) → n + length rs ≤ k → named (Some k) (numbered h n rs) ≡ []
named-below h n k [] low = refl
named-below h n k (r ∷ rs) low =
    ap (λ b. cond b (waiting_as (shape_of h) n r ∷ named (Some k) (numbered h (n + 1) rs)) (named (Some k) (numbered h (n + 1) rs))) (ne-below n k (omega (arith, low)))
    ∙ named-below h (n + 1) k rs (omega (arith, low))

map-length : (rs : List Request) → length (map asked rs) ≡ length rs
map-length [] = refl
map-length (r ∷ rs) = ap suc (map-length rs)

named-own : (h : Header) (trace : List TraceLine) (earlier later : List Request) (r : Request) → requests trace ≡ earlier ++ r ∷ later → named (Some (rank trace r.number)) (numbered h 1 (offered trace)) ≡ wait h trace r ∷ []
named-own h trace earlier later r e =
    let k = rank trace r.number in
    let own : k ≡ length earlier + 1 = rank-split trace earlier later r e in
    let all : numbered h 1 (offered trace) ≡ numbered h 1 (map asked earlier) ++ (waiting_as (shape_of h) k (asked r) ∷ numbered h (k + 1) (map asked later))
    = ap (λ l. numbered h 1 (map asked l)) e ∙ ap (numbered h 1) (map-append asked earlier (r ∷ later)) ∙ numbered-both h 1 k (map asked earlier) (map asked (r ∷ later)) (omega (arith, own, map-length earlier)) in
    ap (named (Some k)) all
    ∙ filter-append (λ w. w.id == k) (numbered h 1 (map asked earlier)) (waiting_as (shape_of h) k (asked r) ∷ numbered h (k + 1) (map asked later))
    ∙ ap (λ l. l ++ named (Some k) (waiting_as (shape_of h) k (asked r) ∷ numbered h (k + 1) (map asked later))) (named-below h 1 k (map asked earlier) (omega (arith, own, map-length earlier)))
    ∙ ap (λ b. cond b (waiting_as (shape_of h) k (asked r) ∷ named (Some k) (numbered h (k + 1) (map asked later))) (named (Some k) (numbered h (k + 1) (map asked later)))) (eq-eqb k k refl)
    ∙ ap (λ l. waiting_as (shape_of h) k (asked r) ∷ l) (named-above h (k + 1) k (map asked later) (omega arith))

-- ---- What is served

served-place : (h : Header) (trace : List TraceLine) (run : Run) (o : Option Request) → IfSome o (λ r. IsNext (requests trace) run r)
    → map (wait h trace) (reverse (served run)) ++ named (rank_of trace o) (numbered h 1 (offered trace)) ≡ map (wait h trace) (reverse (also o (served run)))
served-place h trace run None n = append-nil (map (wait h trace) (reverse (served run)))
served-place h trace run (Some r) n =
    ap (λ l. map (wait h trace) (reverse (served run)) ++ l) (named-own h trace n.earlier n.later r n.is_offered)
    ∙ sym (map-append (wait h trace) (reverse (served run)) (r ∷ []))
    ∙ ap (map (wait h trace)) (sym (reverse-append (r ∷ []) (served run)))

pub served-steps : (h : Header) (trace : List TraceLine) (run : Run) → Sound h trace run → served_waiting h (offered trace) (controller_steps trace run) ≡ map (wait h trace) (reverse (served run))
served-steps h trace [] sound = refl
served-steps h trace (Issues s ∷ run) sound =
    ap (λ l. l ++ named (rank_of trace s.request) (numbered h 1 (offered trace))) (served-steps h trace run sound.1)
    ∙ served-place h trace run s.request sound.0.is_next
served-steps h trace (Flips k ∷ run) sound = served-steps h trace run sound.1

-- ---- Those of a line

of-line_step : (h : Header) (trace : List TraceLine) (r : Request) (rs : List Request) (ws : List Waiting) (b : Bool) → ws ≡ map (wait h trace) rs → cond b (wait h trace r ∷ ws) ws ≡ map (wait h trace) (cond b (r ∷ rs) rs)
of-line_step h trace r rs ws true e = ap (λ l. wait h trace r ∷ l) e
of-line_step h trace r rs ws false e = e

of-line : (h : Header) (trace : List TraceLine) (line : ℕ) (rs : List Request) → filter (is_of_line line) (map (wait h trace) rs) ≡ map (wait h trace) (on line rs)
of-line h trace line [] = refl
of-line h trace line (r ∷ rs) = of-line_step h trace r (on line rs) (filter (is_of_line line) (map (wait h trace) rs)) (r.line == line) (of-line h trace line rs)

and-true : (a b : Bool) → b ≡ true → (a && b) ≡ a
and-true true b e = e
and-true false b e = refl

pub and-false : (a b : Bool) → b ≡ false → (a && b) ≡ false
and-false true b e = e
and-false false b e = refl

lt-false : (a b : ℕ) → b ≤ a → nat_lt a b ≡ false
lt-false a b le = go (nat_lt a b) refl
  where
    go : (t : Bool) → nat_lt a b ≡ t → nat_lt a b ≡ false
    go true e = absurd (grind arith)
    go false e = e

abbrev is_before : ℕ → ℕ → Waiting → Bool
is_before line number w = is_of_line line w && nat_lt w.id number

before-all : (h : Header) (line number n : ℕ) (rs : List Asked) → n + length rs ≤ number → filter (is_before line number) (numbered h n rs) ≡ filter (is_of_line line) (numbered h n rs)
before-all h line number n [] le = refl
before-all h line number n (r ∷ rs) le =
    let w : Waiting = waiting_as (shape_of h) n r in
    ap (λ b. cond b (w ∷ filter (is_before line number) (numbered h (n + 1) rs)) (filter (is_before line number) (numbered h (n + 1) rs))) (and-true (is_of_line line w) (nat_lt n number) (lt-ltb n number (omega (arith, le))))
    ∙ ap (λ l. cond (is_of_line line w) (w ∷ l) l) (before-all h line number (n + 1) rs (omega (arith, le)))

before-none : (h : Header) (line number n : ℕ) (rs : List Asked) → number ≤ n → filter (is_before line number) (numbered h n rs) ≡ []
before-none h line number n [] le = refl
before-none h line number n (r ∷ rs) le =
    let w : Waiting = waiting_as (shape_of h) n r in
    ap (λ b. cond b (w ∷ filter (is_before line number) (numbered h (n + 1) rs)) (filter (is_before line number) (numbered h (n + 1) rs))) (and-false (is_of_line line w) (nat_lt n number) (lt-false n number le))
    ∙ before-none h line number (n + 1) rs (omega (arith, le))

earlier-of : (h : Header) (trace : List TraceLine) (line number : ℕ) (earlier later : List Request) (r : Request) → requests trace ≡ earlier ++ r ∷ later → number ≡ length earlier + 1
    → earlier_of h (offered trace) line number ≡ map (wait h trace) (on line earlier)
earlier-of h trace line number earlier later r e f =
    let all : numbered h 1 (offered trace) ≡ numbered h 1 (map asked earlier) ++ numbered h number (map asked (r ∷ later))
    = ap (λ l. numbered h 1 (map asked l)) e ∙ ap (numbered h 1) (map-append asked earlier (r ∷ later)) ∙ numbered-both h 1 number (map asked earlier) (map asked (r ∷ later)) (omega (arith, f, map-length earlier)) in
    ap (filter (is_before line number)) all
    ∙ filter-append (is_before line number) (numbered h 1 (map asked earlier)) (numbered h number (map asked (r ∷ later)))
    ∙ ap (λ l. filter (is_before line number) (numbered h 1 (map asked earlier)) ++ l) (before-none h line number number (map asked (r ∷ later)) (omega arith))
    ∙ append-nil (filter (is_before line number) (numbered h 1 (map asked earlier)))
    ∙ before-all h line number 1 (map asked earlier) (omega (arith, f, map-length earlier))
    ∙ ap (filter (is_of_line line)) (numbered-part h trace 1 [] earlier (r ∷ later) refl e)
    ∙ of-line h trace line earlier

-- ---- A waiting request tells its own

-- each of them is one of the trace
abbrev AllIn : List TraceLine → List Request → Type 0
AllIn trace [] = Unit {0}
AllIn trace (r ∷ rs) = IsIn trace r × AllIn trace rs

in-append : (trace : List TraceLine) (a b : List Request) → AllIn trace a → AllIn trace b → AllIn trace (a ++ b)
in-append trace [] b h k = k
in-append trace (r ∷ a) b h k = (h.0, in-append trace a b h.1 k)

in-reverse : (trace : List TraceLine) (rs : List Request) → AllIn trace rs → AllIn trace (reverse rs)
in-reverse trace [] h = tt
in-reverse trace (r ∷ rs) h = subst (AllIn trace) (sym (reverse-append (r ∷ []) rs)) (in-append trace (reverse rs) (r ∷ []) (in-reverse trace rs h.1) (h.0, tt))

in-cond : (trace : List TraceLine) (b : Bool) (r : Request) (rs : List Request) → IsIn trace r → AllIn trace rs → AllIn trace (cond b (r ∷ rs) rs)
in-cond trace true r rs h k = (h, k)
in-cond trace false r rs h k = k

in-on : (trace : List TraceLine) (line : ℕ) (rs : List Request) → AllIn trace rs → AllIn trace (on line rs)
in-on trace line [] h = tt
in-on trace line (r ∷ rs) h = in-cond trace (r.line == line) r (on line rs) h.0 (in-on trace line rs h.1)

in-also : (trace : List TraceLine) (run : Run) (o : Option Request) (rs : List Request) → IfSome o (λ r. IsNext (requests trace) run r) → AllIn trace rs → AllIn trace (also o rs)
in-also trace run None rs n h = h
in-also trace run (Some r) rs n h = (record { earlier = n.earlier; later = n.later; is = n.is_offered }, h)

in-served : (h : Header) (trace : List TraceLine) (run : Run) → Sound h trace run → AllIn trace (served run)
in-served h trace [] sound = tt
in-served h trace (Issues s ∷ run) sound = in-also trace run s.request (served run) sound.0.is_next (in-served h trace run sound.1)
in-served h trace (Flips k ∷ run) sound = in-served h trace run sound.1

in-front : (trace : List TraceLine) (before rs after : List Request) → requests trace ≡ before ++ (rs ++ after) → AllIn trace rs
in-front trace before [] after e = tt
in-front trace before (r ∷ rs) after e =
    (record { earlier = before; later = rs ++ after; is = e }, in-front trace (before ++ r ∷ []) rs after (e ∙ sym (append_assoc before (r ∷ []) (rs ++ after))))

same-place : (ea eb la lb : List Request) (a b : Request) → ea ++ a ∷ la ≡ eb ++ b ∷ lb → length ea ≡ length eb → a ≡ b
same-place [] [] la lb a b e f = cc
same-place [] (y ∷ eb) la lb a b e f = absurd (omega (arith, f))
same-place (x ∷ ea) [] la lb a b e f = absurd (omega (arith, f))
same-place (x ∷ ea) (y ∷ eb) la lb a b e f =
    let rest : ea ++ a ∷ la ≡ eb ++ b ∷ lb = cc in
    same-place ea eb la lb a b rest (omega (arith, f))

same-rank : (trace : List TraceLine) (a b : Request) → IsIn trace a → IsIn trace b → rank trace a.number ≡ rank trace b.number → a ≡ b
same-rank trace a b i j e =
    same-place i.earlier j.earlier i.later j.later a b (sym i.is ∙ j.is)
    (omega (arith, e, rank-split trace i.earlier i.later a i.is, rank-split trace j.earlier j.later b j.is))

same-all : (h : Header) (trace : List TraceLine) (xs ys : List Request) → AllIn trace xs → AllIn trace ys → map (wait h trace) xs ≡ map (wait h trace) ys → xs ≡ ys
same-all h trace [] [] i j e = refl
same-all h trace [] (y ∷ ys) i j e = cc
same-all h trace (x ∷ xs) [] i j e = cc
same-all h trace (x ∷ xs) (y ∷ ys) i j e =
    let first : wait h trace x ≡ wait h trace y = cc in
    let rest : map (wait h trace) xs ≡ map (wait h trace) ys = cc in
    ap (λ v. v ∷ xs) (same-rank trace x y i.0 j.0 (ap (λ (w : Waiting). w.id) first)) ∙ ap (λ l. y ∷ l) (same-all h trace xs ys i.1 j.1 rest)

-- ---- What the controller promises of a column

pub places-steps : (trace : List TraceLine) (run : Run) → places (controller_steps trace run) ≡ log_of run
places-steps trace [] = refl
places-steps trace (Issues s ∷ run) = ap (λ l. s.issued ∷ l) (places-steps trace run)
places-steps trace (Flips k ∷ run) = places-steps trace run

slice-map : (rs : List Request) (k : ℕ) (r : Request) (a : Asked) → slice_get rs k ≡ Some r → slice_get (map asked rs) k ≡ Some a → a ≡ asked r
slice-map [] k r a e f = cc
slice-map (x ∷ rs) zero r a e f = let g : x ≡ r = cc in let i : asked x ≡ a = cc in sym i ∙ ap asked g
slice-map (x ∷ rs) (suc k) r a e f = slice-map rs k r a e f

next-promised : (h : Header) (trace : List TraceLine) (run : Run) (number : ℕ) (r : Request) (c : IsCut (requests trace) (number - 1) r) → Sound h trace run → 1 ≤ number
    → filter (is_of_line r.line) (served_waiting h (offered trace) (controller_steps trace run)) ≡ earlier_of h (offered trace) r.line number → IsNext (requests trace) run r
next-promised h trace run number r c sound some e =
    let same : map (wait h trace) (on r.line (reverse (served run))) ≡ map (wait h trace) (on r.line c.before)
    = sym (of-line h trace r.line (reverse (served run))) ∙ ap (filter (is_of_line r.line)) (sym (served-steps h trace run sound)) ∙ e
    ∙ earlier-of h trace r.line number c.before c.after r c.is (omega (arith, c.long, some)) in
    record {
      earlier = c.before;
      later = c.after;
      is_offered = c.is;
      in_order = reverse-on r.line (served run)
          ∙ same-all h trace (on r.line (reverse (served run))) (on r.line c.before)
          (in-on trace r.line (reverse (served run)) (in-reverse trace (served run) (in-served h trace run sound)))
          (in-on trace r.line c.before (in-front trace [] c.before (r ∷ c.after) c.is)) same;
    }

-- the request that a column serves, as the controller promises it
pub record IsPromised (h : Header) (trace : List TraceLine) (run : Run) (command : Command) (id : Option ℕ) : Type 0 where
  pub is_of : access_at (shape_of h) command (log_of run) ≡ option_map access_of (ranked trace id)
  pub is_next : IfSome (ranked trace id) (λ r. IsNext (requests trace) run r)
  pub is_rank : rank_of trace (ranked trace id) ≡ id

promised-column : (h : Header) (trace : List TraceLine) (run : Run) (kind : Kind) (command : Command) (bank : Bank) (column number : ℕ) (id : Option ℕ) (o : Option Request) → Sound h trace run
    → id ≡ Some number → slice_get (requests trace) (number - 1) ≡ o
    → (p : ServesNumbered h (offered trace) (controller_steps trace run) kind bank column id) → p.number ≡ number
    → ((row line : ℕ) → open_at (bank_number bank) (log_of run) ≡ Some row → line_of (record { bank = bank; row = row; column = column }) (shape_of h) ≡ line → access_at (shape_of h) command (log_of run) ≡ Some (record { line = line; kind = kind }))
    → IsPromised h trace run command id
promised-column h trace run kind command bank column number id None sound e there p own access =
    absurd (none-there (requests trace) (number - 1) p.request there (ap (λ k. slice_get (offered trace) (k - 1)) (sym own) ∙ p.offers))
  where
    none-there : (rs : List Request) (k : ℕ) (a : Asked) → slice_get rs k ≡ None → slice_get (map asked rs) k ≡ Some a → ⊥
    none-there [] k a e f = cc
    none-there (x ∷ rs) zero a e f = cc
    none-there (x ∷ rs) (suc k) a e f = none-there rs k a e f
promised-column h trace run kind command bank column number id (Some r) sound e there p own access =
    let ask : p.request ≡ asked r = slice-map (requests trace) (number - 1) r p.request there (ap (λ k. slice_get (offered trace) (k - 1)) (sym own) ∙ p.offers) in
    let line : p.request.line ≡ r.line = ap (λ (a : Asked). a.line) ask in
    let kind_is : kind ≡ r.kind = sym p.kind_is ∙ ap (λ (a : Asked). a.kind) ask in
    let c = cut-at (requests trace) (number - 1) r there in
    let some : 1 ≤ number = omega (arith, p.from, own) in
    let opened : open_at (bank_number bank) (log_of run) ≡ Some p.row = ap (open_at (bank_number bank)) (sym (places-steps trace run)) ∙ p.is_open in
    let found : ranked trace id ≡ Some r = ap (ranked trace) e ∙ there in
    let reads : access_at (shape_of h) command (log_of run) ≡ Some (access_of r)
    = access p.row r.line opened (p.line_is ∙ line) ∙ ap (λ k. Some (record { line = r.line; kind = k })) kind_is in
    let next : IsNext (requests trace) run r
    = next-promised h trace run number r c sound some
    (ap (λ l. filter (is_of_line l) (served_waiting h (offered trace) (controller_steps trace run))) (sym line) ∙ p.next ∙ ap (λ l. earlier_of h (offered trace) l p.number) line ∙ ap (earlier_of h (offered trace) r.line) own) in
    record {
      is_of = reads ∙ ap (option_map access_of) (sym found);
      is_next = subst (λ o. IfSome o (λ q. IsNext (requests trace) run q)) (sym found) next;
      is_rank = ap (rank_of trace) found ∙ ap Some (rank-split trace c.before c.after r c.is ∙ back) ∙ sym e;
    }
  where
    back : length (cut-at (requests trace) (number - 1) r there).before + 1 ≡ number
    back = omega (arith, (cut-at (requests trace) (number - 1) r there).long, p.from, own)

promised-none : (h : Header) (trace : List TraceLine) (run : Run) (command : Command) (id : Option ℕ) → access_at (shape_of h) command (log_of run) ≡ None → id ≡ None → IsPromised h trace run command id
promised-none h trace run command id none e =
    let found : ranked trace id ≡ None = ap (ranked trace) e in
    record {
      is_of = none ∙ ap (option_map access_of) (sym found);
      is_next = subst (λ o. IfSome o (λ q. IsNext (requests trace) run q)) (sym found) tt;
      is_rank = ap (rank_of trace) found ∙ sym e;
    }

pub promised : (h : Header) (trace : List TraceLine) (run : Run) (command : Command) (id : Option ℕ) → Sound h trace run → IsServing h (offered trace) (controller_steps trace run) command id → IsPromised h trace run command id
promised h trace run (Rd bank column) id sound p =
    promised-column h trace run Reads (Rd bank column) bank column p.number id (slice_get (requests trace) (p.number - 1)) sound p.is_id refl p refl (λ row line. access-rd (shape_of h) bank column row line (log_of run))
promised h trace run (Wr bank column) id sound p =
    promised-column h trace run Writes (Wr bank column) bank column p.number id (slice_get (requests trace) (p.number - 1)) sound p.is_id refl p refl (λ row line. access-wr (shape_of h) bank column row line (log_of run))
promised h trace run (Act bank row) id sound p = promised-none h trace run (Act bank row) id refl p
promised h trace run (PrePb bank) id sound p = promised-none h trace run (PrePb bank) id refl p
promised h trace run (PreSb address) id sound p = promised-none h trace run (PreSb address) id refl p
promised h trace run PreAb id sound p = promised-none h trace run PreAb id refl p
promised h trace run RefAb id sound p = promised-none h trace run RefAb id refl p
promised h trace run (RefSb address) id sound p = promised-none h trace run (RefSb address) id refl p
promised h trace run RfmAb id sound p = promised-none h trace run RfmAb id refl p
promised h trace run (RfmSb address) id sound p = promised-none h trace run (RfmSb address) id refl p
promised h trace run (Mrw write) id sound p = promised-none h trace run (Mrw write) id refl p
promised h trace run Ecs id sound p = promised-none h trace run Ecs id refl p
promised h trace run Nop id sound p = promised-none h trace run Nop id refl p

-- ---- What is served, by either number

eq-iff : (a b c d : ℕ) → (a ≡ b → c ≡ d) → (c ≡ d → a ≡ b) → (a == b) ≡ (c == d)
eq-iff a b c d to from = go (a == b) (c == d) refl refl
  where
    go : (s t : Bool) → (a == b) ≡ s → (c == d) ≡ t → (a == b) ≡ (c == d)
    go true true e f = e ∙ sym f
    go false false e f = e ∙ sym f
    go true false e f = let g : (c == d) ≡ true = eq-eqb c d (to (eqb-true a b e)) in let k : true ≡ false = sym g ∙ f in cc
    go false true e f = let g : (a == b) ≡ true = eq-eqb a b (from (eqb-true c d f)) in let k : true ≡ false = sym g ∙ e in cc

served-either : (trace : List TraceLine) (run : Run) (o : Option Request) (r : Request) (s : Bool) → IsIn trace r → IfSome o (λ q. IsNext (requests trace) run q) → s ≡ is_served r.number run
    → (is_number (rank trace r.number) (rank_of trace o) || s) ≡ has r.number (also o (served run))
served-either trace run None r s i n e = e
served-either trace run (Some q) r s i n e =
    let j : IsIn trace q = record { earlier = n.earlier; later = n.later; is = n.is_offered } in
    ap (λ b. b || s) (eq-iff (rank trace q.number) (rank trace r.number) q.number r.number (λ k. ap (λ (v : Request). v.number) (same-rank trace q r j i k)) (λ k. ap (rank trace) k))
    ∙ ap (λ b. (q.number == r.number) || b) e

pub served-rank : (h : Header) (trace : List TraceLine) (run : Run) (earlier later : List Request) (r : Request) → Sound h trace run → requests trace ≡ earlier ++ r ∷ later → is_served_number (rank trace r.number) (controller_steps trace run) ≡ is_served r.number run
served-rank h trace [] earlier later r sound e = refl
served-rank h trace (Issues s ∷ run) earlier later r sound e =
    served-either trace run s.request r (is_served_number (rank trace r.number) (controller_steps trace run)) (record { earlier = earlier; later = later; is = e }) sound.0.is_next (served-rank h trace run earlier later r sound.1 e)
served-rank h trace (Flips k ∷ run) earlier later r sound e = served-rank h trace run earlier later r sound.1 e
