-- A request more: the trace grows by its line, and it is kept.
use Rattle.std.proofs.Common.{◌≡◌, ◌∙◌, ℕ, zero, suc, ◌+◌, ◌-◌, ◌^◌, ◌<◌, ◌≤◌, ◌⊎◌, inl, inr, Bool, true, false, cond, Option, Some, List, [], ◌∷◌, ◌++◌, map, length, slice_get, sum, refl, sym, ap, subst, arith, append_assoc, append-nil, length-append}
use Rattle.std.specs.List.{flat_map}
use Rattle.std.specs.Io.KnownBytes.{Appends}
use Rattle.std.proofs.lemmas.List.{map-append}
use Rattle.command_words.specs.Geometry.{Shape, lines_of}
use Rattle.speed_bin.specs.declared.header.Header.{Header}
use Rattle.device_core.specs.Steps.{Step as DeviceStep}
use Rattle.device_core.specs.Stored.{changes_of, reading}
use Rattle.ddr_text.specs.Spelling.{spelled}
use Rattle.ddr_text.specs.declared.lines.TraceLine.{TraceLine}
use Rattle.ddr_text.specs.declared.lines.TraceLine.TheVariants.{Read, Write, Flip, Idle}
use Rattle.requests.specs.Queue.{Step as NumberedStep, waiting, span, IsFull, AreKnown, is_served as is_served_number}
use Rattle.speed_bin.specs.Header.{shape_of}
use Rattle.requests.specs.declared.waiting.Waiting.{Waiting}
use Rattle.requests.specs.declared.request.Request.{Request as Asked}
use Rattle.requests.specs.declared.request.Kind.TheVariants.{Read as Reads, Write as Writes}
use Rattle.reports.specs.Requests.{Request, request_of, requests_from, requests}
use Rattle.reports.specs.Runs.{Run, is_served, ready, held}
use Rattle.reports.specs.Barriers.{idle_clocks}
use Rattle.reports.specs.Delivered.{bytes_in, bytes_for, device_steps, IsInside, AreInside}
use Rattle.reports.specs.Offered.{asked, offered, rank, controller_steps}
use Rattle.reports.specs.Readings.{before, reading_of}
use Rattle.reports.specs.Report.{report}
use Rattle.reports.specs.Sound.{Sound}
use Rattle.reports.specs.Underway.{Next as NextLine, Unknown as UnknownLine, IsUnderway}
use Rattle.scheduler.specs.Controller.{StandsFor as ControllerFor, from_of as controller_from}
use Rattle.scheduler.specs.declared.state.State.{State as Controller}
use Rattle.trace_replay.specs.Coupled.{Step, StandsFor, pending_of, controller_of, with_pending, from_of, finished_of, controller_steps as numbered_steps}
use Rattle.trace_replay.proofs.Under.{Agrees}
use Rattle.trace_replay.specs.declared.trace_lines.Tally.{Tally}
use Rattle.trace_replay.specs.declared.ends.Ends.{Ends as Coupled}
use Rattle.trace_replay.specs.RequestBuffer.{Kept, next_of}
use Rattle.trace_replay.specs.Job.{IsTrace}
use Rattle.trace_replay.specs.Reading.{IsTally, IsMore, IsRead}
use Rattle.trace_replay.specs.ReplayState.{outcome_of, Asks, IsAsked, taken, following, passing, kept_as, kept_of, Follows, LoopInvariant, IsUnder, IsAhead}
use Rattle.trace_replay.specs.declared.request_buffer.Outcome.TheVariants.{Unserved}
use Rattle.trace_replay.specs.declared.replay_state.Ahead.{Ahead}
use Rattle.trace_replay.specs.declared.replay_state.Ahead.TheVariants.{Unknown, NextLine, Passes, End, Refused}
use Rattle.trace_replay.specs.declared.replay_state.ReplayState.{ReplayState}

-- ---- A longer trace

abbrev pub Laws-longer : Type 0
Laws-longer = (h : Header) (trace more : List TraceLine) (run : Run) → Sound h trace run → device_steps h (trace ++ more) run ≡ device_steps h trace run

sound-before : (h : Header) (trace : List TraceLine) (n : ℕ) (run : Run) → Sound h trace run → Sound h trace (before n run)
sound-before h trace n [] s = tt
sound-before h trace n (step ∷ run) s = go (is_served n run) (sound-before h trace n run s.1)
  where
    go : (b : Bool) → Sound h trace (before n run) → Sound h trace (cond b (before n run) run)
    go true k = k
    go false k = s.1

get-first : (xs ys : List TraceLine) (i : ℕ) → i < length xs → slice_get (xs ++ ys) i ≡ slice_get xs i
get-first [] ys i low = absurd (omega (arith, low))
get-first (x ∷ xs) ys zero low = refl
get-first (x ∷ xs) ys (suc i) low = get-first xs ys i (omega (arith, low))

within : (n : ℕ) (trace : List TraceLine) (earlier later : List Request) (r : Request) → requests_from n trace ≡ earlier ++ r ∷ later → (n ≤ r.number) × (r.number < n + length trace)
within n [] [] later r e = cc
within n [] (q ∷ earlier) later r e = cc
within n (Read line ∷ trace) [] later r e = let k : record { number = n; line = line; kind = Reads } ≡ r = cc in let m : n ≡ r.number = ap (λ (q : Request). q.number) k in (omega (arith, m), omega (arith, m))
within n (Read line ∷ trace) (q ∷ earlier) later r e = let k : requests_from (suc n) trace ≡ earlier ++ r ∷ later = cc in let m = within (suc n) trace earlier later r k in (omega (arith, m.0), omega (arith, m.1))
within n (Write line brought ∷ trace) [] later r e = let k : record { number = n; line = line; kind = Writes } ≡ r = cc in let m : n ≡ r.number = ap (λ (q : Request). q.number) k in (omega (arith, m), omega (arith, m))
within n (Write line brought ∷ trace) (q ∷ earlier) later r e = let k : requests_from (suc n) trace ≡ earlier ++ r ∷ later = cc in let m = within (suc n) trace earlier later r k in (omega (arith, m.0), omega (arith, m.1))
within n (Flip line device bit ∷ trace) earlier later r e = let m = within (suc n) trace earlier later r e in (omega (arith, m.0), omega (arith, m.1))
within n (Idle clocks ∷ trace) earlier later r e = let m = within (suc n) trace earlier later r e in (omega (arith, m.0), omega (arith, m.1))

kept-one : Laws-longer → (h : Header) (trace more : List TraceLine) (run : Run) (earlier later : List Request) (r : Request) → Sound h trace run → requests trace ≡ earlier ++ r ∷ later → kept_as h (trace ++ more) run r ≡ kept_as h trace run r
kept-one longer h trace more run earlier later r sound e =
    let w = within 1 trace earlier later r e in
    let bytes : bytes_for (trace ++ more) (Some r) ≡ bytes_for trace (Some r) = ap bytes_in (get-first trace more (r.number - 1) (omega (arith, w.0, w.1))) in
    let read : reading_of h (trace ++ more) run r ≡ reading_of h trace run r = ap (λ (steps : List DeviceStep). reading (changes_of h steps) r.line) (longer h trace more (before r.number run) (sound-before h trace r.number run sound)) in
    ap (λ b. record { number = r.number; request = asked r; bytes = b; outcome = outcome_of r.kind (is_served r.number run) (reading_of h (trace ++ more) run r) }) bytes
    ∙ ap (λ v. record { number = r.number; request = asked r; bytes = bytes_for trace (Some r); outcome = outcome_of r.kind (is_served r.number run) v }) read

pub kept-longer : Laws-longer → (h : Header) (trace more : List TraceLine) (run : Run) (earlier rs : List Request) → Sound h trace run → requests trace ≡ earlier ++ rs → map (kept_as h (trace ++ more) run) rs ≡ map (kept_as h trace run) rs
kept-longer longer h trace more run earlier [] sound e = refl
kept-longer longer h trace more run earlier (r ∷ rs) sound e =
    ap (λ k. k ∷ map (kept_as h (trace ++ more) run) rs) (kept-one longer h trace more run earlier rs r sound e)
    ∙ ap (λ l. kept_as h trace run r ∷ l) (kept-longer longer h trace more run (earlier ++ r ∷ []) rs sound (e ∙ sym (append_assoc earlier (r ∷ []) rs)))

-- ---- How many are kept

pub few-asked : (n : ℕ) (trace : List TraceLine) → length (requests_from n trace) ≤ length trace
few-asked n [] = omega arith
few-asked n (Read line ∷ trace) = let k = few-asked (suc n) trace in omega (arith, k)
few-asked n (Write line brought ∷ trace) = let k = few-asked (suc n) trace in omega (arith, k)
few-asked n (Flip line device bit ∷ trace) = let k = few-asked (suc n) trace in omega (arith, k)
few-asked n (Idle clocks ∷ trace) = let k = few-asked (suc n) trace in omega (arith, k)

pub same-length : (rs : List Request) → length (map asked rs) ≡ length rs
same-length [] = refl
same-length (r ∷ rs) = ap suc (same-length rs)

kept-length : (h : Header) (trace : List TraceLine) (run : Run) (rs : List Request) → length (map (kept_as h trace run) rs) ≡ length rs
kept-length h trace run [] = refl
kept-length h trace run (r ∷ rs) = ap suc (kept-length h trace run rs)

ready-many : (rs : List Request) (run : Run) (k : ℕ) → ((earlier later : List Request) (r : Request) → rs ≡ earlier ++ r ∷ later → length earlier < k → is_served r.number run ≡ true) → k ≤ length rs → k ≤ length (ready rs run)
ready-many rs run zero all le = omega arith
ready-many [] run (suc k) all le = absurd (omega (arith, le))
ready-many (r ∷ rs) run (suc k) all le =
    let ih = ready-many rs run k (λ earlier later q e low. all (r ∷ earlier) later q (ap (λ l. r ∷ l) e) (omega (arith, low))) (omega (arith, le)) in
    let e : ready (r ∷ rs) run ≡ r ∷ ready rs run = ap (λ b. cond b (r ∷ ready rs run) []) (all [] rs r refl (omega arith)) in
    omega (arith, ap length e, ih)

abbrev pub Parts : Type 0
Parts = (rs : List Request) (run : Run) → ready rs run ++ held rs run ≡ rs

abbrev pub ServedAlike : Type 0
ServedAlike = (h : Header) (trace : List TraceLine) (run : Run) (earlier later : List Request) (r : Request) → Sound h trace run → requests trace ≡ earlier ++ r ∷ later
    → is_served_number (rank trace r.number) (controller_steps trace run) ≡ is_served r.number run

abbrev pub Ranked : Type 0
Ranked = (trace : List TraceLine) (earlier later : List Request) (r : Request) → requests trace ≡ earlier ++ r ∷ later → rank trace r.number ≡ length earlier + 1

abbrev pub NoneHeld : Type 0
NoneHeld = (h : Header) (trace : List TraceLine) (run : Run) → Sound h trace run → waiting h (offered trace) (controller_steps trace run) ≡ [] → held (requests trace) run ≡ []

abbrev pub Oldest : Type 0
Oldest = (h : Header) (offers : List Asked) (log : List NumberedStep) (w : Waiting) (ws : List Waiting) (n : ℕ) → waiting h offers log ≡ w ∷ ws → 1 ≤ n → n < w.id → is_served_number n log ≡ true

-- of the numbers from that of the oldest waiting request on, as many are kept
pub held-few : Parts → ServedAlike → Ranked → NoneHeld → Oldest → (h : Header) (trace : List TraceLine) (run : Run) → Sound h trace run → span (length (offered trace)) (waiting h (offered trace) (controller_steps trace run)) ≤ 63 → length (held (requests trace) run) < 64
held-few parts alike ranked none oldest h trace run sound few = go (waiting h (offered trace) (controller_steps trace run)) refl few
  where
    go : (ws : List Waiting) → waiting h (offered trace) (controller_steps trace run) ≡ ws → span (length (offered trace)) ws ≤ 63 → length (held (requests trace) run) < 64
    go [] e f = let k = ap length (none h trace run sound e) in omega (arith, k)
    go (w ∷ ws) e f =
        let total : length (ready (requests trace) run) + length (held (requests trace) run) ≡ length (requests trace) = sym (length-append (ready (requests trace) run) (held (requests trace) run)) ∙ ap length (parts (requests trace) run) in
        let n : length (offered trace) ≡ length (requests trace) = same-length (requests trace) in
        two (nat-split (w.id - 1) (length (requests trace)))
        (λ le.
        let m = ready-many (requests trace) run (w.id - 1) (λ earlier later r is low. sym (alike h trace run earlier later r sound is) ∙ oldest h (offered trace) (controller_steps trace run) w ws (rank trace r.number) e (omega (arith, ranked trace earlier later r is)) (omega (arith, ranked trace earlier later r is, low))) le in
        omega (arith, total, n, m, f))
        (λ more.
        let m = ready-many (requests trace) run (length (requests trace)) (λ earlier later r is low. sym (alike h trace run earlier later r sound is) ∙ oldest h (offered trace) (controller_steps trace run) w ws (rank trace r.number) e (omega (arith, ranked trace earlier later r is)) (omega (arith, ranked trace earlier later r is, low, more))) (omega arith) in
        omega (arith, total, m))
      where
        nat-split : (a b : ℕ) → (a ≤ b) ⊎ (b < a)
        nat-split a b = grind arith

        two : {P Q R : Type 0} → P ⊎ Q → (P → R) → (Q → R) → R
        two (inl x) f g = f x
        two (inr x) f g = g x

pub next-few : Parts → (h : Header) (p : ReplayState) (trace : List TraceLine) (run : Run) → Follows h p trace run → next_of p.held ≤ 1048577
next-few parts h p trace run f =
    let total : length (ready (requests trace) run) + length (held (requests trace) run) ≡ length (requests trace) = sym (length-append (ready (requests trace) run) (held (requests trace) run)) ∙ ap length (parts (requests trace) run) in
    let first : p.held.first ≡ length (ready (requests trace) run) + 1 = ap (λ (k : Kept). k.first) f.kept in
    let items : length p.held.items ≡ length (held (requests trace) run) = ap (λ (k : Kept). length k.items) f.kept ∙ kept-length h trace run (held (requests trace) run) in
    omega (arith, total, first, items, few-asked 1 trace, f.traced.few)

pub kept-count : (h : Header) (p : ReplayState) (trace : List TraceLine) (run : Run) → Follows h p trace run → length p.held.items ≡ length (held (requests trace) run)
kept-count h p trace run f = ap (λ (k : Kept). length k.items) f.kept ∙ kept-length h trace run (held (requests trace) run)

-- ---- A request more

abbrev pub Takes : Type 0
Takes = (h : Header) (trace : List TraceLine) (n now : ℕ) (run : Run) (t : TraceLine) (r : Request) → IsUnderway h trace n now run (NextLine t) → request_of (1 + length trace) t ≡ r ∷ [] → IsUnderway h (trace ++ t ∷ []) n now run UnknownLine

abbrev pub OffersMore : Type 0
OffersMore = (trace : List TraceLine) (t : TraceLine) (r : Request) → request_of (1 + length trace) t ≡ r ∷ [] → offered (trace ++ t ∷ []) ≡ offered trace ++ asked r ∷ []

abbrev pub HeldMore : Type 0
HeldMore = (h : Header) (trace : List TraceLine) (run : Run) (t : TraceLine) (r : Request) → Sound h trace run → request_of (1 + length trace) t ≡ r ∷ [] → held (requests (trace ++ t ∷ [])) run ≡ held (requests trace) run ++ r ∷ []

abbrev pub IdleSame : Type 0
IdleSame = (trace : List TraceLine) (t : TraceLine) (r : Request) → request_of (1 + length trace) t ≡ r ∷ [] → idle_clocks (trace ++ t ∷ []) ≡ idle_clocks trace

abbrev pub InsideMore : Type 0
InsideMore = (g : Shape) (trace : List TraceLine) (t : TraceLine) → AreInside g trace → IsInside g t → AreInside g (trace ++ t ∷ [])

abbrev pub StepsLonger : Type 0
StepsLonger = (h : Header) (trace more : List TraceLine) (run : Run) → Sound h trace run → controller_steps (trace ++ more) run ≡ controller_steps trace run

abbrev pub ReportLonger : Type 0
ReportLonger = (h : Header) (trace more : List TraceLine) (run : Run) → Sound h trace run → report h (trace ++ more) run ≡ report h trace run

abbrev pub Known : Type 0
Known = (h : Header) (c : Controller) (offers : List Asked) (idle : ℕ) (log : List NumberedStep) → ControllerFor h c offers idle log → AreKnown offers log

abbrev pub Within : Type 0
Within = (h : Header) (c : Controller) (offers : List Asked) (idle : ℕ) (log : List NumberedStep) → ControllerFor h c offers idle log → span (length offers) (waiting h offers log) ≤ 64

pub record Laws : Type 0 where
  pub takes : Takes
  pub offers : OffersMore
  pub helds : HeldMore
  pub idle : IdleSame
  pub inside : InsideMore
  pub steps : StepsLonger
  pub device : Laws-longer
  pub report_is : ReportLonger
  pub parts : Parts
  pub alike : ServedAlike
  pub ranked : Ranked
  pub none_held : NoneHeld
  pub oldest : Oldest
  pub agrees : Agrees
  pub known : Known
  pub within_is : Within

-- the controller stands for the run
pub controls : Agrees → (h : Header) (p : ReplayState) (trace : List TraceLine) (run : Run) → LoopInvariant h p trace run → ControllerFor h (controller_of p.coupled) (offered trace) (p.tally.clocks + passing p.ahead) (controller_steps trace run)
controls agrees h p trace run k =
    let same : with_pending (pending_of p.coupled) (numbered_steps k.both.steps) ≡ controller_steps trace run = ap (λ o. with_pending o (numbered_steps k.both.steps)) k.none_pending ∙ k.both.are_of.controller in
    subst (λ l. ControllerFor h (controller_of p.coupled) (offered trace) (p.tally.clocks + passing p.ahead) l) same (agrees p.coupled h (offered trace) (p.tally.clocks + passing p.ahead) k.both.steps k.both.stands)

pub room : Laws → (h : Header) (p : ReplayState) (trace : List TraceLine) (run : Run) (k : LoopInvariant h p trace run) → (IsFull (length (offered trace)) (waiting h (offered trace) (with_pending (pending_of p.coupled) (numbered_steps k.both.steps))) → ⊥) → length p.held.items < 64
room laws h p trace run k free =
    let same : with_pending (pending_of p.coupled) (numbered_steps k.both.steps) ≡ controller_steps trace run = ap (λ o. with_pending o (numbered_steps k.both.steps)) k.none_pending ∙ k.both.are_of.controller in
    let free_now : IsFull (length (offered trace)) (waiting h (offered trace) (controller_steps trace run)) → ⊥ = subst (λ l. IsFull (length (offered trace)) (waiting h (offered trace) l) → ⊥) same free in
    let most = laws.within_is h (controller_of p.coupled) (offered trace) (p.tally.clocks + passing p.ahead) (controller_steps trace run) (controls laws.agrees h p trace run k) in
    let less : span (length (offered trace)) (waiting h (offered trace) (controller_steps trace run)) ≤ 63 = below (span (length (offered trace)) (waiting h (offered trace) (controller_steps trace run))) most (λ e. free_now (inr e)) in
    let few = held-few laws.parts laws.alike laws.ranked laws.none_held laws.oldest h trace run k.follows.underway.sound less in
    omega (arith, few, kept-count h p trace run k.follows)
  where
    below : (n : ℕ) → n ≤ 64 → (n ≡ 64 → ⊥) → n ≤ 63
    below n le other = pick (cut n le)
      where
        cut : (m : ℕ) → m ≤ 64 → (m ≤ 63) ⊎ (m ≡ 64)
        cut m le = grind arith

        pick : (n ≤ 63) ⊎ (n ≡ 64) → n ≤ 63
        pick (inl x) = x
        pick (inr e) = absurd (other e)

asks-request : (n : ℕ) (t : TraceLine) (request : Asked) (bytes : Option (List ℕ)) → Asks t request bytes → request_of n t ≡ record { number = n; line = request.line; kind = request.kind } ∷ []
asks-request n (Read line) request bytes a = ap (λ l. record { number = n; line = l; kind = Reads } ∷ []) (sym a.0) ∙ ap (λ k. record { number = n; line = request.line; kind = k } ∷ []) (sym a.1)
asks-request n (Write line brought) request bytes a = ap (λ l. record { number = n; line = l; kind = Writes } ∷ []) (sym a.0) ∙ ap (λ k. record { number = n; line = request.line; kind = k } ∷ []) (sym a.1)
asks-request n (Flip line device bit) request bytes a = absurd a
asks-request n (Idle clocks) request bytes a = absurd a

asks-bytes : (t : TraceLine) (request : Asked) (bytes : Option (List ℕ)) → Asks t request bytes → bytes_in (Some t) ≡ bytes
asks-bytes (Read line) request bytes a = sym a.2
asks-bytes (Write line brought) request bytes a = sym a.2
asks-bytes (Flip line device bit) request bytes a = absurd a
asks-bytes (Idle clocks) request bytes a = absurd a

pub get-last : (xs : List TraceLine) (t : TraceLine) (n : ℕ) → n ≡ length xs → slice_get (xs ++ t ∷ []) n ≡ Some t
get-last [] t zero e = refl
get-last [] t (suc n) e = absurd (omega (arith, e))
get-last (x ∷ xs) t zero e = absurd (omega (arith, e))
get-last (x ∷ xs) t (suc n) e = get-last xs t n (omega (arith, e))

-- the request is not served yet
fresh : Laws → (h : Header) (p : ReplayState) (trace : List TraceLine) (run : Run) (t : TraceLine) (r : Request) (k : LoopInvariant h p trace run) → Sound h (trace ++ t ∷ []) run → requests (trace ++ t ∷ []) ≡ requests trace ++ r ∷ [] → is_served r.number run ≡ false
fresh laws h p trace run t r k sound e =
    let rank_is : rank (trace ++ t ∷ []) r.number ≡ length (requests trace) + 1 = laws.ranked (trace ++ t ∷ []) (requests trace) [] r e in
    sym (laws.alike h (trace ++ t ∷ []) run (requests trace) [] r sound e)
    ∙ ap (λ l. is_served_number (rank (trace ++ t ∷ []) r.number) l) (laws.steps h trace (t ∷ []) run k.follows.underway.sound)
    ∙ laws.known h (controller_of p.coupled) (offered trace) (p.tally.clocks + passing p.ahead) (controller_steps trace run) (controls laws.agrees h p trace run k) (rank (trace ++ t ∷ []) r.number) (omega (arith, rank_is, same-length (requests trace)))

kept-more : Laws → (h : Header) (p : ReplayState) (trace : List TraceLine) (run : Run) (t : TraceLine) (request : Asked) (bytes : Option (List ℕ)) (k : LoopInvariant h p trace run) → Asks t request bytes → Sound h (trace ++ t ∷ []) run → requests (trace ++ t ∷ []) ≡ requests trace ++ record { number = 1 + length trace; line = request.line; kind = request.kind } ∷ []
    → record { first = p.held.first; items = p.held.items ++ record { number = p.tally.lines + 1; request = request; bytes = bytes; outcome = Unserved } ∷ [] }
    ≡ kept_of h (trace ++ t ∷ []) run (length (ready (requests (trace ++ t ∷ [])) run)) (held (requests (trace ++ t ∷ [])) run)
kept-more laws h p trace run t request bytes k asks sound is =
    let r : Request = record { number = 1 + length trace; line = request.line; kind = request.kind } in
    let f = k.follows in
    let more : held (requests (trace ++ t ∷ [])) run ≡ held (requests trace) run ++ r ∷ [] = laws.helds h trace run t r f.underway.sound (asks-request (1 + length trace) t request bytes asks) in
    let total = sym (length-append (ready (requests trace) run) (held (requests trace) run)) ∙ ap length (laws.parts (requests trace) run) in
    let total_more = sym (length-append (ready (requests (trace ++ t ∷ [])) run) (held (requests (trace ++ t ∷ [])) run)) ∙ ap length (laws.parts (requests (trace ++ t ∷ [])) run) in
    let one : length (requests (trace ++ t ∷ [])) ≡ length (requests trace) + 1 = ap length is ∙ length-append (requests trace) (r ∷ []) in
    let held_one : length (held (requests (trace ++ t ∷ [])) run) ≡ length (held (requests trace) run) + 1 = ap length more ∙ length-append (held (requests trace) run) (r ∷ []) in
    let first : length (ready (requests trace) run) ≡ length (ready (requests (trace ++ t ∷ [])) run) = omega (arith, total, total_more, one, held_one) in
    let olds : map (kept_as h trace run) (held (requests trace) run) ≡ map (kept_as h (trace ++ t ∷ []) run) (held (requests trace) run)
    = sym (kept-longer laws.device h trace (t ∷ []) run (ready (requests trace) run) (held (requests trace) run) f.underway.sound (sym (laws.parts (requests trace) run))) in
    let number : p.tally.lines + 1 ≡ 1 + length trace = omega (arith, f.tally.lines) in
    let brings : bytes ≡ bytes_for (trace ++ t ∷ []) (Some r) = sym (ap bytes_in (get-last trace t (1 + length trace - 1) (omega arith)) ∙ asks-bytes t request bytes asks) in
    let unserved_is : outcome_of request.kind false (reading_of h (trace ++ t ∷ []) run r) ≡ outcome_of request.kind (is_served (1 + length trace) run) (reading_of h (trace ++ t ∷ []) run r)
    = ap (λ b. outcome_of request.kind b (reading_of h (trace ++ t ∷ []) run r)) (sym (fresh laws h p trace run t r k sound is)) in
    let new : record { number = p.tally.lines + 1; request = request; bytes = bytes; outcome = Unserved } ≡ kept_as h (trace ++ t ∷ []) run r
    = ap (λ n. record { number = n; request = request; bytes = bytes; outcome = Unserved }) number
    ∙ ap (λ b. record { number = 1 + length trace; request = request; bytes = b; outcome = Unserved }) brings
    ∙ ap (λ o. record { number = 1 + length trace; request = request; bytes = bytes_for (trace ++ t ∷ []) (Some r); outcome = o }) unserved_is in
    ap (λ (q : Kept). record { first = q.first; items = q.items ++ record { number = p.tally.lines + 1; request = request; bytes = bytes; outcome = Unserved } ∷ [] }) f.kept
    ∙ ap (λ l. record { first = length (ready (requests trace) run) + 1; items = l ++ record { number = p.tally.lines + 1; request = request; bytes = bytes; outcome = Unserved } ∷ [] }) olds
    ∙ ap (λ v. record { first = length (ready (requests trace) run) + 1; items = map (kept_as h (trace ++ t ∷ []) run) (held (requests trace) run) ++ v ∷ [] }) new
    ∙ ap (λ l. record { first = length (ready (requests trace) run) + 1; items = l }) (sym (map-append (kept_as h (trace ++ t ∷ []) run) (held (requests trace) run) (r ∷ [])) ∙ ap (map (kept_as h (trace ++ t ∷ []) run)) (sym more))
    ∙ ap (λ n. kept_of h (trace ++ t ∷ []) run n (held (requests (trace ++ t ∷ [])) run)) first

asked-line : (g : Shape) (t : TraceLine) (request : Asked) (bytes : Option (List ℕ)) → IsInside g t → Asks t request bytes → request.line < lines_of g
asked-line g (Read line) request bytes inside a = subst (λ n. n < lines_of g) (sym a.0) inside
asked-line g (Write line brought) request bytes inside a = subst (λ n. n < lines_of g) (sym a.0) inside.0
asked-line g (Flip line device bit) request bytes inside a = absurd a
asked-line g (Idle clocks) request bytes inside a = absurd a

-- what the line ahead asks for is a line of the header that both ends hold
pub asked-inside : (h : Header) (p : ReplayState) (trace : List TraceLine) (run : Run) (own : Header) (request : Asked) (bytes : Option (List ℕ)) → own ≡ h → LoopInvariant h p trace run → IsAsked p.ahead request bytes
    → request.line < lines_of (shape_of own)
asked-inside h p trace run own request bytes same k asked =
    let f = k.follows in
    let was : IsAhead p trace run h f.now (NextLine asked.line) = subst (λ v. IsAhead p trace run h f.now v) asked.waits f.ahead in
    let more : IsMore (shape_of h) p.tally asked.line = subst (λ g. IsMore g p.tally asked.line) f.geometry was.1 in
    subst (λ (x : Header). request.line < lines_of (shape_of x)) (sym same) (asked-line (shape_of h) asked.line request bytes more.inside asked.asks)

traced-more : Laws → (g : Shape) (trace : List TraceLine) (t : TraceLine) (tally : Tally) (r : Request) → IsTally tally trace → IsTrace g trace → IsMore g tally t → request_of (1 + length trace) t ≡ r ∷ [] → IsTrace g (trace ++ t ∷ [])
traced-more laws g trace t tally r y is m e = record {
  inside = laws.inside g trace t is.inside m.inside;
  few = omega (arith, length-append trace (t ∷ []), y.lines, m.few);
  idle = let s = ap sum (laws.idle trace t r e) in omega (arith, s, is.idle);
}

pub offered-one : Laws → (requests-more : (trace : List TraceLine) (t : TraceLine) (r : Request) → request_of (1 + length trace) t ≡ r ∷ [] → requests (trace ++ t ∷ []) ≡ requests trace ++ r ∷ [])
    → (h : Header) (p : ReplayState) (both_new : Coupled) (t : TraceLine) (request : Asked) (bytes start left before_it written : Option (List ℕ)) → p.ahead ≡ NextLine t → Asks t request bytes
    → ((offers : List Asked) (idle : ℕ) (steps : List Step) → StandsFor p.coupled h offers idle steps → StandsFor both_new h (offers ++ request ∷ []) idle steps)
    → pending_of both_new ≡ pending_of p.coupled → from_of both_new ≡ from_of p.coupled → finished_of both_new ≡ finished_of p.coupled
    → IsUnder h p start left before_it written
    → IsUnder h (taken (record p { coupled = both_new; held = record { first = p.held.first; items = p.held.items ++ record { number = p.tally.lines + 1; request = request; bytes = bytes; outcome = Unserved } ∷ [] } }) 0) start left before_it written
offered-one laws requests-more h p both_new t request bytes start left before_it written e asks stands same_pending same_from same_finished u =
    let r : Request = record { number = 1 + length u.trace; line = request.line; kind = request.kind } in
    let k = u.holds in
    let f = k.follows in
    let is : request_of (1 + length u.trace) t ≡ r ∷ [] = asks-request (1 + length u.trace) t request bytes asks in
    let was : IsAhead p u.trace u.run h f.now (NextLine t) = subst (λ a. IsAhead p u.trace u.run h f.now a) e f.ahead in
    let under : IsUnderway h u.trace f.done f.now u.run (NextLine t) = subst (λ a. IsUnderway h u.trace f.done f.now u.run (following a)) e f.underway in
    let new = laws.takes h u.trace f.done f.now u.run t r under is in
    let more : IsMore (shape_of h) p.tally t = subst (λ g. IsMore g p.tally t) f.geometry was.1 in
    let no_clocks : sum (idle_clocks (u.trace ++ t ∷ [])) ≡ sum (idle_clocks u.trace) = ap sum (laws.idle u.trace t r is) in
    let clocks : p.tally.clocks + passing p.ahead ≡ p.tally.clocks + 0 + 0 = let z : passing p.ahead ≡ 0 = ap passing e in omega (arith, z) in
    let stood : StandsFor both_new h (offered u.trace ++ request ∷ []) (p.tally.clocks + passing p.ahead) k.both.steps = stands (offered u.trace) (p.tally.clocks + passing p.ahead) k.both.steps k.both.stands in
    record {
      trace = u.trace ++ t ∷ [];
      run = u.run;
      holds = record {
        follows = record {
          accepted = f.accepted;
          geometry = f.geometry;
          traced = traced-more laws (shape_of h) u.trace t p.tally r f.tally f.traced more is;
          tally = record { lines = omega (arith, length-append u.trace (t ∷ []), f.tally.lines); clocks = omega (arith, no_clocks, f.tally.clocks) };
          kept = kept-more laws h p u.trace u.run t request bytes k asks new.sound (requests-more u.trace t r is);
          done = f.done;
          now = f.now;
          underway = new;
          past = omega (arith, f.past, same_from);
          ahead = same_finished ∙ was.0;
        };
        both = record {
          steps = k.both.steps;
          are_of = record {
            controller = k.both.are_of.controller ∙ sym (laws.steps h u.trace (t ∷ []) u.run f.underway.sound);
            device = k.both.are_of.device ∙ sym (laws.device h u.trace (t ∷ []) u.run f.underway.sound);
          };
          stands = subst (λ n. StandsFor both_new h (offered (u.trace ++ t ∷ [])) n k.both.steps) clocks
              (subst (λ offers. StandsFor both_new h offers (p.tally.clocks + passing p.ahead) k.both.steps) (sym (laws.offers u.trace t r is)) stood);
        };
        none_pending = same_pending ∙ k.none_pending;
        last = k.last;
        commands = k.commands;
        counts = k.counts;
      };
      read = subst (λ a. IsRead (shape_of h) u.trace a start left) e u.read;
      wrote = subst (λ l. Appends before_it written (flat_map spelled l)) (sym (laws.report_is h u.trace (t ∷ []) u.run f.underway.sound)) u.wrote;
    }

-- the requests of a trace with one line more
pub requests-more_of : (n : ℕ) (trace : List TraceLine) (t : TraceLine) (m : ℕ) → m ≡ n + length trace → requests_from n (trace ++ t ∷ []) ≡ requests_from n trace ++ request_of m t
requests-more_of n [] t m e = append-nil (request_of n t) ∙ ap (λ k. request_of k t) (omega (arith, e))
requests-more_of n (x ∷ trace) t m e = ap (λ l. request_of n x ++ l) (requests-more_of (suc n) trace t m (omega (arith, e))) ∙ sym (append_assoc (request_of n x) (requests_from (suc n) trace) (request_of m t))

pub requests-one : (trace : List TraceLine) (t : TraceLine) (r : Request) → request_of (1 + length trace) t ≡ r ∷ [] → requests (trace ++ t ∷ []) ≡ requests trace ++ r ∷ []
requests-one trace t r e = requests-more_of 1 trace t (1 + length trace) refl ∙ ap (λ l. requests trace ++ l) e

-- ---- The limits

pub total-clocks : (h : Header) (p : ReplayState) (trace : List TraceLine) (run : Run) (now : ℕ) (a : Ahead) → p.tally.clocks ≤ 4294967296 → IsAhead p trace run h now a → p.tally.clocks + passing a ≤ 4294967296
total-clocks h p trace run now Unknown le is = omega (arith, le)
total-clocks h p trace run now (NextLine line) le is = omega (arith, le)
total-clocks h p trace run now (Passes clocks) le is = is.1.idle
total-clocks h p trace run now End le is = omega (arith, le)
total-clocks h p trace run now (Refused reason) le is = omega (arith, le)

abbrev pub NowLimit : Type 0
NowLimit = (h : Header) (c : Controller) (offers : List Asked) (idle : ℕ) (log : List NumberedStep) → ControllerFor h c offers idle log → length offers ≤ 1048576 → idle ≤ 4294967296 → controller_from c < 2 ^ 40

pub now-below : Agrees → NowLimit → (h : Header) (p : ReplayState) (trace : List TraceLine) (run : Run) → LoopInvariant h p trace run → from_of p.coupled < 2 ^ 40
now-below agrees limit h p trace run k =
    let f = k.follows in
    let few : length (offered trace) ≤ 1048576 = omega (arith, same-length (requests trace), few-asked 1 trace, f.traced.few) in
    let clocks : p.tally.clocks ≤ 4294967296 = omega (arith, f.tally.clocks, f.traced.idle) in
    limit h (controller_of p.coupled) (offered trace) (p.tally.clocks + passing p.ahead) (controller_steps trace run) (controls agrees h p trace run k) few (total-clocks h p trace run f.now p.ahead clocks f.ahead)
