-- The window in the words of the trace's lines.
use Rattle.std.proofs.Common.{◌≡◌, ℕ, zero, suc, ◌+◌, ◌-◌, ◌<◌, ◌≤◌, Bool, true, false, cond, Some, List, [], ◌∷◌, ◌++◌, map, length, take, drop, slice_get, refl, sym, ap, ◌∙◌, arith, append_assoc}
use Rattle.std.specs.Prelude.{not, filter, nat_lt}
use Rattle.std.proofs.lemmas.Bool.{lt-ltb, ltb-true}
use Rattle.std.proofs.lemmas.List.{append_cancel_left, length-append}
use Rattle.std.proofs.lemmas.List.Elements.{filter-append}
use Rattle.std.proofs.lemmas.Option.{slice_get_within}
use Rattle.speed_bin.specs.declared.header.Header.{Header}
use Rattle.requests.specs.Queue.{waiting, is_served as is_served_number}
use Rattle.requests.specs.Window.{near, first_id}
use Rattle.requests.specs.declared.waiting.Waiting.{Waiting}
use Rattle.ddr_text.specs.declared.lines.TraceLine.{TraceLine}
use Rattle.ddr_text.specs.declared.lines.TraceLine.TheVariants.{Read, Write, Flip, Idle}
use Rattle.reports.specs.Requests.{Request, request_of, requests_from, requests}
use Rattle.reports.specs.Runs.{Run, is_served, unserved, ready, held}
use Rattle.reports.specs.Offered.{asked, rank, controller_steps}
use Rattle.reports.specs.Sound.{Sound}
use Rattle.reports.specs.Window.{up_to_barrier, block_from, reach, window, candidates}
use Rattle.reports.proofs.Found.{is_at}
use Rattle.reports.proofs.Offered.{wait, numbered-part, rank-split, served-rank}
use Rattle.reports.proofs.Ready.{ready-held}
use Rattle.reports.proofs.Underway.{two-parts}

-- ---- What comes before a barrier begins what follows

pub record IsFront (xs ys : List Request) : Type 0 where
  pub rest : List Request
  pub is : ys ≡ xs ++ rest

front-up : (n : ℕ) (lines : List TraceLine) → IsFront (up_to_barrier n lines) (requests_from n lines)
front-up n [] = record { rest = []; is = refl }
front-up n (Read line ∷ lines) = let f = front-up (suc n) lines in record { rest = f.rest; is = ap (λ l. request_of n (Read line) ++ l) f.is }
front-up n (Write line bytes ∷ lines) = let f = front-up (suc n) lines in record { rest = f.rest; is = ap (λ l. request_of n (Write line bytes) ++ l) f.is }
front-up n (Flip line device bit ∷ lines) = record { rest = requests_from (suc n) lines; is = refl }
front-up n (Idle clocks ∷ lines) = record { rest = requests_from (suc n) lines; is = refl }

-- it has the first request, where the first line is one
begins-up : (n : ℕ) (lines : List TraceLine) (t : TraceLine) (r : Request) → slice_get lines 0 ≡ Some t → request_of n t ≡ r ∷ [] → (later : List Request) × (up_to_barrier n lines ≡ r ∷ later)
begins-up n [] t r e f = cc
begins-up n (Read line ∷ lines) t r e f =
    let same : Read line ≡ t = cc in
    let own : request_of n (Read line) ≡ r ∷ [] = ap (request_of n) same ∙ f in
    (up_to_barrier (suc n) lines, ap (λ l. l ++ up_to_barrier (suc n) lines) own)
begins-up n (Write line bytes ∷ lines) t r e f =
    let same : Write line bytes ≡ t = cc in
    let own : request_of n (Write line bytes) ≡ r ∷ [] = ap (request_of n) same ∙ f in
    (up_to_barrier (suc n) lines, ap (λ l. l ++ up_to_barrier (suc n) lines) own)
begins-up n (Flip line device bit ∷ lines) t r e f = let same : Flip line device bit ≡ t = cc in let own : [] ≡ r ∷ [] = ap (request_of n) same ∙ f in cc
begins-up n (Idle clocks ∷ lines) t r e f = let same : Idle clocks ≡ t = cc in let own : [] ≡ r ∷ [] = ap (request_of n) same ∙ f in cc

slice-drop : (p : ℕ) (lines : List TraceLine) (t : TraceLine) → slice_get lines p ≡ Some t → slice_get (drop p lines) 0 ≡ Some t
slice-drop zero lines t e = e
slice-drop (suc p) [] t e = cc
slice-drop (suc p) (x ∷ lines) t e = slice-drop p lines t e

-- the block of the first unserved request: it begins with that request, and the held requests begin with it
pub record IsBlock (trace : List TraceLine) (first : Request) (rest : List Request) : Type 0 where
  pub later : List Request
  pub begins : block_from trace (first ∷ rest) ≡ first ∷ later
  pub behind : List Request
  pub is : first ∷ rest ≡ block_from trace (first ∷ rest) ++ behind

is-block : (trace : List TraceLine) (earlier rest : List Request) (first : Request) → requests trace ≡ earlier ++ first ∷ rest → IsBlock trace first rest
is-block trace earlier rest first e =
    let f = is_at 1 trace earlier rest first e in
    let within : f.place < length trace = slice_get_within trace f.place f.line f.there in
    let lines : List TraceLine = drop f.place trace in
    let place : first.number - 1 ≡ f.place = omega (arith, f.number) in
    let block : block_from trace (first ∷ rest) ≡ up_to_barrier (1 + f.place) lines = ap (λ k. up_to_barrier first.number (drop k trace)) place ∙ ap (λ k. up_to_barrier k lines) f.number in
    let all : first ∷ rest ≡ requests_from (1 + f.place) lines
    = append_cancel_left earlier _ _ (sym e ∙ two-parts trace f.place (omega (arith, within)) ∙ ap (λ l. l ++ requests_from (1 + f.place) lines) (sym f.before)) in
    let begun = begins-up (1 + f.place) lines f.line first (slice-drop f.place trace f.line f.there) (ap (λ k. request_of k f.line) (sym f.number) ∙ f.is) in
    let front = front-up (1 + f.place) lines in
    record {
      later = begun.0;
      begins = block ∙ begun.1;
      behind = front.rest;
      is = all ∙ front.is ∙ ap (λ l. l ++ front.rest) (sym block);
    }

-- ---- Unserved requests, by either number

waits-step : (b c : Bool) (w : Waiting) (h : Header) (trace : List TraceLine) (r : Request) (ws : List Waiting) (rs : List Request) → b ≡ c → w ≡ wait h trace r → ws ≡ map (wait h trace) rs → cond b (w ∷ ws) ws ≡ map (wait h trace) (cond c (r ∷ rs) rs)
waits-step true true w h trace r ws rs e f g = ap (λ v. v ∷ ws) f ∙ ap (λ l. wait h trace r ∷ l) g
waits-step false false w h trace r ws rs e f g = g
waits-step true false w h trace r ws rs e f g = cc
waits-step false true w h trace r ws rs e f g = cc

waits-part : (h : Header) (trace : List TraceLine) (run : Run) (before rs behind : List Request) → Sound h trace run → requests trace ≡ before ++ (rs ++ behind)
    → filter (λ w. not (is_served_number w.id (controller_steps trace run))) (map (wait h trace) rs) ≡ map (wait h trace) (unserved rs run)
waits-part h trace run before [] behind sound e = refl
waits-part h trace run before (r ∷ rs) behind sound e =
    waits-step (not (is_served_number (rank trace r.number) (controller_steps trace run))) (not (is_served r.number run)) (wait h trace r) h trace r
    (filter (λ w. not (is_served_number w.id (controller_steps trace run))) (map (wait h trace) rs)) (unserved rs run)
    (ap not (served-rank h trace run before (rs ++ behind) r sound e)) refl
    (waits-part h trace run (before ++ r ∷ []) rs behind sound (e ∙ sym (append_assoc before (r ∷ []) (rs ++ behind))))

ready-step : (b : Bool) (r : Request) (rs : List Request) (run : Run) → is_served r.number run ≡ b → unserved rs run ≡ [] → unserved (cond b (r ∷ rs) []) run ≡ []
ready-step true r rs run e h = ap (λ t. cond (not t) (r ∷ unserved rs run) (unserved rs run)) e ∙ h
ready-step false r rs run e h = refl

ready-served : (rs : List Request) (run : Run) → unserved (ready rs run) run ≡ []
ready-served [] run = refl
ready-served (r ∷ rs) run = ready-step (is_served r.number run) r (ready rs run) run refl (ready-served rs run)

held-step : (b : Bool) (r first : Request) (rs held_rs rest : List Request) (run : Run) → is_served r.number run ≡ b → cond b held_rs (r ∷ rs) ≡ first ∷ rest → (held_rs ≡ first ∷ rest → is_served first.number run ≡ false) → is_served first.number run ≡ false
held-step true r first rs held_rs rest run e h f = f h
held-step false r first rs held_rs rest run e h f = let same : r ≡ first = cc in ap (λ (v : Request). is_served v.number run) (sym same) ∙ e

held-unserved : (rs : List Request) (run : Run) (first : Request) (rest : List Request) → held rs run ≡ first ∷ rest → is_served first.number run ≡ false
held-unserved [] run first rest e = cc
held-unserved (r ∷ rs) run first rest e = held-step (is_served r.number run) r first rs (held rs run) rest run refl e (held-unserved rs run first rest)

-- ---- The first 64 lines

-- they have the numbers by order from k on
abbrev RanksFrom : List TraceLine → ℕ → List Request → Type 0
RanksFrom trace k [] = Unit {0}
RanksFrom trace k (r ∷ rs) = (rank trace r.number ≡ k) × RanksFrom trace (suc k) rs

ranks : (trace : List TraceLine) (k : ℕ) (before rs behind : List Request) → k ≡ length before + 1 → requests trace ≡ before ++ (rs ++ behind) → RanksFrom trace k rs
ranks trace k before [] behind e f = tt
ranks trace k before (r ∷ rs) behind e f = (
  rank-split trace before (rs ++ behind) r f ∙ sym e,
  ranks trace (suc k) (before ++ r ∷ []) rs behind (omega (arith, e, length-append before (r ∷ []))) (f ∙ sym (append_assoc before (r ∷ []) (rs ++ behind))),
)

lt-false : (a b : ℕ) → b ≤ a → nat_lt a b ≡ false
lt-false a b le = go (nat_lt a b) refl
  where
    go : (t : Bool) → nat_lt a b ≡ t → nat_lt a b ≡ false
    go true e = let k : a < b = ltb-true a b e in absurd (omega (arith, k, le))
    go false e = e

none-step : (b : Bool) (high : ℕ) (h : Header) (trace : List TraceLine) (r : Request) (rs : List Request) → high ≤ rank trace r.number → filter (λ w. nat_lt w.id high) (map (wait h trace) rs) ≡ [] → filter (λ w. nat_lt w.id high) (map (wait h trace) (cond b (r ∷ rs) rs)) ≡ []
none-step true high h trace r rs le e = ap (λ t. cond t (wait h trace r ∷ filter (λ w. nat_lt w.id high) (map (wait h trace) rs)) (filter (λ w. nat_lt w.id high) (map (wait h trace) rs))) (lt-false (rank trace r.number) high le) ∙ e
none-step false high h trace r rs le e = e

none-near : (high : ℕ) (h : Header) (trace : List TraceLine) (run : Run) (k : ℕ) (rs : List Request) → high ≤ k → RanksFrom trace k rs → filter (λ w. nat_lt w.id high) (map (wait h trace) (unserved rs run)) ≡ []
none-near high h trace run k [] le e = refl
none-near high h trace run k (r ∷ rs) le e =
    none-step (not (is_served r.number run)) high h trace r (unserved rs run) (omega (arith, e.0, le)) (none-near high h trace run (suc k) rs (omega (arith, le)) e.1)

near-step : (b : Bool) (high : ℕ) (h : Header) (trace : List TraceLine) (r : Request) (rs taken : List Request) → rank trace r.number < high → filter (λ w. nat_lt w.id high) (map (wait h trace) rs) ≡ map (wait h trace) taken
    → filter (λ w. nat_lt w.id high) (map (wait h trace) (cond b (r ∷ rs) rs)) ≡ map (wait h trace) (cond b (r ∷ taken) taken)
near-step true high h trace r rs taken low e =
    ap (λ t. cond t (wait h trace r ∷ filter (λ w. nat_lt w.id high) (map (wait h trace) rs)) (filter (λ w. nat_lt w.id high) (map (wait h trace) rs))) (lt-ltb (rank trace r.number) high low)
    ∙ ap (λ l. wait h trace r ∷ l) e
near-step false high h trace r rs taken low e = e

near-take : (m high : ℕ) (h : Header) (trace : List TraceLine) (run : Run) (k : ℕ) (rs : List Request) → high ≡ k + m → RanksFrom trace k rs → filter (λ w. nat_lt w.id high) (map (wait h trace) (unserved rs run)) ≡ map (wait h trace) (unserved (take m rs) run)
near-take zero high h trace run k rs e f = none-near high h trace run k rs (omega (arith, e)) f
near-take (suc m) high h trace run k [] e f = refl
near-take (suc m) high h trace run k (r ∷ rs) e f =
    near-step (not (is_served r.number run)) high h trace r (unserved rs run) (unserved (take m rs) run) (omega (arith, e, f.0)) (near-take m high h trace run (suc k) rs (omega (arith, e)) f.1)

take-map : (h : Header) (trace : List TraceLine) (n : ℕ) (rs : List Request) → take n (map (wait h trace) rs) ≡ map (wait h trace) (take n rs)
take-map h trace zero rs = refl
take-map h trace (suc n) [] = refl
take-map h trace (suc n) (r ∷ rs) = ap (λ l. wait h trace r ∷ l) (take-map h trace n rs)

-- ---- The window

waits-reach : (h : Header) (trace : List TraceLine) (run : Run) (block behind : List Request) → Sound h trace run → held (requests trace) run ≡ block ++ behind
    → waiting h (map asked (ready (requests trace) run ++ block)) (controller_steps trace run) ≡ map (wait h trace) (unserved block run)
waits-reach h trace run block behind sound e =
    let rs : List Request = ready (requests trace) run in
    let all : requests trace ≡ (rs ++ block) ++ behind = sym (ready-held (requests trace) run) ∙ ap (λ l. rs ++ l) e ∙ sym (append_assoc rs block behind) in
    ap (filter (λ w. not (is_served_number w.id (controller_steps trace run)))) (numbered-part h trace 1 [] (rs ++ block) behind refl all)
    ∙ waits-part h trace run [] (rs ++ block) behind sound all
    ∙ ap (map (wait h trace)) (filter-append (λ r. not (is_served r.number run)) rs block ∙ ap (λ l. l ++ unserved block run) (ready-served (requests trace) run))

pub literal : (h : Header) (trace : List TraceLine) (run : Run) (left : List Request) → Sound h trace run → held (requests trace) run ≡ left → window h trace run ≡ map (wait h trace) (candidates trace run left)
literal h trace run [] sound e =
    ap (λ l. take 32 (near (waiting h (map asked (ready (requests trace) run ++ block_from trace l)) (controller_steps trace run)))) e
    ∙ ap (λ ws. take 32 (near ws)) (waits-reach h trace run [] [] sound e)
literal h trace run (first ∷ rest) sound e =
    let earlier : List Request = ready (requests trace) run in
    let split : requests trace ≡ earlier ++ first ∷ rest = sym (ready-held (requests trace) run) ∙ ap (λ l. earlier ++ l) e in
    let b = is-block trace earlier rest first split in
    let block : List Request = block_from trace (first ∷ rest) in
    let own : rank trace first.number ≡ length earlier + 1 = rank-split trace earlier rest first split in
    let open_first : is_served first.number run ≡ false = held-unserved (requests trace) run first rest e in
    let waits_is : waiting h (map asked (reach trace run)) (controller_steps trace run) ≡ map (wait h trace) (unserved block run)
    = ap (λ l. waiting h (map asked (earlier ++ block_from trace l)) (controller_steps trace run)) e ∙ waits-reach h trace run block b.behind sound (e ∙ b.is) in
    let head_is : unserved block run ≡ first ∷ unserved b.later run = ap (λ l. unserved l run) b.begins ∙ ap (λ t. cond (not t) (first ∷ unserved b.later run) (unserved b.later run)) open_first in
    let least : first_id (map (wait h trace) (unserved block run)) ≡ rank trace first.number = ap (λ l. first_id (map (wait h trace) l)) head_is in
    ap (λ ws. take 32 (near ws)) waits_is
    ∙ ap (λ k. take 32 (filter (λ w. nat_lt w.id (k + 64)) (map (wait h trace) (unserved block run)))) least
    ∙ ap (take 32) (near-take 64 (rank trace first.number + 64) h trace run (rank trace first.number) block refl (ranks trace (rank trace first.number) earlier block b.behind own (split ∙ ap (λ l. earlier ++ l) b.is)))
    ∙ take-map h trace 32 (unserved (take 64 block) run)
