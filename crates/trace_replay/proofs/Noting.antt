-- The request that a command serves, and what is kept once it is noted what came of it.
use Rattle.std.proofs.Common.{◌≡◌, ◌∙◌, ℕ, zero, suc, ◌+◌, ◌-◌, ◌<◌, ◌≤◌, ◌⊎◌, inl, inr, Bool, true, false, cond, ◌||◌, eqb, leb, Option, Some, None, option_map, IfSome, List, [], ◌∷◌, map, length, set, slice_get, refl, sym, ap, subst, arith}
use Rattle.std.proofs.lemmas.Bool.{ne_eqb}
use Rattle.std.proofs.lemmas.Bool.Decides.{eqb_tells, leb_tells}
use Rattle.std.proofs.lemmas.Option.{slice_get-map, slice_get_within}
use Rattle.circular_buffer.proofs.Places.{slice_get-some, slice_get-append_right}
use Rattle.command_words.specs.declared.command.Command.{Command}
use Rattle.command_words.specs.declared.command.Command.TheVariants.{Act, Rd, Wr, PrePb, PreSb, PreAb, RefAb, RefSb, RfmAb, RfmSb, Mrw, Ecs, Nop}
use Rattle.command_words.specs.Kinds.{is_wr}
use Rattle.speed_bin.specs.declared.header.Header.{Header}
use Rattle.error_scrub.specs.declared.cells.LineRead.{LineRead}
use Rattle.device_core.specs.Steps.{Step as DeviceStep}
use Rattle.device_core.specs.Stored.{answer as device_answer}
use Rattle.ddr_text.specs.declared.lines.TraceLine.{TraceLine}
use Rattle.requests.specs.Order.{IsServing}
use Rattle.requests.specs.Queue.{Step as NumberedStep}
use Rattle.requests.specs.declared.request.Kind.{Kind}
use Rattle.requests.specs.declared.request.Kind.TheVariants.{Read as Reads, Write as Writes}
use Rattle.requests.specs.declared.request.Request.{Request as Asked}
use Rattle.reports.specs.Accesses.{IsColumn}
use Rattle.reports.specs.Delivered.{bytes_for, device_steps}
use Rattle.reports.specs.Offered.{offered, ranked, controller_steps}
use Rattle.reports.specs.Readings.{reading_of}
use Rattle.reports.specs.Requests.{Request, requests}
use Rattle.reports.specs.Runs.{Run, Served, Step as RunStep, Issues, IsNext, is_served, ready, held}
use Rattle.reports.specs.Sound.{Sound}
use Rattle.reports.specs.Underway.{issue}
use Rattle.trace_replay.specs.RequestBuffer.{Kept, Has, request_at, with_outcome}
use Rattle.trace_replay.specs.ReplayState.{outcome_of, kept_as, kept_of, bytes_at, bytes_in, outcome_with, noted, noted_in}
use Rattle.trace_replay.specs.declared.request_buffer.HeldRequest.{HeldRequest}
use Rattle.trace_replay.proofs.Taken.{same-length}
use Rattle.trace_replay.specs.Delivery.{DeliveryLaws}

-- ---- The request that is served

-- a request that is served is among those that are kept
pub record IsHeldAt (trace : List TraceLine) (run : Run) (id : ℕ) : Type 0 where
  pub index : ℕ
  pub r : Request
  pub at : id ≡ length (ready (requests trace) run) + index + 1
  pub is : slice_get (held (requests trace) run) index ≡ Some r
  pub ranks : ranked trace (Some id) ≡ Some r

-- those that are ready are served
ready-served : (rs : List Request) (run : Run) (i : ℕ) (r : Request) → i < length (ready rs run) → slice_get rs i ≡ Some r → is_served r.number run ≡ true
ready-served [] run i r low e = absurd (omega (arith, low))
ready-served (q ∷ rs) run i r low e = go (is_served q.number run) refl i low e (λ k l f. ready-served rs run k r l f)
  where
    go : (b : Bool) → is_served q.number run ≡ b → (k : ℕ) → k < length (ready (q ∷ rs) run) → slice_get (q ∷ rs) k ≡ Some r → ((j : ℕ) → j < length (ready rs run) → slice_get rs j ≡ Some r → is_served r.number run ≡ true) → is_served r.number run ≡ true
    go false s k l f others = let z : length (ready (q ∷ rs) run) ≡ 0 = ap (λ b. length (cond b (q ∷ ready rs run) [])) s in absurd (omega (arith, l, z))
    go true s zero l f others = let same : q ≡ r = cc in ap (λ (v : Request). is_served v.number run) (sym same) ∙ s
    go true s (suc k) l f others = let z : length (ready (q ∷ rs) run) ≡ suc (length (ready rs run)) = ap (λ b. length (cond b (q ∷ ready rs run) [])) s in others k (omega (arith, l, z)) f

serving-number : (h : Header) (offers : List Asked) (log : List NumberedStep) (command : Command) (n : ℕ) → IsServing h offers log command (Some n) → (1 ≤ n) × (n ≤ length offers)
serving-number h offers log (Act bank row) n s = cc
serving-number h offers log (Rd bank column) n s = let e : Some n ≡ Some s.number = s.is_id in let k : n ≡ s.number = cc in (omega (arith, k, s.from), omega (arith, k, s.upto))
serving-number h offers log (Wr bank column) n s = let e : Some n ≡ Some s.number = s.is_id in let k : n ≡ s.number = cc in (omega (arith, k, s.from), omega (arith, k, s.upto))
serving-number h offers log (PrePb bank) n s = cc
serving-number h offers log (PreSb address) n s = cc
serving-number h offers log PreAb n s = cc
serving-number h offers log RefAb n s = cc
serving-number h offers log (RefSb address) n s = cc
serving-number h offers log RfmAb n s = cc
serving-number h offers log (RfmSb address) n s = cc
serving-number h offers log (Mrw write) n s = cc
serving-number h offers log Ecs n s = cc
serving-number h offers log Nop n s = cc

held-at : DeliveryLaws → (h : Header) (trace : List TraceLine) (run : Run) (clock : ℕ) (command : Command) (n : ℕ) → Sound h trace (issue trace clock command (Some n) ∷ run) → IsServing h (offered trace) (controller_steps trace run) command (Some n) → IsHeldAt trace run n
held-at laws h trace run clock command n sound serving =
    let bounds = serving-number h (offered trace) (controller_steps trace run) command n serving in
    let many : length (offered trace) ≡ length (requests trace) = same-length (requests trace) in
    let some = slice_get-some (requests trace) (n - 1) (omega (arith, bounds.0, bounds.1, many)) in
    let here : IsNext (requests trace) run some.0 = subst (λ o. IfSome o (λ r. IsNext (requests trace) run r)) some.1 sound.0.is_next in
    let unserved = laws.next h trace run some.0 sound.1 here in
    pick some.0 some.1 unserved bounds.0 (cut (n - 1) (length (ready (requests trace) run)))
  where
    cut : (a b : ℕ) → (a < b) ⊎ (b ≤ a)
    cut a b = grind arith

    pick : (r : Request) → slice_get (requests trace) (n - 1) ≡ Some r → is_served r.number run ≡ false → 1 ≤ n → (n - 1 < length (ready (requests trace) run)) ⊎ (length (ready (requests trace) run) ≤ n - 1) → IsHeldAt trace run n
    pick r e u low (inl less) = let s = ready-served (requests trace) run (n - 1) r less e in let k : true ≡ false = sym s ∙ u in cc
    pick r e u low (inr more) =
        let at : n ≡ length (ready (requests trace) run) + (n - 1 - length (ready (requests trace) run)) + 1 = omega (arith, low, more) in
        record { index = n - 1 - length (ready (requests trace) run); r = r; at = at; is = sym (laws.numbers trace run (n - 1 - length (ready (requests trace) run)) n at) ∙ e; ranks = e }

-- what is kept under its number
kept-at : (h : Header) (trace : List TraceLine) (run : Run) (before : ℕ) (rs : List Request) (n i : ℕ) (r : Request) → n ≡ before + i + 1 → slice_get rs i ≡ Some r → request_at (kept_of h trace run before rs) n ≡ Some (kept_as h trace run r)
kept-at h trace run before rs n i r at e =
    let index : n - (before + 1) ≡ i = omega (arith, at) in
    let found : slice_get (map (kept_as h trace run) rs) (n - (before + 1)) ≡ Some (kept_as h trace run r) = ap (slice_get (map (kept_as h trace run) rs)) index ∙ slice_get-map (kept_as h trace run) rs i ∙ ap (option_map (kept_as h trace run)) e in
    ap (λ b. cond b (slice_get (map (kept_as h trace run) rs) (n - (before + 1))) None) (low (before + 1) n (omega (arith, at))) ∙ found
  where
    low : (a b : ℕ) → a ≤ b → leb a b ≡ true
    low a b le = pick (leb_tells a b)
      where
        pick : ((leb a b ≡ true) × (a ≤ b)) ⊎ ((leb a b ≡ false) × (b < a)) → leb a b ≡ true
        pick (inl x) = x.0
        pick (inr x) = absurd (omega (arith, le, x.1))

-- the bytes that are kept for it are those that its trace line brings
pub bytes-are : DeliveryLaws → (h : Header) (trace : List TraceLine) (run : Run) (clock : ℕ) (command : Command) (id : Option ℕ) (kept : Kept) → Sound h trace (issue trace clock command id ∷ run) → IsServing h (offered trace) (controller_steps trace run) command id
    → kept ≡ kept_of h trace run (length (ready (requests trace) run)) (held (requests trace) run) → bytes_at kept id ≡ bytes_for trace (ranked trace id)
bytes-are laws h trace run clock command None kept sound serving e = refl
bytes-are laws h trace run clock command (Some n) kept sound serving e =
    let a = held-at laws h trace run clock command n sound serving in
    ap (λ k. bytes_in (request_at k n)) e
    ∙ ap bytes_in (kept-at h trace run (length (ready (requests trace) run)) (held (requests trace) run) n a.index a.r a.at a.is)
    ∙ ap (bytes_for trace) (sym a.ranks)

pub has-it : DeliveryLaws → (h : Header) (trace : List TraceLine) (run : Run) (clock : ℕ) (command : Command) (id : Option ℕ) (kept : Kept) → Sound h trace (issue trace clock command id ∷ run) → IsServing h (offered trace) (controller_steps trace run) command id
    → kept ≡ kept_of h trace run (length (ready (requests trace) run)) (held (requests trace) run) → IfSome id (λ n. Has kept n)
has-it laws h trace run clock command None kept sound serving e = tt
has-it laws h trace run clock command (Some n) kept sound serving e =
    let a = held-at laws h trace run clock command n sound serving in
    let low = slice_get_within (held (requests trace) run) a.index a.r a.is in
    let many : length (map (kept_as h trace run) (held (requests trace) run)) ≡ length (held (requests trace) run) = as-many (held (requests trace) run) in
    subst (λ k. Has k n) (sym e) (record { from = omega (arith, a.at); upto = omega (arith, a.at, low, many) })
  where
    as-many : (rs : List Request) → length (map (kept_as h trace run) rs) ≡ length rs
    as-many [] = refl
    as-many (r ∷ rs) = ap suc (as-many rs)

-- ---- What is kept after it

-- of a request that is served as before, the same is kept
same-kept : DeliveryLaws → (h : Header) (trace : List TraceLine) (run : Run) (step : RunStep) (r : Request) → is_served r.number (step ∷ run) ≡ is_served r.number run → kept_as h trace run r ≡ kept_as h trace (step ∷ run) r
same-kept laws h trace run step r same =
    ap (λ o. record { number = r.number; request = record { line = r.line; kind = r.kind }; bytes = bytes_for trace (Some r); outcome = o }) (go (is_served r.number run) refl)
  where
    go : (b : Bool) → is_served r.number run ≡ b → outcome_of r.kind (is_served r.number run) (reading_of h trace run r) ≡ outcome_of r.kind (is_served r.number (step ∷ run)) (reading_of h trace (step ∷ run) r)
    go false s = ap (λ b. outcome_of r.kind b (reading_of h trace run r)) s ∙ ap (λ b. outcome_of r.kind b (reading_of h trace (step ∷ run) r)) (sym (same ∙ s))
    go true s = ap (λ b. outcome_of r.kind b (reading_of h trace run r)) (sym same) ∙ ap (λ v. outcome_of r.kind (is_served r.number (step ∷ run)) v) (sym (laws.stays h trace step run r s))

map-same : (f g : Request → HeldRequest) (rs : List Request) → ((j : ℕ) (q : Request) → slice_get rs j ≡ Some q → f q ≡ g q) → map f rs ≡ map g rs
map-same f g [] all = refl
map-same f g (r ∷ rs) all = ap (λ v. v ∷ map f rs) (all 0 r refl) ∙ ap (λ l. g r ∷ l) (map-same f g rs (λ j q e. all (suc j) q e))

set-map : (f g : Request → HeldRequest) (rs : List Request) (i : ℕ) (r : Request) (v : HeldRequest) → slice_get rs i ≡ Some r → v ≡ g r → ((j : ℕ) (q : Request) → slice_get rs j ≡ Some q → (j ≡ i → ⊥) → f q ≡ g q) → set (map f rs) i v ≡ map g rs
set-map f g [] i r v e w others = cc
set-map f g (x ∷ xs) zero r v e w others =
    let same : x ≡ r = cc in
    ap (λ k. k ∷ map f xs) (w ∙ ap g (sym same)) ∙ ap (λ l. g x ∷ l) (map-same f g xs (λ j q k. others (suc j) q k (λ z. absurd (omega (arith, z)))))
set-map f g (x ∷ xs) (suc i) r v e w others =
    ap (λ k. k ∷ set (map f xs) i v) (others 0 x refl (λ z. absurd (omega (arith, z))))
    ∙ ap (λ l. g x ∷ l) (set-map f g xs i r v e w (λ j q k other. others (suc j) q k (λ z. other (omega (arith, z)))))

-- to a WR the device answers nothing
write-answers : (h : Header) (command : Command) (steps : List DeviceStep) → is_wr command ≡ true → device_answer h command steps ≡ None
write-answers h (Act bank row) steps e = refl
write-answers h (Rd bank column) steps e = cc
write-answers h (Wr bank column) steps e = refl
write-answers h (PrePb bank) steps e = refl
write-answers h (PreSb address) steps e = refl
write-answers h PreAb steps e = refl
write-answers h RefAb steps e = refl
write-answers h (RefSb address) steps e = refl
write-answers h RfmAb steps e = refl
write-answers h (RfmSb address) steps e = refl
write-answers h (Mrw write) steps e = refl
write-answers h Ecs steps e = refl
write-answers h Nop steps e = refl

-- what the device answers is what came of the request
came-of : DeliveryLaws → (h : Header) (trace : List TraceLine) (run : Run) (s : Served) (r : Request) (found : Option LineRead) → s.request ≡ Some r → Sound h trace (Issues s ∷ run) → found ≡ device_answer h s.issued.command (device_steps h trace run)
    → outcome_with found ≡ outcome_of r.kind true (reading_of h trace (Issues s ∷ run) r)
came-of laws h trace run s r found is sound e = go r.kind refl (laws.column h trace run s r sound.0 is)
  where
    go : (kind : Kind) → r.kind ≡ kind → IsColumn kind s.issued.command → outcome_with found ≡ outcome_of kind true (reading_of h trace (Issues s ∷ run) r)
    go Reads k c = ap outcome_with (e ∙ laws.answered h trace run s r sound is k)
    go Writes k c = ap outcome_with (e ∙ write-answers h s.issued.command (device_steps h trace run) c)

held-index : DeliveryLaws → (trace : List TraceLine) (run : Run) (i : ℕ) (r : Request) → slice_get (held (requests trace) run) i ≡ Some r → slice_get (requests trace) (length (ready (requests trace) run) + i) ≡ Some r
held-index laws trace run i r e =
    ap (λ rs. slice_get rs (length (ready (requests trace) run) + i)) (sym (laws.parts (requests trace) run))
    ∙ slice_get-append_right (ready (requests trace) run) (held (requests trace) run) (length (ready (requests trace) run) + i) i refl ∙ e

-- the request at one place of those that are kept is served, and no other
after-served : DeliveryLaws → (h : Header) (trace : List TraceLine) (run : Run) (clock : ℕ) (command : Command) (n i : ℕ) (r : Request) (found : Option LineRead) → n ≡ length (ready (requests trace) run) + i + 1 → slice_get (held (requests trace) run) i ≡ Some r
    → Sound h trace (Issues (record { issued = record { clock = clock; command = command }; request = Some r }) ∷ run) → found ≡ device_answer h command (device_steps h trace run)
    → noted (kept_of h trace run (length (ready (requests trace) run)) (held (requests trace) run)) (Some n) (outcome_with found)
    ≡ kept_of h trace (Issues (record { issued = record { clock = clock; command = command }; request = Some r }) ∷ run) (length (ready (requests trace) run)) (held (requests trace) run)
after-served laws h trace run clock command n i r found at e sound answered =
    let s : Served = record { issued = record { clock = clock; command = command }; request = Some r } in
    let before = length (ready (requests trace) run) in
    let rs = held (requests trace) run in
    let old = kept_of h trace run before rs in
    let self : is_served r.number (Issues s ∷ run) ≡ true = ap (λ b. b || is_served r.number run) (same r.number) in
    let mine : with_outcome (kept_as h trace run r) (outcome_with found) ≡ kept_as h trace (Issues s ∷ run) r
    = ap (λ o. record { number = r.number; request = record { line = r.line; kind = r.kind }; bytes = bytes_for trace (Some r); outcome = o })
    (came-of laws h trace run s r found refl sound answered ∙ ap (λ b. outcome_of r.kind b (reading_of h trace (Issues s ∷ run) r)) (sym self)) in
    let index : n - (before + 1) ≡ i = omega (arith, at) in
    let all : set (map (kept_as h trace run) rs) i (with_outcome (kept_as h trace run r) (outcome_with found)) ≡ map (kept_as h trace (Issues s ∷ run)) rs
    = set-map (kept_as h trace run) (kept_as h trace (Issues s ∷ run)) rs i r (with_outcome (kept_as h trace run r) (outcome_with found)) e mine
    (λ j q f other. same-kept laws h trace run (Issues s) q (ap (λ b. b || is_served q.number run) (ne_eqb r.number q.number (λ k.
    let z = laws.apart trace (before + i) (before + j) r q (held-index laws trace run i r e) (held-index laws trace run j q f) k in other (omega (arith, z)))))) in
    ap (noted_in old n (outcome_with found)) (kept-at h trace run before rs n i r at e)
    ∙ ap (λ m. record { first = before + 1; items = set (map (kept_as h trace run) rs) m (with_outcome (kept_as h trace run r) (outcome_with found)) }) index
    ∙ ap (λ l. record { first = before + 1; items = l }) all
  where
    same : (a : ℕ) → eqb a a ≡ true
    same a = pick (eqb_tells a a)
      where
        pick : ((eqb a a ≡ true) × (a ≡ a)) ⊎ ((eqb a a ≡ false) × (a ≡ a → ⊥)) → eqb a a ≡ true
        pick (inl x) = x.0
        pick (inr x) = absurd (x.1 refl)

pub kept-after : DeliveryLaws → (h : Header) (trace : List TraceLine) (run : Run) (clock : ℕ) (command : Command) (id : Option ℕ) (kept : Kept) (found : Option LineRead) → Sound h trace (issue trace clock command id ∷ run) → IsServing h (offered trace) (controller_steps trace run) command id
    → kept ≡ kept_of h trace run (length (ready (requests trace) run)) (held (requests trace) run) → found ≡ device_answer h command (device_steps h trace run)
    → noted kept id (outcome_with found) ≡ kept_of h trace (issue trace clock command id ∷ run) (length (ready (requests trace) run)) (held (requests trace) run)
kept-after laws h trace run clock command None kept found sound serving e answered =
    e ∙ ap (λ l. record { first = length (ready (requests trace) run) + 1; items = l })
    (map-same (kept_as h trace run) (kept_as h trace (issue trace clock command None ∷ run)) (held (requests trace) run) (λ j q k. same-kept laws h trace run (issue trace clock command None) q refl))
kept-after laws h trace run clock command (Some n) kept found sound serving e answered =
    let a = held-at laws h trace run clock command n sound serving in
    let step : Option Request → RunStep = λ request. Issues (record { issued = record { clock = clock; command = command }; request = request }) in
    ap (λ k. noted k (Some n) (outcome_with found)) e
    ∙ after-served laws h trace run clock command n a.index a.r found a.at a.is (subst (λ o. Sound h trace (step o ∷ run)) a.ranks sound) answered
    ∙ ap (λ o. kept_of h trace (step o ∷ run) (length (ready (requests trace) run)) (held (requests trace) run)) (sym a.ranks)
