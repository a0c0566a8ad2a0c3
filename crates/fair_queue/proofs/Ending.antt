-- The end of a merge: no queue has a rest.
use Rattle.std.proofs.Common.{◌≡◌, ℕ, zero, suc, ◌<◌, Bool, true, false, cond, nat_lt, inl, inr, Option, Some, None, List, [], ◌∷◌, ◌++◌, length, refl, sym, ap, ◌∙◌, subst, arith}
use Rattle.std.specs.Io.KnownBytes.{Appends, Consumes}
use Rattle.std.proofs.KnownBytes.{Appends-trans}
use Rattle.ddr_io.specs.Line.{next_bytes}
use Rattle.ddr_io.specs.Sink.{AppendsPrefix}
use Rattle.ddr_text.specs.Opening.{parts_of}
use Rattle.fair_queue.specs.Arrivals.{AreInside, Input, input_from, input_of}
use Rattle.fair_queue.specs.Admitting.{AdmitsIf, IsAdmitted}
use Rattle.fair_queue.specs.Machine.{Queued, after, filled, queue_of, has_room, first_of, next_port, first_rest, is_empty}
use Rattle.fair_queue.specs.Merged.{ending, merged_behind}
use Rattle.fair_queue.specs.Merging.{Gives, Merges, BeginsToMerge, ReadsEnough}
use Rattle.fair_queue.specs.Reading.{Place, EndsAt, EndsWith, IsStopped, MayFollow, held_in, left_in, left_behind, is_bad, unread}
use Rattle.fair_queue.specs.declared.port_lines.Ahead.{Ahead}
use Rattle.fair_queue.specs.declared.port_lines.Ahead.TheVariants.{Unknown, Waits, Bad, End}
use Rattle.ddr_text.proofs.Prefixes.{prefix-behind}
use Rattle.fair_queue.proofs.Advancing.{behind, no-end-bad}
use Rattle.fair_queue.proofs.Rounding.{IsFilled}
use Rattle.fair_queue.proofs.Rounds.{text-none}

pub none-next : (old new : Queued) → IsAdmitted old new None → next_port old ≡ None
none-next old new a = go (next_port old) refl a
  where
    go : (o : Option ℕ) → next_port old ≡ o → AdmitsIf old new o None → next_port old ≡ None
    go None e k = e
    go (Some port) e k = let f : None ≡ Some (first_rest (queue_of old port)) = k.1 in cc

step-none : (queued : Queued) (count port : ℕ) → first_of queued (suc count) port ≡ None → (is_empty (queue_of queued port) ≡ true) × (first_of queued count (after port) ≡ None)
step-none queued count port e = go (is_empty (queue_of queued port)) refl e
  where
    go : (b : Bool) → is_empty (queue_of queued port) ≡ b → cond b (first_of queued count (after port)) (Some port) ≡ None → (is_empty (queue_of queued port) ≡ true) × (first_of queued count (after port) ≡ None)
    go true f k = (f, k)
    go false f k = cc

pub none-queued : (queued : Queued) (port : ℕ) → next_port queued ≡ None → queued.turn < 4 → port < 4 → is_empty (queue_of queued port) ≡ true
none-queued queued port e turn low =
    let a = step-none queued 3 queued.turn e in
    let b = step-none queued 2 (after queued.turn) a.1 in
    let c = step-none queued 1 (after (after queued.turn)) b.1 in
    let d = step-none queued 0 (after (after (after queued.turn))) c.1 in
    go queued.turn turn port low a.0 b.0 c.0 d.0
  where
    go : (t : ℕ) → t < 4 → (p : ℕ) → p < 4 → is_empty (queue_of queued t) ≡ true → is_empty (queue_of queued (after t)) ≡ true → is_empty (queue_of queued (after (after t))) ≡ true → is_empty (queue_of queued (after (after (after t)))) ≡ true → is_empty (queue_of queued p) ≡ true
    go zero t zero p a b c d = a
    go zero t (suc zero) p a b c d = b
    go zero t (suc (suc zero)) p a b c d = c
    go zero t (suc (suc (suc zero))) p a b c d = d
    go (suc zero) t zero p a b c d = d
    go (suc zero) t (suc zero) p a b c d = a
    go (suc zero) t (suc (suc zero)) p a b c d = b
    go (suc zero) t (suc (suc (suc zero))) p a b c d = c
    go (suc (suc zero)) t zero p a b c d = c
    go (suc (suc zero)) t (suc zero) p a b c d = d
    go (suc (suc zero)) t (suc (suc zero)) p a b c d = a
    go (suc (suc zero)) t (suc (suc (suc zero))) p a b c d = b
    go (suc (suc (suc zero))) t zero p a b c d = b
    go (suc (suc (suc zero))) t (suc zero) p a b c d = c
    go (suc (suc (suc zero))) t (suc (suc zero)) p a b c d = d
    go (suc (suc (suc zero))) t (suc (suc (suc zero))) p a b c d = a
    go (suc (suc (suc (suc n)))) t p low a b c d = absurd (omega (arith, t))
    go t low (suc (suc (suc (suc n)))) p a b c d = absurd (omega (arith, p))

pub empty-room : (queued : Queued) (port : ℕ) → is_empty (queue_of queued port) ≡ true → has_room queued port ≡ true
empty-room queued port e = go (queue_of queued port) refl e
  where
    go : (q : List (List ℕ)) → queue_of queued port ≡ q → is_empty q ≡ true → has_room queued port ≡ true
    go [] f k = ap (λ l. nat_lt (length l) 16) f
    go (r ∷ rs) f k = cc

-- no line waits, since its queue would have room
none-waits : (queued : Queued) (it : Place) (rest : List ℕ) (port : ℕ) → it.ahead ≡ Waits port → next_port queued ≡ None → queued.turn < 4 → AreInside (left_in it rest).lines → has_room queued port ≡ false → ⊥
none-waits queued it rest port e n low i s =
    let behind : Input = input_from it.number (parts_of rest) in
    let inside : AreInside (left_behind (Waits port) it.reader.line behind).lines = subst (λ (a : Ahead). AreInside (left_behind a it.reader.line behind).lines) e i in
    let f : true ≡ false = sym (empty-room queued port (none-queued queued port n low inside.0)) ∙ s in cc

ends-bad : (queued : Queued) (it : Place) (rest : List ℕ) (ahead : Ahead) → it.ahead ≡ ahead → next_port queued ≡ None → queued.turn < 4 → AreInside (left_in it rest).lines → IsStopped queued ahead → (left_in it rest).is_bad ≡ is_bad ahead
ends-bad queued it rest Unknown e n low i s = absurd s
ends-bad queued it rest (Waits port) e n low i s = absurd (none-waits queued it rest port e n low i s)
ends-bad queued it rest Bad e n low i s = ap (λ a. (left_behind a it.reader.line (input_from it.number (parts_of rest))).is_bad) e
ends-bad queued it rest End e n low i s = ap (λ a. (left_behind a it.reader.line (input_from it.number (parts_of rest))).is_bad) e

-- behind what was written the text has no more than its ending
ends-text : (cap count : ℕ) (bytes rest : List ℕ) (queued new : Queued) (it : Place) (text : List ℕ) → Gives cap count bytes rest queued it text → filled queued (left_in it rest).lines ≡ record { queued = queued; left = (left_in it rest).lines } → queued.turn < 4 → IsStopped queued it.ahead
    → IsAdmitted queued new None → text ++ ending (is_bad it.ahead) ≡ merged_behind cap bytes
ends-text cap count bytes rest queued new it text m full low s a =
    let none = none-next queued new a in
    ap (λ b. text ++ ending b) (sym (ends-bad queued it rest it.ahead refl none low m.inside s))
    ∙ sym (m.whole ∙ ap (λ l. text ++ l) (text-none cap count queued (left_in it rest) full none))

pub merges-end : (cap count : ℕ) (start now : Option (List ℕ)) (queued new : Queued) (it : Place) (before mid after : Option (List ℕ)) → IsFilled cap count start now queued it before mid → EndsAt start it.ahead now → queued.turn < 4 → IsStopped queued it.ahead → IsAdmitted queued new None
    → Appends mid after (ending (is_bad it.ahead)) → Merges cap start before after
merges-end cap count start now queued new it before mid after f e low s a w =
    let m = f.merged.gives in
    let b = behind start now it.ahead m.taken m.took e in (
      m.taken ++ b.rest,
      b.tells,
      subst (Appends before after) (ends-text cap count (m.taken ++ b.rest) b.rest queued new it f.merged.text (m.holds b.rest b.may) (f.full b.rest b.may) low s a)
          (Appends-trans before mid after f.merged.text (ending (is_bad it.ahead)) f.merged.wrote w),
    )

pub cut-end : (cap count : ℕ) (start now : Option (List ℕ)) (queued new : Queued) (it : Place) (before mid after : Option (List ℕ)) → IsFilled cap count start now queued it before mid → EndsAt start it.ahead now → queued.turn < 4 → IsStopped queued it.ahead → IsAdmitted queued new None
    → AppendsPrefix mid after (ending (is_bad it.ahead)) → BeginsToMerge cap start before after
cut-end cap count start now queued new it before mid after f e low s a w =
    let m = f.merged.gives in
    let b = behind start now it.ahead m.taken m.took e in (
      m.taken ++ b.rest,
      b.tells,
      subst (AppendsPrefix before after) (ends-text cap count (m.taken ++ b.rest) b.rest queued new it f.merged.text (m.holds b.rest b.may) (f.full b.rest b.may) low s a)
          (prefix-behind before mid after f.merged.text (ending (is_bad it.ahead)) f.merged.wrote w),
    )

-- ---- What was read

none-behind : (xs ys : List ℕ) → xs ++ ys ≡ [] → ys ≡ []
none-behind [] ys e = e
none-behind (x ∷ xs) ys e = cc

none-left : (xs : List ℕ) (left : Option (List ℕ)) → next_bytes xs left ≡ Some [] → left ≡ Some []
none-left xs None e = cc
none-left xs (Some ys) e = let f : xs ++ ys ≡ [] = cc in ap (λ l. Some l) (none-behind xs ys f)

-- behind a bad line, with more bytes left, those that were taken decide
decides : (cap count : ℕ) (bytes : List ℕ) (x : ℕ) (xs : List ℕ) (queued new : Queued) (it : Place) (before mid : Option (List ℕ)) → IsFilled cap count (Some bytes) (Some (x ∷ xs)) queued it before mid → it.ahead ≡ Bad → queued.turn < 4 → IsStopped queued it.ahead → IsAdmitted queued new None
    → ((input_of bytes).is_bad ≡ true) × (taken : List ℕ) × (bytes ≡ taken ++ x ∷ xs) × ((more : List ℕ) → merged_behind cap (taken ++ more) ≡ merged_behind cap bytes)
decides cap count bytes x xs queued new it before mid f e low s a =
    let m = f.merged.gives in
    let any : (more : List ℕ) → MayFollow it.ahead (Some (x ∷ xs)) more = λ more. (λ k. absurd (no-end-bad it.ahead e k), λ k. let g : Some (x ∷ xs) ≡ Some [] = k in cc) in
    let ends : (more : List ℕ) → f.merged.text ++ ending (is_bad it.ahead) ≡ merged_behind cap (m.taken ++ more) = λ more. ends-text cap count (m.taken ++ more) more queued new it f.merged.text (m.holds more (any more)) (f.full more (any more)) low s a in
    let none = none-next queued new a in
    let own = m.holds (x ∷ xs) (any (x ∷ xs)) in (
      ap (λ l. (input_of l).is_bad) m.took ∙ own.bad ∙ ends-bad queued it (x ∷ xs) it.ahead refl none low own.inside s ∙ ap is_bad e,
      m.taken,
      m.took,
      λ more. sym (ends more) ∙ ends (x ∷ xs) ∙ ap (merged_behind cap) (sym m.took),
    )

-- the line ahead, where the bytes are known
reads-of : (cap count : ℕ) (bytes : List ℕ) (left : Option (List ℕ)) (queued new : Queued) (it : Place) (before mid : Option (List ℕ)) (ahead : Ahead) → it.ahead ≡ ahead → IsFilled cap count (Some bytes) (unread it left) queued it before mid → EndsWith it.ahead (unread it left) → queued.turn < 4
    → IsStopped queued it.ahead → IsAdmitted queued new None → ReadsEnough cap (Some bytes) left
reads-of cap count bytes left queued new it before mid Unknown e f w low s a = absurd (subst (IsStopped queued) e s)
reads-of cap count bytes left queued new it before mid (Waits port) e f w low s a =
    let b = behind (Some bytes) (unread it left) it.ahead f.merged.gives.taken f.merged.gives.took w in
    absurd (none-waits queued it b.rest port e (none-next queued new a) low (f.merged.gives.holds b.rest b.may).inside (subst (IsStopped queued) e s))
reads-of cap count bytes left queued new it before mid End e f w low s a = inl (none-left it.reader.held left (subst (λ k. EndsWith k (next_bytes (held_in k it.reader.held) left)) e w))
reads-of cap count bytes left queued new it before mid Bad e f w low s a =
    go left refl (subst (λ k. IsFilled cap count (Some bytes) (next_bytes k left) queued it before mid) (ap (λ k. held_in k it.reader.held) e) f)
  where
    go : (l : Option (List ℕ)) → left ≡ l → IsFilled cap count (Some bytes) (next_bytes [] left) queued it before mid → ReadsEnough cap (Some bytes) left
    go None is h = absurd (subst (λ l. Consumes (Some bytes) (next_bytes [] l) h.merged.gives.taken) is h.merged.gives.took)
    go (Some []) is h = inl is
    go (Some (x ∷ xs)) is h =
        subst (λ l. ReadsEnough cap (Some bytes) l) (sym is)
        (inr (decides cap count bytes x xs queued new it before mid (subst (λ l. IsFilled cap count (Some bytes) (next_bytes [] l) queued it before mid) is h) e low s a))

pub reads-end : (cap count : ℕ) (start left : Option (List ℕ)) (queued new : Queued) (it : Place) (before mid : Option (List ℕ)) → IsFilled cap count start (unread it left) queued it before mid → EndsAt start it.ahead (unread it left) → queued.turn < 4 → IsStopped queued it.ahead
    → IsAdmitted queued new None → ReadsEnough cap start left
reads-end cap count None left queued new it before mid f e low s a = tt
reads-end cap count (Some bytes) left queued new it before mid f e low s a = reads-of cap count bytes left queued new it before mid it.ahead refl f e low s a
