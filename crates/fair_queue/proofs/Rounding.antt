-- A round of a merge, from what was written to what is left.
use Rattle.std.proofs.Common.{◌≡◌, ℕ, suc, ◌+◌, ◌-◌, ◌%◌, ◌<◌, ◌≤◌, Bool, true, false, Option, Some, None, List, [], ◌∷◌, ◌++◌, length, refl, sym, ap, ◌∙◌, subst, arith, append_assoc}
use Rattle.std.specs.List.{flat_map}
use Rattle.std.specs.Io.KnownBytes.{Appends}
use Rattle.std.proofs.KnownBytes.{Appends-trans, Consumes-nil}
use Rattle.ddr_io.specs.Sink.{AppendsPrefix}
use Rattle.ddr_text.specs.Opening.{with_feed, parts_of}
use Rattle.fair_queue.specs.Arrivals.{AreInside, Input, input_of}
use Rattle.fair_queue.specs.Admitting.{AdmitsIf, IsAdmitted}
use Rattle.fair_queue.specs.Machine.{Queued, Filled, empty, queue_of, filled, next_port, first_rest, without_first, in_queues}
use Rattle.fair_queue.specs.Merged.{barriers, one_more, is_request, text_from}
use Rattle.fair_queue.specs.Merging.{BeginsToMerge, GivesAll, GivesFrom, HasMerged, IsSettled}
use Rattle.fair_queue.specs.Reading.{Place, AreKept, EndsAt, Fills, FillsFrom, IsSteady, MayFollow, left_in, waiting}
use Rattle.fair_queue.specs.declared.port_lines.Ahead.TheVariants.{Unknown}
use Rattle.ddr_text.proofs.Prefixes.{prefix-behind, prefix-longer, prefix-whole}
use Rattle.fair_queue.proofs.Advancing.{advances, advances-so, behind, no-end-unknown}
use Rattle.fair_queue.proofs.Pieces.{appends-none}
use Rattle.fair_queue.proofs.Searching.{found-full}
use Rattle.fair_queue.proofs.Rounds.{again, filled-inside, input-inside, port-below, text-filled, text-next, without-four, without-less}

-- ---- At first

gives-first : (cap : ℕ) (start : Option (List ℕ)) (queued : Queued) (it : Place) → queued ≡ empty → it ≡ record { reader = it.reader; number = 1; ahead = Unknown } → GivesAll cap 0 start start queued it []
gives-first cap start queued it h l = record {
  taken = [];
  took = Consumes-nil start;
  over = λ e. absurd (no-end-unknown Unknown refl e);
  holds = λ more may.
      let left : left_in it more ≡ input_of more = ap (λ (k : Place). left_in k more) l in
      record {
        whole = ap (λ (k : Queued). text_from cap 0 k (input_of more)) (sym h) ∙ ap (text_from cap 0 queued) (sym left);
        inside = subst (λ (i : Input). AreInside i.lines) (sym left) (input-inside 1 (parts_of more));
        bad = ap (λ (i : Input). i.is_bad) (sym left);
      };
}

pub merging-first : (cap : ℕ) (start : Option (List ℕ)) (queued : Queued) (it : Place) (before : Option (List ℕ)) → queued ≡ empty → it ≡ record { reader = it.reader; number = 1; ahead = Unknown } → HasMerged cap 0 start start queued it before before
merging-first cap start queued it before h l = record { text = []; wrote = appends-none before; gives = gives-first cap start queued it h l }

pub settled-first : (queued : Queued) (it : Place) → queued ≡ empty → it ≡ record { reader = it.reader; number = 1; ahead = Unknown } → IsSettled 0 queued it
settled-first queued it h l =
    let none : in_queues queued ≡ 0 = ap in_queues h in
    let idle : waiting it.ahead ≡ 0 = ap (λ (k : Place). waiting k.ahead) l in
    let one : it.number ≡ 1 = ap (λ (k : Place). k.number) l in
    let turn : queued.turn ≡ 0 = ap (λ (k : Queued). k.turn) h in
    record { four = ap (λ (k : Queued). length k.queues) h; turn = omega (arith, turn); few = omega (arith, none, idle, one); most = omega (arith, one) }

pub ends-first : (start : Option (List ℕ)) (it : Place) → it ≡ record { reader = it.reader; number = 1; ahead = Unknown } → EndsAt start it.ahead start
ends-first None it l = tt
ends-first (Some bytes) it l = subst (λ (k : Place). EndsAt (Some bytes) k.ahead (Some bytes)) (sym l) tt

-- ---- The queues are filled

-- what is left fills the queues no further
abbrev pub AreFull : Option (List ℕ) → Queued → Place → Type 0
AreFull now queued it = (more : List ℕ) → MayFollow it.ahead now more → filled queued (left_in it more).lines ≡ record { queued = queued; left = (left_in it more).lines }

pub record IsFilled (cap count : ℕ) (start now : Option (List ℕ)) (queued : Queued) (it : Place) (before after : Option (List ℕ)) : Type 0 where
  pub merged : HasMerged cap count start now queued it before after
  pub full : AreFull now queued it

gives-filled : (cap count : ℕ) (start now later : Option (List ℕ)) (queued new : Queued) (it that : Place) (text : List ℕ) → GivesAll cap count start now queued it text → length queued.queues ≡ 4 → Fills queued it now new that later → GivesAll cap count start later new that text
gives-filled cap count start now later queued new it that text m four f =
    advances Unknown it.ahead that.ahead start now later (GivesFrom cap count queued it text) (FillsFrom queued it new that) (GivesFrom cap count new that text) m f
    (λ bytes rest more g h. record {
      whole = g.whole ∙ ap (λ l. text ++ l) (text-filled cap count queued (left_in it rest) new (left_in that more) four g.inside h.0 h.1);
      inside = subst (λ (k : Filled). AreInside k.left) h.0 (filled-inside queued (left_in it rest).lines g.inside);
      bad = g.bad ∙ h.1;
    })

full-filled : (now later : Option (List ℕ)) (queued new : Queued) (it that : Place) → Fills queued it now new that later → AreFull later new that
full-filled now later queued new it that f = λ more may.
    let h = f.holds more may in
    ap (λ (k : Filled). filled k.queued k.left) (sym h.0) ∙ again queued (left_in it (f.taken ++ more)).lines ∙ h.0

pub merging-filled : (cap count : ℕ) (start now later : Option (List ℕ)) (queued new : Queued) (it that : Place) (before after : Option (List ℕ)) → HasMerged cap count start now queued it before after → length queued.queues ≡ 4 → Fills queued it now new that later
    → IsFilled cap count start later new that before after
merging-filled cap count start now later queued new it that before after m four f = record {
  merged = record { text = m.text; wrote = m.wrote; gives = gives-filled cap count start now later queued new it that m.text m.gives four f };
  full = full-filled now later queued new it that f;
}

pub settled-filled : (count : ℕ) (queued new : Queued) (it that : Place) → IsSettled count queued it → AreKept queued new → IsSteady queued it new that → that.number ≤ 1048577 → IsSettled count new that
settled-filled count queued new it that s k e few =
    let less = s.few in let turn = k.turn in let low = s.turn in
    record { four = k.four; turn = omega (arith, turn, low); few = omega (arith, less, e); most = few }

ends-of : (cap count : ℕ) (start now later : Option (List ℕ)) (queued : Queued) (it that : Place) (text : List ℕ) → GivesAll cap count start now queued it text → EndsAt start it.ahead now → (EndsAt now it.ahead now → EndsAt now that.ahead later) → EndsAt start that.ahead later
ends-of cap count None now later queued it that text m e f = tt
ends-of cap count (Some bytes) None later queued it that text m e f = absurd m.took
ends-of cap count (Some bytes) (Some rest) later queued it that text m e f = f e

pub ends-filled : (cap count : ℕ) (start now later : Option (List ℕ)) (queued : Queued) (it that : Place) (before after : Option (List ℕ)) → HasMerged cap count start now queued it before after → EndsAt start it.ahead now
    → (EndsAt now it.ahead now → EndsAt now that.ahead later) → EndsAt start that.ahead later
ends-filled cap count start now later queued it that before after m e f = ends-of cap count start now later queued it that m.text m.gives e f

-- ---- A rest is admitted

pub record IsTaken (old new : Queued) (rest : List ℕ) : Type 0 where
  pub port : ℕ
  pub next : next_port old ≡ Some port
  pub new_is : new ≡ without_first old port
  pub rest_is : rest ≡ first_rest (queue_of old port)

pub taken : (old new : Queued) (rest : List ℕ) → IsAdmitted old new (Some rest) → IsTaken old new rest
taken old new rest a = go (next_port old) refl a
  where
    go : (o : Option ℕ) → next_port old ≡ o → AdmitsIf old new o (Some rest) → IsTaken old new rest
    go None e k = let f : Some rest ≡ None = k.1 in cc
    go (Some port) e k = record { port = port; next = e; new_is = k.0; rest_is = let f : Some rest ≡ Some (first_rest (queue_of old port)) = k.1 in cc }

gives-next : (cap count number : ℕ) (start now : Option (List ℕ)) (queued new : Queued) (it : Place) (text rest : List ℕ) → GivesAll cap count start now queued it text → AreFull now queued it → length queued.queues ≡ 4 → queued.turn < 4 → IsAdmitted queued new (Some rest)
    → number ≡ one_more (is_request rest) count → GivesAll cap number start now new it (text ++ flat_map with_feed (barriers cap count rest ++ rest ∷ []))
gives-next cap count number start now queued new it text rest m full four low a n =
    let t = taken queued new rest a in
    let piece : List ℕ = flat_map with_feed (barriers cap count rest ++ rest ∷ []) in
    advances-so Unknown it.ahead start now (GivesFrom cap count queued it text) (GivesFrom cap number new it (text ++ piece)) m
    (λ bytes left may g. record {
      whole =
          g.whole ∙ ap (λ l. text ++ l) (
          text-next cap count queued (left_in it left) t.port (full left may) four low t.next
          ∙ ap (λ r. flat_map with_feed (barriers cap count r ++ r ∷ []) ++ text_from cap (one_more (is_request r) count) (without_first queued t.port) (left_in it left)) (sym t.rest_is)
          ∙ ap (λ k. piece ++ text_from cap k (without_first queued t.port) (left_in it left)) (sym n)
          ∙ ap (λ (h : Queued). piece ++ text_from cap number h (left_in it left)) (sym t.new_is))
          ∙ sym (append_assoc text piece (text_from cap number new (left_in it left)));
      inside = g.inside;
      bad = g.bad;
    })

pub merging-next : (cap count number : ℕ) (start now : Option (List ℕ)) (queued new : Queued) (it : Place) (before mid after : Option (List ℕ)) (rest : List ℕ) → IsFilled cap count start now queued it before mid → length queued.queues ≡ 4 → queued.turn < 4 → IsAdmitted queued new (Some rest)
    → number ≡ one_more (is_request rest) count → Appends mid after (flat_map with_feed (barriers cap count rest ++ rest ∷ [])) → HasMerged cap number start now new it before after
merging-next cap count number start now queued new it before mid after rest f four low a n w =
    let piece : List ℕ = flat_map with_feed (barriers cap count rest ++ rest ∷ []) in
    record {
      text = f.merged.text ++ piece;
      wrote = Appends-trans before mid after f.merged.text piece f.merged.wrote w;
      gives = gives-next cap count number start now queued new it f.merged.text rest f.merged.gives f.full four low a n;
    }

one-or-none : (b : Bool) (count : ℕ) → one_more b count ≤ suc count
one-or-none true count = omega arith
one-or-none false count = omega arith

pub settled-next : (count number : ℕ) (queued new : Queued) (it : Place) (rest : List ℕ) → IsSettled count queued it → IsAdmitted queued new (Some rest) → number ≡ one_more (is_request rest) count → IsSettled number new it
settled-next count number queued new it rest s a n =
    let t = taken queued new rest a in
    let less = without-less queued t.port s.four (port-below queued t.port s.turn t.next) (found-full queued 4 queued.turn t.port t.next) in
    let size : in_queues new ≡ in_queues (without_first queued t.port) = ap in_queues t.new_is in
    let few = s.few in
    let more = one-or-none (is_request rest) count in
    record {
      four = ap (λ (h : Queued). length h.queues) t.new_is ∙ without-four queued t.port s.four;
      turn = subst (λ (h : Queued). h.turn < 4) (sym t.new_is) (let k : (t.port + 1) % 4 < 4 = omega arith in k);
      few = omega (arith, few, less, size, more, n);
      most = s.most;
    }

pub fewer-left : (queued mid new : Queued) (it that : Place) (rest : List ℕ) → IsSteady queued it mid that → it.number ≤ 1048577 → that.number ≤ 1048577 → length mid.queues ≡ 4 → mid.turn < 4 → IsAdmitted mid new (Some rest)
    → 1048577 - that.number + (waiting that.ahead + in_queues new) < 1048577 - it.number + (waiting it.ahead + in_queues queued)
fewer-left queued mid new it that rest e few low four turn a =
    let t = taken mid new rest a in
    let less = without-less mid t.port four (port-below mid t.port turn t.next) (found-full mid 4 mid.turn t.port t.next) in
    let size : in_queues new ≡ in_queues (without_first mid t.port) = ap in_queues t.new_is in
    omega (arith, e, few, low, less, size)

-- ---- It is cut off

-- what was written begins the merged lines
cut-of : (cap count : ℕ) (start now : Option (List ℕ)) (queued : Queued) (it : Place) (before after : Option (List ℕ)) (text : List ℕ) → GivesAll cap count start now queued it text → EndsAt start it.ahead now → AppendsPrefix before after text → BeginsToMerge cap start before after
cut-of cap count start now queued it before after text m e w =
    let b = behind start now it.ahead m.taken m.took e in
    (m.taken ++ b.rest, b.tells, subst (AppendsPrefix before after) (sym (m.holds b.rest b.may).whole) (prefix-longer before after text (text_from cap count queued (left_in it b.rest)) w))

pub cut-here : (cap count : ℕ) (start now : Option (List ℕ)) (queued : Queued) (it : Place) (before after : Option (List ℕ)) → HasMerged cap count start now queued it before after → EndsAt start it.ahead now → BeginsToMerge cap start before after
cut-here cap count start now queued it before after m e = cut-of cap count start now queued it before after m.text m.gives e (prefix-whole before after m.text m.wrote)

pub cut-next : (cap count : ℕ) (start now : Option (List ℕ)) (queued new : Queued) (it : Place) (before mid after : Option (List ℕ)) (rest : List ℕ) → IsFilled cap count start now queued it before mid → EndsAt start it.ahead now → length queued.queues ≡ 4 → queued.turn < 4 → IsAdmitted queued new (Some rest)
    → AppendsPrefix mid after (flat_map with_feed (barriers cap count rest ++ rest ∷ [])) → BeginsToMerge cap start before after
cut-next cap count start now queued new it before mid after rest f e four low a w =
    let piece : List ℕ = flat_map with_feed (barriers cap count rest ++ rest ∷ []) in
    cut-of cap (one_more (is_request rest) count) start now new it before after (f.merged.text ++ piece)
    (gives-next cap count (one_more (is_request rest) count) start now queued new it f.merged.text rest f.merged.gives f.full four low a refl) e
    (prefix-behind before mid after f.merged.text piece f.merged.wrote w)
