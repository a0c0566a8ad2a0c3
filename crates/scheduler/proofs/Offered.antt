-- One more request.
use Rattle.std.proofs.Common.{◌≡◌, ◌∙◌, ℕ, suc, ◌+◌, ◌-◌, ◌<◌, ◌≤◌, ◌^◌, ◌&&◌, ◌||◌, Bool, true, false, Option, Some, List, [], ◌∷◌, ◌++◌, length, slice_get, refl, sym, ap, subst, arith, length-append}
use Rattle.std.proofs.lemmas.List.Sums.{count_by-le-length}
use Rattle.arrayvec.specs.ArrayVec.{ArrayVec}
use Rattle.command_words.specs.Command.{bank_number}
use Rattle.command_words.specs.Geometry.{lines_of}
use Rattle.speed_bin.specs.Log.{Log}
use Rattle.speed_bin.specs.declared.header.Header.{Header}
use Rattle.requests.specs.Owed.{is_column}
use Rattle.requests.specs.Page.{Excuses}
use Rattle.requests.specs.Queue.{Step, places, waiting, waiting_as, span, IsFull}
use Rattle.speed_bin.specs.Header.{shape_of}
use Rattle.requests.specs.Requested.{Requested}
use Rattle.requests.specs.declared.request.Request.{Request}
use Rattle.requests.specs.declared.waiting.Waiting.{Waiting}
use Rattle.deadlines.specs.Standing.{Keeps}
use Rattle.deadlines.specs.declared.task.Task.{Task}
use Rattle.scheduler.specs.Controller.{BetweenTurns, banks_of, excused, is_covered, none_wait}
use Rattle.scheduler.specs.declared.state.State.{State}
use Rattle.scheduler.proofs.Parts.{length-places}

pub span_first : (n : ℕ) (ws : List Waiting) (w : Waiting) → slice_get ws 0 ≡ Some w → n + 1 - w.id ≡ span n ws
span_first n [] w e = cc
span_first n (v ∷ ws) w e = let f : v ≡ w = cc in ap (λ (x : Waiting). n + 1 - x.id) (sym f)

banks_append : (ws : List Waiting) (w : Waiting) → banks_of (ws ++ w ∷ []) ≡ banks_of ws ++ (bank_number w.place.bank ∷ [])
banks_append [] w = refl
banks_append (v ∷ ws) w = ap (λ bs. bank_number v.place.bank ∷ bs) (banks_append ws w)

-- no more requests were taken than commands came, and those that wait
pub few_offered : (c : State) (h : Header) (offered : List Request) (idle : ℕ) (log : List Step) → BetweenTurns h c offered idle log → c.offered ≤ 2 ^ 48 + 32
few_offered c h offered idle log s =
    let served = count_by-le-length (λ place. is_column place.command) (places log) in
    let same = length-places log in
    let counted = s.requested.counted in
    let few = s.requested.few in
    let count = s.count in
    let long = s.long in
    let near = s.near in omega (arith, served, same, counted, few, count, long, near)

-- the laws of one more request
abbrev pub OfferLaw : Type 0
OfferLaw = (h : Header) (offered : List Request) (log : List Step) (queue : List Waiting) (excused : ℕ → Bool) (request : Request)
    → Requested h offered log queue excused → request.line < lines_of (shape_of h) → (IsFull (length offered) queue → ⊥)
    → Requested h (offered ++ request ∷ []) log (queue ++ waiting_as (shape_of h) (length offered + 1) request ∷ []) excused

abbrev pub ExcuseLaw : Type 0
ExcuseLaw = (h : Header) (offered : List Request) (log : List Step) (queue : List Waiting) (excused later : ℕ → Bool)
    → Requested h offered log queue excused → Excuses excused later → Requested h offered log queue later

abbrev pub BankLaw : Type 0
BankLaw = (h : Header) (log : Log) (task : Option Task) (now until idle : ℕ) (waiting : List ℕ) (n bank : ℕ)
    → Keeps h log task now until idle waiting n → Keeps h log task now until idle (waiting ++ (bank ∷ [])) (suc n)

same_excuse : (task : Option Task) (finished : Bool) (ws vs : List Waiting) (b : ℕ) → finished ≡ false → excused task finished ws b ≡ true → excused task finished vs b ≡ true
same_excuse task finished ws vs b e f = go (is_covered task b) finished (none_wait ws) (none_wait vs) e f
  where
    go : (t u l m : Bool) → u ≡ false → (t || (u && l)) ≡ true → (t || (u && m)) ≡ true
    go true u l m e f = refl
    go false true l m e f = cc
    go false false l m e f = cc

pub offered_more : (offers : OfferLaw) (excuses : ExcuseLaw) (banks : BankLaw) (c : State) (h : Header) (offered : List Request) (idle : ℕ) (log : List Step) (r : Request) (w : Waiting) (q : ArrayVec Waiting) (n : ℕ) → BetweenTurns h c offered idle log → c.finished ≡ false → r.line < lines_of (shape_of h) → (IsFull (length offered) (waiting h offered log) → ⊥) → n ≡ c.offered + 1 → w ≡ waiting_as (shape_of h) n r → q.items ≡ c.queue.items ++ w ∷ [] → BetweenTurns h (record c { queue = q; offered = n }) (offered ++ r ∷ []) idle log
offered_more offers excuses banks c h offered idle log r w q n s unfinished inside room next is items =
    let number : n ≡ length offered + 1 = next ∙ ap (λ k. k + 1) s.count in
    let own : w ≡ waiting_as (shape_of h) (length offered + 1) r = is ∙ ap (λ k. waiting_as (shape_of h) k r) number in
    let not_full = subst (λ ws. IsFull (length offered) ws → ⊥) (sym s.requested.waits) room in
    let more = offers h offered log c.queue.items (excused c.task c.finished c.queue.items) r s.requested inside not_full in
    let there = subst (λ (x : Waiting). Requested h (offered ++ r ∷ []) log (c.queue.items ++ x ∷ []) (excused c.task c.finished c.queue.items)) (sym own) more in
    let here = subst (λ ws. Requested h (offered ++ r ∷ []) log ws (excused c.task c.finished c.queue.items)) (sym items) there in
    let long = length-append offered (r ∷ []) in
    let longer : suc (length offered) ≡ length (offered ++ r ∷ []) = omega (arith, long) in
    let kept = banks h (places log) c.task c.ledger.from c.until idle (banks_of c.queue.items) (length offered) (bank_number w.place.bank) s.deadlines in
    let listed : banks_of c.queue.items ++ (bank_number w.place.bank ∷ []) ≡ banks_of q.items = sym (banks_append c.queue.items w) ∙ ap (λ ws. banks_of ws) (sym items) in record {
      accepted = s.accepted;
      header = s.header;
      writes = s.writes;
      ledger = s.ledger;
      seen = s.seen;
      count = number ∙ omega (arith, long);
      requested = excuses h (offered ++ r ∷ []) log q.items (excused c.task c.finished c.queue.items) (excused c.task c.finished q.items) here (λ b low e. same_excuse c.task c.finished c.queue.items q.items b unfinished e);
      deadlines = subst (λ bs. Keeps h (places log) c.task c.ledger.from c.until idle bs (length (offered ++ r ∷ []))) listed (subst (λ k. Keeps h (places log) c.task c.ledger.from c.until idle (banks_of c.queue.items ++ (bank_number w.place.bank ∷ [])) k) longer kept);
      tasked = s.tasked;
      starting = s.starting;
      untasked = s.untasked;
      sound = s.sound;
      last = s.last;
      long = s.long;
      near = s.near;
      target = s.target;
    }

-- once the end is announced, who was excused stays so
end_excuse : (task : Option Task) (finished : Bool) (ws : List Waiting) (b : ℕ) → excused task finished ws b ≡ true → excused task true ws b ≡ true
end_excuse task finished ws b e = go (is_covered task b) finished (none_wait ws) e
  where
    go : (t u l : Bool) → (t || (u && l)) ≡ true → (t || l) ≡ true
    go true u l e = refl
    go false true l e = e
    go false false l e = cc

pub finishes : (excuses : ExcuseLaw) (c : State) (h : Header) (offered : List Request) (idle : ℕ) (log : List Step) → BetweenTurns h c offered idle log → BetweenTurns h (record c { finished = true }) offered idle log
finishes excuses c h offered idle log s = record {
  accepted = s.accepted;
  header = s.header;
  writes = s.writes;
  ledger = s.ledger;
  seen = s.seen;
  count = s.count;
  requested = excuses h offered log c.queue.items (excused c.task c.finished c.queue.items) (excused c.task true c.queue.items) s.requested (λ b low e. end_excuse c.task c.finished c.queue.items b e);
  deadlines = s.deadlines;
  tasked = s.tasked;
  starting = s.starting;
  untasked = s.untasked;
  sound = s.sound;
  last = s.last;
  long = s.long;
  near = s.near;
  target = s.target;
}

abbrev pub IdleLaw : Type 0
IdleLaw = (h : Header) (log : Log) (task : Option Task) (now until idle clocks : ℕ) (waiting : List ℕ) (n : ℕ)
    → Keeps h log task now until idle waiting n → Keeps h log task now (now + clocks) (idle + clocks) waiting n

pub idles : (idle_line : IdleLaw) (c : State) (h : Header) (offered : List Request) (idle : ℕ) (log : List Step) (clocks : ℕ) → BetweenTurns h c offered idle log → c.ledger.from + clocks < 2 ^ 47 → BetweenTurns h (record c { until = c.ledger.from + clocks }) offered (idle + clocks) log
idles idle_line c h offered idle log clocks s near = record {
  accepted = s.accepted;
  header = s.header;
  writes = s.writes;
  ledger = s.ledger;
  seen = s.seen;
  count = s.count;
  requested = s.requested;
  deadlines = idle_line h (places log) c.task c.ledger.from c.until idle clocks (banks_of c.queue.items) (length offered) s.deadlines;
  tasked = s.tasked;
  starting = s.starting;
  untasked = s.untasked;
  sound = s.sound;
  last = s.last;
  long = s.long;
  near = s.near;
  target = near;
}
