-- The window of a trace is the queue of a controller that was offered what comes before the next barrier.
use Rattle.std.proofs.Common.{◌≡◌, ℕ, suc, ◌+◌, ◌-◌, ◌≤◌, ◌⊎◌, Bool, true, false, cond, Option, List, [], ◌∷◌, ◌++◌, map, length, drop, refl, sym, ap, ◌∙◌, subst, arith, append_assoc, append-nil}
use Rattle.std.specs.Prelude.{IsSome}
use Rattle.std.proofs.Math.Seq.{drop-append_seam}
use Rattle.std.proofs.lemmas.List.{length-append}
use Rattle.command_words.specs.Command.{bank_number}
use Rattle.command_words.specs.declared.command.Command.{Command}
use Rattle.command_words.specs.declared.command.Command.TheVariants.{Act, Rd, Wr, PrePb, PreSb, PreAb, RefAb, RefSb, RfmAb, RfmSb, Mrw, Ecs, Nop}
use Rattle.speed_bin.specs.Log.{Log, open_at}
use Rattle.speed_bin.specs.declared.header.Header.{Header}
use Rattle.requests.specs.Choice.{IsChosen, IsOldestHit, IsOldestRow}
use Rattle.requests.specs.Queue.{Step as NumberedStep, waiting, span, AreKnown, IsFull, in_bank, oldest}
use Rattle.requests.specs.Window.{window as window_of}
use Rattle.requests.specs.declared.request.Kind.{Kind}
use Rattle.requests.specs.declared.request.Kind.TheVariants.{Read as Reads, Write as Writes}
use Rattle.requests.specs.declared.request.Request.{Request as Asked}
use Rattle.requests.specs.declared.waiting.Waiting.{Waiting}
use Rattle.ddr_text.specs.declared.lines.TraceLine.{TraceLine}
use Rattle.ddr_text.specs.declared.lines.TraceLine.TheVariants.{Read, Write, Flip, Idle}
use Rattle.reports.specs.Requests.{Request, requests_from, requests}
use Rattle.reports.specs.Runs.{Served, Run, log_of, is_served, ready, held}
use Rattle.reports.specs.Offered.{asked, rank_of, controller_steps}
use Rattle.reports.specs.Window.{up_to_barrier, block_from, AreRequests, reach, window, IsAskedFor}
use Rattle.reports.proofs.Found.{requests-append}
use Rattle.reports.proofs.Ready.{ready-held, held-past}

-- ---- The queue

-- the law of the crate that keeps the queue
abbrev pub QueueIsWindow : Type 0
QueueIsWindow = (h : Header) (offered later : List Asked) (log : List NumberedStep) → AreKnown offered log → length (waiting h offered log) ≤ 32 → span (length offered) (waiting h offered log) ≤ 64
    → IsFull (length offered) (waiting h offered log) ⊎ (later ≡ []) → waiting h offered log ≡ window_of h (offered ++ later) log

pub queue-window : QueueIsWindow → (h : Header) (trace : List TraceLine) (run : Run) (offered later : List Asked) → map asked (reach trace run) ≡ offered ++ later → AreKnown offered (controller_steps trace run)
    → length (waiting h offered (controller_steps trace run)) ≤ 32 → span (length offered) (waiting h offered (controller_steps trace run)) ≤ 64
    → IsFull (length offered) (waiting h offered (controller_steps trace run)) ⊎ (later ≡ [])
    → waiting h offered (controller_steps trace run) ≡ window h trace run
queue-window law h trace run offered later reaches known few within full =
    law h offered later (controller_steps trace run) known few within full ∙ ap (λ l. window_of h l (controller_steps trace run)) (sym reaches)

pub asked-for : (h : Header) (trace : List TraceLine) (run : Run) (s : Served) (ws : List Waiting) (id : Option ℕ) → ws ≡ window h trace run → rank_of trace s.request ≡ id
    → IsChosen h ws (log_of run) s.issued.clock s.issued.command id → IsAskedFor h trace run s
asked-for h trace run s ws id same rank_is chosen =
    subst (λ l. IsChosen h l (log_of run) s.issued.clock s.issued.command (rank_of trace s.request)) same
    (subst (λ n. IsChosen h ws (log_of run) s.issued.clock s.issued.command n) (sym rank_is) chosen)

no-row : (b row : ℕ) → IsOldestRow [] b row → ⊥
no-row b row o = let e = o.oldest_of in cc

no-hit : (b : ℕ) (open_row : Option ℕ) (kind : Kind) (column : ℕ) (id : Option ℕ) → IsOldestHit [] b open_row kind column id → ⊥
no-hit b open_row kind column id o = let e = o.oldest_hit in cc

-- where nothing waits, what is issued asks for nothing of a window
pub asks-none : (h : Header) (ws : List Waiting) (log : Log) (clock : ℕ) (command : Command) (id : Option ℕ) → IsChosen h [] log clock command id → IsChosen h ws log clock command id
asks-none h ws log clock (Act bank row) id c = absurd (no-row (bank_number bank) row c.0)
asks-none h ws log clock (Rd bank column) id c = absurd (no-hit (bank_number bank) (open_at (bank_number bank) log) Reads column id c)
asks-none h ws log clock (Wr bank column) id c = absurd (no-hit (bank_number bank) (open_at (bank_number bank) log) Writes column id c)
asks-none h ws log clock (PrePb bank) id c = absurd (none-some c.0.some)
  where
    none-some : IsSome (oldest (in_bank (bank_number bank)) []) → ⊥
    none-some e = let f : false ≡ true = e in cc
asks-none h ws log clock (PreSb address) id c = c
asks-none h ws log clock PreAb id c = c
asks-none h ws log clock RefAb id c = c
asks-none h ws log clock (RefSb address) id c = c
asks-none h ws log clock RfmAb id c = c
asks-none h ws log clock (RfmSb address) id c = c
asks-none h ws log clock (Mrw write) id c = c
asks-none h ws log clock Ecs id c = c
asks-none h ws log clock Nop id c = absurd c

-- ---- How far the next barrier is

up-block : (n m : ℕ) (block rest : List TraceLine) → m ≡ n + length block → AreRequests block → up_to_barrier n (block ++ rest) ≡ requests_from n block ++ up_to_barrier m rest
up-block n m [] rest e r = ap (λ k. up_to_barrier k rest) (omega (arith, e))
up-block n m (Read line ∷ block) rest e r = ap (λ l. record { number = n; line = line; kind = Reads } ∷ l) (up-block (suc n) m block rest (omega (arith, e)) r)
up-block n m (Write line bytes ∷ block) rest e r = ap (λ l. record { number = n; line = line; kind = Writes } ∷ l) (up-block (suc n) m block rest (omega (arith, e)) r)
up-block n m (Flip line device bit ∷ block) rest e r = absurd r
up-block n m (Idle clocks ∷ block) rest e r = absurd r

drop-front : (front rest : List TraceLine) (n : ℕ) → n ≡ 1 + length front → drop (n - 1) (front ++ rest) ≡ rest
drop-front front rest n e = ap (λ k. drop k (front ++ rest)) (omega (arith, e)) ∙ drop-append_seam front rest

-- from the first unserved request of the block on
from-here : (whole front block rest : List TraceLine) (t : TraceLine) (run : Run) (n m : ℕ) (q first : Request) (later : List Request) → whole ≡ front ++ (t ∷ block ++ rest) → n ≡ 1 + length front → m ≡ suc n + length block → q.number ≡ n
    → ((l : List TraceLine) → up_to_barrier n (t ∷ l) ≡ q ∷ up_to_barrier (suc n) l) → AreRequests block → q ∷ requests_from (suc n) block ≡ first ∷ later
    → up_to_barrier first.number (drop (first.number - 1) whole) ≡ (first ∷ later) ++ up_to_barrier m rest
from-here whole front block rest t run n m q first later e f g own begin r same =
    let head : q ≡ first = cc in
    let tail : requests_from (suc n) block ≡ later = cc in
    ap (λ (v : Request). up_to_barrier v.number (drop (v.number - 1) whole)) (sym head)
    ∙ ap (λ k. up_to_barrier k (drop (k - 1) whole)) own
    ∙ ap (λ l. up_to_barrier n (drop (n - 1) l)) e
    ∙ ap (up_to_barrier n) (drop-front front (t ∷ block ++ rest) n f)
    ∙ begin (block ++ rest)
    ∙ ap (λ l. q ∷ l) (up-block (suc n) m block rest g r)
    ∙ ap (λ v. v ∷ (requests_from (suc n) block ++ up_to_barrier m rest)) head
    ∙ ap (λ l. first ∷ (l ++ up_to_barrier m rest)) tail

from-step : (b : Bool) (q first : Request) (rs held_rest later : List Request) (P : Type 0) → cond b held_rest (q ∷ rs) ≡ first ∷ later → (held_rest ≡ first ∷ later → P) → (q ∷ rs ≡ first ∷ later → P) → P
from-step true q first rs held_rest later P e f g = f e
from-step false q first rs held_rest later P e f g = g e

from-first : (whole front block rest : List TraceLine) (run : Run) (n m : ℕ) (first : Request) (later : List Request) → whole ≡ front ++ (block ++ rest) → n ≡ 1 + length front → m ≡ n + length block → AreRequests block
    → held (requests_from n block) run ≡ first ∷ later → up_to_barrier first.number (drop (first.number - 1) whole) ≡ (first ∷ later) ++ up_to_barrier m rest
from-first whole front [] rest run n m first later e f g r h = cc
from-first whole front (Read line ∷ block) rest run n m first later e f g r h =
    let q : Request = record { number = n; line = line; kind = Reads } in
    from-step (is_served n run) q first (requests_from (suc n) block) (held (requests_from (suc n) block) run) later _ h
    (λ k. from-first whole (front ++ Read line ∷ []) block rest run (suc n) m first later (e ∙ sym (append_assoc front (Read line ∷ []) (block ++ rest))) (omega (arith, f, length-append front (Read line ∷ []))) (omega (arith, g)) r k)
    (λ k. from-here whole front block rest (Read line) run n m q first later e f (omega (arith, g)) refl (λ l. refl) r k)
from-first whole front (Write line bytes ∷ block) rest run n m first later e f g r h =
    let q : Request = record { number = n; line = line; kind = Writes } in
    from-step (is_served n run) q first (requests_from (suc n) block) (held (requests_from (suc n) block) run) later _ h
    (λ k. from-first whole (front ++ Write line bytes ∷ []) block rest run (suc n) m first later (e ∙ sym (append_assoc front (Write line bytes ∷ []) (block ++ rest))) (omega (arith, f, length-append front (Write line bytes ∷ []))) (omega (arith, g)) r k)
    (λ k. from-here whole front block rest (Write line bytes) run n m q first later e f (omega (arith, g)) refl (λ l. refl) r k)
from-first whole front (Flip line device bit ∷ block) rest run n m first later e f g r h = absurd r
from-first whole front (Idle clocks ∷ block) rest run n m first later e f g r h = absurd r

-- more requests behind the first unserved one
front-step : (b : Bool) (q first : Request) (rs ready_rest ready_more held_rest held_more later more : List Request) → cond b held_rest (q ∷ rs) ≡ first ∷ later
    → (held_rest ≡ first ∷ later → (ready_more ≡ ready_rest) × (held_more ≡ (first ∷ later) ++ more))
    → (cond b (q ∷ ready_more) [] ≡ cond b (q ∷ ready_rest) []) × (cond b held_more (q ∷ (rs ++ more)) ≡ (first ∷ later) ++ more)
front-step true q first rs ready_rest ready_more held_rest held_more later more e f = let k = f e in (ap (λ l. q ∷ l) k.0, k.1)
front-step false q first rs ready_rest ready_more held_rest held_more later more e f = (refl, ap (λ l. l ++ more) e)

front : (rs more : List Request) (run : Run) (first : Request) (later : List Request) → held rs run ≡ first ∷ later → (ready (rs ++ more) run ≡ ready rs run) × (held (rs ++ more) run ≡ (first ∷ later) ++ more)
front [] more run first later e = cc
front (q ∷ rs) more run first later e =
    front-step (is_served q.number run) q first rs (ready rs run) (ready (rs ++ more) run) (held rs run) (held (rs ++ more) run) later more e (front rs more run first later)

ready-whole : (rs : List Request) (run : Run) → held rs run ≡ [] → ready rs run ≡ rs
ready-whole rs run e = sym (append-nil (ready rs run)) ∙ ap (λ l. ready rs run ++ l) (sym e) ∙ ready-held rs run

past-step : (b : Bool) (q : Request) (rs ready_rs ready_more more : List Request) → cond b (q ∷ ready_rs) [] ≡ q ∷ rs → (ready_rs ≡ rs → ready_more ≡ rs ++ more) → cond b (q ∷ ready_more) [] ≡ q ∷ (rs ++ more)
past-step true q rs ready_rs ready_more more e f = ap (λ l. q ∷ l) (f cc)
past-step false q rs ready_rs ready_more more e f = cc

ready-past : (rs more : List Request) (run : Run) → ready rs run ≡ rs → ready (rs ++ more) run ≡ rs ++ ready more run
ready-past [] more run e = refl
ready-past (q ∷ rs) more run e = past-step (is_served q.number run) q rs (ready rs run) (ready (rs ++ more) run) (ready more run) e (ready-past rs more run)

-- Where all requests of the passed lines are served and one of the block is not, the reach ends with the block and what
-- follows it up to the next barrier.
pub reaches : (trace passed block rest : List TraceLine) (run : Run) (first : Request) (later : List Request) → trace ≡ passed ++ (block ++ rest) → AreRequests block → held (requests passed) run ≡ []
    → held (requests_from (1 + length passed) block) run ≡ first ∷ later
    → reach trace run ≡ (requests passed ++ requests_from (1 + length passed) block) ++ up_to_barrier (1 + length passed + length block) rest
reaches trace passed block rest run first later e r done some =
    let n : ℕ = 1 + length passed in
    let m : ℕ = n + length block in
    let rp : List Request = requests passed in
    let rb : List Request = requests_from n block in
    let rr : List Request = requests_from m rest in
    let all : requests trace ≡ rp ++ (rb ++ rr) = ap requests e ∙ requests-append 1 passed (block ++ rest) n refl ∙ ap (λ l. rp ++ l) (requests-append n block rest m refl) in
    let whole : ready rp run ≡ rp = ready-whole rp run done in
    let f = front rb rr run first later some in
    let ready_is : ready (requests trace) run ≡ rp ++ ready rb run = ap (λ l. ready l run) all ∙ ready-past rp (rb ++ rr) run whole ∙ ap (λ l. rp ++ l) f.0 in
    let held_is : held (requests trace) run ≡ first ∷ (later ++ rr) = ap (λ l. held l run) all ∙ held-past rp (rb ++ rr) run whole ∙ f.1 in
    let up : List Request = up_to_barrier m rest in
    ap (λ l. l ++ block_from trace (held (requests trace) run)) ready_is
    ∙ ap (λ l. (rp ++ ready rb run) ++ block_from trace l) held_is
    ∙ ap (λ l. (rp ++ ready rb run) ++ l) (from-first trace passed block rest run n m first later e refl refl r some)
    ∙ sym (append_assoc (rp ++ ready rb run) (first ∷ later) up)
    ∙ ap (λ l. l ++ up) (append_assoc rp (ready rb run) (first ∷ later) ∙ ap (λ l. rp ++ (ready rb run ++ l)) (sym some) ∙ ap (λ l. rp ++ l) (ready-held rb run))
