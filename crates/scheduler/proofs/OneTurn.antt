-- The policy leaves one turn.
use Rattle.std.proofs.Common.{◌≡◌, ◌∙◌, ℕ, ◌+◌, ◌/◌, ◌<◌, ◌≤◌, ◌&&◌, ◌⊎◌, inl, inr, Bool, true, false, Option, Some, None, List, [], ◌∷◌, length, max, slice_get, IsSome, cond, refl, sym, ap, subst, arith}
use Rattle.std.specs.Prelude.{pos, ◌-ℤ◌, ◌≤ℤ◌, ◌<ℤ◌}
use Rattle.std.proofs.lemmas.Int.{ints}
use Rattle.command_words.specs.declared.command.Command.{Command}
use Rattle.command_words.specs.declared.command.Command.TheVariants.{Mrw, PreAb, RfmAb, RfmSb}
use Rattle.command_words.specs.declared.command.Mrw.{Mrw as Write}
use Rattle.speed_bin.specs.Counters.{is_row}
use Rattle.speed_bin.specs.Log.{Log, open_at, refs}
use Rattle.speed_bin.specs.Registers.{register_writes}
use Rattle.speed_bin.specs.Rules.{all_closed, is_wanted}
use Rattle.speed_bin.specs.declared.header.Header.{Header}
use Rattle.speed_bin.specs.declared.settings.RefreshMode.{RefreshMode}
use Rattle.refresh_plan.specs.Debts.{IsMostBehind}
use Rattle.requests.specs.Choice.{IsSoonest}
use Rattle.requests.specs.Owed.{owed}
use Rattle.requests.specs.Queue.{Step, places, waiting, in_bank, hits, oldest}
use Rattle.requests.specs.declared.request.Request.{Request}
use Rattle.requests.specs.declared.waiting.Waiting.{Waiting}
use Rattle.requests.proofs.Queue.{Rising, rising-waiting}
use Rattle.deadlines.specs.Tasks.{task_covers, precharge_of, command_of}
use Rattle.deadlines.specs.Turns.{IsNextDue}
use Rattle.deadlines.specs.declared.task.Task.{Task}
use Rattle.deadlines.specs.declared.task.Task.TheVariants.{RefSame, RfmSame}
use Rattle.speed_bin.proofs.Tests.{both}
use Rattle.scheduler.specs.Choice.{IsLess, command_for, rank}
use Rattle.scheduler.specs.Policy.{Hidden, after_command, IssuesSoonest, WritesRegister, Candidate, Asks, IsFirst, Chooses, e0_of, IsRefresh, IsFirstWanted, Sets, SetsScrub, SetsRefresh, SetsManagement, SetsNone, Decides, BacksOff, GoesOn, SetsTask, is_owed_for, NoneOwed, number_for, IssuesFor, ServesTask, PaysColumn, Shuts, EndsTask, RestsAt, Idles, ShutsAll, IsOver, Acts, IsTurn, Starts, Follows, every_bank}
use Rattle.scheduler.specs.declared.choice.Class.{Class}
use Rattle.scheduler.specs.declared.choice.Class.TheVariants.{Column, Activate, Precharge}
use Rattle.scheduler.specs.declared.task.Errand.{Errand}
use Rattle.scheduler.specs.declared.turn.Turn.{Turn}
use Rattle.scheduler.specs.declared.turn.Turn.TheVariants.{Issue}
use Rattle.scheduler.proofs.Tasked.{wanted_all}
use Rattle.scheduler.proofs.Tools.{le_or_gt}

pub record SameTurn (turn other : Turn) (next later : Hidden) : Type 0 where
  pub answer : turn ≡ other
  pub kept : next ≡ later

-- ---- Numbers

one_number : (a b : ℕ) → (a < b → ⊥) → (b < a → ⊥) → a ≡ b
one_number a b f g = go (le_or_gt a b) (le_or_gt b a)
  where
    go : (a ≤ b) ⊎ (b < a) → (b ≤ a) ⊎ (a < b) → a ≡ b
    go (inl l) (inl k) = omega (arith, l, k)
    go (inl l) (inr k) = absurd (f k)
    go (inr l) (inl k) = absurd (g l)
    go (inr l) (inr k) = absurd (f k)

record SameKey (t r i t' r' i' : ℕ) : Type 0 where
  clock : t ≡ t'
  class : r ≡ r'
  id : i ≡ i'

same_key : (t r i t' r' i' : ℕ) → (IsLess t r i t' r' i' → ⊥) → (IsLess t' r' i' t r i → ⊥) → SameKey t r i t' r' i'
same_key t r i t' r' i' f g =
    let e : t ≡ t' = one_number t t' (λ l. f (inl l)) (λ l. g (inl l)) in
    let k : r ≡ r' = one_number r r' (λ l. f (inr (e, inl l))) (λ l. g (inr (sym e, inl l))) in
    let m : i ≡ i' = one_number i i' (λ l. f (inr (e, inr (k, l)))) (λ l. g (inr (sym e, inr (sym k, l)))) in
    record { clock = e; class = k; id = m }

one_soonest : (h : Header) (log : Log) (from : ℕ) (command : Command) (t u : ℕ) → IsSoonest h log from command t → IsSoonest h log from command u → t ≡ u
one_soonest h log from command t u x y = let p = x.least u y.not_before y.follows in let q = y.least t x.not_before x.follows in omega (arith, p, q)

-- ---- A command

same_soonest : (h : Header) (log : Log) (from : ℕ) (command : Command) (s : Hidden) (left : Option Task) (turn other : Turn) (next later : Hidden) → IssuesSoonest h log from command s left turn next → IssuesSoonest h log from command s left other later → SameTurn turn other next later
same_soonest h log from command s left turn other next later x y =
    let e = one_soonest h log from command x.clock y.clock x.soonest y.soonest in record {
      answer = x.issues ∙ ap (λ (n : ℕ). Issue n command None) e ∙ sym y.issues;
      kept = x.leaves ∙ ap (λ (n : ℕ). after_command s n left) e ∙ sym y.leaves;
    }

some_write : (o : Option Write) (v w : Write) → o ≡ Some v → o ≡ Some w → v ≡ w
some_write o v w e f = cc

one_write : (h : Header) (s : Hidden) (log : Log) (turn other : Turn) (next later : Hidden) → WritesRegister h s log turn next → WritesRegister h s log other later → SameTurn turn other next later
one_write h s log turn other next later x y =
    let e = some_write (slice_get (register_writes h.settings) (length log)) x.write y.write x.due y.due in
    same_soonest h log s.from (Mrw y.write) s None turn other next later (subst (λ (w : Write). IssuesSoonest h log s.from (Mrw w) s None turn next) e x.issues) y.issues

-- ---- Candidates

-- requests whose numbers rise are known by them
number_from : (t : Waiting → Bool) (n m : ℕ) (ws : List Waiting) (w : Waiting) → Rising n m ws → oldest t ws ≡ Some w → n ≤ w.id
number_from t n m [] w r e = cc
number_from t n m (x ∷ ws) w r e = go (t x) e (λ f. number_from t (x.id + 1) m ws w r.2 f)
  where
    go : (a : Bool) → cond a (Some x) (oldest t ws) ≡ Some w → (oldest t ws ≡ Some w → x.id + 1 ≤ w.id) → n ≤ w.id
    go true p ih = let k : x ≡ w = cc in let i = ap (λ (v : Waiting). v.id) k in let le = r.0 in omega (arith, le, i)
    go false p ih = let k = ih p in let le = r.0 in omega (arith, le, k)

same_request : (t u : Waiting → Bool) (n m : ℕ) (ws : List Waiting) (w v : Waiting) → Rising n m ws → oldest t ws ≡ Some w → oldest u ws ≡ Some v → w.id ≡ v.id → w ≡ v
same_request t u n m [] w v r e f s = cc
same_request t u n m (x ∷ ws) w v r e f s = go (t x) (u x) e f (λ p q. same_request t u (x.id + 1) m ws w v r.2 p q s)
  where
    go : (a b : Bool) → cond a (Some x) (oldest t ws) ≡ Some w → cond b (Some x) (oldest u ws) ≡ Some v → (oldest t ws ≡ Some w → oldest u ws ≡ Some v → w ≡ v) → w ≡ v
    go true true p q ih = cc (p, q)
    go true false p q ih = let k : x ≡ w = cc in let i = ap (λ (y : Waiting). y.id) k in let l = number_from u (x.id + 1) m ws v r.2 q in absurd (omega (arith, i, l, s))
    go false true p q ih = let k : x ≡ v = cc in let i = ap (λ (y : Waiting). y.id) k in let l = number_from t (x.id + 1) m ws w r.2 p in absurd (omega (arith, i, l, s))
    go false false p q ih = ih p q

-- the test that what is asked for is the oldest of
record OldestOf (ws : List Waiting) (w : Waiting) : Type 0 where
  test : Waiting → Bool
  is : oldest test ws ≡ Some w

oldest_of : (k : Class) (ws : List Waiting) (log : Log) (b : ℕ) (w : Waiting) → Asks k ws log b w → OldestOf ws w
oldest_of Column ws log b w a = record { test = hits b (open_at b log); is = a }
oldest_of Activate ws log b w a = record { test = in_bank b; is = a.1 }
oldest_of Precharge ws log b w a = record { test = in_bank b; is = a.2 }

one_class : (k l : Class) → rank k ≡ rank l → k ≡ l
one_class Column Column e = refl
one_class Column Activate e = let f : 0 ≡ 1 = e in absurd (omega (arith, f))
one_class Column Precharge e = let f : 0 ≡ 2 = e in absurd (omega (arith, f))
one_class Activate Column e = let f : 1 ≡ 0 = e in absurd (omega (arith, f))
one_class Activate Activate e = refl
one_class Activate Precharge e = let f : 1 ≡ 2 = e in absurd (omega (arith, f))
one_class Precharge Column e = let f : 2 ≡ 0 = e in absurd (omega (arith, f))
one_class Precharge Activate e = let f : 2 ≡ 1 = e in absurd (omega (arith, f))
one_class Precharge Precharge e = refl

abbrev candidate : Class → Waiting → ℕ → Candidate
candidate k w n = record { need = k; request = w; clock = n }

same_candidate : (a b : Candidate) → a.need ≡ b.need → a.request ≡ b.request → a.clock ≡ b.clock → a ≡ b
same_candidate a b e f g =
    ap (λ (k : Class). candidate k a.request a.clock) e ∙ ap (λ (w : Waiting). candidate b.need w a.clock) f ∙ ap (λ (n : ℕ). candidate b.need b.request n) g

one_first : (h : Header) (n m : ℕ) (ws : List Waiting) (log : Log) (from : ℕ) (asked : ℕ → Bool) (a b : Candidate) → Rising n m ws → IsFirst h ws log from asked a → IsFirst h ws log from asked b → a ≡ b
one_first h n m ws log from asked a b r x y =
    let k = same_key a.clock (rank a.need) a.request.id b.clock (rank b.need) b.request.id (y.first x.bank x.low x.is_asked a x.own) (x.first y.bank y.low y.is_asked b y.own) in
    let p = oldest_of a.need ws log x.bank a.request x.own.asks in
    let q = oldest_of b.need ws log y.bank b.request y.own.asks in
    same_candidate a b (one_class a.need b.need k.class) (same_request p.test q.test n m ws a.request b.request r p.is q.is k.id) k.clock

-- a bank of which no request waits asks for nothing
none_hit : (b : ℕ) (o : Option ℕ) (ws : List Waiting) (w : Waiting) → oldest (in_bank b) ws ≡ None → oldest (hits b o) ws ≡ Some w → ⊥
none_hit b o [] w e f = cc
none_hit b o (v ∷ ws) w e f = go (in_bank b v) e f (λ p q. none_hit b o ws w p q)
  where
    go : (t : Bool) → cond t (Some v) (oldest (in_bank b) ws) ≡ None → cond (t && is_row o v.place.row) (Some v) (oldest (hits b o) ws) ≡ Some w → (oldest (in_bank b) ws ≡ None → oldest (hits b o) ws ≡ Some w → ⊥) → ⊥
    go true p q ih = cc
    go false p q ih = ih p q

asks_none : (k : Class) (ws : List Waiting) (log : Log) (b : ℕ) (w : Waiting) → Asks k ws log b w → oldest (in_bank b) ws ≡ None → ⊥
asks_none Column ws log b w a e = none_hit b (open_at b log) ws w e a
asks_none Activate ws log b w a e = let f = a.1 in cc
asks_none Precharge ws log b w a e = let f = a.2 in cc

one_choice : (h : Header) (n m : ℕ) (ws : List Waiting) (log : Log) (from : ℕ) (asked : ℕ → Bool) (o p : Option Candidate) → Rising n m ws → Chooses h ws log from asked o → Chooses h ws log from asked p → o ≡ p
one_choice h n m ws log from asked None None r x y = refl
one_choice h n m ws log from asked None (Some b) r x y = absurd (asks_none b.need ws log y.bank b.request y.own.asks (x y.bank y.low y.is_asked))
one_choice h n m ws log from asked (Some a) None r x y = absurd (asks_none a.need ws log x.bank a.request x.own.asks (y x.bank x.low x.is_asked))
one_choice h n m ws log from asked (Some a) (Some b) r x y = ap (λ (c : Candidate). Some c) (one_first h n m ws log from asked a b r x y)

same_for : (a b : Candidate) (s : Hidden) (left : Option Task) (turn other : Turn) (next later : Hidden) → a ≡ b → IssuesFor a s left turn next → IssuesFor b s left other later → SameTurn turn other next later
same_for a b s left turn other next later e x y = record {
  answer = x.issues ∙ ap (λ (c : Candidate). Issue c.clock (command_for c.need c.request) (number_for c.need c.request)) e ∙ sym y.issues;
  kept = x.leaves ∙ ap (λ (c : Candidate). after_command s c.clock left) e ∙ sym y.leaves;
}

-- ---- What is due

one_next : (h : Header) (log : Log) (d e : ℕ) → IsNextDue h log d → IsNextDue h log e → d ≡ e
one_next h log d e x y = one_number d e (λ l. let k = (x d).1 ((y d).0 l) in omega (arith, k)) (λ l. let k = (y e).1 ((x e).0 l) in omega (arith, k))

never_both : (p a b : ℕ) → (pos p -ℤ pos a) <ℤ (pos p -ℤ pos b) → (pos p -ℤ pos b) ≤ℤ (pos p -ℤ pos a) → 1 ≤ 0
never_both p a b l k = omega (arith, ints)

never_before : (h : Header) (clock : ℕ) (log : Log) (a b : ℕ) → a < b → IsMostBehind h clock log a → IsMostBehind h clock log b → ⊥
never_before h clock log a b l x y = let never = never_both (clock / h.timing.nrefi) (refs a log) (refs b log) (y.first a l) (x.greatest b y.in_range) in omega (arith, never)

one_behind : (h : Header) (clock : ℕ) (log : Log) (a b : ℕ) → IsMostBehind h clock log a → IsMostBehind h clock log b → a ≡ b
one_behind h clock log a b x y = one_number a b (λ l. never_before h clock log a b l x y) (λ l. never_before h clock log b a l y x)

one_refresh : (mode : RefreshMode) (h : Header) (clock : ℕ) (log : Log) (t u : Task) → IsRefresh mode h clock log t → IsRefresh mode h clock log u → t ≡ u
one_refresh RefreshMode.All h clock log t u x y = x ∙ sym y
one_refresh RefreshMode.Same h clock log t u x y = x.2 ∙ ap (λ (a : ℕ). RefSame a) (one_behind h clock log x.0 y.0 x.1 y.1) ∙ sym y.2

true_false : (t : Bool) → t ≡ true → t ≡ false → ⊥
true_false true e f = cc
true_false false e f = cc

one_wanted : (h : Header) (log : Log) (a b : ℕ) → IsFirstWanted h log a → IsFirstWanted h log b → a ≡ b
one_wanted h log a b x y = one_number a b (λ l. true_false (is_wanted h (RfmSb a) log) x.wanted (y.first a l)) (λ l. true_false (is_wanted h (RfmSb b) log) y.wanted (x.first b l))

never_wanted : (h : Header) (log : Log) (a : ℕ) → IsFirstWanted h log a → is_wanted h RfmAb log ≡ false → ⊥
never_wanted h log a x none = true_false (is_wanted h RfmAb log) (wanted_all h a log x.wanted) none

abbrev errand : Task → ℕ → Option Errand
errand task start = Some (record { task = task; start = start })

one_set : (h : Header) (log : Log) (now e0 : ℕ) (o p : Option Errand) → Sets h log now e0 o → Sets h log now e0 p → o ≡ p
one_set h log now e0 o p (SetsScrub d e) (SetsScrub d' e') = e ∙ sym e'
one_set h log now e0 o p (SetsScrub d e) (SetsRefresh t' u' n' i' r' k' e') = absurd (n' d)
one_set h log now e0 o p (SetsScrub d e) (SetsManagement a' n' i' w' e') = absurd (n' d)
one_set h log now e0 o p (SetsScrub d e) (SetsNone n' i' w' e') = absurd (n' d)
one_set h log now e0 o p (SetsRefresh t u n i r k e) (SetsScrub d' e') = absurd (n d')
one_set h log now e0 o p (SetsRefresh t u n i r k e) (SetsRefresh t' u' n' i' r' k' e') =
    let f = one_refresh h.settings.refresh h e0 log t t' r r' in
    let g = one_next h log u u' k k' in
    e ∙ ap (λ (x : Task). errand x (max now u)) f ∙ ap (λ (x : ℕ). errand t' (max now x)) g ∙ sym e'
one_set h log now e0 o p (SetsRefresh t u n i r k e) (SetsManagement a' n' i' w' e') = absurd (i i')
one_set h log now e0 o p (SetsRefresh t u n i r k e) (SetsNone n' i' w' e') = absurd (i i')
one_set h log now e0 o p (SetsManagement a n i w e) (SetsScrub d' e') = absurd (n d')
one_set h log now e0 o p (SetsManagement a n i w e) (SetsRefresh t' u' n' i' r' k' e') = absurd (i' i)
one_set h log now e0 o p (SetsManagement a n i w e) (SetsManagement a' n' i' w' e') = e ∙ ap (λ (x : ℕ). errand (RfmSame x) now) (one_wanted h log a a' w w') ∙ sym e'
one_set h log now e0 o p (SetsManagement a n i w e) (SetsNone n' i' w' e') = absurd (never_wanted h log a w w')
one_set h log now e0 o p (SetsNone n i w e) (SetsScrub d' e') = absurd (n d')
one_set h log now e0 o p (SetsNone n i w e) (SetsRefresh t' u' n' i' r' k' e') = absurd (i' i)
one_set h log now e0 o p (SetsNone n i w e) (SetsManagement a' n' i' w' e') = absurd (never_wanted h log a' w' w)
one_set h log now e0 o p (SetsNone n i w e) (SetsNone n' i' w' e') = e ∙ sym e'

some_task : (o : Option Task) (t u : Task) → o ≡ Some t → o ≡ Some u → t ≡ u
some_task o t u e f = cc

not_none : (o : Option Task) (t : Task) → o ≡ Some t → o ≡ None → ⊥
not_none o t e f = cc

one_decision : (h : Header) (s : Hidden) (ws : List Waiting) (log : Log) (e0 : ℕ) (o p : Option Errand) → Decides h s ws log e0 o → Decides h s ws log e0 p → o ≡ p
one_decision h s ws log e0 o p (BacksOff r a i e) (BacksOff r' a' i' e') = e ∙ sym e'
one_decision h s ws log e0 o p (BacksOff r a i e) (GoesOn t' u' g' e') = absurd (u' r a i)
one_decision h s ws log e0 o p (BacksOff r a i e) (SetsTask u' g' x') = absurd (u' r a i)
one_decision h s ws log e0 o p (GoesOn t u g e) (BacksOff r' a' i' e') = absurd (u r' a' i')
one_decision h s ws log e0 o p (GoesOn t u g e) (GoesOn t' u' g' e') = e ∙ ap (λ (x : Task). errand x s.from) (some_task s.task t t' g g') ∙ sym e'
one_decision h s ws log e0 o p (GoesOn t u g e) (SetsTask u' g' x') = absurd (not_none s.task t g g')
one_decision h s ws log e0 o p (SetsTask u g x) (BacksOff r' a' i' e') = absurd (u r' a' i')
one_decision h s ws log e0 o p (SetsTask u g x) (GoesOn t' u' g' e') = absurd (not_none s.task t' g' g)
one_decision h s ws log e0 o p (SetsTask u g x) (SetsTask u' g' x') = one_set h log s.from e0 o p x x'

-- ---- Serving a task

-- an owed bank that the task covers, where it covers none
never_paid : (task : Task) (log : Log) (b : ℕ) → b < 32 → is_owed_for task log b ≡ true → NoneOwed task log → ⊥
never_paid task log b low e none = let k = both (owed b log) (task_covers task b) e in true_false (owed b log) k.0 (none b low k.1)

never_closed : (o : Option ℕ) → IsSome o → o ≡ None → ⊥
never_closed None e f = cc
never_closed (Some x) e f = cc

one_service : (h : Header) (s : Hidden) (n m : ℕ) (ws : List Waiting) (log : Log) (served : Errand) (turn other : Turn) (next later : Hidden) → Rising n m ws → ServesTask h s ws log served turn next → ServesTask h s ws log served other later → SameTurn turn other next later
one_service h s n m ws log served turn other next later r (PaysColumn a f k i) (PaysColumn a' f' k' i') = same_for a a' s (Some served.task) turn other next later (one_first h n m ws log served.start (is_owed_for served.task log) a a' r f f') i i'
one_service h s n m ws log served turn other next later r (PaysColumn a f k i) (Shuts p' o' i') = absurd (never_paid served.task log f.bank f.low f.is_asked p')
one_service h s n m ws log served turn other next later r (PaysColumn a f k i) (EndsTask p' c' i') = absurd (never_paid served.task log f.bank f.low f.is_asked p')
one_service h s n m ws log served turn other next later r (Shuts p o i) (PaysColumn a' f' k' i') = absurd (never_paid served.task log f'.bank f'.low f'.is_asked p)
one_service h s n m ws log served turn other next later r (Shuts p o i) (Shuts p' o' i') = same_soonest h log served.start (precharge_of served.task) s (Some served.task) turn other next later i i'
one_service h s n m ws log served turn other next later r (Shuts p o i) (EndsTask p' c' i') = absurd (never_closed (open_at o.bank log) o.is_open (c' o.bank o.low o.covered))
one_service h s n m ws log served turn other next later r (EndsTask p c i) (PaysColumn a' f' k' i') = absurd (never_paid served.task log f'.bank f'.low f'.is_asked p)
one_service h s n m ws log served turn other next later r (EndsTask p c i) (Shuts p' o' i') = absurd (never_closed (open_at o'.bank log) o'.is_open (c o'.bank o'.low o'.covered))
one_service h s n m ws log served turn other next later r (EndsTask p c i) (EndsTask p' c' i') = same_soonest h log served.start (command_of served.task) s None turn other next later i i'

-- ---- Nothing to do

one_rest : (h : Header) (s : Hidden) (log : Log) (turn other : Turn) (next later : Hidden) → RestsAt h s log turn next → RestsAt h s log other later → SameTurn turn other next later
one_rest h s log turn other next later (Idles f t k) (Idles f' t' k') = record { answer = t ∙ sym t'; kept = k ∙ sym k' }
one_rest h s log turn other next later (Idles f t k) (ShutsAll f' c' i') = absurd (true_false s.finished f' f)
one_rest h s log turn other next later (Idles f t k) (IsOver f' c' t' k') = absurd (true_false s.finished f' f)
one_rest h s log turn other next later (ShutsAll f c i) (Idles f' t' k') = absurd (true_false s.finished f f')
one_rest h s log turn other next later (ShutsAll f c i) (ShutsAll f' c' i') = same_soonest h log (max s.from s.until) PreAb s None turn other next later i i'
one_rest h s log turn other next later (ShutsAll f c i) (IsOver f' c' t' k') = absurd (true_false (all_closed log) c' c)
one_rest h s log turn other next later (IsOver f c t k) (Idles f' t' k') = absurd (true_false s.finished f f')
one_rest h s log turn other next later (IsOver f c t k) (ShutsAll f' c' i') = absurd (true_false (all_closed log) c c')
one_rest h s log turn other next later (IsOver f c t k) (IsOver f' c' t' k') = record { answer = t ∙ sym t'; kept = k ∙ sym k' }

-- ---- A turn

one_act : (o : Option Errand) (choice : Option Candidate) (h : Header) (s : Hidden) (n m : ℕ) (ws : List Waiting) (log : Log) (turn other : Turn) (next later : Hidden) → Rising n m ws → Acts o choice h s ws log turn next → Acts o choice h s ws log other later → SameTurn turn other next later
one_act (Some served) choice h s n m ws log turn other next later r x y = one_service h s n m ws log served turn other next later r x y
one_act None (Some a) h s n m ws log turn other next later r x y = same_for a a s None turn other next later refl x y
one_act None None h s n m ws log turn other next later r x y = one_rest h s log turn other next later x y

one_of : (h : Header) (s : Hidden) (n m : ℕ) (ws : List Waiting) (log : Log) (turn other : Turn) (next later : Hidden) → Rising n m ws → IsTurn h s ws log turn next → IsTurn h s ws log other later → SameTurn turn other next later
one_of h s n m ws log turn other next later r (Starts x) (Starts y) = one_write h s log turn other next later x y
one_of h s n m ws log turn other next later r (Starts x) (Follows c' o' started' i' d' a') = let few = x.few in absurd (omega (arith, few, started'))
one_of h s n m ws log turn other next later r (Follows c o started i d a) (Starts y) = let few = y.few in absurd (omega (arith, few, started))
one_of h s n m ws log turn other next later r (Follows c o started i d a) (Follows c' o' started' i' d' a') =
    let e = one_choice h n m ws log s.from every_bank c c' r i i' in
    let f = one_decision h s ws log (e0_of c s) o o' d (subst (λ (x : Option Candidate). Decides h s ws log (e0_of x s) o') (sym e) d') in
    one_act o c h s n m ws log turn other next later r a
    (subst (λ (x : Option Errand). Acts x c h s ws log other later) (sym f) (subst (λ (x : Option Candidate). Acts o' x h s ws log other later) (sym e) a'))

pub one_turn : (h : Header) (s : Hidden) (offered : List Request) (log : List Step) (turn other : Turn) (next later : Hidden) → IsTurn h s (waiting h offered log) (places log) turn next → IsTurn h s (waiting h offered log) (places log) other later → SameTurn turn other next later
one_turn h s offered log turn other next later x y = one_of h s 1 (length offered + 1) (waiting h offered log) (places log) turn other next later (rising-waiting h offered log) x y
