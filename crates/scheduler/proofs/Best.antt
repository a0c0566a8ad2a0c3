-- The best of the banks' candidates.
use Rattle.std.proofs.Common.{◌≡◌, ◌∙◌, ℕ, ◌+◌, ◌<◌, ◌≤◌, ◌⊎◌, inl, inr, Bool, true, Option, Some, None, List, slice_get, IfSome, IfNone, refl, sym, subst, arith}
use Rattle.speed_bin.specs.Log.{Log, open_at}
use Rattle.speed_bin.specs.Rules.{MayFollow}
use Rattle.speed_bin.specs.declared.header.Header.{Header}
use Rattle.requests.specs.declared.waiting.Waiting.{Waiting}
use Rattle.requests.specs.Queue.{in_bank, hits}
use Rattle.scheduler.specs.Board.{first_at}
use Rattle.scheduler.specs.declared.choice.Class.{Class}
use Rattle.scheduler.specs.declared.choice.Class.TheVariants.{Column, Activate, Precharge}
use Rattle.scheduler.specs.declared.choice.Candidate.{Candidate}
use Rattle.scheduler.specs.Choice.{Wants, IsCandidate, IsLess, IsBefore, IsBetterOf, IsBestBelow, rank, command_for, is_asked}
use Rattle.scheduler.proofs.First.{no_hit, not_asked}

pub never_less : (t r i : ℕ) → IsLess t r i t r i → ⊥
never_less t r i (inl h) = omega arith
never_less t r i (inr (e, inl h)) = omega arith
never_less t r i (inr (e, inr (f, h))) = omega arith

pub less_less : (t r i t' r' i' t'' r'' i'' : ℕ) → IsLess t r i t' r' i' → IsLess t' r' i' t'' r'' i'' → IsLess t r i t'' r'' i''
less_less t r i t' r' i' t'' r'' i'' (inl a) (inl b) = inl (omega arith)
less_less t r i t' r' i' t'' r'' i'' (inl a) (inr (e, b)) = inl (omega arith)
less_less t r i t' r' i' t'' r'' i'' (inr (e, a)) (inl b) = inl (omega arith)
less_less t r i t' r' i' t'' r'' i'' (inr (e, inl a)) (inr (f, inl b)) = inr (e ∙ f, inl (omega arith))
less_less t r i t' r' i' t'' r'' i'' (inr (e, inl a)) (inr (f, inr (g, b))) = inr (e ∙ f, inl (omega arith))
less_less t r i t' r' i' t'' r'' i'' (inr (e, inr (d, a))) (inr (f, inl b)) = inr (e ∙ f, inl (omega arith))
less_less t r i t' r' i' t'' r'' i'' (inr (e, inr (d, a))) (inr (f, inr (g, b))) = inr (e ∙ f, inr (d ∙ g, omega arith))

-- what comes before something has no later clock
pub no_later : (t r i t' r' i' : ℕ) → IsLess t r i t' r' i' → t ≤ t'
no_later t r i t' r' i' (inl a) = omega arith
no_later t r i t' r' i' (inr (e, a)) = omega (arith, e)

pub not_later : (t r i t' r' i' : ℕ) → (IsLess t r i t' r' i' → ⊥) → t' ≤ t
not_later t r i t' r' i' h = go (le_or t' t)
  where
    le_or : (a b : ℕ) → (a ≤ b) ⊎ (b < a)
    le_or a b = grind arith

    go : (t' ≤ t) ⊎ (t < t') → t' ≤ t
    go (inl l) = l
    go (inr l) = absurd (h (inl l))

pub record SameWish (k l : Class) (at at' : ℕ) : Type 0 where
  pub class : k ≡ l
  pub place : at ≡ at'

hit_none : (b at : ℕ) (ws : List Waiting) (o : Option ℕ) → o ≡ None → first_at (hits b o) ws ≡ Some at → ⊥
hit_none b at ws o e f = let g : first_at (hits b None) ws ≡ Some at = subst (λ (p : Option ℕ). first_at (hits b p) ws ≡ Some at) e f in let h = no_hit 0 b ws in cc (g, h)

none_some : (o : Option ℕ) → o ≡ None → Rattle.std.specs.Option.IsSome o → ⊥
none_some None e h = cc
none_some (Some x) e h = cc

pub same_wish : (k l : Class) (ws : List Waiting) (b at at' : ℕ) (log : Log) → Wants k ws b log at → Wants l ws b log at' → SameWish k l at at'
same_wish Column Column ws b at at' log h g = record { class = refl; place = cc }
same_wish Column Activate ws b at at' log h g = absurd (hit_none b at ws (open_at b log) g.0 h)
same_wish Column Precharge ws b at at' log h g = let f = g.1 in absurd (cc)
same_wish Activate Column ws b at at' log h g = absurd (hit_none b at' ws (open_at b log) h.0 g)
same_wish Activate Activate ws b at at' log h g = record { class = refl; place = cc (h.1, g.1) }
same_wish Activate Precharge ws b at at' log h g = absurd (none_some (open_at b log) h.0 g.0)
same_wish Precharge Column ws b at at' log h g = let f = h.1 in absurd (cc)
same_wish Precharge Activate ws b at at' log h g = absurd (none_some (open_at b log) g.0 h.0)
same_wish Precharge Precharge ws b at at' log h g = record { class = refl; place = cc (h.2, g.2) }

pub record SameKey (c d : Candidate) : Type 0 where
  pub clock : c.clock ≡ d.clock
  pub class : c.class ≡ d.class
  pub id : c.id ≡ d.id

pub same_key : (h : Header) (ws : List Waiting) (log : Log) (from : ℕ) (asked : List Bool) (b : ℕ) (c d : Candidate) → IsCandidate h ws log from asked b c → IsCandidate h ws log from asked b d → SameKey c d
same_key h ws log from asked b c d x y =
    let s = same_wish c.class d.class ws b c.at d.at log x.wants y.wants in
    let e : x.waiting ≡ y.waiting = cc (x.here, y.here, s.place) in
    let f : command_for c.class x.waiting ≡ command_for d.class y.waiting = cc (e, s.class) in
    let p = x.soonest.least d.clock y.soonest.not_before (subst (λ command. MayFollow h.timing d.clock command log) (sym f) y.soonest.follows) in
    let q = y.soonest.least c.clock x.soonest.not_before (subst (λ command. MayFollow h.timing c.clock command log) f x.soonest.follows) in
    record { clock = omega (arith, p, q); class = s.class; id = cc (x.number, y.number, e) }

pub before_same : (c d e : Candidate) → SameKey c d → IsBefore c e → IsBefore d e
before_same c d e s h =
    let f = subst (λ t. IsLess t (rank c.class) c.id e.clock (rank e.class) e.id) s.clock h in
    let g = subst (λ (k : Class). IsLess d.clock (rank k) c.id e.clock (rank e.class) e.id) s.class f in
    subst (λ i. IsLess d.clock (rank d.class) i e.clock (rank e.class) e.id) s.id g

-- the clock of a candidate is the least at which what its bank is in need of may be issued
pub soonest_of_bank : (h : Header) (ws : List Waiting) (log : Log) (from : ℕ) (asked : List Bool) (b : ℕ) (c : Candidate) → IsCandidate h ws log from asked b c → (class : Class) (at : ℕ) (w : Waiting) → Wants class ws b log at → slice_get ws at ≡ Some w → (clock : ℕ) → from ≤ clock → MayFollow h.timing clock (command_for class w) log → c.clock ≤ clock
soonest_of_bank h ws log from asked b c x class at w wants here clock le follows =
    let s = same_wish c.class class ws b c.at at log x.wants wants in
    let e : x.waiting ≡ w = cc (x.here, here, s.place) in
    let f : command_for c.class x.waiting ≡ command_for class w = cc (e, s.class) in
    x.soonest.least clock le (subst (λ command. MayFollow h.timing clock command log) (sym f) follows)

-- a candidate needs a request
pub asks : (ws : List Waiting) (b at : ℕ) (log : Log) (k : Class) → Wants k ws b log at → first_at (in_bank b) ws ≡ None → ⊥
asks ws b at log Column h e = let f = not_asked 0 b (open_at b log) ws e in cc
asks ws b at log Activate h e = let f = h.1 in cc
asks ws b at log Precharge h e = let f = h.2 in cc

below_or : (a b : ℕ) → a < b + 1 → (a < b) ⊎ (a ≡ b)
below_or a b h = grind arith

-- that no asked bank below n has a request
abbrev pub Silent : ℕ → List Bool → List Waiting → Type 0
Silent n asked ws = (b : ℕ) → b < n → is_asked asked b ≡ true → first_at (in_bank b) ws ≡ None

pub none_more : (n : ℕ) (asked : List Bool) (ws : List Waiting) (result best candidate : Option Candidate) → IsBetterOf result best candidate → IfNone best (Silent n asked ws) → IfNone candidate (is_asked asked n ≡ true → first_at (in_bank n) ws ≡ None) → IfNone result (Silent (n + 1) asked ws)
none_more n asked ws (Some r) best candidate is before here = tt
none_more n asked ws None None None is before here = λ b low. go b (below_or b n low)
  where
    go : (b : ℕ) → (b < n) ⊎ (b ≡ n) → is_asked asked b ≡ true → first_at (in_bank b) ws ≡ None
    go b (inl h) = before b h
    go b (inr e) = subst (λ k. is_asked asked k ≡ true → first_at (in_bank k) ws ≡ None) (sym e) here
none_more n asked ws None (Some c) None is before here = cc
none_more n asked ws None None (Some d) is before here = cc
none_more n asked ws None (Some c) (Some d) (inl h) before here = let f = h.1 in cc
none_more n asked ws None (Some c) (Some d) (inr h) before here = let f = h.1 in cc

-- what is known of a candidate beside all of one bank
pub record Beats (h : Header) (ws : List Waiting) (log : Log) (from : ℕ) (asked : List Bool) (best : Candidate) (b : ℕ) : Type 0 where
  pub least : (other : Candidate) → IsCandidate h ws log from asked b other → IsBefore other best → ⊥
  pub soonest : is_asked asked b ≡ true → (class : Class) (at : ℕ) (w : Waiting) → Wants class ws b log at → slice_get ws at ≡ Some w → (clock : ℕ) → from ≤ clock → MayFollow h.timing clock (command_for class w) log → best.clock ≤ clock

pub best_more : (n : ℕ) (h : Header) (ws : List Waiting) (log : Log) (from : ℕ) (asked : List Bool) (best : Candidate) (bank : ℕ) → bank < n + 1 → IsCandidate h ws log from asked bank best → ((b : ℕ) → b < n → Beats h ws log from asked best b) → Beats h ws log from asked best n → IsBestBelow (n + 1) h ws log from asked best
best_more n h ws log from asked best bank low i before here = record {
  bank = bank;
  low = low;
  is_candidate = i;
  least = λ b upto. (go b (below_or b n upto)).least;
  soonest = λ b upto. (go b (below_or b n upto)).soonest;
}
  where
    go : (b : ℕ) → (b < n) ⊎ (b ≡ n) → Beats h ws log from asked best b
    go b (inl l) = before b l
    go b (inr e) = subst (λ k. Beats h ws log from asked best k) (sym e) here

-- a bank that is not asked, or has no request, is no match
pub beats_silent : (h : Header) (ws : List Waiting) (log : Log) (from : ℕ) (asked : List Bool) (best : Candidate) (b : ℕ) → (is_asked asked b ≡ true → first_at (in_bank b) ws ≡ None) → Beats h ws log from asked best b
beats_silent h ws log from asked best b silent = record {
  least = λ other i less. asks ws b other.at log other.class i.wants (silent i.asks);
  soonest = λ e class at w wants here clock le follows. absurd (asks ws b at log class wants (silent e));
}

pub beats_own : (h : Header) (ws : List Waiting) (log : Log) (from : ℕ) (asked : List Bool) (c : Candidate) (b : ℕ) → IsCandidate h ws log from asked b c → Beats h ws log from asked c b
beats_own h ws log from asked c b i = record {
  least = λ other j less. never_less c.clock (rank c.class) c.id (before_same other c c (same_key h ws log from asked b other c j i) less);
  soonest = λ e class at w wants here. soonest_of_bank h ws log from asked b c i class at w wants here;
}

-- where one candidate beats a bank, so does one before it
pub beats_before : (h : Header) (ws : List Waiting) (log : Log) (from : ℕ) (asked : List Bool) (c d : Candidate) (b : ℕ) → IsBefore d c → Beats h ws log from asked c b → Beats h ws log from asked d b
beats_before h ws log from asked c d b less k = record {
  least = λ other i before. k.least other i (less_less other.clock (rank other.class) other.id d.clock (rank d.class) d.id c.clock (rank c.class) c.id before less);
  soonest = λ e class at w wants here clock le follows. let x = k.soonest e class at w wants here clock le follows in let y = no_later d.clock (rank d.class) d.id c.clock (rank c.class) c.id less in omega (arith, x, y);
}

-- a candidate that the bank's own one does not come before beats that bank
pub beats_other : (h : Header) (ws : List Waiting) (log : Log) (from : ℕ) (asked : List Bool) (c d : Candidate) (b : ℕ) → IsCandidate h ws log from asked b d → (IsBefore d c → ⊥) → Beats h ws log from asked c b
beats_other h ws log from asked c d b i not_less = record {
  least = λ other j before. not_less (before_same other d c (same_key h ws log from asked b other d j i) before);
  soonest = λ e class at w wants here clock le follows. let x = soonest_of_bank h ws log from asked b d i class at w wants here clock le follows in let y = not_later d.clock (rank d.class) d.id c.clock (rank c.class) c.id not_less in omega (arith, x, y);
}

beats_of : (n : ℕ) (h : Header) (ws : List Waiting) (log : Log) (from : ℕ) (asked : List Bool) (c : Candidate) → IsBestBelow n h ws log from asked c → (b : ℕ) → b < n → Beats h ws log from asked c b
beats_of n h ws log from asked c i b low = record { least = i.least b low; soonest = i.soonest b low }

pub some_more : (n : ℕ) (h : Header) (ws : List Waiting) (log : Log) (from : ℕ) (asked : List Bool) (result best candidate : Option Candidate) → IsBetterOf result best candidate → IfNone best (Silent n asked ws) → IfSome best (λ c. IsBestBelow n h ws log from asked c) → IfNone candidate (is_asked asked n ≡ true → first_at (in_bank n) ws ≡ None) → IfSome candidate (λ c. IsCandidate h ws log from asked n c) → IfSome result (λ c. IsBestBelow (n + 1) h ws log from asked c)
some_more n h ws log from asked None best candidate is none some silent here = tt
some_more n h ws log from asked (Some r) None None is none some silent here = cc
some_more n h ws log from asked (Some r) (Some c) None is none some silent here =
    let e : c ≡ r = cc in let low = some.low in
    subst (λ (x : Candidate). IsBestBelow (n + 1) h ws log from asked x) e (best_more n h ws log from asked c some.bank (omega (arith, low)) some.is_candidate (beats_of n h ws log from asked c some) (beats_silent h ws log from asked c n silent))
some_more n h ws log from asked (Some r) None (Some d) is none some silent here =
    let e : d ≡ r = cc in
    subst (λ (x : Candidate). IsBestBelow (n + 1) h ws log from asked x) e (best_more n h ws log from asked d n (omega arith) here (λ b low. beats_silent h ws log from asked d b (none b low)) (beats_own h ws log from asked d n here))
some_more n h ws log from asked (Some r) (Some c) (Some d) (inl (less, is)) none some silent here =
    let e : d ≡ r = cc in
    subst (λ (x : Candidate). IsBestBelow (n + 1) h ws log from asked x) e (best_more n h ws log from asked d n (omega arith) here (λ b low. beats_before h ws log from asked c d b less (beats_of n h ws log from asked c some b low)) (beats_own h ws log from asked d n here))
some_more n h ws log from asked (Some r) (Some c) (Some d) (inr (not_less, is)) none some silent here =
    let e : c ≡ r = cc in let low = some.low in
    subst (λ (x : Candidate). IsBestBelow (n + 1) h ws log from asked x) e (best_more n h ws log from asked c some.bank (omega (arith, low)) some.is_candidate (beats_of n h ws log from asked c some) (beats_other h ws log from asked c d n here not_less))
