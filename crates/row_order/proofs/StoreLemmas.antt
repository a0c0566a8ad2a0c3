-- The node with a number: at the start, and after one of them is put.
use Rattle.std.proofs.Common.{◌≡◌, ◌≢◌, ◌∙◌, ◌⊎◌, inl, inr, ℕ, ◌+◌, ◌-◌, ◌<◌, ◌≤◌, Bool, true, false, cond, nat_eq, nat_lt, nat_le, List, [], length, set, get_or, replicate, refl, sym, ap, subst, arith}
use Rattle.std.proofs.lemmas.Bool.{ltb-true, ltb-false}
use Rattle.std.proofs.lemmas.Bool.Decides.{eqb_tells}
use Rattle.std.proofs.lemmas.List.{get_or-set_same, get_or-set_other}
use Rattle.row_order.specs.declared.nodes.Node.{Node}
use Rattle.row_order.specs.Blocks.{natural, naturals, row_node}
use Rattle.row_order.specs.Nodes.{Store, node_in, next_in, prev_in, level_in, AreLinked}
use Rattle.row_order.specs.Runs.{first_next, first_prev}
use Rattle.row_order.proofs.BlockLemmas.{naturals_at, no_block_at}
use Rattle.row_order.proofs.EntryLemmas.{other_test}

pub at_start : (rows levels n k : ℕ) → k < rows + levels
    → node_in (record { rows = rows; places = replicate n 0; pool = []; ends = naturals rows rows levels }) k ≡ natural rows k
unfolding node_in
at_start rows levels n k low = go (nat_lt k rows) refl
  where
    back : (k rows : ℕ) → rows ≤ k → rows + (k - rows) ≡ k
    back k rows h = omega arith

    go : (t : Bool) → nat_lt k rows ≡ t → cond t (row_node rows (replicate n 0) [] k) (get_or (naturals rows rows levels) (k - rows) (natural rows k)) ≡ natural rows k
    go true e = no_block_at rows n k
    go false e =
        let far : rows ≤ k = ltb-false k rows e in
        naturals_at rows rows levels (k - rows) (natural rows k) (omega (arith, far, low)) ∙ ap (natural rows) (back k rows far)

pub row_put : (rows number k : ℕ) (places opened : List ℕ) (pool made put ends : List Node) (node : Node) → number < rows
    → ((j : ℕ) → row_node rows opened made j ≡ row_node rows places pool j)
    → ((j : ℕ) → row_node rows opened put j ≡ cond (nat_eq j number) node (row_node rows opened made j))
    → node_in (record { rows = rows; places = opened; pool = put; ends = ends }) k
    ≡ cond (nat_eq k number) node (node_in (record { rows = rows; places = places; pool = pool; ends = ends }) k)
unfolding node_in
row_put rows number k places opened pool made put ends node low same written = go (nat_lt k rows) refl
  where
    go : (t : Bool) → nat_lt k rows ≡ t
        → cond t (row_node rows opened put k) (get_or ends (k - rows) (natural rows k))
        ≡ cond (nat_eq k number) node (cond t (row_node rows places pool k) (get_or ends (k - rows) (natural rows k)))
    go true e = written k ∙ ap (λ x. cond (nat_eq k number) node x) (same k)
    go false e =
        let far : rows ≤ k = ltb-false k rows e in
        let other : k ≢ number = (λ h. omega (arith, far, low, h)) in
        sym (ap (λ b. cond b node (get_or ends (k - rows) (natural rows k))) (other_test k number other))

pub end_put : (rows number k : ℕ) (places : List ℕ) (pool ends : List Node) (node : Node) → rows ≤ number → number - rows < length ends
    → node_in (record { rows = rows; places = places; pool = pool; ends = set ends (number - rows) node }) k
    ≡ cond (nat_eq k number) node (node_in (record { rows = rows; places = places; pool = pool; ends = ends }) k)
unfolding node_in
end_put rows number k places pool ends node behind inside = go (nat_lt k rows) refl (eqb_tells k number)
  where
    apart : (k rows number : ℕ) → rows ≤ k → rows ≤ number → k ≢ number → k - rows ≢ number - rows
    apart k rows number a b n e = n (let same : k ≡ number = omega (arith, a, b, e) in same)

    go : (t : Bool) → nat_lt k rows ≡ t → ((nat_eq k number ≡ true) × (k ≡ number)) ⊎ ((nat_eq k number ≡ false) × (k ≢ number))
        → cond t (row_node rows places pool k) (get_or (set ends (number - rows) node) (k - rows) (natural rows k))
        ≡ cond (nat_eq k number) node (cond t (row_node rows places pool k) (get_or ends (k - rows) (natural rows k)))
    go true e (inl p) = absurd (let near : k < rows = ltb-true k rows e in let is = p.1 in omega (arith, near, is, behind))
    go true e (inr p) = sym (ap (λ b. cond b node (row_node rows places pool k)) p.0)
    go false e (inl p) =
        subst (λ j. get_or (set ends (number - rows) node) (j - rows) (natural rows k) ≡ node) (sym p.1) (get_or-set_same ends (number - rows) node (natural rows k) inside)
        ∙ sym (ap (λ b. cond b node (get_or ends (k - rows) (natural rows k))) p.0)
    go false e (inr p) =
        get_or-set_other ends (number - rows) (k - rows) node (natural rows k) (apart k rows number (ltb-false k rows e) behind p.1)
        ∙ sym (ap (λ b. cond b node (get_or ends (k - rows) (natural rows k))) p.0)

-- links stay inside where one more inside is put
pub inside_put : (f g : ℕ → ℕ) (n at to : ℕ) → to < n → ((k : ℕ) → k < n → f k < n) → ((k : ℕ) → k < n → g k ≡ cond (nat_eq k at) to (f k)) → (k : ℕ) → k < n → g k < n
inside_put f g n at to low old new k near = go (nat_eq k at) (new k near)
  where
    go : (t : Bool) → g k ≡ cond t to (f k) → g k < n
    go true e = subst (λ m. m < n) (sym e) low
    go false e = subst (λ m. m < n) (sym e) (old k near)

-- ---- Links and counts of a node that is put

-- where the node `here` becomes one with the same value, no value changes
pub same_put : (f : ℕ → ℕ) (k here v : ℕ) → v ≡ f here → cond (nat_eq k here) v (f k) ≡ f k
same_put f k here v e = go (eqb_tells k here)
  where
    go : ((nat_eq k here ≡ true) × (k ≡ here)) ⊎ ((nat_eq k here ≡ false) × (k ≢ here)) → cond (nat_eq k here) v (f k) ≡ f k
    go (inl p) = rw p.0 (e ∙ ap f (sym p.1))
    go (inr p) = rw p.0 refl

after_put : (t : Bool) (x y z : Node) → x ≡ cond t y z → x.after ≡ cond t y.after z.after
after_put true x y z e = ap (λ (n : Node). n.after) e
after_put false x y z e = ap (λ (n : Node). n.after) e

before_put : (t : Bool) (x y z : Node) → x ≡ cond t y z → x.before ≡ cond t y.before z.before
before_put true x y z e = ap (λ (n : Node). n.before) e
before_put false x y z e = ap (λ (n : Node). n.before) e

count_put : (t : Bool) (x y z : Node) → x ≡ cond t y z → x.count ≡ cond t y.count z.count
count_put true x y z e = ap (λ (n : Node). n.count) e
count_put false x y z e = ap (λ (n : Node). n.count) e

-- the nodes of xs with one of them put are those of ys
abbrev pub IsPut : ℕ → ℕ → Node → Store → Store → Type 0
IsPut n here node xs ys = (k : ℕ) → k < n → node_in ys k ≡ cond (nat_eq k here) node (node_in xs k)

pub next_put : (n here : ℕ) (node : Node) (xs ys : Store) → IsPut n here node xs ys → (k : ℕ) → k < n → next_in ys k ≡ cond (nat_eq k here) node.after (next_in xs k)
next_put n here node xs ys put k low = after_put (nat_eq k here) (node_in ys k) node (node_in xs k) (put k low)

pub prev_put : (n here : ℕ) (node : Node) (xs ys : Store) → IsPut n here node xs ys → (k : ℕ) → k < n → prev_in ys k ≡ cond (nat_eq k here) node.before (prev_in xs k)
prev_put n here node xs ys put k low = before_put (nat_eq k here) (node_in ys k) node (node_in xs k) (put k low)

pub level_put : (n here : ℕ) (node : Node) (xs ys : Store) → IsPut n here node xs ys → (k : ℕ) → k < n → level_in ys k ≡ cond (nat_eq k here) node.count (level_in xs k)
level_put n here node xs ys put k low = count_put (nat_eq k here) (node_in ys k) node (node_in xs k) (put k low)

pub linked_put : (n here : ℕ) (node : Node) (xs ys : Store) → AreLinked xs n → node.after < n → node.before < n → IsPut n here node xs ys → AreLinked ys n
linked_put n here node xs ys old after before put = λ k low. (
  inside_put (λ j. next_in xs j) (λ j. next_in ys j) n here node.after after (λ j l. (old j l).0) (next_put n here node xs ys put) k low,
  inside_put (λ j. prev_in xs j) (λ j. prev_in ys j) n here node.before before (λ j l. (old j l).1) (prev_put n here node xs ys put) k low,
)

-- ---- The links at the start

first_next_low : (rows levels k : ℕ) → 0 < levels → k < rows + levels → first_next rows k < rows + levels
first_next_low rows levels k some low = go (nat_lt k rows) (nat_eq k rows) refl
  where
    go : (s t : Bool) → nat_lt k rows ≡ s → cond s (k + 1) (cond t 0 k) < rows + levels
    go true t e = let near : k < rows = ltb-true k rows e in omega (arith, near, some)
    go false true e = omega (arith, low)
    go false false e = low

first_prev_low : (rows levels k : ℕ) → 0 < levels → k < rows + levels → first_prev rows k < rows + levels
first_prev_low rows levels k some low = go (nat_eq k 0) (nat_le k rows)
  where
    go : (s t : Bool) → cond s rows (cond t (k - 1) k) < rows + levels
    go true t = omega (arith, some)
    go false true = omega (arith, low)
    go false false = low

pub linked_at_start : (rows levels : ℕ) (xs : Store) → 0 < levels → ((k : ℕ) → k < rows + levels → node_in xs k ≡ natural rows k) → AreLinked xs (rows + levels)
linked_at_start rows levels xs some are = λ k low. (
  subst (λ (x : Node). x.after < rows + levels) (sym (are k low)) (first_next_low rows levels k some low),
  subst (λ (x : Node). x.before < rows + levels) (sym (are k low)) (first_prev_low rows levels k some low),
)
