-- Blocks of nodes: one more of them, and a node of one that is there.
use Rattle.std.proofs.Common.{nat_eq, cond, ◌≡◌, ◌≢◌, ◌∙◌, replicate, ℕ, zero, suc, ◌+◌, ◌-◌, ◌*◌, ◌/◌, ◌%◌, ◌<◌, ◌≤◌, ◌⊎◌, inl, inr, Bool, true, false, ◌==◌, if◌then◌else◌, List, [], ◌∷◌, ◌++◌, length, get_or, set, refl, sym, ap, subst, arith}
use Rattle.std.proofs.lemmas.Bool.{eqb-true, eq-eqb, eqb-false}
use Rattle.std.proofs.lemmas.List.{length-append, length-replicate, length-set, get_or_append_left, get_or-append-add, get_or-append_right, get_or-set_same, get_or-set_other}
use Rattle.row_order.specs.declared.nodes.Node.{Node}
use Rattle.row_order.proofs.EntryLemmas.{other_test}
use Rattle.row_order.specs.Blocks.{natural, naturals, used, place_of, node_at, row_node, AreBlocks}

zero_test : (n : ℕ) → n ≡ 0 → (n == 0) ≡ true
zero_test n e = eq-eqb n 0 e

some_test : (n : ℕ) → 0 < n → (n == 0) ≡ false
some_test n h = go (n == 0) refl
  where
    go : (x : Bool) → (n == 0) ≡ x → (n == 0) ≡ false
    go true e = let z = eqb-true n 0 e in absurd (omega arith)
    go false e = e

one_or_none : (b : Bool) → (if b then 0 else 1) ≤ 1
one_or_none true = omega arith
one_or_none false = omega arith

used_most : (xs : List ℕ) → used xs ≤ length xs
used_most [] = omega arith
used_most (x ∷ xs) = let a = one_or_none (x == 0) in let b = used_most xs in omega arith

pub used_below : (xs : List ℕ) (k : ℕ) → get_or xs k 0 ≡ 0 → k < length xs → used xs < length xs
used_below [] k e low = absurd (omega arith)
used_below (x ∷ xs) zero e low =
    subst (λ b. (if b then 0 else 1) + used xs < suc (length xs)) (sym (zero_test x e)) (let m = used_most xs in omega arith)
used_below (x ∷ xs) (suc k) e low = let a = one_or_none (x == 0) in let b = used_below xs k e (omega arith) in omega arith

pub used_set : (xs : List ℕ) (k v : ℕ) → get_or xs k 0 ≡ 0 → k < length xs → 0 < v → used (set xs k v) ≡ used xs + 1
used_set [] k v e low h = absurd (omega arith)
used_set (x ∷ xs) zero v e low h =
    ap (λ b. (if b then 0 else 1) + used xs) (some_test v h)
    ∙ subst (λ b. 1 + used xs ≡ (if b then 0 else 1) + used xs + 1) (sym (zero_test x e)) (omega arith)
used_set (x ∷ xs) (suc k) v e low h = let b = used_set xs k v e (omega arith) h in omega arith

pub length_naturals : (rows from n : ℕ) → length (naturals rows from n) ≡ n
length_naturals rows from zero = refl
length_naturals rows from (suc n) = length-append (naturals rows from n) (natural rows (from + n) ∷ []) ∙ ap (λ m. m + 1) (length_naturals rows from n) ∙ omega arith

below_or_last : (i n : ℕ) → i < suc n → (i < n) ⊎ (i ≡ n)
below_or_last i n h = grind arith

pub naturals_at : (rows from n i : ℕ) (d : Node) → i < n → get_or (naturals rows from n) i d ≡ natural rows (from + i)
naturals_at rows from zero i d h = absurd (omega arith)
naturals_at rows from (suc n) i d h = go (below_or_last i n h) (naturals_at rows from n i d)
  where
    go : (i < n) ⊎ (i ≡ n) → (i < n → get_or (naturals rows from n) i d ≡ natural rows (from + i)) → get_or (naturals rows from n ++ natural rows (from + n) ∷ []) i d ≡ natural rows (from + i)
    go (inl low) ih = get_or_append_left (naturals rows from n) (natural rows (from + n) ∷ []) d i (let e = length_naturals rows from n in omega arith) ∙ ih low
    go (inr e) ih =
        get_or-append_right (naturals rows from n) (natural rows (from + n) ∷ []) n i d (length_naturals rows from n) (omega arith)
        ∙ ap (λ m. get_or (natural rows (from + n) ∷ []) m d) (zero_is (i - n) (omega arith))
        ∙ ap (λ m. natural rows (from + m)) (sym e)
      where
        zero_is : (m : ℕ) → m ≡ 0 → m ≡ 0
        zero_is m h = h

same_or_other : (a b : ℕ) → (a ≡ b) ⊎ (a ≢ b)
same_or_other a b = go (a == b) refl
  where
    go : (x : Bool) → (a == b) ≡ x → (a ≡ b) ⊎ (a ≢ b)
    go true e = inl (eqb-true a b e)
    go false e = inr (eqb-false a b e)

of_row : (row k : ℕ) → row / 16 ≡ k → 16 * k + row % 16 ≡ row
of_row row k e = omega arith

low_rest : (row : ℕ) → row % 16 < 16
low_rest row = omega arith

index_low : (p u r n : ℕ) → 0 < p → p ≤ u → n ≡ 16 * u → r < 16 → (p - 1) * 16 + r < n
index_low p u r n h k e low = omega arith

-- the node at a place that lies in the pool does not change when the pool grows
grown : (rows p : ℕ) (pool more : List Node) (row u : ℕ) → p ≤ u → length pool ≡ 16 * u → node_at rows p (pool ++ more) row ≡ node_at rows p pool row
grown rows p pool more row u low e = go (p == 0) refl
  where
    go : (x : Bool) → (p == 0) ≡ x → (if x then natural rows row else get_or (pool ++ more) ((p - 1) * 16 + row % 16) (natural rows row)) ≡ (if x then natural rows row else get_or pool ((p - 1) * 16 + row % 16) (natural rows row))
    go true t = refl
    go false t = let z : p ≢ 0 = eqb-false p 0 t in get_or_append_left pool more (natural rows row) ((p - 1) * 16 + row % 16) (index_low p u (row % 16) (length pool) (positive p z) low e (low_rest row))
      where
        positive : (n : ℕ) → n ≢ 0 → 0 < n
        positive zero h = absurd (h refl)
        positive (suc n) h = omega arith

-- the node of a row of the new block
made : (rows : ℕ) (pool : List Node) (k row u : ℕ) → length pool ≡ 16 * u → row / 16 ≡ k → node_at rows (u + 1) (pool ++ naturals rows (k * 16) 16) row ≡ natural rows row
made rows pool k row u e f =
    ap (λ b. if b then natural rows row else get_or (pool ++ naturals rows (k * 16) 16) ((u + 1 - 1) * 16 + row % 16) (natural rows row)) (some_test (u + 1) (omega arith))
    ∙ ap (λ n. get_or (pool ++ naturals rows (k * 16) 16) n (natural rows row)) (index_is u (row % 16) (length pool) e)
    ∙ get_or-append-add pool (naturals rows (k * 16) 16) (row % 16) (natural rows row)
    ∙ naturals_at rows (k * 16) 16 (row % 16) (natural rows row) (low_rest row)
    ∙ ap (natural rows) (row_is row k f)
  where
    index_is : (u r n : ℕ) → n ≡ 16 * u → (u + 1 - 1) * 16 + r ≡ n + r
    index_is u r n e = omega arith

    row_is : (row k : ℕ) → row / 16 ≡ k → k * 16 + row % 16 ≡ row
    row_is row k e = omega arith

pub opened_same : (rows : ℕ) (places : List ℕ) (pool : List Node) (k : ℕ) → AreBlocks places pool → k < length places → get_or places k 0 ≡ 0 → (row : ℕ)
    → row_node rows (set places k (used places + 1)) (pool ++ naturals rows (k * 16) 16) row ≡ row_node rows places pool row
opened_same rows places pool k s low fresh row = go (same_or_other (row / 16) k)
  where
    go : (row / 16 ≡ k) ⊎ (row / 16 ≢ k) → node_at rows (get_or (set places k (used places + 1)) (row / 16) 0) (pool ++ naturals rows (k * 16) 16) row ≡ node_at rows (get_or places (row / 16) 0) pool row
    go (inl e) =
        ap (λ p. node_at rows p (pool ++ naturals rows (k * 16) 16) row)
        (subst (λ j. get_or (set places k (used places + 1)) j 0 ≡ used places + 1) (sym e) (get_or-set_same places k (used places + 1) 0 low))
        ∙ made rows pool k row (used places) s.whole e
        ∙ ap (λ p. node_at rows p pool row) (sym (subst (λ j. get_or places j 0 ≡ 0) (sym e) fresh))
    go (inr other) =
        ap (λ p. node_at rows p (pool ++ naturals rows (k * 16) 16) row) (get_or-set_other places k (row / 16) (used places + 1) 0 other)
        ∙ grown rows (get_or places (row / 16) 0) pool (naturals rows (k * 16) 16) row (used places) (s.inside (row / 16)) s.whole

pub opened_shaped : (rows : ℕ) (places : List ℕ) (pool : List Node) (k : ℕ) → AreBlocks places pool → k < length places → get_or places k 0 ≡ 0 → AreBlocks (set places k (used places + 1)) (pool ++ naturals rows (k * 16) 16)
opened_shaped rows places pool k s low fresh = record {
  whole = length-append pool (naturals rows (k * 16) 16) ∙ ap (λ n. length pool + n) (length_naturals rows (k * 16) 16) ∙ ap (λ n. n + 16) s.whole
      ∙ more (used places) (used (set places k (used places + 1))) (used_set places k (used places + 1) fresh low (omega arith));
  inside = λ j. go j (same_or_other j k);
  apart = λ i j. distinct i j (same_or_other i k) (same_or_other j k);
  small = subst (λ n. n ≤ 4096) (sym (length-set places k (used places + 1))) s.small;
}
  where
    more : (u v : ℕ) → v ≡ u + 1 → 16 * u + 16 ≡ 16 * v
    more u v e = omega arith

    go : (j : ℕ) → (j ≡ k) ⊎ (j ≢ k) → get_or (set places k (used places + 1)) j 0 ≤ used (set places k (used places + 1))
    go j (inl e) = rw (used_set places k (used places + 1) fresh low (omega arith))
        (subst (λ i. get_or (set places k (used places + 1)) i 0 ≤ used places + 1) (sym e) (subst (λ n. n ≤ used places + 1) (sym (get_or-set_same places k (used places + 1) 0 low)) (omega arith)))
    go j (inr other) = rw (used_set places k (used places + 1) fresh low (omega arith))
        (subst (λ n. n ≤ used places + 1) (sym (get_or-set_other places k j (used places + 1) 0 other)) (let b = s.inside j in omega arith))

    -- the place of the new block, and of another
    here : get_or (set places k (used places + 1)) k 0 ≡ used places + 1
    here = get_or-set_same places k (used places + 1) 0 low

    there : (j : ℕ) → j ≢ k → get_or (set places k (used places + 1)) j 0 ≡ get_or places j 0
    there j other = get_or-set_other places k j (used places + 1) 0 other

    distinct : (i j : ℕ) → (i ≡ k) ⊎ (i ≢ k) → (j ≡ k) ⊎ (j ≢ k) → 0 < get_or (set places k (used places + 1)) i 0
        → get_or (set places k (used places + 1)) i 0 ≡ get_or (set places k (used places + 1)) j 0 → i ≡ j
    distinct i j (inl e) (inl f) some same = e ∙ sym f
    distinct i j (inl e) (inr f) some same =
        let top : get_or (set places k (used places + 1)) i 0 ≡ used places + 1 = subst (λ n. get_or (set places k (used places + 1)) n 0 ≡ used places + 1) (sym e) here in
        let old = there j f in
        let most = s.inside j in
        absurd (omega (arith, top, same, old, most))
    distinct i j (inr e) (inl f) some same =
        let top : get_or (set places k (used places + 1)) j 0 ≡ used places + 1 = subst (λ n. get_or (set places k (used places + 1)) n 0 ≡ used places + 1) (sym f) here in
        let old = there i e in
        let most = s.inside i in
        absurd (omega (arith, top, same, old, most))
    distinct i j (inr e) (inr f) some same =
        let a = there i e in
        let b = there j f in
        s.apart i j (omega (arith, some, a)) (sym a ∙ (same ∙ b))

-- sixteen more make one block more
pub last_place : (n m u : ℕ) → n ≡ 16 * u → m ≡ n + 16 → m / 16 ≡ u + 1
last_place n m u e f = omega arith

pub sixteen : (i : ℕ) → i ≤ 16 → 16 ≤ i → i ≡ 16
sixteen i h k = omega arith

pub naturals_more : (rows from n : ℕ) → naturals rows from n ++ natural rows (from + n) ∷ [] ≡ naturals rows from (n + 1)
naturals_more rows from n = subst (λ m. naturals rows from n ++ natural rows (from + n) ∷ [] ≡ naturals rows from m) (more n) refl
  where
    more : (n : ℕ) → suc n ≡ n + 1
    more n = omega arith

-- ---- A node of a block that is there

-- two rows with the same place in the pool are one
same_index : (p q r t : ℕ) → 0 < p → 0 < q → r < 16 → t < 16 → (p - 1) * 16 + r ≡ (q - 1) * 16 + t → (p ≡ q) × (r ≡ t)
same_index p q r t a b c d e = (omega arith, omega arith)

row_of : (j k : ℕ) → j / 16 ≡ k / 16 → j % 16 ≡ k % 16 → j ≡ k
row_of j k a b = omega arith

low_index : (places : List ℕ) (pool : List Node) (row : ℕ) → AreBlocks places pool → 0 < get_or places (row / 16) 0 → (get_or places (row / 16) 0 - 1) * 16 + row % 16 < length pool
low_index places pool row s some = index_low (get_or places (row / 16) 0) (used places) (row % 16) (length pool) some (s.inside (row / 16)) s.whole (low_rest row)

pub written : (rows : ℕ) (places : List ℕ) (pool : List Node) (row : ℕ) (x : Node) → AreBlocks places pool → 0 < get_or places (row / 16) 0 → (k : ℕ)
    → row_node rows places (set pool ((get_or places (row / 16) 0 - 1) * 16 + row % 16) x) k ≡ cond (nat_eq k row) x (row_node rows places pool k)
written rows places pool row x s some k = go (same_or_other k row) (same_or_other (get_or places (k / 16) 0) 0)
  where
    at : ℕ → ℕ
    at j = (get_or places (j / 16) 0 - 1) * 16 + j % 16

    go : (k ≡ row) ⊎ (k ≢ row) → (get_or places (k / 16) 0 ≡ 0) ⊎ (get_or places (k / 16) 0 ≢ 0)
        → row_node rows places (set pool (at row) x) k ≡ cond (nat_eq k row) x (row_node rows places pool k)
    go (inl e) zero_or = subst (λ j. row_node rows places (set pool (at row) x) j ≡ cond (nat_eq j row) x (row_node rows places pool j)) (sym e)
        (ap (λ b. if b then natural rows row else get_or (set pool (at row) x) (at row) (natural rows row)) (some_test (get_or places (row / 16) 0) some)
        ∙ get_or-set_same pool (at row) x (natural rows row) (low_index places pool row s some)
        ∙ sym (ap (λ b. cond b x (row_node rows places pool row)) (eq-eqb row row refl)))
    go (inr other) (inl none) =
        ap (λ b. if b then natural rows k else get_or (set pool (at row) x) (at k) (natural rows k)) (zero_test (get_or places (k / 16) 0) none)
        ∙ sym (ap (λ b. if b then natural rows k else get_or pool (at k) (natural rows k)) (zero_test (get_or places (k / 16) 0) none))
        ∙ sym (ap (λ b. cond b x (row_node rows places pool k)) (other_test k row other))
    go (inr other) (inr has) =
        ap (λ y. if get_or places (k / 16) 0 == 0 then natural rows k else y)
        (get_or-set_other pool (at row) (at k) x (natural rows k) (λ e. other (one (same_index (get_or places (k / 16) 0) (get_or places (row / 16) 0) (k % 16) (row % 16) (positive (get_or places (k / 16) 0) has) some (low_rest k) (low_rest row) e))))
        ∙ sym (ap (λ b. cond b x (row_node rows places pool k)) (other_test k row other))
      where
        positive : (n : ℕ) → n ≢ 0 → 0 < n
        positive zero h = absurd (h refl)
        positive (suc n) h = omega arith

        one : (get_or places (k / 16) 0 ≡ get_or places (row / 16) 0) × (k % 16 ≡ row % 16) → k ≡ row
        one h = row_of k row (s.apart (k / 16) (row / 16) (positive (get_or places (k / 16) 0) has) h.0) h.1

pub written_blocks : (places : List ℕ) (pool : List Node) (i : ℕ) (x : Node) → AreBlocks places pool → AreBlocks places (set pool i x)
written_blocks places pool i x s = record {
  whole = length-set pool i x ∙ s.whole;
  inside = s.inside;
  apart = s.apart;
  small = s.small;
}

-- ---- None yet

none_used : (n : ℕ) → used (replicate n 0) ≡ 0
none_used zero = refl
none_used (suc n) = let e = none_used n in omega (arith, e)

none_placed : (n k : ℕ) → place_of (replicate n 0) k ≡ 0
none_placed zero k = refl
none_placed (suc n) zero = refl
none_placed (suc n) (suc k) = none_placed n k

pub no_blocks : (n : ℕ) → n ≤ 4096 → AreBlocks (replicate n 0) []
no_blocks n few = record {
  whole = let u = none_used n in omega (arith, u);
  inside = λ k. let p = none_placed n k in omega (arith, p);
  apart = λ j k some same. absurd (let p = none_placed n j in omega (arith, p, some));
  small = subst (λ m. m ≤ 4096) (sym (length-replicate n 0)) few;
}

pub no_block_at : (rows n k : ℕ) → row_node rows (replicate n 0) [] k ≡ natural rows k
no_block_at rows n k = ap (λ p. node_at rows p [] k) (none_placed n (k / 16))
