-- How the weights of one bank change, by the activations f of its rows. A cycle has suc d activations, n is how many
-- activations the bank had since its last mark, and reach is the height.
use Rattle.std.proofs.Common.{◌≡◌, ◌≢◌, ◌∙◌, ℕ, suc, ◌+◌, ◌-◌, ◌*◌, ◌^◌, ◌<◌, ◌≤◌, ◌⊎◌, ap, arith, inl, inr, subst, mul-le-mul_left, mul-le-mul_right, le_trans}
use Rattle.std.proofs.Math.Nat.{le_of_mul-le-mul_left}
use Rattle.speed_bin.specs.Weights.{weight, sum_below}
use Rattle.speed_bin.proofs.WeightLemmas.{nothing, one_activation, grows, monotone, low_weight, high_weight, not_far}
use Rattle.speed_bin.proofs.Sums.{same_sum, one_change, sum_at_most, part_of_sum}
use Rattle.speed_bin.proofs.Splits.{same_or_not, below_or_not}

-- the numbers of a header, and what its checks give
pub record Sizes : Type 0 where
  pub d : ℕ
  pub ath : ℕ
  pub rows : ℕ
  pub reach : ℕ
  pub some : 0 < d
  pub room : suc d < ath
  pub height : (y : ℕ) → suc d ^ y ≤ rows * d ^ y → y ≤ reach

abbrev pub top : Sizes → ℕ
top s = s.reach + suc s.d

abbrev pub weigh : Sizes → ℕ → ℕ
weigh s c = weight s.d s.ath (top s) c

abbrev pub total : Sizes → (ℕ → ℕ) → ℕ
total s f = sum_below s.rows (λ row. weigh s (f row))

-- the weight of a row at ATH - 1
abbrev pub full : Sizes → ℕ
full s = suc s.d * s.d ^ top s

pub record Weighs (s : Sizes) (f : ℕ → ℕ) (n : ℕ) : Type 0 where
  pub near : (row : ℕ) → row < s.rows → f row + 1 ≤ s.ath + s.reach + n
  pub bounded : (most : ℕ) → ((row : ℕ) → row < s.rows → weigh s (f row) ≤ most) → full s ≤ most → suc s.d * total s f ≤ suc s.d * (s.rows * full s) + n * most

-- a bank with all rows below ATH
pub calm : (s : Sizes) (f : ℕ → ℕ) → ((row : ℕ) → row < s.rows → f row < s.ath) → Weighs s f 0
calm s f low = record {
  near = λ row in_bank. let h = low row in_bank in omega arith;
  bounded = λ most fits enough.
      let a : total s f ≤ s.rows * full s = sum_at_most s.rows (full s) (λ row. weigh s (f row)) (λ row in_bank. low_weight s.d s.ath (top s) (f row) (low row in_bank)) in
      let b : suc s.d * total s f ≤ suc s.d * (s.rows * full s) = mul-le-mul_left (suc s.d) a in
      omega arith;
}

-- a weight that is one more activation
pub one_more : (s : Sizes) (f g : ℕ → ℕ) (n r : ℕ) → r < s.rows → g r ≡ suc (f r) → ((i : ℕ) → i < s.rows → i ≢ r → f i ≡ g i) → suc n ≤ suc s.d → Weighs s f n → Weighs s g (suc n)
one_more s f g n r in_bank risen others few w = record {
  near = λ row inside. near_at row inside (same_or_not row r);
  bounded = λ most fits enough.
      let at : suc (suc (f r)) ≤ s.ath + top s = let h = w.near r in_bank in omega arith in
      let fits_r : weigh s (suc (f r)) ≤ most = subst (λ (c : ℕ). weigh s c ≤ most) risen (fits r in_bank) in
      let old_fits : (row : ℕ) → row < s.rows → weigh s (f row) ≤ most = λ row inside. old_at most fits fits_r row inside (same_or_not row r) in
      let before = w.bounded most old_fits enough in
      let step = one_activation s.d s.ath (top s) (f r) most s.room at fits_r enough in
      let sums = one_change s.rows r (λ row. weigh s (f row)) (λ row. weigh s (g row)) in_bank (λ i inside other. ap (λ (c : ℕ). weigh s c) (others i inside other)) in
      let here : weigh s (g r) ≡ weigh s (suc (f r)) = ap (λ (c : ℕ). weigh s c) risen in
      gather s.d (total s f) (total s g) (weigh s (f r)) (weigh s (g r)) (weigh s (suc (f r))) (suc s.d * (s.rows * full s)) n most before step sums here;
}
  where
    near_at : (row : ℕ) → row < s.rows → (row ≡ r) ⊎ (row ≢ r) → g row + 1 ≤ s.ath + s.reach + suc n
    near_at row inside (inl e) =
        let h = w.near r in_bank in
        let a : g row ≡ g r = ap g e in
        omega arith
    near_at row inside (inr other) =
        let h = w.near row inside in
        let a = others row inside other in
        omega arith

    old_at : (most : ℕ) → ((row : ℕ) → row < s.rows → weigh s (g row) ≤ most) → weigh s (suc (f r)) ≤ most → (row : ℕ) → row < s.rows → (row ≡ r) ⊎ (row ≢ r) → weigh s (f row) ≤ most
    old_at most fits fits_r row inside (inl e) =
        let h = w.near r in_bank in
        let up = grows s.d s.ath (top s) (f r) s.room (omega arith) in
        let a : weigh s (f row) ≡ weigh s (f r) = ap (λ (i : ℕ). weigh s (f i)) e in
        rw a (le_trans up fits_r)
    old_at most fits fits_r row inside (inr other) =
        let a : weigh s (f row) ≡ weigh s (g row) = ap (λ (c : ℕ). weigh s c) (others row inside other) in
        rw a (fits row inside)

    gather : (d tf tg wf wg wn bound n most : ℕ) → suc d * tf ≤ bound + n * most → suc d * wn ≤ suc d * wf + most → tf + wg ≡ tg + wf → wg ≡ wn → suc d * tg ≤ bound + suc n * most
    gather d tf tg wf wg wn bound n most before step sums here =
        let scaled : suc d * (tf + wg) ≡ suc d * (tg + wf) = ap (λ (x : ℕ). suc d * x) sums in
        let scaled_here : suc d * wg ≡ suc d * wn = ap (λ (x : ℕ). suc d * x) here in
        omega arith

-- at a mark the weights add up to no more than if each row were at ATH - 1
pub at_mark : (s : Sizes) (f : ℕ → ℕ) → Weighs s f 0 → total s f ≤ s.rows * full s
at_mark s f w =
    let most = total s f + full s in
    let h = w.bounded most (λ row inside. let p = part_of_sum s.rows row (λ i. weigh s (f i)) inside in omega arith) (omega arith) in
    let q : suc s.d * total s f ≤ suc s.d * (s.rows * full s) = omega arith in
    le_of_mul-le-mul_left q (omega arith)

-- no row that weighs as little is far above ATH
near_mark : (s : Sizes) (c : ℕ) → c + 1 ≤ s.ath + top s → weigh s c ≤ s.rows * full s → c + 1 ≤ s.ath + s.reach + 0
near_mark s c within light = go (below_or_not c s.ath)
  where
    go : (c < s.ath) ⊎ (s.ath ≤ c) → c + 1 ≤ s.ath + s.reach + 0
    go (inl low) = omega arith
    go (inr high) =
        let e : c ≡ s.ath + (c - s.ath) = omega arith in
        let h = s.height (suc (c - s.ath)) (not_far s.d s.ath (top s) s.rows c (c - s.ath) s.some e (omega arith) light) in
        omega arith

-- a mitigation of the row with the most activations, where it is at ATH or above
pub mitigation : (s : Sizes) (f g : ℕ → ℕ) (n t : ℕ) → t < s.rows → s.ath ≤ f t → ((row : ℕ) → row < s.rows → f row ≤ f t) → g t ≡ 0 → ((i : ℕ) → i < s.rows → i ≢ t → f i ≡ g i) → n ≤ suc s.d → Weighs s f n → Weighs s g 0
mitigation s f g n t in_bank hot greatest gone others few w =
    let within : suc (f t) ≤ s.ath + top s = let h = w.near t in_bank in omega arith in
    let most = weigh s (f t) in
    let fits : (row : ℕ) → row < s.rows → weigh s (f row) ≤ most = λ row inside. monotone s.d s.ath (top s) (f row) (f t) s.room (greatest row inside) within in
    let before = w.bounded most fits (high_weight s.d s.ath (top s) (f t) s.room hot within) in
    let sums : total s f + weigh s (g t) ≡ total s g + weigh s (f t) = one_change s.rows t (λ row. weigh s (f row)) (λ row. weigh s (g row)) in_bank (λ i inside other. ap (λ (c : ℕ). weigh s c) (others i inside other)) in
    let none : weigh s (g t) ≡ 0 = ap (λ (c : ℕ). weigh s c) gone ∙ nothing s.d s.ath (top s) (let r = s.room in omega arith) in
    let paid : n * most ≤ suc s.d * most = mul-le-mul_right most few in
    let scaled : suc s.d * (total s f + weigh s (g t)) ≡ suc s.d * (total s g + weigh s (f t)) = ap (λ (x : ℕ). suc s.d * x) sums in
    let scaled_none : suc s.d * weigh s (g t) ≡ suc s.d * 0 = ap (λ (x : ℕ). suc s.d * x) none in
    let light : suc s.d * total s g ≤ suc s.d * (s.rows * full s) = settle s.d (total s f) (total s g) (weigh s (g t)) most (suc s.d * (s.rows * full s)) n before paid scaled scaled_none in
    let lighter : total s g ≤ s.rows * full s = le_of_mul-le-mul_left light (omega arith) in
    record {
      near = λ row inside.
          let part = part_of_sum s.rows row (λ i. weigh s (g i)) inside in
          near_mark s (g row) (low_at row inside (same_or_not row t)) (le_trans part lighter);
      bounded = λ m fit enough. omega arith;
    }
  where
    low_at : (row : ℕ) → row < s.rows → (row ≡ t) ⊎ (row ≢ t) → g row + 1 ≤ s.ath + top s
    low_at row inside (inl e) =
        let a : g row ≡ g t = ap g e in
        let r = s.room in
        omega arith
    low_at row inside (inr other) =
        let a = others row inside other in
        let h = w.near row inside in
        omega arith

    settle : (d tf tg wg most bound n : ℕ) → suc d * tf ≤ bound + n * most → n * most ≤ suc d * most → suc d * (tf + wg) ≡ suc d * (tg + most) → suc d * wg ≡ suc d * 0 → suc d * tg ≤ bound
    settle d tf tg wg most bound n before paid scaled none = omega arith

-- nothing happened to the bank
pub unchanged : (s : Sizes) (f g : ℕ → ℕ) (n : ℕ) → ((i : ℕ) → i < s.rows → f i ≡ g i) → Weighs s f n → Weighs s g n
unchanged s f g n same w = record {
  near = λ row inside. let a = same row inside in let h = w.near row inside in omega arith;
  bounded = λ most fits enough.
      let e : total s f ≡ total s g = same_sum s.rows (λ row. weigh s (f row)) (λ row. weigh s (g row)) (λ i inside. ap (λ (c : ℕ). weigh s c) (same i inside)) in
      let b = w.bounded most (λ row inside. let a : weigh s (f row) ≡ weigh s (g row) = ap (λ (c : ℕ). weigh s c) (same row inside) in rw a (fits row inside)) enough in
      rw e at b;
}

pub more_since : (s : Sizes) (f : ℕ → ℕ) (n : ℕ) → Weighs s f 0 → Weighs s f n
more_since s f n w = record {
  near = λ row inside. let h = w.near row inside in omega arith;
  bounded = λ most fits enough. let b = w.bounded most fits enough in omega arith;
}
