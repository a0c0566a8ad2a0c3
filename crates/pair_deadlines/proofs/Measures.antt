-- The measures after one more command.
use Rattle.std.proofs.Common.{◌≡◌, ◌≢◌, ◌∙◌, ℕ, zero, suc, ◌+◌, ◌-◌, ◌*◌, ◌≤◌, ◌<◌, Bool, true, false, ◌==◌, ◌⊎◌, inl, inr, refl, sym, ap, arith, cond, [], ◌∷◌, eq-eqb}
use Rattle.std.proofs.Math.Nat.{mul-le-mul_right}
use Rattle.command_words.specs.Command.{bank_number}
use Rattle.command_words.specs.declared.place.Bank.{Bank}
use Rattle.command_words.specs.declared.command.Command.{Command}
use Rattle.command_words.specs.declared.command.Command.TheVariants.{Act, RefAb, RefSb, RfmSb, Ecs}
use Rattle.speed_bin.specs.declared.header.Header.{Header}
use Rattle.speed_bin.specs.Gap.{n_max}
use Rattle.command_words.specs.Kinds.{Effect, Opens, Closes, Manages, Refreshes, Leaves, effect, is_act}
use Rattle.speed_bin.specs.Log.{Issued, Log, refs, raa, raa_after}
use Rattle.speed_bin.specs.Weights.{sum_below}
use Rattle.speed_bin.proofs.Effects.{opens_act}
use Rattle.speed_bin.proofs.Splits.{last_or_below}
use Rattle.deadlines.specs.Pace.{others, is_other}
use Rattle.deadlines.specs.Rounds.{next_due}
use Rattle.deadlines.proofs.Rounds.{is_plain, refs_plain, refs_step, next_due_is}
use Rattle.deadlines.proofs.Counting.{act_case, opens_other}
use Rattle.pair_deadlines.specs.Budget.{budget, due, excess, spare}

-- ---- The next round

pub due_is : (h : Header) (log : Log) → due h log ≡ (refs 0 log + 2) * h.timing.nrefi
unfolding due
due_is h log = refl

pub due_same : (h : Header) (place : Issued) (log : Log) → refs 0 (place ∷ log) ≡ refs 0 log → due h (place ∷ log) ≡ due h log
unfolding due
due_same h place log e = ap (λ (n : ℕ). (n + 2) * h.timing.nrefi) e

pub due_more : (h : Header) (place : Issued) (log : Log) → refs 0 (place ∷ log) ≡ suc (refs 0 log) → due h (place ∷ log) ≡ due h log + h.timing.nrefi
unfolding due
due_more h place log e = ap (λ (n : ℕ). (n + 2) * h.timing.nrefi) e ∙ step (refs 0 log) h.timing.nrefi
  where
    step : (n k : ℕ) → (suc n + 2) * k ≡ (n + 2) * k + k
    step n k = omega arith

pub due_whole : (h : Header) (log : Log) → refs 0 log ≡ refs 3 log → due h log ≡ next_due h log
due_whole h log e = due_is h log ∙ ap (λ (n : ℕ). (n + 2) * h.timing.nrefi) e ∙ sym (next_due_is h log)

-- ---- The budget

plain_other : (c : Command) → is_plain c ≡ true → is_other c ≡ true
unfolding is_plain
plain_other RefAb k = absurd (cc)
plain_other (RefSb a) k = absurd (cc)
plain_other Ecs k = absurd (cc)
plain_other c k = refl

pub others_plain : (place : Issued) (log : Log) → is_plain place.command ≡ true → others (place ∷ log) ≡ suc (others log)
others_plain place log k = let e = plain_other place.command k in rw e refl

pub others_same : (place : Issued) (log : Log) → is_other place.command ≡ false → others (place ∷ log) ≡ others log
others_same place log e = rw e refl

pub budget_plain : (h : Header) (place : Issued) (own rest : Log) (idle : ℕ) → is_plain place.command ≡ true → budget h (place ∷ own) rest idle ≡ budget h own rest idle + 2 * n_max h.timing
unfolding budget
budget_plain h place own rest idle plain =
    let o = others_plain place own plain in
    let r = refs_plain 0 place own plain in
    let e : (refs 0 (place ∷ own) + refs 0 rest) * (2 * n_max h.timing + 3) ≡ (refs 0 own + refs 0 rest) * (2 * n_max h.timing + 3) = ap (λ (n : ℕ). (n + refs 0 rest) * (2 * n_max h.timing + 3)) r in
    let f : (others (place ∷ own) + others rest) * (2 * n_max h.timing) ≡ (suc (others own) + others rest) * (2 * n_max h.timing) = ap (λ (n : ℕ). (n + others rest) * (2 * n_max h.timing)) o in
    let g = one_more (others own) (others rest) (2 * n_max h.timing) in
    omega arith
  where
    one_more : (a b m : ℕ) → (suc a + b) * m ≡ (a + b) * m + m
    one_more a b m = omega arith

pub budget_first : (h : Header) (place : Issued) (own rest : Log) (idle : ℕ) → is_other place.command ≡ false → refs 0 (place ∷ own) ≡ suc (refs 0 own) → budget h (place ∷ own) rest idle ≡ budget h own rest idle + 2 * n_max h.timing + 3
unfolding budget
budget_first h place own rest idle other r =
    let o = others_same place own other in
    let e : (refs 0 (place ∷ own) + refs 0 rest) * (2 * n_max h.timing + 3) ≡ (suc (refs 0 own) + refs 0 rest) * (2 * n_max h.timing + 3) = ap (λ (n : ℕ). (n + refs 0 rest) * (2 * n_max h.timing + 3)) r in
    let f : (others (place ∷ own) + others rest) * (2 * n_max h.timing) ≡ (others own + others rest) * (2 * n_max h.timing) = ap (λ (n : ℕ). (n + others rest) * (2 * n_max h.timing)) o in
    let g = one_more (refs 0 own) (refs 0 rest) (2 * n_max h.timing + 3) in
    omega arith
  where
    one_more : (a b m : ℕ) → (suc a + b) * m ≡ (a + b) * m + m
    one_more a b m = omega arith

pub budget_same : (h : Header) (place : Issued) (own rest : Log) (idle : ℕ) → is_other place.command ≡ false → refs 0 (place ∷ own) ≡ refs 0 own → budget h (place ∷ own) rest idle ≡ budget h own rest idle
unfolding budget
budget_same h place own rest idle other r =
    let o = others_same place own other in
    let e : (refs 0 (place ∷ own) + refs 0 rest) * (2 * n_max h.timing + 3) ≡ (refs 0 own + refs 0 rest) * (2 * n_max h.timing + 3) = ap (λ (n : ℕ). (n + refs 0 rest) * (2 * n_max h.timing + 3)) r in
    let f : (others (place ∷ own) + others rest) * (2 * n_max h.timing) ≡ (others own + others rest) * (2 * n_max h.timing) = ap (λ (n : ℕ). (n + others rest) * (2 * n_max h.timing)) o in
    omega arith

-- it never falls
others_grow : (place : Issued) (log : Log) → others log ≤ others (place ∷ log)
others_grow place log = go (is_other place.command)
  where
    go : (x : Bool) → others log ≤ cond x (suc (others log)) (others log)
    go true = omega arith
    go false = omega arith

pub budget_grows : (h : Header) (place : Issued) (own rest : Log) (idle : ℕ) → budget h own rest idle ≤ budget h (place ∷ own) rest idle
unfolding budget
budget_grows h place own rest idle =
    let o = others_grow place own in
    let r = refs_step 0 place own in
    let a : (others own + others rest) * (2 * n_max h.timing) ≤ (others (place ∷ own) + others rest) * (2 * n_max h.timing) = mul-le-mul_right (2 * n_max h.timing) (omega arith) in
    let b : (refs 0 own + refs 0 rest) * (2 * n_max h.timing + 3) ≤ (refs 0 (place ∷ own) + refs 0 rest) * (2 * n_max h.timing + 3) = mul-le-mul_right (2 * n_max h.timing + 3) (omega arith) in
    omega arith

pub budget_swap : (h : Header) (own rest : Log) (idle : ℕ) → budget h own rest idle ≡ budget h rest own idle
unfolding budget
budget_swap h own rest idle = swap (others own) (others rest) (refs 0 own) (refs 0 rest) (2 * n_max h.timing) (2 * n_max h.timing + 3)
  where
    swap : (a b c d m k : ℕ) → idle + (a + b) * m + (c + d) * k ≡ idle + (b + a) * m + (d + c) * k
    swap a b c d m k = omega arith

pub budget_idle : (h : Header) (own rest : Log) (idle clocks : ℕ) → budget h own rest (idle + clocks) ≡ budget h own rest idle + clocks
unfolding budget
budget_idle h own rest idle clocks = omega arith

-- ---- Rolling counts above RAAIMT - 1

sum_fewer : (n : ℕ) (f g : ℕ → ℕ) → ((i : ℕ) → i < n → f i ≤ g i) → sum_below n f ≤ sum_below n g
sum_fewer zero f g k = omega arith
sum_fewer (suc n) f g k =
    let ih = sum_fewer n f g (λ i low. k i (omega arith)) in
    let here = k n (omega arith) in
    omega arith

sum_one_fewer : (n b : ℕ) (f g : ℕ → ℕ) → b < n → ((i : ℕ) → i < n → f i ≤ g i) → suc (f b) ≤ g b → suc (sum_below n f) ≤ sum_below n g
sum_one_fewer zero b f g low k less = absurd (omega arith)
sum_one_fewer (suc n) b f g low k less = go (last_or_below b n low) (sum_one_fewer n b f g)
  where
    go : (b ≡ n) ⊎ (b < n) → (b < n → ((i : ℕ) → i < n → f i ≤ g i) → suc (f b) ≤ g b → suc (sum_below n f) ≤ sum_below n g) → suc (f n + sum_below n f) ≤ g n + sum_below n g
    go (inl e) ih =
        let rest = sum_fewer n f g (λ i under. k i (omega arith)) in
        let at : suc (f n) ≤ g n = rw e at less in
        omega arith
    go (inr under) ih =
        let rest = ih under (λ i u. k i (omega arith)) less in
        let here = k n (omega arith) in
        omega arith

sum_one_more : (n b : ℕ) (f g : ℕ → ℕ) → ((i : ℕ) → i < n → i ≢ b → f i ≤ g i) → f b ≤ suc (g b) → sum_below n f ≤ suc (sum_below n g)
sum_one_more zero b f g k most = omega arith
sum_one_more (suc n) b f g k most = go (same n b) (sum_one_more n b f g (λ i low. k i (omega arith)) most)
  where
    same : (m k : ℕ) → (m ≡ k) ⊎ (m ≢ k)
    same m k = grind arith

    go : (n ≡ b) ⊎ (n ≢ b) → sum_below n f ≤ suc (sum_below n g) → f n + sum_below n f ≤ suc (g n + sum_below n g)
    go (inl e) ih =
        let rest = sum_fewer n f g (λ i under. k i (omega arith) (omega arith)) in
        let at : f n ≤ suc (g n) = rw (← e) at most in
        omega arith
    go (inr other) ih = let here = k n (omega arith) other in omega arith

sum_zero : (n : ℕ) (f : ℕ → ℕ) → ((i : ℕ) → i < n → f i ≡ 0) → sum_below n f ≡ 0
sum_zero zero f k = refl
sum_zero (suc n) f k = let ih = sum_zero n f (λ i low. k i (omega arith)) in let here = k n (omega arith) in omega arith

sum_at : (n b : ℕ) (f : ℕ → ℕ) → b < n → sum_below n f ≡ 0 → f b ≡ 0
sum_at zero b f low e = absurd (omega arith)
sum_at (suc n) b f low e = go (last_or_below b n low) (sum_at n b f)
  where
    go : (b ≡ n) ⊎ (b < n) → (b < n → sum_below n f ≡ 0 → f b ≡ 0) → f b ≡ 0
    go (inl s) ih = let here : f n ≡ 0 = omega arith in rw s here
    go (inr under) ih = ih under (omega arith)

raa_other : (h : Header) (b : ℕ) (place : Issued) (log : Log) → is_act place.command ≡ false → raa h b (place ∷ log) ≤ raa h b log
raa_other h b place log other = go (effect b place.command) refl
  where
    go : (e : Effect) → effect b place.command ≡ e → raa_after h e (raa h b log) ≤ raa h b log
    go (Opens r) is = let p : is_act place.command ≡ true = (opens_act b r place.command is).0 in absurd (cc)
    go Closes is = omega arith
    go Manages is = omega arith
    go Refreshes is = omega arith
    go Leaves is = omega arith

pub excess_other : (h : Header) (place : Issued) (log : Log) → is_act place.command ≡ false → excess h (place ∷ log) ≤ excess h log
unfolding excess
excess_other h place log other = sum_fewer 32 (λ b. raa h b (place ∷ log) + 1 - h.settings.raaimt) (λ b. raa h b log + 1 - h.settings.raaimt) (λ i low. let k = raa_other h i place log other in omega arith)

pub excess_act : (h : Header) (place : Issued) (log : Log) → is_act place.command ≡ true → excess h (place ∷ log) ≤ suc (excess h log)
unfolding excess
excess_act h place log act = go (act_case place.command act)
  where
    go : (bank : Bank) × (row : ℕ) × (place.command ≡ Act bank row) → sum_below 32 (λ b. raa h b (place ∷ log) + 1 - h.settings.raaimt) ≤ suc (sum_below 32 (λ b. raa h b log + 1 - h.settings.raaimt))
    go p = sum_one_more 32 (bank_number p.0) (λ b. raa h b (place ∷ log) + 1 - h.settings.raaimt) (λ b. raa h b log + 1 - h.settings.raaimt)
        (λ i low other.
        let e : raa h i (place ∷ log) ≡ raa h i log = ap (λ (c : Command). raa_after h (effect i c) (raa h i log)) p.2 ∙ ap (λ (e : Effect). raa_after h e (raa h i log)) (opens_other i p.0 p.1 other) in
        omega arith)
        (let own : raa h (bank_number p.0) (place ∷ log) ≡ raa h (bank_number p.0) log + 1 = ap (λ (c : Command). raa_after h (effect (bank_number p.0) c) (raa h (bank_number p.0) log)) p.2 ∙ grows p.0 p.1 (raa h (bank_number p.0) log) in
        omega arith)
      where
        grows : (bank : Bank) (row n : ℕ) → raa_after h (effect (bank_number bank) (Act bank row)) n ≡ n + 1
        grows bank row n = let k : (bank_number bank == bank_number bank) ≡ true = eq-eqb (bank_number bank) (bank_number bank) refl in rw k refl

-- an RFMsb that is wanted lowers it
pub excess_managed : (h : Header) (b : ℕ) (place : Issued) (log : Log) → 1 ≤ h.settings.raaimt → is_act place.command ≡ false → b < 32 → effect b place.command ≡ Manages → h.settings.raaimt ≤ raa h b log → suc (excess h (place ∷ log)) ≤ excess h log
unfolding excess
excess_managed h b place log some other low manages wanted =
    let e : raa h b (place ∷ log) ≡ raa h b log - h.settings.raaimt = ap (λ (e : Effect). raa_after h e (raa h b log)) manages in
    sum_one_fewer 32 b (λ b. raa h b (place ∷ log) + 1 - h.settings.raaimt) (λ b. raa h b log + 1 - h.settings.raaimt) low
    (λ i under. let k = raa_other h i place log other in omega arith) (omega arith)

-- where none is wanted, it is 0, and the other way round
pub excess_none : (h : Header) (log : Log) → ((b : ℕ) → b < 32 → raa h b log < h.settings.raaimt) → excess h log ≡ 0
unfolding excess
excess_none h log k = sum_zero 32 (λ b. raa h b log + 1 - h.settings.raaimt) (λ i low. let e = k i low in omega arith)

pub none_excess : (h : Header) (b : ℕ) (log : Log) → 1 ≤ h.settings.raaimt → b < 32 → excess h log ≡ 0 → raa h b log < h.settings.raaimt
unfolding excess
none_excess h b log some low e = let k = sum_at 32 b (λ b. raa h b log + 1 - h.settings.raaimt) low e in omega arith

-- ---- nMax for each RFMsb that may be wanted

pub spare_is : (h : Header) (own rest : Log) → spare h own rest ≡ (excess h own + excess h rest) * n_max h.timing
unfolding spare
spare_is h own rest = refl

pub spare_swap : (h : Header) (own rest : Log) → spare h own rest ≡ spare h rest own
spare_swap h own rest = spare_is h own rest ∙ ap (λ (n : ℕ). n * n_max h.timing) (both (excess h own) (excess h rest)) ∙ sym (spare_is h rest own)
  where
    both : (a b : ℕ) → a + b ≡ b + a
    both a b = omega arith

pub spare_fewer : (h : Header) (place : Issued) (own rest : Log) → excess h (place ∷ own) ≤ excess h own → spare h (place ∷ own) rest ≤ spare h own rest
spare_fewer h place own rest less =
    let a = spare_is h (place ∷ own) rest in
    let b = spare_is h own rest in
    let c : (excess h (place ∷ own) + excess h rest) * n_max h.timing ≤ (excess h own + excess h rest) * n_max h.timing = mul-le-mul_right (n_max h.timing) (omega arith) in
    omega arith

pub spare_one_fewer : (h : Header) (place : Issued) (own rest : Log) → suc (excess h (place ∷ own)) ≤ excess h own → spare h (place ∷ own) rest + n_max h.timing ≤ spare h own rest
spare_one_fewer h place own rest less =
    let a = spare_is h (place ∷ own) rest in
    let b = spare_is h own rest in
    let c : suc (excess h (place ∷ own) + excess h rest) * n_max h.timing ≤ (excess h own + excess h rest) * n_max h.timing = mul-le-mul_right (n_max h.timing) (omega arith) in
    omega arith

pub spare_most : (h : Header) (own rest : Log) → excess h own + excess h rest ≤ 1 → spare h own rest ≤ n_max h.timing
spare_most h own rest one =
    let a = spare_is h own rest in
    let c : (excess h own + excess h rest) * n_max h.timing ≤ 1 * n_max h.timing = mul-le-mul_right (n_max h.timing) one in
    omega arith
