-- Each ACT serves a request.
use Rattle.std.proofs.Common.{◌≡◌, ◌≢◌, ◌∙◌, ℕ, zero, suc, ◌+◌, ◌<◌, ◌≤◌, ◌⊎◌, inl, inr, ◌==◌, Bool, true, false, cond, Some, List, [], ◌∷◌, length, refl, sym, ap, subst, arith, eq-eqb, ne_eqb}
use Rattle.std.proofs.lemmas.List.Sums.{sum_by-cons}
use Rattle.command_words.specs.Command.{bank_number}
use Rattle.command_words.specs.declared.place.Bank.{Bank}
use Rattle.command_words.specs.declared.command.Command.{Command}
use Rattle.command_words.specs.declared.command.Command.TheVariants.{Act}
use Rattle.speed_bin.specs.Counts.{commands}
use Rattle.command_words.specs.Kinds.{is_act}
use Rattle.speed_bin.specs.Log.{Log, Issued}
use Rattle.speed_bin.proofs.Tests.{both}
use Rattle.requests.specs.declared.waiting.Waiting.{Waiting}
use Rattle.requests.specs.Queue.{hits, in_bank, oldest}
use Rattle.speed_bin.specs.Counters.{is_row}
use Rattle.requests.specs.Owed.{is_column, owed, owed_count, Promised, SparesOwed, count_below}
use Rattle.requests.proofs.Oldest.{Found, oldest-other, holds}
use Rattle.requests.proofs.Owed.{IsColumnOf, act_owed, column_owed, owed-other}

same_or_not : (a b : ℕ) → (a ≡ b) ⊎ (a ≢ b)
same_or_not a b = grind arith

count_same : (n : ℕ) (f g : ℕ → Bool) → ((b : ℕ) → b < n → g b ≡ f b) → count_below n g ≡ count_below n f
unfolding count_below
count_same zero f g h = refl
count_same (suc n) f g h =
    let e = h n (omega arith) in
    let i = count_same n f g (λ b low. h b (omega (arith, low))) in
    ap (λ t. cond t (suc (count_below n g)) (count_below n g)) e ∙ ap (λ k. cond (f n) (suc k) k) i

cond_step : (t : Bool) (a b : ℕ) → a ≤ b + 1 → cond t (suc a) a ≤ cond t (suc b) b + 1
cond_step true a b h = omega (arith, h)
cond_step false a b h = h

cond_up : (t u : Bool) (a : ℕ) → cond t (suc a) a ≤ cond u (suc a) a + 1
cond_up true true a = omega arith
cond_up true false a = omega arith
cond_up false true a = omega arith
cond_up false false a = omega arith

-- tests that differ at one number alone
pub count_near : (n k : ℕ) (f g : ℕ → Bool) → ((b : ℕ) → b ≢ k → g b ≡ f b) → count_below n f ≤ count_below n g + 1
unfolding count_below
count_near zero k f g h = omega arith
count_near (suc n) k f g h = go (same_or_not n k) (count_near n k f g h)
  where
    go : (n ≡ k) ⊎ (n ≢ k) → count_below n f ≤ count_below n g + 1 → count_below (suc n) f ≤ count_below (suc n) g + 1
    go (inl e) ih =
        let i = count_same n f g (λ b low. h b (λ d. omega (arith, low, d, e))) in
        subst (λ m. cond (f n) (suc (count_below n f)) (count_below n f) ≤ cond (g n) (suc m) m + 1) (sym i) (cond_up (f n) (g n) (count_below n f))
    go (inr d) ih =
        subst (λ t. cond (f n) (suc (count_below n f)) (count_below n f) ≤ cond t (suc (count_below n g)) (count_below n g) + 1) (sym (h n d)) (cond_step (f n) (count_below n f) (count_below n g) ih)

both_ways : (t : Bool) (a : ℕ) → cond t (suc (suc a)) (suc a) ≡ suc (cond t (suc a) a)
both_ways true a = refl
both_ways false a = refl

pub count_one_more : (n k : ℕ) (f g : ℕ → Bool) → k < n → f k ≡ false → g k ≡ true → ((b : ℕ) → b ≢ k → g b ≡ f b) → count_below n g ≡ suc (count_below n f)
unfolding count_below
count_one_more zero k f g low p q h = absurd (omega (arith, low))
count_one_more (suc n) k f g low p q h = go (same_or_not n k) (λ l. count_one_more n k f g l p q h)
  where
    go : (n ≡ k) ⊎ (n ≢ k) → (k < n → count_below n g ≡ suc (count_below n f)) → count_below (suc n) g ≡ suc (count_below (suc n) f)
    go (inl e) ih =
        let i = count_same n f g (λ b l. h b (λ d. omega (arith, l, d, e))) in
        let a : f n ≡ false = ap f e ∙ p in
        let c : g n ≡ true = ap g e ∙ q in
        ap (λ t. cond t (suc (count_below n g)) (count_below n g)) c ∙ ap (λ m. suc m) i ∙ sym (ap (λ t. suc (cond t (suc (count_below n f)) (count_below n f))) a)
    go (inr d) ih =
        let i = ih (omega (arith, low, d)) in
        ap (λ t. cond t (suc (count_below n g)) (count_below n g)) (h n d) ∙ ap (λ m. cond (f n) (suc m) m) i ∙ both_ways (f n) (count_below n f)

differs : (k b : ℕ) (u v : Bool) → b ≢ k → cond (k == b) u v ≡ v
differs k b u v d = ap (λ t. cond t u v) (ne_eqb k b (λ e. d (sym e)))

-- ---- The owed banks after a command

pub owed_act : (bank : Bank) (row clock : ℕ) (log : Log) → bank_number bank < 32 → owed (bank_number bank) log ≡ false → owed_count (record { clock = clock; command = Act bank row } ∷ log) ≡ suc (owed_count log)
unfolding owed_count
owed_act bank row clock log low fresh =
    let k = bank_number bank in
    count_one_more 32 k (λ b. owed b log) (λ b. owed b (record { clock = clock; command = Act bank row } ∷ log)) low fresh
    (act_owed bank row k (owed k log) ∙ ap (λ t. cond t true (owed k log)) (eq-eqb k k refl))
    (λ b d. act_owed bank row b (owed b log) ∙ differs k b true (owed b log) d)

pub owed_column : (command : Command) (bank : Bank) (clock : ℕ) (log : Log) → IsColumnOf command bank → owed_count log ≤ owed_count (record { clock = clock; command = command } ∷ log) + 1
unfolding owed_count
owed_column command bank clock log is =
    let k = bank_number bank in
    count_near 32 k (λ b. owed b log) (λ b. owed b (record { clock = clock; command = command } ∷ log))
    (λ b d. column_owed command bank b (owed b log) is ∙ differs k b false (owed b log) d)

pub owed_same : (command : Command) (clock : ℕ) (log : Log) → is_act command ≡ false → is_column command ≡ false → SparesOwed command log → owed_count (record { clock = clock; command = command } ∷ log) ≡ owed_count log
unfolding owed_count
owed_same command clock log no_act no_column spares =
    count_same 32 (λ b. owed b log) (λ b. owed b (record { clock = clock; command = command } ∷ log))
    (λ b low. owed-other b command (owed b log) no_act no_column (spares b low))

-- ---- How many commands of a kind

counted : (t : Bool) (n m : ℕ) → n ≡ cond t 1 0 + m → n ≡ cond t (m + 1) m
counted true n m e = omega (arith, e)
counted false n m e = omega (arith, e)

commands-cons : (kind : Command → Bool) (place : Issued) (log : Log) → commands kind (place ∷ log) ≡ cond (kind place.command) (commands kind log + 1) (commands kind log)
commands-cons kind place log = counted _ _ _ (sum_by-cons (λ (p : Issued). cond (kind p.command) 1 0) place log)

pub one_more : (kind : Command → Bool) (place : Issued) (log : Log) → kind place.command ≡ true → commands kind (place ∷ log) ≡ commands kind log + 1
one_more kind place log e = commands-cons kind place log ∙ ap (λ t. cond t (commands kind log + 1) (commands kind log)) e

pub no_more : (kind : Command → Bool) (place : Issued) (log : Log) → kind place.command ≡ false → commands kind (place ∷ log) ≡ commands kind log
no_more kind place log e = commands-cons kind place log ∙ ap (λ t. cond t (commands kind log + 1) (commands kind log)) e

-- ---- As many banks are owed as requests wait, at the most

count_none : (n : ℕ) (f : ℕ → Bool) → ((b : ℕ) → b < n → f b ≡ true → ⊥) → count_below n f ≡ 0
unfolding count_below
count_none zero f h = refl
count_none (suc n) f h = go (f n) refl (count_none n f (λ b low. h b (omega (arith, low))))
  where
    go : (t : Bool) → f n ≡ t → count_below n f ≡ 0 → cond (f n) (suc (count_below n f)) (count_below n f) ≡ 0
    go true e i = absurd (h n (omega arith) e)
    go false e i = ap (λ t. cond t (suc (count_below n f)) (count_below n f)) e ∙ i

pub pigeons : (n : ℕ) (ws : List Waiting) (f : ℕ → Bool) → ((b : ℕ) → b < n → f b ≡ true → Found (in_bank b) ws) → count_below n f ≤ length ws
pigeons n [] f h = let e = count_none n f (λ b low t. let k = h b low t in let m = k.found in cc) in omega (arith, e)
pigeons n (w ∷ ws) f h =
    let k = bank_number w.place.bank in
    let g : ℕ → Bool = λ b. cond (k == b) false (f b) in
    let e = count_near n k f g (λ b d. differs k b false (f b) d) in
    let i = pigeons n ws g (λ b low t. go b low (k == b) refl t) in
    omega (arith, e, i)
  where
    go : (b : ℕ) → b < n → (t : Bool) → (bank_number w.place.bank == b) ≡ t → cond (bank_number w.place.bank == b) false (f b) ≡ true → Found (in_bank b) ws
    go b low true p q = let r = sym (ap (λ t. cond t false (f b)) p) ∙ q in cc
    go b low false p q =
        let m = h b low (sym (ap (λ t. cond t false (f b)) p) ∙ q) in
        record { request = m.request; found = sym (ap (λ t. cond t (Some w) (oldest (in_bank b) ws)) p) ∙ m.found }

pub owed_few : (ws : List Waiting) (log : Log) → Promised ws log → owed_count log ≤ length ws
unfolding owed_count
owed_few ws log h = pigeons 32 ws (λ b. owed b log) (λ b low t.
    let k = h b low t in
    let o = both (in_bank b k.request) (is_row (Some k.row) k.request.place.row) (holds (hits b (Some k.row)) ws k.request k.waits) in
    oldest-other (hits b (Some k.row)) (in_bank b) ws k.request k.waits o.0)
