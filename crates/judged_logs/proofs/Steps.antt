-- What it takes for rolling counts to stand for a longer log.
use Rattle.std.proofs.Common.{◌≡◌, ◌≢◌, ◌∙◌, ℕ, zero, suc, ◌+◌, ◌-◌, ◌/◌, ◌<◌, ◌≤◌, ◌^◌, ◌⊎◌, ◌==◌, true, false, cond, Bool, List, [], ◌∷◌, None, Some, Option, replicate, length, slice_index, slice_set, refl, sym, ap, arith, inl, inr, eq-eqb, ne_eqb, get_or-set_same, get_or-set_other}
use Rattle.command_words.specs.Command.{bank_number, is_at}
use Rattle.command_words.specs.declared.command.Command.{Command}
use Rattle.command_words.specs.declared.command.Command.TheVariants.{Act, RfmAb, RfmSb, RefAb, RefSb}
use Rattle.command_words.specs.declared.place.Bank.{Bank}
use Rattle.speed_bin.specs.declared.header.Header.{Header}
use Rattle.speed_bin.specs.declared.settings.Settings.{Settings}
use Rattle.command_words.specs.Kinds.{Effect, Closes, effect, Opens, Manages, Refreshes, Leaves}
use Rattle.speed_bin.specs.Log.{Log, raa, raa_after}
use Rattle.rfm_counts.specs.Held.{Held, HasSameLimits, lowered}
use Rattle.judged_logs.specs.Rolling.{RollingFor}
use Rattle.std.proofs.lemmas.List.{get_or_past}

zero_at : (n b : ℕ) → slice_index (replicate n 0) b ≡ 0
zero_at zero b = refl
zero_at (suc n) zero = refl
zero_at (suc n) (suc b) = zero_at n b

pub stands_at_first : (s : Settings) (h : Header) → h.settings ≡ s → RollingFor (record { raaimt = s.raaimt; raammt = s.raammt; counts = replicate 32 0 }) h []
stands_at_first s h is = record {
  raaimt = sym (ap (λ (x : Settings). x.raaimt) is);
  raammt = sym (ap (λ (x : Settings). x.raammt) is);
  banks = refl;
  counts = λ b low. zero_at 32 b;
}

-- the counts after a command are those before it, by its effect on each bank
pub stands_after : (h : Header) (old new : Held) (command : Command) → HasSameLimits old new → ((b : ℕ) → b < 32 → length old.counts ≡ 32 → old.raaimt ≡ h.settings.raaimt → slice_index new.counts b ≡ raa_after h (effect b command) (slice_index old.counts b)) → (clock : ℕ) (log : Log) → RollingFor old h log → RollingFor new h (record { clock = clock; command = command } ∷ log)
stands_after h old new command same step clock log stands = record {
  raaimt = same.raaimt ∙ stands.raaimt;
  raammt = same.raammt ∙ stands.raammt;
  banks = same.banks ∙ stands.banks;
  counts = λ b low. step b low stands.banks stands.raaimt ∙ ap (λ (n : ℕ). raa_after h (effect b command) n) (stands.counts b low);
}

-- ---- An ACT

same_or_not : (a b : ℕ) → (a ≡ b) ⊎ (a ≢ b)
same_or_not a b = grind arith

step_act : (h : Header) (xs ys : List ℕ) (bank : Bank) (row : ℕ) → ys ≡ slice_set xs (bank_number bank) (slice_index xs (bank_number bank) + 1) → (b : ℕ) → b < 32 → length xs ≡ 32 → slice_index ys b ≡ raa_after h (effect b (Act bank row)) (slice_index xs b)
step_act h xs ys bank row is b low long = go (same_or_not (bank_number bank) b)
  where
    go : (bank_number bank ≡ b) ⊎ (bank_number bank ≢ b) → slice_index ys b ≡ raa_after h (cond (bank_number bank == b) (Opens row) Leaves) (slice_index xs b)
    go (inl e) =
        let t : (bank_number bank == b) ≡ true = eq-eqb _ _ e in
        rw (t, is, e) (get_or-set_same xs b (slice_index xs b + 1) 0 (omega arith))
    go (inr other) =
        let t : (bank_number bank == b) ≡ false = ne_eqb _ _ other in
        rw (t, is) (get_or-set_other xs (bank_number bank) b _ 0 (λ e. other (sym e)))

-- ---- No count is greater than the number of commands

raa_step : (h : Header) (e : Effect) (n m : ℕ) → n ≤ m → raa_after h e n ≤ suc m
raa_step h (Opens row) n m le = omega arith
raa_step h Closes n m le = omega arith
raa_step h Manages n m le = omega arith
raa_step h Refreshes n m le = less n m (h.settings.raaimt / 2) le
  where
    less : (n m by : ℕ) → n ≤ m → n - by ≤ suc m
    less n m by le = omega arith
raa_step h Leaves n m le = omega arith

raa_short : (h : Header) (b : ℕ) (log : Log) → raa h b log ≤ length log
raa_short h b [] = omega arith
raa_short h b (place ∷ log) = raa_step h (effect b place.command) (raa h b log) (length log) (raa_short h b log)

below_or_not : (a b : ℕ) → (a < b) ⊎ (b ≤ a)
below_or_not a b = grind arith

-- no bank has a number of 32 or more, and the list has 0 there
in_room : (it : Held) (h : Header) (bank : Bank) (log : Log) → RollingFor it h log → length log < 2 ^ 64 - 1 → slice_index it.counts (bank_number bank) < 2 ^ 64 - 1
in_room it h bank log stands short = at (below_or_not (bank_number bank) 32)
  where
    at : (bank_number bank < 32) ⊎ (32 ≤ bank_number bank) → slice_index it.counts (bank_number bank) < 2 ^ 64 - 1
    at (inl low) =
        let e = stands.counts (bank_number bank) low in
        let few = raa_short h (bank_number bank) log in
        omega (arith, e, few, short)
    at (inr high) =
        let l = stands.banks in
        let past : slice_index it.counts (bank_number bank) ≡ 0 = get_or_past it.counts (bank_number bank) 0 (omega arith) in
        omega (arith, past)

pub stands_act : (h : Header) (old new : Held) (bank : Bank) (row : ℕ) → HasSameLimits old new → (slice_index old.counts (bank_number bank) < 2 ^ 64 - 1 → new.counts ≡ slice_set old.counts (bank_number bank) (slice_index old.counts (bank_number bank) + 1)) → (clock : ℕ) (log : Log) → RollingFor old h log → length log < 2 ^ 64 - 1 → RollingFor new h (record { clock = clock; command = Act bank row } ∷ log)
stands_act h old new bank row same is clock log stands short =
    let counted = is (in_room old h bank log stands short) in
    stands_after h old new (Act bank row) same (λ b low long m. step_act h old.counts new.counts bank row counted b low long) clock log stands

-- ---- The four commands that lower counts

-- what the command does to one bank is to lower its count
pub Lowers : Command → Option ℕ → ℕ → Header → Type 0
Lowers command address by h = (b x : ℕ) → lowered address by b x ≡ raa_after h (effect b command) x

pub rfm_all : (h : Header) (by : ℕ) → by ≡ h.settings.raaimt → Lowers RfmAb None by h
unfolding Lowers
rfm_all h by is = λ b x. ap (λ (n : ℕ). x - n) is

pub rfm_same : (h : Header) (address by : ℕ) → by ≡ h.settings.raaimt → Lowers (RfmSb address) (Some address) by h
unfolding Lowers
rfm_same h address by is = λ b x. go b x (is_at address b)
  where
    go : (b x : ℕ) (t : Bool) → cond t (x - by) x ≡ raa_after h (cond t Manages Leaves) x
    go b x true = ap (λ (n : ℕ). x - n) is
    go b x false = refl

pub ref_all : (h : Header) (by : ℕ) → by ≡ h.settings.raaimt / 2 → Lowers RefAb None by h
unfolding Lowers
ref_all h by is = λ b x. ap (λ (n : ℕ). x - n) is

pub ref_same : (h : Header) (address by : ℕ) → by ≡ h.settings.raaimt / 2 → Lowers (RefSb address) (Some address) by h
unfolding Lowers
ref_same h address by is = λ b x. go b x (is_at address b)
  where
    go : (b x : ℕ) (t : Bool) → cond t (x - by) x ≡ raa_after h (cond t Refreshes Leaves) x
    go b x true = ap (λ (n : ℕ). x - n) is
    go b x false = refl

pub stands_lowered : (h : Header) (old new : Held) (command : Command) (address : Option ℕ) (by : ℕ) → HasSameLimits old new → ((b : ℕ) → b < 32 → slice_index new.counts b ≡ lowered address by b (slice_index old.counts b)) → (old.raaimt ≡ h.settings.raaimt → Lowers command address by h) → (clock : ℕ) (log : Log) → RollingFor old h log → length log < 2 ^ 64 - 1 → RollingFor new h (record { clock = clock; command = command } ∷ log)
unfolding Lowers
stands_lowered h old new command address by same lowers is = λ clock log stands short. stands_after h old new command same (λ b low banks m. lowers b low ∙ is m b (slice_index old.counts b)) clock log stands
