-- What it takes to stand for a longer log.
use Rattle.std.proofs.Common.{◌≡◌, ◌≢◌, ◌∙◌, ℕ, zero, suc, ◌+◌, ◌-◌, ◌/◌, ◌<◌, ◌≤◌, ◌⊎◌, ◌==◌, true, false, cond, Bool, List, [], ◌∷◌, IsTrue, None, Some, Option, replicate, length, slice_index, slice_set, refl, sym, ap, arith, inl, inr, eq-eqb, ne_eqb, get_or-set_same, get_or-set_other, length-set, ltb-true}
use Rattle.command_words.specs.Command.{bank_number, is_at}
use Rattle.command_words.specs.declared.command.Command.{Command}
use Rattle.command_words.specs.declared.command.Command.TheVariants.{Act, RfmAb, RfmSb, RefAb, RefSb}
use Rattle.command_words.specs.declared.place.Bank.{Bank}
use Rattle.speed_bin.specs.declared.header.Header.{Header}
use Rattle.speed_bin.specs.declared.settings.Settings.{Settings}
use Rattle.command_words.specs.Kinds.{effect, Opens, Manages, Refreshes, Leaves}
use Rattle.speed_bin.specs.Log.{Log, raa, raa_after}
use Rattle.speed_bin.specs.Rules.{rule_9}
use Rattle.rfm_counts.specs.Held.{Held, HasSameLimits, lowered}
use Rattle.rfm_counts.specs.Standing.{Keeps, StandsFor, MayIssue}
use Rattle.std.proofs.Math.Logic.{∥∥₁_elim}
use Rattle.std.proofs.lemmas.List.{get_or_past}
use native.Mathlib.Bridge.{le_prop}

zero_at : (n b : ℕ) → slice_index (replicate n 0) b ≡ 0
zero_at zero b = refl
zero_at (suc n) zero = refl
zero_at (suc n) (suc b) = zero_at n b

pub stands_at_first : (s : Settings) (h : Header) → h.settings ≡ s → StandsFor (record { raaimt = s.raaimt; raammt = s.raammt; counts = replicate 32 0 }) h []
unfolding StandsFor
stands_at_first s h is = record {
  raaimt = sym (ap (λ (x : Settings). x.raaimt) is);
  raammt = sym (ap (λ (x : Settings). x.raammt) is);
  banks = refl;
  counts = λ b low. zero_at 32 b;
  allowed = tt;
}

-- the counts after a command are those before it, by its effect on each bank
pub stands_after : (h : Header) (old new : Held) (command : Command) → HasSameLimits old new → ((b : ℕ) → b < 32 → length old.counts ≡ 32 → old.raaimt ≡ h.settings.raaimt → slice_index new.counts b ≡ raa_after h (effect b command) (slice_index old.counts b)) → (clock : ℕ) (log : Log) → StandsFor old h log → IsTrue (rule_9 h command log) → StandsFor new h (record { clock = clock; command = command } ∷ log)
unfolding StandsFor
stands_after h old new command same step clock log stands allowed = record {
  raaimt = same.raaimt ∙ stands.raaimt;
  raammt = same.raammt ∙ stands.raammt;
  banks = same.banks ∙ stands.banks;
  counts = λ b low. step b low stands.banks stands.raaimt ∙ ap (λ (n : ℕ). raa_after h (effect b command) n) (stands.counts b low);
  allowed = (stands.allowed, allowed);
}

-- ---- An ACT

same_or_not : (a b : ℕ) → (a ≡ b) ⊎ (a ≢ b)
same_or_not a b = grind arith

step_act : (h : Header) (xs ys : List ℕ) (bank : Bank) (row : ℕ) → ys ≡ slice_set xs (bank_number bank) (slice_index xs (bank_number bank) + 1) → (b : ℕ) → b < 32 → length xs ≡ 32 → slice_index ys b ≡ raa_after h (effect b (Act bank row)) (slice_index xs b)
step_act h xs ys bank row is b low long = go (same_or_not (bank_number bank) b)
  where
    go : (bank_number bank ≡ b) ⊎ (bank_number bank ≢ b) → slice_index ys b ≡ raa_after h (cond (bank_number bank == b) (Opens row) Leaves) (slice_index xs b)
    go (inl e) =
        let t : (bank_number bank == b) ≡ true = eq-eqb _ _ e in
        rw (t, is, e) (get_or-set_same xs b (slice_index xs b + 1) 0 (omega arith))
    go (inr other) =
        let t : (bank_number bank == b) ≡ false = ne_eqb _ _ other in
        rw (t, is) (get_or-set_other xs (bank_number bank) b _ 0 (λ e. other (sym e)))

pub stands_act : (h : Header) (old new : Held) (bank : Bank) (row : ℕ) → new ≡ record old { counts = slice_set old.counts (bank_number bank) (slice_index old.counts (bank_number bank) + 1) } → (clock : ℕ) (log : Log) → StandsFor old h log → IsTrue (rule_9 h (Act bank row) log) → StandsFor new h (record { clock = clock; command = Act bank row } ∷ log)
stands_act h old new bank row is = stands_after h old new (Act bank row) (record { raaimt = ap (λ (x : Held). x.raaimt) is; raammt = ap (λ (x : Held). x.raammt) is; banks = ap (λ (x : Held). length x.counts) is ∙ length-set _ _ _ }) (λ b low long m. step_act h old.counts new.counts bank row (ap (λ (x : Held). x.counts) is) b low long)

-- where an ACT may be issued its bank's count is below the greatest (no bank has a number of 32 or more, and the
-- list has 0 there)
pub may_add : (it : Held) (bank : Bank) (row : ℕ) → MayIssue it (Act bank row) → slice_index it.counts (bank_number bank) < it.raammt
unfolding StandsFor
may_add it bank row may = ∥∥₁_elim may le_prop (λ p. go p.0 p.1 p.2 p.3)
  where
    below_or_not : (a b : ℕ) → (a < b) ⊎ (b ≤ a)
    below_or_not a b = grind arith

    go : (h : Header) (log : Log) → Keeps it h log → IsTrue (rule_9 h (Act bank row) log) → slice_index it.counts (bank_number bank) < it.raammt
    go h log stands k = at (below_or_not (bank_number bank) 32)
      where
        r : raa h (bank_number bank) log < h.settings.raammt
        r = ltb-true _ _ k

        at : (bank_number bank < 32) ⊎ (32 ≤ bank_number bank) → slice_index it.counts (bank_number bank) < it.raammt
        at (inl low) =
            let e = stands.counts (bank_number bank) low in
            let m = stands.raammt in
            omega (arith, r)
        at (inr high) =
            let m = stands.raammt in
            let l = stands.banks in
            let past : slice_index it.counts (bank_number bank) ≡ 0 = get_or_past it.counts (bank_number bank) 0 (omega arith) in
            omega (arith, r)

-- ---- The four commands that lower counts

-- what the command does to one bank is to lower its count
pub Lowers : Command → Option ℕ → ℕ → Header → Type 0
Lowers command address by h = (b x : ℕ) → lowered address by b x ≡ raa_after h (effect b command) x

pub rfm_all : (h : Header) (by : ℕ) → by ≡ h.settings.raaimt → Lowers RfmAb None by h
unfolding Lowers
rfm_all h by is = λ b x. ap (λ (n : ℕ). x - n) is

pub rfm_same : (h : Header) (address by : ℕ) → by ≡ h.settings.raaimt → Lowers (RfmSb address) (Some address) by h
unfolding Lowers
rfm_same h address by is = λ b x. go b x (is_at address b)
  where
    go : (b x : ℕ) (t : Bool) → cond t (x - by) x ≡ raa_after h (cond t Manages Leaves) x
    go b x true = ap (λ (n : ℕ). x - n) is
    go b x false = refl

pub ref_all : (h : Header) (by : ℕ) → by ≡ h.settings.raaimt / 2 → Lowers RefAb None by h
unfolding Lowers
ref_all h by is = λ b x. ap (λ (n : ℕ). x - n) is

pub ref_same : (h : Header) (address by : ℕ) → by ≡ h.settings.raaimt / 2 → Lowers (RefSb address) (Some address) by h
unfolding Lowers
ref_same h address by is = λ b x. go b x (is_at address b)
  where
    go : (b x : ℕ) (t : Bool) → cond t (x - by) x ≡ raa_after h (cond t Refreshes Leaves) x
    go b x true = ap (λ (n : ℕ). x - n) is
    go b x false = refl

pub stands_lowered : (h : Header) (old new : Held) (command : Command) (address : Option ℕ) (by : ℕ) → HasSameLimits old new → ((b : ℕ) → b < 32 → slice_index new.counts b ≡ lowered address by b (slice_index old.counts b)) → (old.raaimt ≡ h.settings.raaimt → Lowers command address by h) → (clock : ℕ) (log : Log) → StandsFor old h log → IsTrue (rule_9 h command log) → StandsFor new h (record { clock = clock; command = command } ∷ log)
unfolding Lowers
stands_lowered h old new command address by same lowers is = stands_after h old new command same (λ b low banks m. lowers b low ∙ is m b (slice_index old.counts b))
