-- Where an RFM is wanted.
use Rattle.std.proofs.Common.{◌≡◌, ◌∙◌, ℕ, ◌%◌, ◌<◌, ◌≤◌, Bool, true, false, ◌&&◌, ◌==◌, nat_le, IsTrue, slice_index, refl, sym, arith, eq-eqb, leb-true, le-leb, List, ◌+◌, ◌*◌}
use Rattle.command_words.specs.Command.{is_at}
use Rattle.command_words.specs.declared.command.Command.TheVariants.{RfmAb, RfmSb}
use Rattle.speed_bin.specs.declared.header.Header.{Header}
use Rattle.speed_bin.specs.Log.{Log, raa}
use Rattle.speed_bin.specs.Rules.{is_wanted}
use Rattle.rfm_counts.specs.Held.{Held, is_high_at}
use Rattle.judged_logs.specs.Rolling.{RollingFor}
use Rattle.speed_bin.proofs.Tests.{both, joined, any_below_at, any_below_none, any_below_some, any_below_same}

pub high_is_wanted : (it : Held) (h : Header) (log : Log) (address : ℕ) → RollingFor it h log → is_high_at it address ≡ is_wanted h (RfmSb address) log
high_is_wanted it h log address keeps =
    any_below_same 32 (λ b. is_at address b && nat_le it.raaimt (slice_index it.counts b)) (λ b. is_at address b && nat_le h.settings.raaimt (raa h b log))
    (λ b low. let count = keeps.counts b low in let limit = keeps.raaimt in rw (count, limit) refl)

-- a bank at RAAIMT or more has an address at which that is so
pub wanted_at_none : (h : Header) (log : Log) → ((address : ℕ) → address < 4 → is_wanted h (RfmSb address) log ≡ false) → is_wanted h RfmAb log ≡ false
wanted_at_none h log none = any_below_none 32 (λ b. nat_le h.settings.raaimt (raa h b log)) (λ b low. go b low (nat_le h.settings.raaimt (raa h b log)) refl)
  where
    go : (b : ℕ) → b < 32 → (t : Bool) → nat_le h.settings.raaimt (raa h b log) ≡ t → nat_le h.settings.raaimt (raa h b log) ≡ false
    go b low false e = e
    go b low true e =
        let own : (b % 4 == b % 4) ≡ true = eq-eqb (b % 4) (b % 4) refl in
        let high = any_below_at 32 (λ i. is_at (b % 4) i && nat_le h.settings.raaimt (raa h i log)) b low (joined _ _ own e) in
        let not_high = none (b % 4) (omega arith) in
        cc

pub wanted_all : (h : Header) (log : Log) (address : ℕ) → is_wanted h (RfmSb address) log ≡ true → is_wanted h RfmAb log ≡ true
wanted_all h log address wanted =
    let some = any_below_some 32 (λ b. is_at address b && nat_le h.settings.raaimt (raa h b log)) wanted in
    any_below_at 32 (λ b. nat_le h.settings.raaimt (raa h b log)) some.0 some.1 (both _ _ some.2).1

-- ---- A scan of the eight banks with one address

pub high_from : (raaimt : ℕ) (counts : List ℕ) (address group : ℕ) → group < 8 → address < 4 → raaimt ≤ slice_index counts (group * 4 + address) → is_high_at (record { raaimt = raaimt; raammt = 0; counts = counts }) address ≡ true
high_from raaimt counts address group g a h =
    let own : is_at address (group * 4 + address) ≡ true = eq-eqb _ _ (omega arith) in
    let high : nat_le raaimt (slice_index counts (group * 4 + address)) ≡ true = le-leb _ _ h in
    any_below_at 32 (λ b. is_at address b && nat_le raaimt (slice_index counts b)) (group * 4 + address) (omega arith) (joined _ _ own high)

pub low_from : (raaimt : ℕ) (counts : List ℕ) (address n : ℕ) → 8 ≤ n → ((b : ℕ) → b < 4 * n → IsTrue (is_at address b) → slice_index counts b < raaimt) → is_high_at (record { raaimt = raaimt; raammt = 0; counts = counts }) address ≡ false
low_from raaimt counts address n all h = any_below_none 32 (λ b. is_at address b && nat_le raaimt (slice_index counts b)) (λ b low. go b low (is_at address b) refl (nat_le raaimt (slice_index counts b)) refl)
  where
    go : (b : ℕ) → b < 32 → (t : Bool) → is_at address b ≡ t → (u : Bool) → nat_le raaimt (slice_index counts b) ≡ u → (is_at address b && nat_le raaimt (slice_index counts b)) ≡ false
    go b low false e u f = rw e refl
    go b low true e false f = rw (e, f) refl
    go b low true e true f = absurd (omega (arith, h b (omega arith) e, leb-true raaimt (slice_index counts b) f))

-- not wanted where a bank's count is not high
pub not_wanted : (it : Held) (h : Header) (log : Log) (address : ℕ) → RollingFor it h log → is_high_at it address ≡ false → is_wanted h (RfmSb address) log ≡ false
not_wanted it h log address keeps e = sym (high_is_wanted it h log address keeps) ∙ e

pub is_wanted_at : (it : Held) (h : Header) (log : Log) (address : ℕ) → RollingFor it h log → is_high_at it address ≡ true → is_wanted h (RfmSb address) log ≡ true
is_wanted_at it h log address keeps e = sym (high_is_wanted it h log address keeps) ∙ e
