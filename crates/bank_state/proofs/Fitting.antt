-- Which commands fit, and what is wrong with the others.
use Rattle.std.proofs.Common.{◌≡◌, ◌∙◌, ℕ, ◌<◌, ◌⊎◌, Bool, true, false, not, ◌&&◌, ◌||◌, IsTrue, ◌↔◌, Result, Err, List, Option, None, is_none, is_some, refl, sym, inl, inr}
use Rattle.command_words.specs.Command.{bank_number, is_at}
use Rattle.command_words.specs.declared.command.Command.{Command}
use Rattle.command_words.specs.declared.command.Command.TheVariants.{Act, Rd, Wr, RefAb, RefSb, RfmAb, RfmSb, Mrw, Ecs}
use Rattle.command_words.specs.declared.command.Mrw.{Mrw as Write}
use Rattle.speed_bin.specs.Below.{all_below}
use Rattle.command_words.specs.Kinds.{is_act, is_rd, is_wr}
use Rattle.speed_bin.specs.Log.{Log, open_at}
use Rattle.speed_bin.specs.Rules.{rule_4, rule_5, all_closed}
use Rattle.bank_state.specs.declared.fault.StateFault.{StateFault}
use Rattle.bank_state.specs.declared.fault.StateFault.TheVariants.{IsOpen, IsClosed, NotAllClosed}
use Rattle.bank_state.specs.Faults.{fault_of}
use Rattle.bank_state.specs.Rows.{row_of}
use Rattle.bank_state.specs.Standing.{Keeps, Fits}
use Rattle.speed_bin.proofs.Tests.{both, joined, all_below_at, all_below_from, when_not, none_from_test}

and_true : (x : Bool) → x ≡ (x && true)
and_true true = refl
and_true false = refl

-- the banks with one address are closed
pub closed_at : ℕ → Log → Bool
closed_at address log = all_below 32 (λ b. not (is_at address b) || is_none (open_at b log))

pub closed_at_test : (rows : List (Option ℕ)) (address : ℕ) (log : Log) (result : Bool) → (IsTrue result ↔ ((b : ℕ) → b < 32 → IsTrue (is_at address b) → row_of rows b ≡ None)) → Keeps rows log → result ≡ closed_at address log
unfolding closed_at
closed_at_test rows address log result h keeps = go result refl (closed_at address log) refl
  where
    test : ℕ → Bool
    test b = not (is_at address b) || is_none (open_at b log)

    each : (b : ℕ) → open_at b log ≡ None → (t : Bool) → is_at address b ≡ t → (not t || is_none (open_at b log)) ≡ true
    each b o false e = refl
    each b o true e = rw o refl

    passes : ((b : ℕ) → b < 32 → is_at address b ≡ true → row_of rows b ≡ None) → (b : ℕ) → b < 32 → (t : Bool) → is_at address b ≡ t → (not t || is_none (open_at b log)) ≡ true
    passes closed b low false e = refl
    passes closed b low true e = let o : open_at b log ≡ None = sym (keeps.open_rows b low) ∙ closed b low e in rw o refl

    go : (r : Bool) → result ≡ r → (u : Bool) → closed_at address log ≡ u → r ≡ u
    go true e true f = refl
    go false e false f = refl
    go true e false f =
        let all : closed_at address log ≡ true = all_below_from 32 (λ b. not (is_at address b) || is_none (open_at b log)) (λ b low. passes (h.0 e) b low (is_at address b) refl) in
        cc
    go false e true f =
        let back : result ≡ true = h.1 (λ b low asked. keeps.open_rows b low ∙ none_from_test (open_at b log) (when_not _ _ (all_below_at 32 (λ i. not (is_at address i) || is_none (open_at i log)) b f low) asked)) in
        cc

-- ---- What the two rules say of each command

pub asks_all : (command : Command) (log : Log) → (command ≡ RefAb) ⊎ ((command ≡ RfmAb) ⊎ (((x : Write) × (command ≡ Mrw x)) ⊎ (command ≡ Ecs))) → all_closed log ≡ (rule_4 command log && rule_5 command log)
asks_all command log (inl e) = rw e refl
asks_all command log (inr (inl e)) = rw e refl
asks_all command log (inr (inr (inl e))) = rw e.1 refl
asks_all command log (inr (inr (inr e))) = rw e refl

pub asks_same : (command : Command) (address : ℕ) (log : Log) → (command ≡ RefSb address) ⊎ (command ≡ RfmSb address) → closed_at address log ≡ (rule_4 command log && rule_5 command log)
unfolding closed_at
asks_same command address log (inl e) = rw e refl
asks_same command address log (inr e) = rw e refl

-- ---- The answer

-- what is wrong where a command does not fit
pub record Wrong (command : Command) (log : Log) : Type 0 where
  pub is_open : (fault_of command ≡ IsOpen) ↔ (IsTrue (is_act command) × (rule_4 command log ≡ false))
  pub is_closed : (fault_of command ≡ IsClosed) ↔ (IsTrue (is_rd command || is_wr command) × (rule_4 command log ≡ false))
  pub not_all_closed : (fault_of command ≡ NotAllClosed) ↔ (rule_5 command log ≡ false)

pub wrong : (command : Command) (log : Log) → false ≡ (rule_4 command log && rule_5 command log) → Wrong command log
wrong (Act bank row) log h =
    let closed = and_true (is_none (open_at (bank_number bank) log)) in
    record {
      is_open = (λ e. (refl, closed ∙ sym h), λ p. refl);
      is_closed = (λ e. absurd cc, λ p. let impossible = p.0 in absurd cc);
      not_all_closed = (λ e. absurd cc, λ e. absurd cc);
    }
wrong (Rd bank column) log h =
    let opened = and_true (is_some (open_at (bank_number bank) log)) in
    record {
      is_open = (λ e. absurd cc, λ p. let impossible = p.0 in absurd cc);
      is_closed = (λ e. (refl, opened ∙ sym h), λ p. refl);
      not_all_closed = (λ e. absurd cc, λ e. absurd cc);
    }
wrong (Wr bank column) log h =
    let opened = and_true (is_some (open_at (bank_number bank) log)) in
    record {
      is_open = (λ e. absurd cc, λ p. let impossible = p.0 in absurd cc);
      is_closed = (λ e. (refl, opened ∙ sym h), λ p. refl);
      not_all_closed = (λ e. absurd cc, λ e. absurd cc);
    }
wrong command log h = record {
  is_open = (λ e. absurd cc, λ p. let impossible = p.0 in absurd cc);
  is_closed = (λ e. absurd cc, λ p. let impossible = p.0 in absurd cc);
  not_all_closed = (λ e. sym h, λ e. refl);
}

-- where both rules hold the answer is that the command fits, and none of the three faults
pub record Right (command : Command) (log : Log) : Type 0 where
  pub fits : Fits command log
  pub four : (rule_4 command log ≡ false) → ⊥
  pub five : (rule_5 command log ≡ false) → ⊥

pub right : (command : Command) (log : Log) → true ≡ (rule_4 command log && rule_5 command log) → Right command log
right command log h =
    let p = both (rule_4 command log) (rule_5 command log) (sym h) in
    record {
      fits = record { fourth = p.0; fifth = p.1 };
      four = λ e. (let four = p.0 in cc);
      five = λ e. (let five = p.1 in cc);
    }

pub never_fits : (command : Command) (log : Log) → false ≡ (rule_4 command log && rule_5 command log) → Fits command log → ⊥
never_fits command log h fits = let e = joined (rule_4 command log) (rule_5 command log) fits.fourth fits.fifth in cc

abbrev pub failed : StateFault → Result (Unit {0}) StateFault
failed fault = Err fault

-- an answer names a fault exactly where that fault is the command's
pub same_fault : (fault : StateFault) (command : Command) (other : StateFault) (P : Type 0) → fault ≡ fault_of command → ((fault_of command ≡ other) ↔ P) → (failed fault ≡ failed other) ↔ P
same_fault fault command other P is h = (λ e. h.0 cc, λ p. let named = h.1 p in cc)
