-- What the service names, as numbers that are counted from the log.
use Rattle.std.proofs.Common.{◌≡◌, ◌∙◌, ℕ, zero, suc, ◌+◌, ◌*◌, ◌≤◌, ◌<◌, Bool, true, false, ◌&&◌, ◌||◌, ◌⊎◌, inl, inr, refl, sym, ap, arith, cond, Option, Some, None, leb-true, le-leb, nat_le}
use Rattle.command_words.specs.Command.{covers, is_at}
use Rattle.command_words.specs.declared.command.Command.{Command}
use Rattle.command_words.specs.declared.command.Command.TheVariants.{Act, Rd, Wr, PrePb, PreSb, PreAb, RefAb, RefSb, RfmAb, RfmSb, Mrw, Ecs, Nop}
use Rattle.speed_bin.specs.declared.header.Header.{Header}
use Rattle.speed_bin.specs.Below.{any_below}
use Rattle.command_words.specs.Kinds.{Effect, Manages, Leaves, effect}
use Rattle.speed_bin.specs.Log.{Log, raa}
use Rattle.speed_bin.specs.Rules.{is_wanted}
use Rattle.speed_bin.proofs.Tests.{both, joined, any_below_at, any_below_some}
use Rattle.refresh_plan.specs.Debts.{IsNothingDue}
use Rattle.deadlines.specs.Rounds.{Rounds, next_due, ecs_due}
use Rattle.deadlines.proofs.Due.{before_due, due_after, turn_is, ecs_is_due, ecs_not_due}
use Rattle.pair_deadlines.specs.Budget.{excess}
use Rattle.pair_deadlines.specs.Serving.{Serves, Scrubs, RefreshesAll, RefreshesSame, ManagesSame}
use Rattle.rank_bus.specs.Service.{IsServedBy}
use Rattle.pair_deadlines.proofs.Measures.{excess_none}

cases : (m k : ℕ) → (m < k) ⊎ (k ≤ m)
cases m k = grind arith

-- something is due
pub past_due : (h : Header) (now : ℕ) (log : Log) → 0 < h.timing.nrefi → Rounds log → (IsNothingDue h now log → ⊥) → next_due h log ≤ now
past_due h now log some r due = go (cases now (next_due h log))
  where
    go : (now < next_due h log) ⊎ (next_due h log ≤ now) → next_due h log ≤ now
    go (inl early) = absurd (due (due_after h now log some r early))
    go (inr k) = k

-- the bank that wants an RFMsb
same_manages : (g b : ℕ) → is_at g b ≡ true → effect b (RfmSb g) ≡ Manages
same_manages g b at = rw at refl

pub served : (h : Header) (log : Log) (now : ℕ) (c : Command) → 0 < h.timing.nrefi → Rounds log → IsServedBy h log now (Some c) → Serves h log now c
served h log now Ecs some r k = Scrubs (ecs_is_due h log k) refl
served h log now RefAb some r k = RefreshesAll (ecs_not_due h log k.0) (past_due h now log some r k.2) k.1 refl
served h log now (RefSb g) some r k = RefreshesSame g (ecs_not_due h log k.0) (past_due h now log some r k.2) k.1 (turn_is h now g log r k.3) refl
served h log now (RfmSb g) some r k =
    let p = any_below_some 32 (λ b. is_at g b && nat_le h.settings.raaimt (raa h b log)) k.2.wanted in
    let q = both (is_at g p.0) (nat_le h.settings.raaimt (raa h p.0 log)) p.2 in
    ManagesSame g p.0 (ecs_not_due h log k.0) (before_due h now log some k.1) refl p.1 (same_manages g p.0 q.0) (leb-true _ _ q.1)
served h log now (Act b row) some r k = absurd k
served h log now (Rd b column) some r k = absurd k
served h log now (Wr b column) some r k = absurd k
served h log now (PrePb b) some r k = absurd k
served h log now (PreSb a) some r k = absurd k
served h log now PreAb some r k = absurd k
served h log now RfmAb some r k = absurd k
served h log now (Mrw w) some r k = absurd k
served h log now Nop some r k = absurd k

-- nothing is named
pub record Unserved (h : Header) (log : Log) (now : ℕ) : Type 0 where
  pub scrubbed : ecs_due h log ≡ false
  pub early : now < next_due h log
  pub unwanted : excess h log ≡ 0

pub unserved : (h : Header) (log : Log) (now : ℕ) → 0 < h.timing.nrefi → IsServedBy h log now None → Unserved h log now
unserved h log now some k = record {
  scrubbed = ecs_not_due h log k.0;
  early = before_due h now log some k.1;
  unwanted = excess_none h log (λ b low. below b low (cases (raa h b log) h.settings.raaimt));
}
  where
    below : (b : ℕ) → b < 32 → (raa h b log < h.settings.raaimt) ⊎ (h.settings.raaimt ≤ raa h b log) → raa h b log < h.settings.raaimt
    below b low (inl k) = k
    below b low (inr more) =
        let t : nat_le h.settings.raaimt (raa h b log) ≡ true = le-leb _ _ more in
        let w : is_wanted h RfmAb log ≡ true = any_below_at 32 (λ b. covers RfmAb b && nat_le h.settings.raaimt (raa h b log)) b low (joined true (nat_le h.settings.raaimt (raa h b log)) refl t) in
        absurd (cc)
