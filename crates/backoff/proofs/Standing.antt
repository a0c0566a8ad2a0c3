-- What it takes to stand for a longer log.
use Rattle.std.proofs.Common.{◌≡◌, ◌∙◌, ℕ, zero, suc, ◌<◌, ◌^◌, Bool, true, false, ◌&&◌, cond, [], ◌∷◌, Option, Some, None, IsTrue, refl}
use Rattle.command_words.specs.declared.command.Command.{Command}
use Rattle.command_words.specs.declared.command.Command.TheVariants.{Act, Rd, Wr, PrePb, PreSb, PreAb, RefAb, RefSb, RfmAb, RfmSb, Mrw, Ecs, Nop}
use Rattle.speed_bin.specs.Below.{any_below}
use Rattle.command_words.specs.Kinds.{Effect, Opens, Manages, Refreshes, Leaves, effect, is_precharge, is_rfm_all}
use Rattle.speed_bin.specs.Log.{Log, open_at}
use Rattle.speed_bin.specs.Alert.{alert, alert_after, closes, closes_some, is_hot}
use Rattle.speed_bin.specs.declared.header.Header.{Header}
use Rattle.speed_bin.proofs.Tests.{any_below_none}
use Rattle.backoff.specs.Standing.{StandsFor}

pub stands_at_first : (h : Header) → StandsFor None h []
unfolding StandsFor
stands_at_first h = record { raised = refl; clocks = tt }

pub stands_after_rfm_all : (old : Option ℕ) (h : Header) (clock : ℕ) (log : Log) → StandsFor old h log → StandsFor None h (record { clock = clock; command = RfmAb } ∷ log)
unfolding StandsFor
stands_after_rfm_all old h clock log stands = record { raised = refl; clocks = (stands.clocks, λ is. absurd cc) }

-- ---- A precharge

not_rfm_all : (command : Command) → IsTrue (is_precharge command) → is_rfm_all command ≡ false
not_rfm_all (Act bank row) is = refl
not_rfm_all (Rd bank column) is = refl
not_rfm_all (Wr bank column) is = refl
not_rfm_all (PrePb bank) is = refl
not_rfm_all (PreSb address) is = refl
not_rfm_all PreAb is = refl
not_rfm_all RefAb is = refl
not_rfm_all (RefSb address) is = refl
not_rfm_all RfmAb is = absurd cc
not_rfm_all (RfmSb address) is = refl
not_rfm_all (Mrw write) is = refl
not_rfm_all Ecs is = refl
not_rfm_all Nop is = refl

pub stands_after_precharge : (old new : Option ℕ) (clock : ℕ) (hot closed : Bool) → clock < 2 ^ 48 → new ≡ alert_after false (closed && hot) clock old → (h : Header) (command : Command) (log : Log) → StandsFor old h log → IsTrue (is_precharge command) → closed ≡ closes_some command log → hot ≡ is_hot h (record { clock = clock; command = command } ∷ log) → StandsFor new h (record { clock = clock; command = command } ∷ log)
unfolding StandsFor
stands_after_precharge old new clock hot closed low value h command log stands precharge is_closed is_hot_after = record {
  raised = value ∙ (let before = stands.raised in let other = not_rfm_all command precharge in rw (before, other, is_closed, is_hot_after) refl);
  clocks = (stands.clocks, λ is. low);
}

-- ---- Other commands

or_leaves : (t : Bool) (done : Effect) (opened : Option ℕ) → closes done opened ≡ false → closes (cond t done Leaves) opened ≡ false
or_leaves true done opened is = is
or_leaves false done opened is = refl

closes_nothing : (command : Command) (b : ℕ) (opened : Option ℕ) → is_precharge command ≡ false → closes (effect b command) opened ≡ false
closes_nothing (Act bank row) b opened is = or_leaves _ (Opens row) opened refl
closes_nothing (Rd bank column) b opened is = refl
closes_nothing (Wr bank column) b opened is = refl
closes_nothing (PrePb bank) b opened is = absurd cc
closes_nothing (PreSb address) b opened is = absurd cc
closes_nothing PreAb b opened is = absurd cc
closes_nothing RefAb b opened is = refl
closes_nothing (RefSb address) b opened is = or_leaves _ Refreshes opened refl
closes_nothing RfmAb b opened is = refl
closes_nothing (RfmSb address) b opened is = or_leaves _ Manages opened refl
closes_nothing (Mrw write) b opened is = refl
closes_nothing Ecs b opened is = refl
closes_nothing Nop b opened is = refl

same : (before : Option ℕ) (clock : ℕ) → before ≡ alert_after false false clock before
same (Some raised) clock = refl
same None clock = refl

pub stands_after_other : (it : Option ℕ) (h : Header) (clock : ℕ) (command : Command) (log : Log) → StandsFor it h log → is_precharge command ≡ false → is_rfm_all command ≡ false → StandsFor it h (record { clock = clock; command = command } ∷ log)
unfolding StandsFor
stands_after_other it h clock command log stands no_precharge no_rfm_all =
    let nothing : closes_some command log ≡ false = any_below_none 32 (λ b. closes (effect b command) (open_at b log)) (λ b low. closes_nothing command b (open_at b log) no_precharge) in
    record {
      raised = stands.raised ∙ rw (no_rfm_all, nothing) (same (alert h log) clock);
      clocks = (stands.clocks, λ is. absurd cc);
    }
