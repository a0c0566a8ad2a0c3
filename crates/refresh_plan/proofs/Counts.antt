-- What one more command adds to the refreshes of an address and to the ECS commands.
use Rattle.std.proofs.Common.{◌≡◌, ◌∙◌, ℕ, ◌+◌, ◌<◌, cond, ◌∷◌, sym, ap, arith}
use Rattle.std.proofs.lemmas.List.Sums.{sum_by-cons}
use Rattle.command_words.specs.declared.command.Command.{Command}
use Rattle.speed_bin.specs.declared.header.Header.{Header}
use Rattle.command_words.specs.Kinds.{refreshes, is_scrub}
use Rattle.speed_bin.specs.Log.{Issued, Log, refs, scrubs}
use Rattle.refresh_plan.specs.Held.{Held, after}
use Rattle.refresh_plan.specs.Standing.{Keeps}

added : (a b c : ℕ) → a ≡ b + c → a ≡ c + b
added a b c h = omega arith

pub refs-cons : (address : ℕ) (place : Issued) (log : Log) → refs address (place ∷ log) ≡ refs address log + cond (refreshes address place.command) 1 0
refs-cons address place log = added _ _ _ (sum_by-cons (λ (p : Issued). cond (refreshes address p.command) 1 0) place log)

pub scrubs-cons : (place : Issued) (log : Log) → scrubs (place ∷ log) ≡ scrubs log + cond (is_scrub place.command) 1 0
scrubs-cons place log = added _ _ _ (sum_by-cons (λ (p : Issued). cond (is_scrub p.command) 1 0) place log)

pub after_refs : (it : Held) (h : Header) (log : Log) (clock : ℕ) (command : Command) (address : ℕ) → Keeps it h log → address < 4 → after it command address ≡ refs address (record { clock = clock; command = command } ∷ log)
after_refs it h log clock command address keeps low =
    ap (λ (n : ℕ). n + cond (refreshes address command) 1 0) (keeps.counts address low) ∙ sym (refs-cons address (record { clock = clock; command = command }) log)
