-- The refreshes of an address, by its debt at clock 0.
use Rattle.std.proofs.Common.{◌≡◌, ◌∙◌, ℕ, ◌+◌, Bool, cond, ◌∷◌, sym, ap, arith}
use Rattle.std.proofs.Math.Nat.{zero-div}
use Rattle.std.proofs.lemmas.Int.{ints}
use Rattle.std.specs.Prelude.{ℤ, pos, ◌-ℤ◌, unsigned_abs}
use Rattle.command_words.specs.Kinds.{refreshes}
use Rattle.command_words.specs.declared.command.Command.{Command}
use Rattle.refresh_plan.specs.Debts.{debt}
use Rattle.refresh_plan.proofs.Counts.{refs-cons}
use Rattle.speed_bin.specs.Log.{Log, refs}
use Rattle.speed_bin.specs.declared.header.Header.{Header}

size_of : (r : ℕ) → unsigned_abs (pos 0 -ℤ pos r) ≡ r
size_of r = omega (arith, ints)

pub size_at_start : (h : Header) (log : Log) (address number : ℕ) (owed : ℤ) → owed ≡ debt h 0 address log → address ≡ number → unsigned_abs owed ≡ refs number log
size_at_start h log address number owed is same =
    ap (λ (z : ℤ). unsigned_abs z) is
    ∙ ap (λ (passed : ℕ). unsigned_abs (pos passed -ℤ pos (refs address log))) (zero-div h.timing.nrefi)
    ∙ size_of (refs address log)
    ∙ ap (λ (a : ℕ). refs a log) same

pub refreshes_with : (log : Log) (clock address : ℕ) (command : Command) (before : ℕ) (here : Bool) → before ≡ refs address log → here ≡ refreshes address command
    → before + cond here 1 0 ≡ refs address (record { clock = clock; command = command } ∷ log)
refreshes_with log clock address command before here is own =
    ap (λ (n : ℕ). n + cond here 1 0) is
    ∙ ap (λ (b : Bool). refs address log + cond b 1 0) own
    ∙ sym (refs-cons address (record { clock = clock; command = command }) log)
