-- One more command, and how many of its kind there are then.
use Rattle.std.proofs.Common.{◌≡◌, ◌∙◌, ℕ, suc, ◌+◌, ◌≤◌, Bool, true, false, arith, cond, [], ◌∷◌, length}
use Rattle.std.proofs.lemmas.List.Sums.{sum_by-cons}
use Rattle.command_words.specs.declared.command.Command.{Command}
use Rattle.speed_bin.specs.Counts.{commands}
use Rattle.speed_bin.specs.Log.{Issued, Log}

counted : (t : Bool) (n : ℕ) → cond t 1 0 + n ≡ cond t (suc n) n
counted true n = omega arith
counted false n = omega arith

pub one_more : (kind : Command → Bool) (place : Issued) (log : Log) → commands kind (place ∷ log) ≡ cond (kind place.command) (suc (commands kind log)) (commands kind log)
one_more kind place log = sum_by-cons (λ (p : Issued). cond (kind p.command) 1 0) place log ∙ counted (kind place.command) (commands kind log)

pub commands_most : (kind : Command → Bool) (log : Log) → commands kind log ≤ length log
commands_most kind [] = omega arith
commands_most kind (place ∷ log) = rw (one_more kind place log) (go (kind place.command) (commands_most kind log))
  where
    go : (x : Bool) → commands kind log ≤ length log → cond x (suc (commands kind log)) (commands kind log) ≤ suc (length log)
    go true ih = omega arith
    go false ih = omega arith
