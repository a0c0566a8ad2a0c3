-- The greatest clocks of the gap table, as a fold over them, and their bound.
use Rattle.std.proofs.Common.{◌≡◌, ℕ, ◌≤◌, List, [], ◌∷◌, map, fold, max, arith, sym}
use Rattle.std.proofs.Math.Nat.{max-zero}
use Rattle.speed_bin.specs.Gap.{Entry, greatest_clocks, n_max}
use Rattle.speed_bin.specs.Timing.{IsTiming}
use Rattle.speed_bin.specs.declared.timing.Timing.{Timing}

max_assoc : (a b c : ℕ) → max (max a b) c ≡ max a (max b c)
max_assoc a b c = omega arith

pub fold_max : (a : ℕ) (entries : List Entry) → fold max a (map (λ entry. entry.clocks) entries) ≡ max a (greatest_clocks entries)
fold_max a [] = sym (max-zero a)
fold_max a (entry ∷ entries) = rw (fold_max (max a entry.clocks) entries) (max_assoc a entry.clocks (greatest_clocks entries))

max_within : (a b most : ℕ) → a ≤ most → b ≤ most → max a b ≤ most
max_within a b most first second = omega arith

-- no number of a timing passes 65,535, and a write's end adds two of them and 8
pub n_max_within : (t : Timing) → IsTiming t → n_max t ≤ 131078
unfolding n_max
n_max_within t is_timing = max_within _ _ _ (omega (arith, is_timing.nfaw)) (
    max_within _ _ _ (omega arith) (
    max_within _ _ _ (omega arith) (
    max_within _ _ _ (omega arith) (
    max_within _ _ _ (omega arith) (
    max_within _ _ _ (omega arith) (
    max_within _ _ _ (omega arith) (
    max_within _ _ _ (omega arith) (
    max_within _ _ _ (omega arith) (
    max_within _ _ _ (omega arith) (
    max_within _ _ _ (omega arith) (
    max_within _ _ _ (omega arith) (
    max_within _ _ _ (omega arith) (
    max_within _ _ _ (omega arith) (
    max_within _ _ _ (omega arith) (
    max_within _ _ _ (omega arith) (
    max_within _ _ _ (omega arith) (
    max_within _ _ _ (omega arith) (
    max_within _ _ _ (omega arith) (
    max_within _ _ _ (omega arith) (
    max_within _ _ _ (omega arith) (
    max_within _ _ _ (omega arith) (
    max_within _ _ _ (omega arith) (
    max_within _ _ _ (omega arith) (omega arith))))))))))))))))))))))))
