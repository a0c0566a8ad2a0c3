-- The bytes of a word that is laid out, as runs of its data bits with its check bits between.
use Rattle.std.proofs.Common.{◌≡◌, ℕ, ◌+◌, ◌*◌, ◌/◌, ◌%◌, ◌<◌, ◌∙◌, List, [], ◌∷◌, slice_index, refl, sym, arith}
use Rattle.ondie_ecc.specs.Bits.{packed}
use Rattle.ondie_ecc.specs.Codeword.{is_check, data_bits_below, laid}
use Rattle.ondie_ecc.proofs.Joins.{checked-4, checked-5, checked-6, joined-5, joined-6, joined-7}
use Rattle.ondie_ecc.proofs.Lists.{cons_eq}
use Rattle.ondie_ecc.proofs.Runs.{run-0_1, run-0_2, run-0_3, run-0_8, run-1_7, run-2_6, run-3_5, run-4_4}

abbrev laid_bits : List ℕ → ℕ → List ℕ
laid_bits d s =
    (s / 1 % 2 + s / 2 % 2 * 2 + slice_index d 0 / 1 % 2 * 4 + s / 4 % 2 * 8 + slice_index d 0 / 2 % 2 * 16 + slice_index d 0 / 4 % 2 * 32 + slice_index d 0 / 8 % 2 * 64 + s / 8 % 2 * 128)
    ∷ (slice_index d 0 / 16 % 2 + slice_index d 0 / 32 % 2 * 2 + slice_index d 0 / 64 % 2 * 4 + slice_index d 0 / 128 % 2 * 8 + slice_index d 1 / 1 % 2 * 16 + slice_index d 1 / 2 % 2 * 32 + slice_index d 1 / 4 % 2 * 64 + s / 16 % 2 * 128)
    ∷ (slice_index d 1 / 8 % 2 + slice_index d 1 / 16 % 2 * 2 + slice_index d 1 / 32 % 2 * 4 + slice_index d 1 / 64 % 2 * 8 + slice_index d 1 / 128 % 2 * 16 + slice_index d 2 / 1 % 2 * 32 + slice_index d 2 / 2 % 2 * 64 + slice_index d 2 / 4 % 2 * 128)
    ∷ (slice_index d 2 / 8 % 2 + slice_index d 2 / 16 % 2 * 2 + slice_index d 2 / 32 % 2 * 4 + slice_index d 2 / 64 % 2 * 8 + slice_index d 2 / 128 % 2 * 16 + slice_index d 3 / 1 % 2 * 32 + slice_index d 3 / 2 % 2 * 64 + s / 32 % 2 * 128)
    ∷ (slice_index d 3 / 4 % 2 + slice_index d 3 / 8 % 2 * 2 + slice_index d 3 / 16 % 2 * 4 + slice_index d 3 / 32 % 2 * 8 + slice_index d 3 / 64 % 2 * 16 + slice_index d 3 / 128 % 2 * 32 + slice_index d 4 / 1 % 2 * 64 + slice_index d 4 / 2 % 2 * 128)
    ∷ (slice_index d 4 / 4 % 2 + slice_index d 4 / 8 % 2 * 2 + slice_index d 4 / 16 % 2 * 4 + slice_index d 4 / 32 % 2 * 8 + slice_index d 4 / 64 % 2 * 16 + slice_index d 4 / 128 % 2 * 32 + slice_index d 5 / 1 % 2 * 64 + slice_index d 5 / 2 % 2 * 128)
    ∷ (slice_index d 5 / 4 % 2 + slice_index d 5 / 8 % 2 * 2 + slice_index d 5 / 16 % 2 * 4 + slice_index d 5 / 32 % 2 * 8 + slice_index d 5 / 64 % 2 * 16 + slice_index d 5 / 128 % 2 * 32 + slice_index d 6 / 1 % 2 * 64 + slice_index d 6 / 2 % 2 * 128)
    ∷ (slice_index d 6 / 4 % 2 + slice_index d 6 / 8 % 2 * 2 + slice_index d 6 / 16 % 2 * 4 + slice_index d 6 / 32 % 2 * 8 + slice_index d 6 / 64 % 2 * 16 + slice_index d 6 / 128 % 2 * 32 + slice_index d 7 / 1 % 2 * 64 + s / 64 % 2 * 128)
    ∷ (slice_index d 7 / 2 % 2 + slice_index d 7 / 4 % 2 * 2 + slice_index d 7 / 8 % 2 * 4 + slice_index d 7 / 16 % 2 * 8 + slice_index d 7 / 32 % 2 * 16 + slice_index d 7 / 64 % 2 * 32 + slice_index d 7 / 128 % 2 * 64 + slice_index d 8 / 1 % 2 * 128)
    ∷ (slice_index d 8 / 2 % 2 + slice_index d 8 / 4 % 2 * 2 + slice_index d 8 / 8 % 2 * 4 + slice_index d 8 / 16 % 2 * 8 + slice_index d 8 / 32 % 2 * 16 + slice_index d 8 / 64 % 2 * 32 + slice_index d 8 / 128 % 2 * 64 + slice_index d 9 / 1 % 2 * 128)
    ∷ (slice_index d 9 / 2 % 2 + slice_index d 9 / 4 % 2 * 2 + slice_index d 9 / 8 % 2 * 4 + slice_index d 9 / 16 % 2 * 8 + slice_index d 9 / 32 % 2 * 16 + slice_index d 9 / 64 % 2 * 32 + slice_index d 9 / 128 % 2 * 64 + slice_index d 10 / 1 % 2 * 128)
    ∷ (slice_index d 10 / 2 % 2 + slice_index d 10 / 4 % 2 * 2 + slice_index d 10 / 8 % 2 * 4 + slice_index d 10 / 16 % 2 * 8 + slice_index d 10 / 32 % 2 * 16 + slice_index d 10 / 64 % 2 * 32 + slice_index d 10 / 128 % 2 * 64 + slice_index d 11 / 1 % 2 * 128)
    ∷ (slice_index d 11 / 2 % 2 + slice_index d 11 / 4 % 2 * 2 + slice_index d 11 / 8 % 2 * 4 + slice_index d 11 / 16 % 2 * 8 + slice_index d 11 / 32 % 2 * 16 + slice_index d 11 / 64 % 2 * 32 + slice_index d 11 / 128 % 2 * 64 + slice_index d 12 / 1 % 2 * 128)
    ∷ (slice_index d 12 / 2 % 2 + slice_index d 12 / 4 % 2 * 2 + slice_index d 12 / 8 % 2 * 4 + slice_index d 12 / 16 % 2 * 8 + slice_index d 12 / 32 % 2 * 16 + slice_index d 12 / 64 % 2 * 32 + slice_index d 12 / 128 % 2 * 64 + slice_index d 13 / 1 % 2 * 128)
    ∷ (slice_index d 13 / 2 % 2 + slice_index d 13 / 4 % 2 * 2 + slice_index d 13 / 8 % 2 * 4 + slice_index d 13 / 16 % 2 * 8 + slice_index d 13 / 32 % 2 * 16 + slice_index d 13 / 64 % 2 * 32 + slice_index d 13 / 128 % 2 * 64 + slice_index d 14 / 1 % 2 * 128)
    ∷ (slice_index d 14 / 2 % 2 + slice_index d 14 / 4 % 2 * 2 + slice_index d 14 / 8 % 2 * 4 + slice_index d 14 / 16 % 2 * 8 + slice_index d 14 / 32 % 2 * 16 + slice_index d 14 / 64 % 2 * 32 + slice_index d 14 / 128 % 2 * 64 + s / 128 % 2 * 128)
    ∷ (slice_index d 15 / 1 % 2 + slice_index d 15 / 2 % 2 * 2 + slice_index d 15 / 4 % 2 * 4 + slice_index d 15 / 8 % 2 * 8 + slice_index d 15 / 16 % 2 * 16 + slice_index d 15 / 32 % 2 * 32 + slice_index d 15 / 64 % 2 * 64 + slice_index d 15 / 128 % 2 * 128)
    ∷ []

abbrev pub laid_runs : List ℕ → ℕ → List ℕ
laid_runs d s =
    (s / 1 % 2 + s / 2 % 2 * 2 + slice_index d 0 / 1 % 2 * 4 + s / 4 % 2 * 8 + slice_index d 0 / 2 % 2 * 16 + slice_index d 0 / 4 % 2 * 32 + slice_index d 0 / 8 % 2 * 64 + s / 8 % 2 * 128)
    ∷ (slice_index d 0 / 16 % 16 + slice_index d 1 % 8 * 16 + s / 16 % 2 * 128)
    ∷ (slice_index d 1 / 8 % 32 + slice_index d 2 % 8 * 32)
    ∷ (slice_index d 2 / 8 % 32 + slice_index d 3 % 4 * 32 + s / 32 % 2 * 128)
    ∷ (slice_index d 3 / 4 % 64 + slice_index d 4 % 4 * 64)
    ∷ (slice_index d 4 / 4 % 64 + slice_index d 5 % 4 * 64)
    ∷ (slice_index d 5 / 4 % 64 + slice_index d 6 % 4 * 64)
    ∷ (slice_index d 6 / 4 % 64 + slice_index d 7 % 2 * 64 + s / 64 % 2 * 128)
    ∷ (slice_index d 7 / 2 % 128 + slice_index d 8 % 2 * 128)
    ∷ (slice_index d 8 / 2 % 128 + slice_index d 9 % 2 * 128)
    ∷ (slice_index d 9 / 2 % 128 + slice_index d 10 % 2 * 128)
    ∷ (slice_index d 10 / 2 % 128 + slice_index d 11 % 2 * 128)
    ∷ (slice_index d 11 / 2 % 128 + slice_index d 12 % 2 * 128)
    ∷ (slice_index d 12 / 2 % 128 + slice_index d 13 % 2 * 128)
    ∷ (slice_index d 13 / 2 % 128 + slice_index d 14 % 2 * 128)
    ∷ (slice_index d 14 / 2 + s / 128 % 2 * 128)
    ∷ (slice_index d 15)
    ∷ []

laid-bits : (d : List ℕ) (s : ℕ) → laid d s ≡ laid_bits d s
unfolding laid packed is_check data_bits_below
laid-bits d s = refl

half : (n : ℕ) → n < 256 → n / 2 ≡ n / 2 % 128
half n small = omega arith

last_laid : (x0 x1 x2 x3 x4 x5 x6 x7 high low : ℕ) → low ≡ x0 + x1 * 2 + x2 * 4 + x3 * 8 + x4 * 16 + x5 * 32 + x6 * 64
    → high ≡ low → x0 + x1 * 2 + x2 * 4 + x3 * 8 + x4 * 16 + x5 * 32 + x6 * 64 + x7 * 128 ≡ high + x7 * 128
last_laid x0 x1 x2 x3 x4 x5 x6 x7 high low below same = omega arith

laid_bits-runs : (d : List ℕ) (s : ℕ) → ((i : ℕ) → slice_index d i < 256) → laid_bits d s ≡ laid_runs d s
laid_bits-runs d s small =
    cons_eq (refl) (
    cons_eq (checked-4 _ _ _ _ _ _ _ _ _ _ (run-4_4 _ (small 0)) (run-0_3 _ (small 1))) (
    cons_eq (joined-5 _ _ _ _ _ _ _ _ _ _ (run-3_5 _ (small 1)) (run-0_3 _ (small 2))) (
    cons_eq (checked-5 _ _ _ _ _ _ _ _ _ _ (run-3_5 _ (small 2)) (run-0_2 _ (small 3))) (
    cons_eq (joined-6 _ _ _ _ _ _ _ _ _ _ (run-2_6 _ (small 3)) (run-0_2 _ (small 4))) (
    cons_eq (joined-6 _ _ _ _ _ _ _ _ _ _ (run-2_6 _ (small 4)) (run-0_2 _ (small 5))) (
    cons_eq (joined-6 _ _ _ _ _ _ _ _ _ _ (run-2_6 _ (small 5)) (run-0_2 _ (small 6))) (
    cons_eq (checked-6 _ _ _ _ _ _ _ _ _ _ (run-2_6 _ (small 6)) (run-0_1 _ (small 7))) (
    cons_eq (joined-7 _ _ _ _ _ _ _ _ _ _ (run-1_7 _ (small 7)) (run-0_1 _ (small 8))) (
    cons_eq (joined-7 _ _ _ _ _ _ _ _ _ _ (run-1_7 _ (small 8)) (run-0_1 _ (small 9))) (
    cons_eq (joined-7 _ _ _ _ _ _ _ _ _ _ (run-1_7 _ (small 9)) (run-0_1 _ (small 10))) (
    cons_eq (joined-7 _ _ _ _ _ _ _ _ _ _ (run-1_7 _ (small 10)) (run-0_1 _ (small 11))) (
    cons_eq (joined-7 _ _ _ _ _ _ _ _ _ _ (run-1_7 _ (small 11)) (run-0_1 _ (small 12))) (
    cons_eq (joined-7 _ _ _ _ _ _ _ _ _ _ (run-1_7 _ (small 12)) (run-0_1 _ (small 13))) (
    cons_eq (joined-7 _ _ _ _ _ _ _ _ _ _ (run-1_7 _ (small 13)) (run-0_1 _ (small 14))) (
    cons_eq (last_laid _ _ _ _ _ _ _ _ _ _ (run-1_7 _ (small 14)) (half _ (small 14))) (
    cons_eq (sym (run-0_8 _ (small 15))) (refl)))))))))))))))))

pub laid-runs : (d : List ℕ) (s : ℕ) → ((i : ℕ) → slice_index d i < 256) → laid d s ≡ laid_runs d s
laid-runs d s small = laid-bits d s ∙ laid_bits-runs d s small
