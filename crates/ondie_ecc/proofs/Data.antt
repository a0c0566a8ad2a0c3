-- The data bytes of a word as runs of its bits.
use Rattle.std.proofs.Common.{◌≡◌, ℕ, ◌+◌, ◌*◌, ◌/◌, ◌%◌, ◌<◌, ◌∙◌, List, [], ◌∷◌, slice_index, refl, sym, arith}
use Rattle.ondie_ecc.specs.Bits.{packed}
use Rattle.ondie_ecc.specs.Codeword.{is_check, data_bits_below, data_of}
use Rattle.ondie_ecc.proofs.Joins.{joined-1, joined-2, joined-3}
use Rattle.ondie_ecc.proofs.Lists.{cons_eq}
use Rattle.ondie_ecc.proofs.Runs.{run-0_4, run-0_5, run-0_6, run-0_7, run-0_8, run-4_3, run-5_2, run-5_3, run-6_1, run-6_2, run-7_1}

abbrev data_bits : List ℕ → List ℕ
data_bits w =
    (slice_index w 0 / 4 % 2 + slice_index w 0 / 16 % 2 * 2 + slice_index w 0 / 32 % 2 * 4 + slice_index w 0 / 64 % 2 * 8 + slice_index w 1 / 1 % 2 * 16 + slice_index w 1 / 2 % 2 * 32 + slice_index w 1 / 4 % 2 * 64 + slice_index w 1 / 8 % 2 * 128)
    ∷ (slice_index w 1 / 16 % 2 + slice_index w 1 / 32 % 2 * 2 + slice_index w 1 / 64 % 2 * 4 + slice_index w 2 / 1 % 2 * 8 + slice_index w 2 / 2 % 2 * 16 + slice_index w 2 / 4 % 2 * 32 + slice_index w 2 / 8 % 2 * 64 + slice_index w 2 / 16 % 2 * 128)
    ∷ (slice_index w 2 / 32 % 2 + slice_index w 2 / 64 % 2 * 2 + slice_index w 2 / 128 % 2 * 4 + slice_index w 3 / 1 % 2 * 8 + slice_index w 3 / 2 % 2 * 16 + slice_index w 3 / 4 % 2 * 32 + slice_index w 3 / 8 % 2 * 64 + slice_index w 3 / 16 % 2 * 128)
    ∷ (slice_index w 3 / 32 % 2 + slice_index w 3 / 64 % 2 * 2 + slice_index w 4 / 1 % 2 * 4 + slice_index w 4 / 2 % 2 * 8 + slice_index w 4 / 4 % 2 * 16 + slice_index w 4 / 8 % 2 * 32 + slice_index w 4 / 16 % 2 * 64 + slice_index w 4 / 32 % 2 * 128)
    ∷ (slice_index w 4 / 64 % 2 + slice_index w 4 / 128 % 2 * 2 + slice_index w 5 / 1 % 2 * 4 + slice_index w 5 / 2 % 2 * 8 + slice_index w 5 / 4 % 2 * 16 + slice_index w 5 / 8 % 2 * 32 + slice_index w 5 / 16 % 2 * 64 + slice_index w 5 / 32 % 2 * 128)
    ∷ (slice_index w 5 / 64 % 2 + slice_index w 5 / 128 % 2 * 2 + slice_index w 6 / 1 % 2 * 4 + slice_index w 6 / 2 % 2 * 8 + slice_index w 6 / 4 % 2 * 16 + slice_index w 6 / 8 % 2 * 32 + slice_index w 6 / 16 % 2 * 64 + slice_index w 6 / 32 % 2 * 128)
    ∷ (slice_index w 6 / 64 % 2 + slice_index w 6 / 128 % 2 * 2 + slice_index w 7 / 1 % 2 * 4 + slice_index w 7 / 2 % 2 * 8 + slice_index w 7 / 4 % 2 * 16 + slice_index w 7 / 8 % 2 * 32 + slice_index w 7 / 16 % 2 * 64 + slice_index w 7 / 32 % 2 * 128)
    ∷ (slice_index w 7 / 64 % 2 + slice_index w 8 / 1 % 2 * 2 + slice_index w 8 / 2 % 2 * 4 + slice_index w 8 / 4 % 2 * 8 + slice_index w 8 / 8 % 2 * 16 + slice_index w 8 / 16 % 2 * 32 + slice_index w 8 / 32 % 2 * 64 + slice_index w 8 / 64 % 2 * 128)
    ∷ (slice_index w 8 / 128 % 2 + slice_index w 9 / 1 % 2 * 2 + slice_index w 9 / 2 % 2 * 4 + slice_index w 9 / 4 % 2 * 8 + slice_index w 9 / 8 % 2 * 16 + slice_index w 9 / 16 % 2 * 32 + slice_index w 9 / 32 % 2 * 64 + slice_index w 9 / 64 % 2 * 128)
    ∷ (slice_index w 9 / 128 % 2 + slice_index w 10 / 1 % 2 * 2 + slice_index w 10 / 2 % 2 * 4 + slice_index w 10 / 4 % 2 * 8 + slice_index w 10 / 8 % 2 * 16 + slice_index w 10 / 16 % 2 * 32 + slice_index w 10 / 32 % 2 * 64 + slice_index w 10 / 64 % 2 * 128)
    ∷ (slice_index w 10 / 128 % 2 + slice_index w 11 / 1 % 2 * 2 + slice_index w 11 / 2 % 2 * 4 + slice_index w 11 / 4 % 2 * 8 + slice_index w 11 / 8 % 2 * 16 + slice_index w 11 / 16 % 2 * 32 + slice_index w 11 / 32 % 2 * 64 + slice_index w 11 / 64 % 2 * 128)
    ∷ (slice_index w 11 / 128 % 2 + slice_index w 12 / 1 % 2 * 2 + slice_index w 12 / 2 % 2 * 4 + slice_index w 12 / 4 % 2 * 8 + slice_index w 12 / 8 % 2 * 16 + slice_index w 12 / 16 % 2 * 32 + slice_index w 12 / 32 % 2 * 64 + slice_index w 12 / 64 % 2 * 128)
    ∷ (slice_index w 12 / 128 % 2 + slice_index w 13 / 1 % 2 * 2 + slice_index w 13 / 2 % 2 * 4 + slice_index w 13 / 4 % 2 * 8 + slice_index w 13 / 8 % 2 * 16 + slice_index w 13 / 16 % 2 * 32 + slice_index w 13 / 32 % 2 * 64 + slice_index w 13 / 64 % 2 * 128)
    ∷ (slice_index w 13 / 128 % 2 + slice_index w 14 / 1 % 2 * 2 + slice_index w 14 / 2 % 2 * 4 + slice_index w 14 / 4 % 2 * 8 + slice_index w 14 / 8 % 2 * 16 + slice_index w 14 / 16 % 2 * 32 + slice_index w 14 / 32 % 2 * 64 + slice_index w 14 / 64 % 2 * 128)
    ∷ (slice_index w 14 / 128 % 2 + slice_index w 15 / 1 % 2 * 2 + slice_index w 15 / 2 % 2 * 4 + slice_index w 15 / 4 % 2 * 8 + slice_index w 15 / 8 % 2 * 16 + slice_index w 15 / 16 % 2 * 32 + slice_index w 15 / 32 % 2 * 64 + slice_index w 15 / 64 % 2 * 128)
    ∷ (slice_index w 16 / 1 % 2 + slice_index w 16 / 2 % 2 * 2 + slice_index w 16 / 4 % 2 * 4 + slice_index w 16 / 8 % 2 * 8 + slice_index w 16 / 16 % 2 * 16 + slice_index w 16 / 32 % 2 * 32 + slice_index w 16 / 64 % 2 * 64 + slice_index w 16 / 128 % 2 * 128)
    ∷ []

abbrev pub data_runs : List ℕ → List ℕ
data_runs w =
    (slice_index w 0 / 4 % 2 + slice_index w 0 / 16 % 8 * 2 + slice_index w 1 / 1 % 16 * 16)
    ∷ (slice_index w 1 / 16 % 8 + slice_index w 2 % 32 * 8)
    ∷ (slice_index w 2 / 32 % 8 + slice_index w 3 % 32 * 8)
    ∷ (slice_index w 3 / 32 % 4 + slice_index w 4 % 64 * 4)
    ∷ (slice_index w 4 / 64 % 4 + slice_index w 5 % 64 * 4)
    ∷ (slice_index w 5 / 64 % 4 + slice_index w 6 % 64 * 4)
    ∷ (slice_index w 6 / 64 % 4 + slice_index w 7 % 64 * 4)
    ∷ (slice_index w 7 / 64 % 2 + slice_index w 8 % 128 * 2)
    ∷ (slice_index w 8 / 128 % 2 + slice_index w 9 % 128 * 2)
    ∷ (slice_index w 9 / 128 % 2 + slice_index w 10 % 128 * 2)
    ∷ (slice_index w 10 / 128 % 2 + slice_index w 11 % 128 * 2)
    ∷ (slice_index w 11 / 128 % 2 + slice_index w 12 % 128 * 2)
    ∷ (slice_index w 12 / 128 % 2 + slice_index w 13 % 128 * 2)
    ∷ (slice_index w 13 / 128 % 2 + slice_index w 14 % 128 * 2)
    ∷ (slice_index w 14 / 128 % 2 + slice_index w 15 % 128 * 2)
    ∷ (slice_index w 16)
    ∷ []

data_of-bits : (w : List ℕ) → data_of w ≡ data_bits w
unfolding data_of packed is_check data_bits_below
data_of-bits w = refl

first_data : (x0 x1 x2 x3 x4 x5 x6 x7 low high : ℕ) → low ≡ x1 + x2 * 2 + x3 * 4 → high ≡ x4 + x5 * 2 + x6 * 4 + x7 * 8
    → x0 + x1 * 2 + x2 * 4 + x3 * 8 + x4 * 16 + x5 * 32 + x6 * 64 + x7 * 128 ≡ x0 + low * 2 + high * 16
first_data x0 x1 x2 x3 x4 x5 x6 x7 low high below above = omega arith

data_bits-runs : (w : List ℕ) → ((i : ℕ) → slice_index w i < 256) → data_bits w ≡ data_runs w
data_bits-runs w small =
    cons_eq (first_data _ _ _ _ _ _ _ _ _ _ (run-4_3 _ (small 0)) (run-0_4 _ (small 1))) (
    cons_eq (joined-3 _ _ _ _ _ _ _ _ _ _ (run-4_3 _ (small 1)) (run-0_5 _ (small 2))) (
    cons_eq (joined-3 _ _ _ _ _ _ _ _ _ _ (run-5_3 _ (small 2)) (run-0_5 _ (small 3))) (
    cons_eq (joined-2 _ _ _ _ _ _ _ _ _ _ (run-5_2 _ (small 3)) (run-0_6 _ (small 4))) (
    cons_eq (joined-2 _ _ _ _ _ _ _ _ _ _ (run-6_2 _ (small 4)) (run-0_6 _ (small 5))) (
    cons_eq (joined-2 _ _ _ _ _ _ _ _ _ _ (run-6_2 _ (small 5)) (run-0_6 _ (small 6))) (
    cons_eq (joined-2 _ _ _ _ _ _ _ _ _ _ (run-6_2 _ (small 6)) (run-0_6 _ (small 7))) (
    cons_eq (joined-1 _ _ _ _ _ _ _ _ _ _ (run-6_1 _ (small 7)) (run-0_7 _ (small 8))) (
    cons_eq (joined-1 _ _ _ _ _ _ _ _ _ _ (run-7_1 _ (small 8)) (run-0_7 _ (small 9))) (
    cons_eq (joined-1 _ _ _ _ _ _ _ _ _ _ (run-7_1 _ (small 9)) (run-0_7 _ (small 10))) (
    cons_eq (joined-1 _ _ _ _ _ _ _ _ _ _ (run-7_1 _ (small 10)) (run-0_7 _ (small 11))) (
    cons_eq (joined-1 _ _ _ _ _ _ _ _ _ _ (run-7_1 _ (small 11)) (run-0_7 _ (small 12))) (
    cons_eq (joined-1 _ _ _ _ _ _ _ _ _ _ (run-7_1 _ (small 12)) (run-0_7 _ (small 13))) (
    cons_eq (joined-1 _ _ _ _ _ _ _ _ _ _ (run-7_1 _ (small 13)) (run-0_7 _ (small 14))) (
    cons_eq (joined-1 _ _ _ _ _ _ _ _ _ _ (run-7_1 _ (small 14)) (run-0_7 _ (small 15))) (
    cons_eq (sym (run-0_8 _ (small 16))) (refl))))))))))))))))

pub data_of-runs : (w : List ℕ) → ((i : ℕ) → slice_index w i < 256) → data_of w ≡ data_runs w
data_of-runs w small = data_of-bits w ∙ data_bits-runs w small
