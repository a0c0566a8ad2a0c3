-- Heights, checks and bounds of cycles of 2 to 5 activations, computed.
use Rattle.std.proofs.Common.{◌≡◌, ℕ, Some, None, refl}
use Rattle.speed_bin.specs.declared.settings.RefreshMode.TheVariants.{All}
use Rattle.speed_bin.specs.declared.header.Header.{Header}
use Rattle.speed_bin.specs.Document.{window_fits, thresholds_fit, round_within_half, checks_of}
use Rattle.speed_bin.specs.Gap.{n_tail, n_max, n_close, n_col}
use Rattle.speed_bin.specs.Height.{height_of}
use Rattle.speed_bin.specs.Header.{bound, spare}
use Rattle.speed_bin.specs.Rules.{first_failing}
use Rattle.speed_bin.specs.Timing.{tiny, prac_4800}

-- 65,536 rows
two : height_of 1 65536 ≡ 16
unfolding height_of
two = refl

three : height_of 2 65536 ≡ 27
unfolding height_of
three = refl

five : height_of 4 65536 ≡ 49
unfolding height_of
five = refl

three_of_few : height_of 2 16 ≡ 6
unfolding height_of
three_of_few = refl

-- the largest ordinary header, with so many activations in a cycle
abbrev large : ℕ → Header
large cycle = record {
  timing = prac_4800;
  settings = record { rows = 65536; ath = 64; eth = 32; raaimt = 32; raammt = 64; refresh = All; ecs_every = 8 };
  version = record { cycle = cycle; groups = 8 };
}

window_too_wide : first_failing 1 (checks_of (large 3)) ≡ Some 2
unfolding checks_of window_fits thresholds_fit round_within_half n_tail n_max n_close n_col spare
window_too_wide = refl

accepted : first_failing 1 (checks_of (large 5)) ≡ None
unfolding checks_of window_fits thresholds_fit round_within_half n_tail n_max n_close n_col spare
accepted = refl

bound_of_five : bound (large 5) ≡ 117
unfolding height_of spare
bound_of_five = refl

-- ATH 5 leaves no room for a cycle of 5
abbrev low : Header
low = record {
  timing = tiny;
  settings = record { rows = 16; ath = 5; eth = 3; raaimt = 8; raammt = 16; refresh = All; ecs_every = 0 };
  version = record { cycle = 5; groups = 8 };
}

threshold_too_low : first_failing 1 (checks_of low) ≡ Some 3
unfolding checks_of window_fits thresholds_fit round_within_half n_tail n_max n_close n_col spare
threshold_too_low = refl
