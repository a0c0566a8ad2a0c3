-- The bound of the greatest bank, computed: 65,536 rows and ATH 64.
use Rattle.std.proofs.Common.{◌≡◌, refl}
use Rattle.speed_bin.specs.declared.settings.RefreshMode.TheVariants.{All}
use Rattle.speed_bin.specs.declared.header.Header.{Header}
use Rattle.speed_bin.specs.Timing.{prac_4800}
use Rattle.speed_bin.specs.Version.{plain}
use Rattle.speed_bin.specs.Height.{height_of}
use Rattle.speed_bin.specs.Header.{bound, spare}

abbrev header : Header
header = record {
  timing = prac_4800;
  settings = record {
    rows = 65536;
    ath = 64;
    eth = 32;
    raaimt = 32;
    raammt = 64;
    refresh = All;
    ecs_every = 8;
  };
  version = plain;
}

bound_is : bound header ≡ 105
unfolding height_of spare
bound_is = refl
