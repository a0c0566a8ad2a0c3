-- The header of a made job states its numbers.
use Rattle.std.proofs.Common.{◌≡◌, Ok, refl, lit≤, lit<, inr}
use Rattle.std.specs.Str.{is_utf8, chars}
use Rattle.toml.proofs.OnLiterals.{toml_on_literals}
use Rattle.speed_bin.specs.Document.{header_stated, settings_in, replaced, window_fits, thresholds_fit, round_within_half, checks_of}
use Rattle.speed_bin.specs.Gap.{n_col, n_max, n_close, n_tail}
use Rattle.speed_bin.specs.Header.{IsAccepted, spare}
use Rattle.speed_bin.specs.Version.{plain}
use Rattle.speed_bin.specs.Keys.{is_timing_key, key_fits, kind_fits, range_fits, has_required}
use Rattle.made_jobs.specs.Made.{header_text, header_lines}
use Rattle.made_jobs.specs.Replayed.{made_header}

pub header_read : header_stated plain header_text ≡ Ok made_header
unfolding is_utf8 chars toml_on_literals header_text header_lines made_header settings_in replaced window_fits thresholds_fit round_within_half checks_of n_col n_max n_close n_tail spare is_timing_key key_fits kind_fits range_fits has_required
header_read = refl

pub header_accepted : IsAccepted made_header
unfolding made_header spare n_max n_close n_tail n_col
header_accepted = record {
  timing = record {
    ncl = (lit≤ tt, lit≤ tt);
    ncwl = (lit≤ tt, lit≤ tt);
    nrcd = (lit≤ tt, lit≤ tt);
    nrp = (lit≤ tt, lit≤ tt);
    nras = (lit≤ tt, lit≤ tt);
    nrc = (lit≤ tt, lit≤ tt);
    nrrd_s = (lit≤ tt, lit≤ tt);
    nrrd_l = (lit≤ tt, lit≤ tt);
    nfaw = (lit≤ tt, lit≤ tt);
    nccd_s = (lit≤ tt, lit≤ tt);
    nccd_l = (lit≤ tt, lit≤ tt);
    nccd_l_wr = (lit≤ tt, lit≤ tt);
    nwtr_s = (lit≤ tt, lit≤ tt);
    nwtr_l = (lit≤ tt, lit≤ tt);
    nrtp = (lit≤ tt, lit≤ tt);
    nwr = (lit≤ tt, lit≤ tt);
    nrfc = (lit≤ tt, lit≤ tt);
    nrfcsb = (lit≤ tt, lit≤ tt);
    nrfm = (lit≤ tt, lit≤ tt);
    nrfmsb = (lit≤ tt, lit≤ tt);
    nrefi = (lit≤ tt, lit≤ tt);
    nabo = (lit≤ tt, lit≤ tt);
    nmrd = (lit≤ tt, lit≤ tt);
    necs = (lit≤ tt, lit≤ tt);
  };
  settings = record {
    rows = (lit≤ tt, lit≤ tt);
    ath = (lit≤ tt, lit≤ tt);
    eth = (lit≤ tt, lit≤ tt);
    raaimt = (lit≤ tt, lit≤ tt);
    raammt = (lit≤ tt, lit≤ tt);
    ecs_every = lit≤ tt;
  };
  version = (lit≤ tt, lit≤ tt, inr refl);
  checks = record {
    precharge_within_cycle = lit≤ tt;
    window = lit< tt;
    thresholds = (lit≤ tt, lit≤ tt);
    management = (lit≤ tt, lit≤ tt);
    closing_within_two = lit≤ tt;
    round_within_half = lit≤ tt;
    latencies = refl;
    bursts = (lit≤ tt, lit≤ tt, lit≤ tt);
  };
}
