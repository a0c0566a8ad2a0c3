-- What the text of a header states, or its first fault.
use Rattle.std.specs.Prelude.{ℕ, ◌+◌, ◌*◌, ◌^◌, not, ◌&&◌, ◌==◌, nat_lt, nat_le, Bool, List, [], ◌∷◌, codes, ℤ, pos, negsuc, Option, None, Some, Result, Ok, Err, if◌then◌else◌, option_and_then, suc}
use Rattle.std.specs.Str.{is_utf8, bytes_eq}
use Rattle.toml.specs.Data.{Members, get_member, as_str, as_integer, as_table}
use Rattle.toml.specs.Parse.{parse_document}
use Rattle.speed_bin.specs.Gap.{n_max, n_close, n_tail}
use Rattle.speed_bin.specs.Header.{spare, refresh_length}
use Rattle.speed_bin.specs.Keys.{all_members, key_fits, kind_fits, range_fits, has_required}
use Rattle.speed_bin.specs.Rules.{first_failing}
use Rattle.speed_bin.specs.Timing.{bin_named}
use Rattle.speed_bin.specs.Version.{Figures}
use Rattle.speed_bin.specs.declared.fault.HeaderFault.{HeaderFault}
use Rattle.speed_bin.specs.declared.fault.HeaderFault.TheVariants.{NotToml, Key, Kind, Range, NoBin, Check}
use Rattle.speed_bin.specs.declared.header.Header.{Header}
use Rattle.speed_bin.specs.declared.settings.RefreshMode.{RefreshMode}
use Rattle.speed_bin.specs.declared.settings.RefreshMode.TheVariants.{All, Same}
use Rattle.speed_bin.specs.declared.settings.Settings.{Settings}
use Rattle.speed_bin.specs.declared.timing.Timing.{Timing}

-- ---- What the members of a header state, once they are in their ranges

-- a whole number, as a number of 32 bits; all others, which are in no range, are read as 0
abbrev pub whole : ℤ → ℕ
whole (pos n) = if nat_lt n (2 ^ 32) then n else 0
whole (negsuc n) = 0

abbrev pub whole_or : ℕ → Option ℤ → ℕ
whole_or other None = other
whole_or other (Some number) = whole number

-- the whole number at a key, and another number where there is none
abbrev pub number_at : ℕ → List ℕ → Members → ℕ
number_at other key members = whole_or other (option_and_then as_integer (get_member key members))

abbrev pub text_at : List ℕ → Members → Option (List ℕ)
text_at key members = option_and_then as_str (get_member key members)

abbrev pub mode_named : Option (List ℕ) → RefreshMode
mode_named (Some name) = if bytes_eq name (codes "same") then Same else All
mode_named None = All

unfoldable pub settings_in : Members → Settings
settings_in members = record {
  rows = number_at 0 (codes "rows") members;
  ath = number_at 0 (codes "ath") members;
  eth = number_at 0 (codes "eth") members;
  raaimt = number_at 0 (codes "raaimt") members;
  raammt = number_at 0 (codes "raammt") members;
  refresh = mode_named (text_at (codes "refresh") members);
  ecs_every = number_at 0 (codes "ecs_every") members;
}

-- the numbers of a bin, where the members do not replace them
unfoldable pub replaced : Timing → Members → Timing
replaced bin members = record {
  ncl = number_at bin.ncl (codes "nCL") members;
  ncwl = number_at bin.ncwl (codes "nCWL") members;
  nrcd = number_at bin.nrcd (codes "nRCD") members;
  nrp = number_at bin.nrp (codes "nRP") members;
  nras = number_at bin.nras (codes "nRAS") members;
  nrc = number_at bin.nrc (codes "nRC") members;
  nrrd_s = number_at bin.nrrd_s (codes "nRRD_S") members;
  nrrd_l = number_at bin.nrrd_l (codes "nRRD_L") members;
  nfaw = number_at bin.nfaw (codes "nFAW") members;
  nccd_s = number_at bin.nccd_s (codes "nCCD_S") members;
  nccd_l = number_at bin.nccd_l (codes "nCCD_L") members;
  nccd_l_wr = number_at bin.nccd_l_wr (codes "nCCD_L_WR") members;
  nwtr_s = number_at bin.nwtr_s (codes "nWTR_S") members;
  nwtr_l = number_at bin.nwtr_l (codes "nWTR_L") members;
  nrtp = number_at bin.nrtp (codes "nRTP") members;
  nwr = number_at bin.nwr (codes "nWR") members;
  nrfc = number_at bin.nrfc (codes "nRFC") members;
  nrfcsb = number_at bin.nrfcsb (codes "nRFCsb") members;
  nrfm = number_at bin.nrfm (codes "nRFM") members;
  nrfmsb = number_at bin.nrfmsb (codes "nRFMsb") members;
  nrefi = number_at bin.nrefi (codes "nREFI") members;
  nabo = number_at bin.nabo (codes "nABO") members;
  nmrd = number_at bin.nmrd (codes "nMRD") members;
  necs = number_at bin.necs (codes "nECS") members;
}

abbrev pub replaced_by : Timing → Option Members → Timing
replaced_by bin None = bin
replaced_by bin (Some given) = replaced bin given

-- the bin's numbers, with those of `timing` in their place
abbrev pub timing_in : Timing → Members → Timing
timing_in bin top = replaced_by bin (option_and_then as_table (get_member (codes "timing") top))

-- ---- The checks

abbrev pub precharge_within_cycle : Timing → Bool
precharge_within_cycle t = nat_le t.nrp t.nrc

unfoldable pub window_fits : Header → Bool
window_fits h = nat_lt h.timing.nabo (h.timing.nrp + spare h * h.timing.nrc)

unfoldable pub thresholds_fit : Header → Bool
thresholds_fit h = nat_le (suc (suc (spare h))) h.settings.ath && nat_le h.settings.eth h.settings.ath

abbrev pub management_fits : Settings → Bool
management_fits s = nat_le 8 s.raaimt && nat_le s.raaimt s.raammt

abbrev pub closing_within_two : Timing → Bool
closing_within_two t = nat_le (n_tail t + t.nabo + 12 * (n_max t + n_close t)) (2 * t.nrefi)

unfoldable pub round_within_half : Header → Bool
round_within_half h = nat_le (2 * (refresh_length h + 5 * h.timing.nrp + h.timing.necs)) h.timing.nrefi

abbrev pub latencies_fit : Timing → Bool
latencies_fit t = t.ncl == t.ncwl + 2

abbrev pub bursts_fit : Timing → Bool
bursts_fit t = nat_le 8 t.nccd_s && (nat_le t.nccd_s t.nccd_l && nat_le t.nccd_s t.nccd_l_wr)

-- whether each of the checks 1 to 8 holds
unfoldable pub checks_of : Header → List Bool
checks_of h =
    precharge_within_cycle h.timing ∷ window_fits h ∷ thresholds_fit h ∷ management_fits h.settings ∷ closing_within_two h.timing
    ∷ round_within_half h ∷ latencies_fit h.timing ∷ bursts_fit h.timing ∷ []

abbrev pub failed : Header → Option ℕ → Result Header HeaderFault
failed h None = Ok h
failed h (Some check) = Err (Check check)

-- the header, or the first check that fails
abbrev pub checked : Header → Result Header HeaderFault
checked h = failed h (first_failing 1 (checks_of h))

-- ---- The header

abbrev pub with_bin : Figures → Members → Option Timing → Result Header HeaderFault
with_bin version top None = Err NoBin
with_bin version top (Some bin) = checked (record { timing = timing_in bin top; settings = settings_in top; version = version })

-- what members state: the faults are tried in the order Key, Kind, Range, NoBin, Check
abbrev pub header_in : Figures → Members → Result Header HeaderFault
header_in version top =
    if not (all_members key_fits top && has_required top) then Err Key
    else (if not (all_members kind_fits top) then Err Kind
    else (if not (all_members range_fits top) then Err Range
    else with_bin version top (option_and_then bin_named (text_at (codes "bin") top))))

abbrev pub header_of : Figures → Option Members → Result Header HeaderFault
header_of version None = Err NotToml
header_of version (Some top) = header_in version top

-- what a text states, in front of a separator with this version
abbrev pub header_stated : Figures → List ℕ → Result Header HeaderFault
header_stated version text = if is_utf8 text then header_of version (parse_document text) else Err NotToml
