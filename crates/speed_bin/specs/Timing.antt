-- The timing numbers, and the two speed bins.
use Rattle.std.specs.Prelude.{ℕ, ◌≤◌, List, Option, Some, None, codes, if◌then◌else◌}
use Rattle.std.specs.Str.{bytes_eq}
use Rattle.speed_bin.specs.declared.timing.Timing.{Timing}

-- 1 to 65,535 clocks
abbrev pub IsClocks : ℕ → Type 0
IsClocks n = (1 ≤ n) × (n ≤ 65535)

-- each number is 1 to 65,535
pub record IsTiming (t : Timing) : Type 0 where
  pub ncl : IsClocks t.ncl
  pub ncwl : IsClocks t.ncwl
  pub nrcd : IsClocks t.nrcd
  pub nrp : IsClocks t.nrp
  pub nras : IsClocks t.nras
  pub nrc : IsClocks t.nrc
  pub nrrd_s : IsClocks t.nrrd_s
  pub nrrd_l : IsClocks t.nrrd_l
  pub nfaw : IsClocks t.nfaw
  pub nccd_s : IsClocks t.nccd_s
  pub nccd_l : IsClocks t.nccd_l
  pub nccd_l_wr : IsClocks t.nccd_l_wr
  pub nwtr_s : IsClocks t.nwtr_s
  pub nwtr_l : IsClocks t.nwtr_l
  pub nrtp : IsClocks t.nrtp
  pub nwr : IsClocks t.nwr
  pub nrfc : IsClocks t.nrfc
  pub nrfcsb : IsClocks t.nrfcsb
  pub nrfm : IsClocks t.nrfm
  pub nrfmsb : IsClocks t.nrfmsb
  pub nrefi : IsClocks t.nrefi
  pub nabo : IsClocks t.nabo
  pub nmrd : IsClocks t.nmrd
  pub necs : IsClocks t.necs

abbrev pub prac_4800 : Timing
prac_4800 = record { ncl = 40; ncwl = 38; nrcd = 39; nrp = 87; nras = 39; nrc = 125; nrrd_s = 8; nrrd_l = 12; nfaw = 32; nccd_s = 8; nccd_l = 12; nccd_l_wr = 48; nwtr_s = 6; nwtr_l = 24; nrtp = 12; nwr = 24; nrfc = 708; nrfcsb = 312; nrfm = 839; nrfmsb = 456; nrefi = 9375; nabo = 432; nmrd = 34; necs = 264 }

abbrev pub tiny : Timing
tiny = record { ncl = 6; ncwl = 4; nrcd = 3; nrp = 4; nras = 6; nrc = 10; nrrd_s = 2; nrrd_l = 3; nfaw = 10; nccd_s = 8; nccd_l = 10; nccd_l_wr = 12; nwtr_s = 2; nwtr_l = 4; nrtp = 3; nwr = 5; nrfc = 20; nrfcsb = 12; nrfm = 24; nrfmsb = 16; nrefi = 1000; nabo = 32; nmrd = 4; necs = 14 }

-- the bin of a name, if it names one
abbrev pub bin_named : List ℕ → Option Timing
bin_named name = if bytes_eq name (codes "4800-prac") then Some prac_4800 else (if bytes_eq name (codes "tiny") then Some tiny else None)
