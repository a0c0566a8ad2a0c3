-- Accepted headers: their numbers are in range, and the checks of `docs/RULES.md` hold.
use Rattle.std.specs.Prelude.{ℕ, suc, ◌≡◌, ◌<◌, ◌≤◌, ◌+◌, ◌-◌, ◌*◌, max}
use Rattle.command_words.specs.Geometry.{Shape}
use Rattle.speed_bin.specs.Gap.{n_max, n_close, n_tail}
use Rattle.speed_bin.specs.Height.{height_of}
use Rattle.speed_bin.specs.Timing.{IsTiming}
use Rattle.speed_bin.specs.Version.{IsVersion}
use Rattle.speed_bin.specs.declared.settings.Settings.{Settings}
use Rattle.speed_bin.specs.declared.header.Header.{Header}

-- the ranges of the header's keys
pub record IsSettings (s : Settings) : Type 0 where
  pub rows : (1 ≤ s.rows) × (s.rows ≤ 65536)
  pub ath : (1 ≤ s.ath) × (s.ath ≤ 1023)
  pub eth : (1 ≤ s.eth) × (s.eth ≤ 1023)
  pub raaimt : (1 ≤ s.raaimt) × (s.raaimt ≤ 255)
  pub raammt : (1 ≤ s.raammt) × (s.raammt ≤ 1023)
  pub ecs_every : s.ecs_every ≤ 255

-- the shape of the header's subchannel: its rows, and the bank groups of its version
abbrev pub shape_of : Header → Shape
shape_of h = record { rows = h.settings.rows; groups = h.version.groups }

-- the activations of one bank that a back-off cycle has beyond the first
unfoldable pub spare : Header → ℕ
spare h = h.version.cycle - 1

-- the greater of a refresh of all banks and of four refreshes of one address each
abbrev pub refresh_length : Header → ℕ
refresh_length h = max h.timing.nrfc (4 * h.timing.nrfcsb)

-- the eight checks
pub record Checks (h : Header) : Type 0 where
  pub precharge_within_cycle : h.timing.nrp ≤ h.timing.nrc
  pub window : h.timing.nabo < h.timing.nrp + spare h * h.timing.nrc
  pub thresholds : (suc (suc (spare h)) ≤ h.settings.ath) × (h.settings.eth ≤ h.settings.ath)
  pub management : (8 ≤ h.settings.raaimt) × (h.settings.raaimt ≤ h.settings.raammt)
  pub closing_within_two : n_tail h.timing + h.timing.nabo + 12 * (n_max h.timing + n_close h.timing) ≤ 2 * h.timing.nrefi
  pub round_within_half : 2 * (refresh_length h + 5 * h.timing.nrp + h.timing.necs) ≤ h.timing.nrefi
  pub latencies : h.timing.ncl ≡ h.timing.ncwl + 2
  pub bursts : (8 ≤ h.timing.nccd_s) × (h.timing.nccd_s ≤ h.timing.nccd_l) × (h.timing.nccd_s ≤ h.timing.nccd_l_wr)

-- an accepted header
pub record IsAccepted (h : Header) : Type 0 where
  pub timing : IsTiming h.timing
  pub settings : IsSettings h.settings
  pub version : IsVersion h.version
  pub checks : Checks h

-- no row of a log that keeps the rules is activated more often than this since its last mitigation
abbrev pub bound : Header → ℕ
bound h = h.settings.ath + height_of (spare h) h.settings.rows + spare h
