-- What rolling counts without a limit say of a log.
use Rattle.std.specs.Prelude.{◌≡◌, ℕ, ◌<◌, length, slice_index}
use Rattle.rfm_counts.specs.Held.{Held}
use Rattle.speed_bin.specs.Log.{Log, raa}
use Rattle.speed_bin.specs.declared.header.Header.{Header}

-- the thresholds are the header's, and at each of the 32 numbers of banks stands the count of the log
pub record RollingFor (it : Held) (h : Header) (log : Log) : Type 0 where
  pub raaimt : it.raaimt ≡ h.settings.raaimt
  pub raammt : it.raammt ≡ h.settings.raammt
  pub banks : length it.counts ≡ 32
  pub counts : (b : ℕ) → b < 32 → slice_index it.counts b ≡ raa h b log
