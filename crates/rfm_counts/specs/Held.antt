-- What contracts see of the rolling counts.
use Rattle.std.specs.Prelude.{◌≡◌, ℕ, ◌-◌, Bool, ◌&&◌, nat_le, if◌then◌else◌, List, length, slice_index, Option, Some, None}
use Rattle.command_words.specs.Command.{is_at}
use Rattle.speed_bin.specs.Below.{any_below}

-- the two thresholds, and the count of each bank by its number
pub record Held : Type 0 where
  pub raaimt : ℕ
  pub raammt : ℕ
  pub counts : List ℕ

-- what no command changes
pub record HasSameLimits (old new : Held) : Type 0 where
  pub raaimt : new.raaimt ≡ old.raaimt
  pub raammt : new.raammt ≡ old.raammt
  pub banks : length new.counts ≡ length old.counts

-- a bank's count, where those of all banks, or of those with this address, were lowered
abbrev pub lowered : Option ℕ → ℕ → ℕ → ℕ → ℕ
lowered None by b count = count - by
lowered (Some address) by b count = if is_at address b then count - by else count

-- some bank with this address is at RAAIMT or more
abbrev pub is_high_at : Held → ℕ → Bool
is_high_at it address = any_below 32 (λ b. is_at address b && nat_le it.raaimt (slice_index it.counts b))
