-- The weights of a bank's rows, by which the bound is shown.
use Rattle.std.specs.Prelude.{ℕ, zero, suc, ◌+◌, ◌-◌, ◌*◌, ◌^◌, min, nat_lt, if◌then◌else◌}
use Rattle.speed_bin.specs.declared.header.Header.{Header}
use Rattle.speed_bin.specs.Log.{Log}
use Rattle.speed_bin.specs.Counters.{acts}
use Rattle.speed_bin.specs.Header.{spare}
use Rattle.speed_bin.specs.Height.{height_of}

-- the sum over the numbers below a number
abbrev pub sum_below : ℕ → (ℕ → ℕ) → ℕ
sum_below zero f = 0
sum_below (suc n) f = f n + sum_below n f

-- the weight of a row with c activations since its mitigation, where a cycle has suc d activations
abbrev pub weight : ℕ → ℕ → ℕ → ℕ → ℕ
weight d ath k c = if nat_lt c ath then min c (suc d) * d ^ k else suc d ^ suc (suc (c - ath)) * d ^ (k - suc (c - ath))

-- the powers of a weight add up to this
abbrev pub steps_of : Header → ℕ
steps_of h = height_of (spare h) h.settings.rows + suc (spare h)

abbrev pub weights_of : Header → ℕ → Log → ℕ
weights_of h b log = sum_below h.settings.rows (λ row. weight (spare h) h.settings.ath (steps_of h) (acts h b row log))
