-- A count of faults.
use Rattle.std.specs.Prelude.{ℕ, ◌+◌, ◌-◌, ◌^◌, ◌≤◌, min}

-- the count after one more fault; it stays at the counter's last value
abbrev pub one_more_fault : ℕ → ℕ
one_more_fault count = min (count + 1) (2 ^ 64 - 1)

-- the count rose, or stands at the counter's last value
abbrev pub Rose : ℕ → ℕ → Type 0
Rose before after = one_more_fault before ≤ after
