-- The clocks of a log, and from when a precharge can follow its columns.
use Rattle.std.specs.Prelude.{ℕ, ◌+◌, ◌≤◌, [], ◌∷◌, IsTrue, ⊤}
use Rattle.speed_bin.specs.Log.{Log}
use Rattle.speed_bin.specs.Rules.{rule_1}
use Rattle.speed_bin.specs.declared.timing.Timing.{Timing}

-- from a column to a precharge, at the most
unfoldable pub n_pre : Timing → ℕ
n_pre t = t.ncwl + 8 + t.nwr + t.nrtp

-- no place is later than this clock
abbrev pub AllUpTo : ℕ → Log → Type 0
AllUpTo clock [] = ⊤
AllUpTo clock (place ∷ log) = (place.clock ≤ clock) × AllUpTo clock log

-- the clocks rise: rule 1 holds at each place
abbrev pub AllRise : Log → Type 0
AllRise [] = ⊤
AllRise (place ∷ log) = IsTrue (rule_1 place.clock log) × AllRise log
