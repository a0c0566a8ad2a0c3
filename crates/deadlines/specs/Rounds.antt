-- Rounds of refreshes: each address once, in the order 0 to 3 or all together.
use Rattle.std.specs.Prelude.{ℕ, suc, ◌+◌, ◌-◌, ◌*◌, ◌/◌, ◌≤◌, Bool, true, false, ◌==◌, nat_lt, if◌then◌else◌}
use Rattle.speed_bin.specs.Gap.{n_max, n_col, n_close}
use Rattle.speed_bin.specs.Log.{Log, refs, scrubs}
use Rattle.speed_bin.specs.declared.header.Header.{Header}

-- the addresses are refreshed in their order, so address 3 has the fewest refreshes, and address 0 at most one more
pub record Rounds (log : Log) : Type 0 where
  pub first : refs 3 log ≤ refs 2 log
  pub second : refs 2 log ≤ refs 1 log
  pub third : refs 1 log ≤ refs 0 log
  pub whole : refs 0 log ≤ suc (refs 3 log)

-- the clock from which a refresh is due: some debt is 2
unfoldable pub next_due : Header → Log → ℕ
next_due h log = (refs 3 log + 2) * h.timing.nrefi

-- an ECS is due with so many of them and so many refreshes of address 0
abbrev pub ecs_after : Header → ℕ → ℕ → Bool
ecs_after h scrubbed refreshed = if h.settings.ecs_every == 0 then false else nat_lt scrubbed (refreshed / h.settings.ecs_every)

-- an ECS is due after the log
unfoldable pub ecs_due : Header → Log → Bool
ecs_due h log = ecs_after h (scrubs log) (refs 0 log)

-- how many addresses were refreshed in this round
unfoldable pub round : Log → ℕ
round log = refs 0 log + refs 1 log + refs 2 log - 3 * refs 3 log

-- address 0 was refreshed in this round
unfoldable pub begun : Log → Bool
begun log = nat_lt (refs 3 log) (refs 0 log)

-- what one task takes at the most, without the columns that are owed
unfoldable pub per_task : Header → ℕ
per_task h = n_max h.timing + n_close h.timing

-- all that a round has to do comes by this clock: four tasks for what was left over and for an alert, two for each
-- refresh that was made, and the columns that are owed
unfoldable pub limit : Header → Log → ℕ
limit h log = next_due h log + 4 * per_task h + round log * (2 * per_task h) + 32 * n_col h.timing

-- the number where the test holds, else 0
abbrev pub when : Bool → ℕ → ℕ
when true n = n
when false n = 0
