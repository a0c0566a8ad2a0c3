-- What the controller of two ranks keeps between its commands.
use Rattle.std.specs.Prelude.{ℕ, suc, ◌+◌, ◌*◌, ◌/◌, ◌<◌, ◌≤◌, ◌≡◌}
use Rattle.speed_bin.specs.Gap.{n_max}
use Rattle.speed_bin.specs.Log.{Log, refs, scrubs}
use Rattle.speed_bin.specs.declared.header.Header.{Header}
use Rattle.speed_bin.specs.declared.settings.RefreshMode.{RefreshMode}
use Rattle.deadlines.specs.Pace.{others}
use Rattle.deadlines.specs.Rounds.{Rounds, next_due}
use Rattle.deadlines.specs.Standing.{AllInTime}
use Rattle.pair_deadlines.specs.Before.{AllBefore}
use Rattle.pair_deadlines.specs.Budget.{budget, due, excess}
use Rattle.pair_deadlines.specs.Serving.{IsWhole}

-- what is kept of the log of each rank at all times
pub record RankKeeps (h : Header) (log : Log) (now : ℕ) : Type 0 where
  pub before : AllBefore now log
  pub rounds : Rounds log
  pub not_early : refs 0 log * h.timing.nrefi ≤ now
  pub scrubbed : 1 ≤ h.settings.ecs_every → scrubs log ≤ refs 0 log / h.settings.ecs_every
  pub scrubs_soon : 1 ≤ h.settings.ecs_every → refs 0 log / h.settings.ecs_every ≤ suc (scrubs log)
  pub alike : h.settings.refresh ≡ RefreshMode.All → refs 0 log ≡ refs 3 log
  pub meets : AllInTime h log

-- Between services: k commands stand behind the last one, and m are still to come before the next.
pub record Between (h : Header) (r0 r1 : Log) (now idle n k m : ℕ) : Type 0 where
  pub y : ℕ
  pub by_now : now ≤ y
  pub zero_whole : IsWhole h r0 r1 y
  pub one_whole : IsWhole h r1 r0 y
  pub pace : y ≤ budget h r0 r1 idle
  pub zero_late : 4 * now ≤ 4 * due h r0 + 7 * h.timing.nrefi + 4 * (k * n_max h.timing)
  pub one_late : now ≤ due h r1 + k * n_max h.timing
  pub few : others r0 + others r1 + excess h r0 + excess h r1 + m ≤ 16 + 5 * n
