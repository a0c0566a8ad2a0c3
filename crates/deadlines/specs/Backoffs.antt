-- What the controller keeps for rule 13.
use Rattle.std.specs.Prelude.{ℕ, ◌+◌, ◌*◌, ◌≤◌, ◌≡◌, Option, Some, None}
use Rattle.speed_bin.specs.Alert.{alert}
use Rattle.speed_bin.specs.Gap.{n_col, n_tail}
use Rattle.speed_bin.specs.Log.{Log, last_clock}
use Rattle.speed_bin.specs.declared.header.Header.{Header}
use Rattle.requests.specs.Owed.{owed_count}
use Rattle.deadlines.specs.Blocking.{AllRise}
use Rattle.deadlines.specs.Stages.{Stage}
use Rattle.deadlines.specs.declared.task.Task.{Task}
use Rattle.deadlines.specs.declared.task.Task.TheVariants.{RfmAll}

-- an alert that is raised is answered in time
pub record Backoff (h : Header) (log : Log) (task : Option Task) (now : ℕ) : Type 0 where
  -- the clocks rise, up to now
  pub rises : AllRise log
  pub early : last_clock log ≤ now
  -- no idle turn comes while an alert is raised
  pub prompt : (a : ℕ) → alert h log ≡ Some a → now ≤ last_clock log + 1
  -- until the RFM of all banks is set, commands come within the window
  pub window : (a : ℕ) → alert h log ≡ Some a → (task ≡ Some RfmAll → ⊥) → last_clock log ≤ a + h.timing.nabo
  -- from then on its commands come in time
  pub closing : (a : ℕ) → alert h log ≡ Some a → task ≡ Some RfmAll → (y : ℕ) × Stage h RfmAll log now y × (y + owed_count log * n_col h.timing ≤ a + h.timing.nabo + n_tail h.timing)
  -- it is set only for an alert
  pub raised : task ≡ Some RfmAll → alert h log ≡ None → ⊥
