-- All that the controller keeps of its log for its deadlines.
use Rattle.std.specs.Prelude.{ℕ, ◌+◌, ◌*◌, ◌<◌, ◌≤◌, ◌≡◌, List, [], ◌∷◌, length, Option, Some, None, IsTrue, ⊤}
use Rattle.speed_bin.specs.Alert.{alert}
use Rattle.speed_bin.specs.Gap.{n_max}
use Rattle.speed_bin.specs.Log.{Log, refs, last_clock}
use Rattle.speed_bin.specs.Rules.{rule_6, rule_7, rule_8, rule_13}
use Rattle.speed_bin.specs.declared.header.Header.{Header}
use Rattle.speed_bin.specs.declared.settings.RefreshMode.{RefreshMode}
use Rattle.deadlines.specs.Backoffs.{Backoff}
use Rattle.deadlines.specs.Timely.{Timely}
use Rattle.deadlines.specs.Counts.{AllAddressed, Job}
use Rattle.deadlines.specs.Pace.{WithinSpans}
use Rattle.deadlines.specs.declared.task.Task.{Task}
use Rattle.deadlines.specs.declared.task.Task.TheVariants.{RefSame}

-- rules 6, 7, 8 and 13 hold at each place
abbrev pub AllInTime : Header → Log → Type 0
AllInTime h [] = ⊤
AllInTime h (place ∷ log) = AllInTime h log × IsTrue (rule_6 h place.clock place.command log) × IsTrue (rule_7 place.command log) × IsTrue (rule_8 h place.command log) × IsTrue (rule_13 h place.clock log)

-- the deadlines so far, and what those to come rest on
pub record Stands (h : Header) (log : Log) (task : Option Task) (now : ℕ) : Type 0 where
  pub meets : AllInTime h log
  pub backoff : Backoff h log task now
  pub timely : Timely h log task now

-- while register writes are left: each comes nMax after the one before at the latest, and nothing else is set
pub record Opening (h : Header) (log : Log) (task : Option Task) (now : ℕ) : Type 0 where
  pub soon : last_clock log ≤ length log * n_max h.timing
  pub prompt : now ≤ last_clock log + 1
  pub calm : alert h log ≡ None
  pub untasked : task ≡ None

-- the mode of refreshes: where all banks are refreshed at once, no address is ahead
pub record InMode (h : Header) (log : Log) (task : Option Task) : Type 0 where
  pub alike : h.settings.refresh ≡ RefreshMode.All → refs 0 log ≡ refs 3 log
  pub same : (address : ℕ) → task ≡ Some (RefSame address) → h.settings.refresh ≡ RefreshMode.Same

-- all of it
pub record KeepsDeadlines (h : Header) (log : Log) (task : Option Task) (now until idle : ℕ) (waiting : List ℕ) (n : ℕ) : Type 0 where
  pub stands : Stands h log task now
  pub opening : length log < 8 → Opening h log task now
  pub mode : InMode h log task
  pub job : Job h log waiting n
  pub addressed : AllAddressed log
  pub in_spans : WithinSpans h log now until idle

-- The controller keeps its deadlines: after this log, with this task, `now` and idle target, with these banks of waiting
-- requests, n requests offered and `idle` clocks in idle lines so far. How it does is the laws' own affair.
unfoldable pub Keeps : Header → Log → Option Task → ℕ → ℕ → ℕ → List ℕ → ℕ → Type 0
Keeps h log task now until idle waiting n = KeepsDeadlines h log task now until idle waiting n
