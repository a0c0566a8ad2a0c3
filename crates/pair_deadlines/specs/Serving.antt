-- The service of one rank: ECS, refreshes and RFMsb, until none is due.
use Rattle.std.specs.Prelude.{ℕ, ◌+◌, ◌*◌, ◌<◌, ◌≤◌, ◌≡◌, ◌⊎◌, true, false}
use Rattle.command_words.specs.declared.command.Command.{Command}
use Rattle.command_words.specs.declared.command.Command.TheVariants.{RefAb, RefSb, RfmSb, Ecs}
use Rattle.speed_bin.specs.Gap.{n_max}
use Rattle.command_words.specs.Kinds.{Manages, effect}
use Rattle.speed_bin.specs.Log.{Log, refs, raa}
use Rattle.speed_bin.specs.declared.header.Header.{Header}
use Rattle.speed_bin.specs.declared.settings.RefreshMode.{RefreshMode}
use Rattle.speed_bin.specs.declared.settings.RefreshMode.TheVariants.{All, Same}
use Rattle.deadlines.specs.Pace.{others}
use Rattle.deadlines.specs.Rounds.{next_due, ecs_due}
use Rattle.deadlines.specs.Timely.{IsTurnOf}
use Rattle.rank_bus.specs.Buses.{MayShare}
use Rattle.pair_deadlines.specs.Budget.{budget, due, excess, spare}

-- the refresh with which a round begins
abbrev pub first_of : RefreshMode → Command
first_of All = RefAb
first_of Same = RefSb 0

-- a round is complete, no ECS is due, and the next round can begin at y
pub record IsWhole (h : Header) (own rest : Log) (y : ℕ) : Type 0 where
  pub complete : refs 0 own ≡ refs 3 own
  pub scrubbed : ecs_due h own ≡ false
  pub begins : MayShare h y (first_of h.settings.refresh) own rest

-- how far a rank is in its round, and that the round is over by y
pub data Stage (h : Header) (own rest : Log) (now y : ℕ) : Type 0 where
  Whole : now ≤ y → IsWhole h own rest y → Stage h own rest now y
  -- an ECS is due, after the first refresh of a round
  Scrubbing : (x : ℕ) → now ≤ x → x + n_max h.timing + 3 ≤ y → ecs_due h own ≡ true → MayShare h x Ecs own rest
      → (refs 0 own ≡ refs 3 own) ⊎ (IsTurnOf 1 own × (h.settings.refresh ≡ Same) × (next_due h own ≤ now)) → Stage h own rest now y
  -- the refresh of an address after the first
  Turning : (g x : ℕ) → 1 ≤ g → now ≤ x → x + 4 ≤ y + g → h.settings.refresh ≡ Same → ecs_due h own ≡ false → next_due h own ≤ now → IsTurnOf g own
      → ((i : ℕ) → (i ≡ 0) ⊎ (g ≤ i) → MayShare h x (RefSb i) own rest) → Stage h own rest now y

-- what the service of a rank issues
pub data Serves (h : Header) (own : Log) (now : ℕ) (command : Command) : Type 0 where
  Scrubs : ecs_due h own ≡ true → command ≡ Ecs → Serves h own now command
  RefreshesAll : ecs_due h own ≡ false → next_due h own ≤ now → h.settings.refresh ≡ All → command ≡ RefAb → Serves h own now command
  RefreshesSame : (g : ℕ) → ecs_due h own ≡ false → next_due h own ≤ now → h.settings.refresh ≡ Same → IsTurnOf g own → command ≡ RefSb g → Serves h own now command
  ManagesSame : (g b : ℕ) → ecs_due h own ≡ false → now < next_due h own → command ≡ RfmSb g → b < 32 → effect b (RfmSb g) ≡ Manages → h.settings.raaimt ≤ raa h b own → Serves h own now command

-- While a rank is served: y is a clock by which its present round is over. `lag`, `joint` and `chance` are the numbers of
-- this rank's turn in the service.
pub record Looping (h : Header) (own rest : Log) (now idle n lag joint chance : ℕ) : Type 0 where
  pub y : ℕ
  pub stage : Stage h own rest now y
  pub rest_whole : IsWhole h rest own y
  pub pace : y ≤ budget h own rest idle
  -- how late this rank is, before a round and in it
  pub late_whole : refs 0 own ≡ refs 3 own → 4 * y + 8 * spare h own rest ≤ 4 * next_due h own + lag
  pub late : 4 * y + 8 * spare h own rest ≤ 4 * next_due h own + lag + 8 * n_max h.timing + 12
  -- how late both are together
  pub both_late : 16 * y + 32 * spare h own rest ≤ 12 * due h rest + 4 * due h own + joint
  -- the last round began when it was due, or none has begun yet
  pub recent : (due h own ≤ y + h.timing.nrefi) ⊎ (4 * y + 8 * spare h own rest ≤ 4 * due h rest + chance)
  pub few : others own + others rest + excess h own + excess h rest ≤ 16 + 5 * n
  pub one : excess h own + excess h rest ≤ 1
