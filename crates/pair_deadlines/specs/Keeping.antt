-- All that the controller of two ranks keeps for its deadlines, by what it is at.
use Rattle.std.specs.Prelude.{ℕ, ◌+◌, ◌*◌, ◌<◌, ◌≤◌, ◌≡◌, ◌⊎◌, Bool, true, false, nat_lt, List, [], ◌∷◌, length, Option, Some, None, IsTrue, ⊤}
use Rattle.speed_bin.specs.Alert.{alert}
use Rattle.speed_bin.specs.Gap.{n_max}
use Rattle.speed_bin.specs.Log.{Log}
use Rattle.speed_bin.specs.declared.header.Header.{Header}
use Rattle.rank_bus.specs.Buses.{BusLog, part}
use Rattle.pair_deadlines.specs.Budget.{budget, excess}
use Rattle.pair_deadlines.specs.Serving.{Looping}
use Rattle.pair_deadlines.specs.Standing.{RankKeeps, Between}
use Rattle.rank_bus.specs.declared.rank.Rank.{Rank}
use Rattle.rank_bus.specs.declared.rank.Rank.TheVariants.{Zero, One}

-- ---- What the controller is at

pub data Phase : Type 0 where
  -- the register writes
  Writing : Phase
  -- between a service and the next line or the end
  Resting : Phase
  -- behind the ACT, the column and the PREpb of a request of this rank
  Opened : Rank → Phase
  Accessed : Rank → Phase
  Closed : Rank → Phase
  -- in the service of this rank, behind the RFMab
  Serving : Rank → Phase

-- no alert is raised in either rank
pub record Calm (h : Header) (r0 r1 : Log) : Type 0 where
  pub first : alert h r0 ≡ None
  pub second : alert h r1 ≡ None

-- in this rank an alert is raised by the last command, or none is
abbrev pub IsFresh : Header → Log → ℕ → Type 0
IsFresh h log now = (a : ℕ) → alert h log ≡ Some a → now ≡ a + 1

abbrev pub IsAlerted : Header → Rank → Log → Log → ℕ → Type 0
IsAlerted h Zero r0 r1 now = IsFresh h r0 now × (alert h r1 ≡ None)
IsAlerted h One r0 r1 now = IsFresh h r1 now × (alert h r0 ≡ None)

-- while register writes are left
pub record Writes (h : Header) (r0 r1 : Log) (now idle n : ℕ) : Type 0 where
  pub count : ℕ
  pub left : ℕ
  pub counted : length r0 + length r1 ≡ count
  pub sixteen : count + left ≡ 16
  pub between : Between h r0 r1 now idle n count left
  pub by : now ≤ count * n_max h.timing
  pub calm : Calm h r0 r1
  pub none : excess h r0 + excess h r1 ≡ 0

pub record Lined (h : Header) (r0 r1 : Log) (now idle n k m most : ℕ) : Type 0 where
  pub between : Between h r0 r1 now idle n k m
  pub few : excess h r0 + excess h r1 ≤ most

abbrev pub lag_zero : Header → ℕ
lag_zero h = 7 * h.timing.nrefi + 28 * n_max h.timing

abbrev pub joint_zero : Header → ℕ
joint_zero h = 7 * h.timing.nrefi + 112 * n_max h.timing

abbrev pub chance_zero : Header → ℕ
chance_zero h = 28 * n_max h.timing

abbrev pub lag_one : Header → ℕ
lag_one h = 9 * h.timing.nrefi

abbrev pub joint_one : Header → ℕ
joint_one h = 9 * h.timing.nrefi + 36 * n_max h.timing

abbrev pub chance_one : Header → ℕ
chance_one h = 12 * n_max h.timing

abbrev pub State : Header → Log → Log → ℕ → ℕ → ℕ → Phase → Type 0
State h r0 r1 now idle n Writing = Writes h r0 r1 now idle n
State h r0 r1 now idle n Resting = Lined h r0 r1 now idle n 0 0 0 × Calm h r0 r1
State h r0 r1 now idle n (Opened rank) = Lined h r0 r1 now idle n 1 3 1 × Calm h r0 r1
State h r0 r1 now idle n (Accessed rank) = Lined h r0 r1 now idle n 2 2 1 × Calm h r0 r1
State h r0 r1 now idle n (Closed rank) = Lined h r0 r1 now idle n 3 1 1 × IsAlerted h rank r0 r1 now
State h r0 r1 now idle n (Serving Zero) = Looping h r0 r1 now idle n (lag_zero h) (joint_zero h) (chance_zero h) × Calm h r0 r1
State h r0 r1 now idle n (Serving One) = Looping h r1 r0 now idle n (lag_one h) (joint_one h) (chance_one h) × Calm h r0 r1 × (excess h r0 ≡ 0)

pub record Holds (h : Header) (bus : BusLog) (now until idle n : ℕ) (phase : Phase) : Type 0 where
  pub zero_side : RankKeeps h (part Zero bus) now
  pub one_side : RankKeeps h (part One bus) now
  pub by_until : until ≤ budget h (part Zero bus) (part One bus) idle
  pub state : State h (part Zero bus) (part One bus) now idle n phase

-- The controller of two ranks keeps its deadlines: after these commands, with this `now` and idle target, with `idle`
-- clocks in idle lines and n requests so far. How it does is the laws' own affair.
unfoldable pub Keeps : Header → BusLog → ℕ → ℕ → ℕ → ℕ → Phase → Type 0
Keeps h bus now until idle n phase = Holds h bus now until idle n phase
