-- What the banks with waiting requests offer, and which of it comes first.
use Rattle.std.specs.Prelude.{ℕ, ◌<◌, ◌≤◌, ◌≡◌, ◌⊎◌, Bool, true, false, Option, Some, None, List, slice_get, slice_index_or, IsSome}
use Rattle.command_words.specs.declared.command.Command.{Command}
use Rattle.command_words.specs.declared.command.Command.TheVariants.{Act, PrePb}
use Rattle.speed_bin.specs.Log.{Log, open_at}
use Rattle.speed_bin.specs.Rules.{MayFollow}
use Rattle.speed_bin.specs.declared.header.Header.{Header}
use Rattle.requests.specs.Choice.{IsSoonest, column_for}
use Rattle.requests.specs.Queue.{in_bank, hits}
use Rattle.requests.specs.declared.waiting.Waiting.{Waiting}
use Rattle.scheduler.specs.Board.{first_at}
use Rattle.scheduler.specs.declared.choice.Class.{Class}
use Rattle.scheduler.specs.declared.choice.Class.TheVariants.{Column, Activate, Precharge}
use Rattle.scheduler.specs.declared.choice.Candidate.{Candidate}

-- the command that fulfils a wish for the request
abbrev pub command_for : Class → Waiting → Command
command_for Column w = column_for w.request.kind w.place
command_for Activate w = Act w.place.bank w.place.row
command_for Precharge w = PrePb w.place.bank

-- at one clock RD and WR come before ACT, and ACT before PREpb
abbrev pub rank : Class → ℕ
rank Column = 0
rank Activate = 1
rank Precharge = 2

-- the bank is one of those that are asked
abbrev pub is_asked : List Bool → ℕ → Bool
is_asked asked b = slice_index_or asked b false

-- what a bank is in need of, and where the request stands that this is for
abbrev pub Wants : Class → List Waiting → ℕ → Log → ℕ → Type 0
Wants Column ws b log at = first_at (hits b (open_at b log)) ws ≡ Some at
Wants Activate ws b log at = (open_at b log ≡ None) × (first_at (in_bank b) ws ≡ Some at)
Wants Precharge ws b log at = IsSome (open_at b log) × (first_at (hits b (open_at b log)) ws ≡ None) × (first_at (in_bank b) ws ≡ Some at)

-- the candidate of an asked bank: what it is in need of, at its e
pub record IsCandidate (h : Header) (ws : List Waiting) (log : Log) (from : ℕ) (asked : List Bool) (b : ℕ) (candidate : Candidate) : Type 0 where
  pub asks : is_asked asked b ≡ true
  pub waiting : Waiting
  pub here : slice_get ws candidate.at ≡ Some waiting
  pub number : candidate.id ≡ waiting.id
  pub wants : Wants candidate.class ws b log candidate.at
  pub soonest : IsSoonest h log from (command_for candidate.class waiting) candidate.clock

-- the first key is before the second: an earlier clock, or the same and an earlier class, or both the same and an older
-- request
abbrev pub IsLess : ℕ → ℕ → ℕ → ℕ → ℕ → ℕ → Type 0
IsLess clock class id clock' class' id' = (clock < clock') ⊎ ((clock ≡ clock') × ((class < class') ⊎ ((class ≡ class') × (id < id'))))

abbrev pub IsBefore : Candidate → Candidate → Type 0
IsBefore a b = IsLess a.clock (rank a.class) a.id b.clock (rank b.class) b.id

-- of the two the one that comes first, and the former where neither does
abbrev pub IsBetterOf : Option Candidate → Option Candidate → Option Candidate → Type 0
IsBetterOf result best None = result ≡ best
IsBetterOf result None (Some candidate) = result ≡ Some candidate
IsBetterOf result (Some best) (Some candidate) = (IsBefore candidate best × (result ≡ Some candidate)) ⊎ ((IsBefore candidate best → ⊥) × (result ≡ Some best))

-- the candidate of an asked bank below n. None of such a bank comes before it, and its clock is the least one at which
-- anything that such a bank is in need of may be issued.
pub record IsBestBelow (n : ℕ) (h : Header) (ws : List Waiting) (log : Log) (from : ℕ) (asked : List Bool) (candidate : Candidate) : Type 0 where
  pub bank : ℕ
  pub low : bank < n
  pub is_candidate : IsCandidate h ws log from asked bank candidate
  pub least : (b : ℕ) → b < n → (other : Candidate) → IsCandidate h ws log from asked b other → IsBefore other candidate → ⊥
  pub soonest : (b : ℕ) → b < n → is_asked asked b ≡ true → (class : Class) (at : ℕ) (w : Waiting) → Wants class ws b log at → slice_get ws at ≡ Some w
      → (clock : ℕ) → from ≤ clock → MayFollow h.timing clock (command_for class w) log → candidate.clock ≤ clock

-- that of all 32 banks
abbrev pub IsBest : Header → List Waiting → Log → ℕ → List Bool → Candidate → Type 0
IsBest h ws log from asked candidate = IsBestBelow 32 h ws log from asked candidate
