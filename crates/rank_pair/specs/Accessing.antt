-- A request under way: its row is open, then it was read or written, then its bank is closed.
use Rattle.std.specs.Prelude.{ℕ, ◌≡◌, ◌≢◌, ◌+◌, ◌<◌, ◌≤◌, Option, Some, None, List, [], ◌∷◌, ◌++◌, length}
use Rattle.command_words.specs.Command.{bank_number}
use Rattle.command_words.specs.Geometry.{lines_of}
use Rattle.command_words.specs.Place.{place_of}
use Rattle.command_words.specs.declared.command.Command.{Command}
use Rattle.command_words.specs.declared.command.Command.TheVariants.{Rd, Wr}
use Rattle.command_words.specs.declared.geometry.Place.{Place}
use Rattle.pair_deadlines.specs.Keeping.{Phase, Accessed, Opened, Resting}
use Rattle.rank_bus.specs.Buses.{other, part}
use Rattle.rank_bus.specs.Standing.{now_of}
use Rattle.rank_bus.specs.declared.rank.Rank.{Rank}
use Rattle.reports.specs.Delivered.{IsInside, bytes_in}
use Rattle.reports.specs.Requests.{request_of}
use Rattle.speed_bin.specs.Header.{shape_of}
use Rattle.speed_bin.specs.Log.{open_at}
use Rattle.speed_bin.specs.declared.header.Header.{Header}
use Rattle.pair_reports.specs.Runs.{PairRun, bus_of}
use Rattle.pair_reports.specs.declared.rank_line.RankLine.{RankLine}
use Rattle.rank_pair.specs.Job.{IsPairTrace}
use Rattle.rank_pair.specs.Pairs.{request_for}
use Rattle.rank_pair.specs.Under.{AllShut, IsDone, IsOnBus, IsUnder, Wrote}
use Rattle.rank_pair.specs.declared.pair.LineAccess.{LineAccess}
use Rattle.rank_pair.specs.declared.pair.Pair.{Pair}

-- The line behind these may stand there, is of this rank, and asks for this access.
pub record Asks (h : Header) (front : List RankLine) (it : RankLine) (rank : Rank) (access : LineAccess) : Type 0 where
  pub traced : IsPairTrace (shape_of h) (front ++ it ∷ [])
  pub of_rank : it.rank ≡ rank
  pub numbered : access.number ≡ length front + 1
  pub asks : request_of access.number it.line ≡ request_for access ∷ []
  pub brings : bytes_in (Some it.line) ≡ access.bytes
  pub inside : IsInside (shape_of h) it.line

-- ---- Its commands

abbrev pub place_for : Header → LineAccess → Place
place_for h access = place_of access.line (shape_of h)

-- a write brings bytes
abbrev pub column_for : Place → Option (List ℕ) → Command
column_for place None = Rd place.bank place.column
column_for place (Some bytes) = Wr place.bank place.column

-- ---- Steps

-- one bank of the rank is open on this row, and no other bank of either rank is open
pub record IsAlone (run : PairRun) (rank : Rank) (bank row : ℕ) : Type 0 where
  pub is_open : open_at bank (part rank (bus_of run)) ≡ Some row
  pub others : (b : ℕ) → b < 32 → b ≢ bank → open_at b (part rank (bus_of run)) ≡ None
  pub rest : AllShut (part (other rank) (bus_of run))

-- the row of the access is open, and all lines but the last one are done
pub record IsOpen (p : Pair) (h : Header) (front : List RankLine) (it : RankLine) (rank : Rank) (access : LineAccess) (before after : Option (List ℕ)) : Type 0 where
  pub run : PairRun
  pub until : ℕ
  pub since : ℕ
  pub on_bus : IsOnBus p h (front ++ it ∷ []) run until (Opened rank)
  pub all_done : IsDone h front run since
  pub past : since ≤ now_of p.bus
  pub alone : IsAlone run rank (bank_number (place_for h access).bank) (place_for h access).row
  pub wrote : Wrote h (front ++ it ∷ []) run before after

-- the line was read or written: all lines are done
pub record IsAccessed (p : Pair) (h : Header) (trace : List RankLine) (rank : Rank) (access : LineAccess) (before after : Option (List ℕ)) : Type 0 where
  pub run : PairRun
  pub until : ℕ
  pub since : ℕ
  pub on_bus : IsOnBus p h trace run until (Accessed rank)
  pub all_done : IsDone h trace run since
  pub past : since ≤ now_of p.bus
  pub inside : access.line < lines_of (shape_of h)
  pub alone : IsAlone run rank (bank_number (place_for h access).bank) (place_for h access).row
  pub wrote : Wrote h trace run before after

-- all lines of the trace are done, at this phase
pub record IsThere (p : Pair) (h : Header) (trace : List RankLine) (phase : Phase) (before after : Option (List ℕ)) : Type 0 where
  pub since : ℕ
  pub until : ℕ
  pub under : IsUnder p h trace (record { front = trace; since = since }) until phase before after

-- ---- What has to be known before each step

-- all lines are done, and the next one asks for this access of the rank
abbrev pub MayAccess : Pair → Rank → LineAccess → Option (List ℕ) → Type 0
MayAccess p rank access after =
    (h : Header) × (front : List RankLine) × (it : RankLine) × (before : Option (List ℕ)) × IsThere p h front Resting before after × Asks h front it rank access

-- its row is open
abbrev pub MayColumn : Pair → Rank → LineAccess → Option (List ℕ) → Type 0
MayColumn p rank access after =
    (h : Header) × (front : List RankLine) × (it : RankLine) × (before : Option (List ℕ)) × IsOpen p h front it rank access before after × Asks h front it rank access

-- its line was read or written
abbrev pub MayClose : Pair → Rank → LineAccess → Option (List ℕ) → Type 0
MayClose p rank access after =
    (h : Header) × (trace : List RankLine) × (before : Option (List ℕ)) × IsAccessed p h trace rank access before after

-- all lines are done, and the next one may stand there
pub record MayCarryOut (p : Pair) (it : RankLine) (number : ℕ) (after : Option (List ℕ)) : Type 0 where
  pub h : Header
  pub front : List RankLine
  pub before : Option (List ℕ)
  pub there : IsThere p h front Resting before after
  pub traced : IsPairTrace (shape_of h) (front ++ it ∷ [])
  pub numbered : number ≡ length front + 1
