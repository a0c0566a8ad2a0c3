-- The commands of two ranks on one bus, and the rules between them.
use Rattle.std.specs.Prelude.{ℕ, ◌+◌, ◌≤◌, Bool, true, false, nat_le, nat_lt, if◌then◌else◌, List, [], ◌∷◌, IsTrue, ⊤}
use Rattle.std.specs.List.{list_all}
use Rattle.command_words.specs.declared.command.Command.{Command}
use Rattle.command_words.specs.declared.command.Command.TheVariants.{Act, Rd, Wr, Mrw}
use Rattle.speed_bin.specs.Log.{Issued, Log}
use Rattle.speed_bin.specs.Rules.{MayFollow}
use Rattle.speed_bin.specs.declared.header.Header.{Header}
use Rattle.rank_bus.specs.declared.rank.Rank.{Rank}
use Rattle.rank_bus.specs.declared.rank.Rank.TheVariants.{Zero, One}

-- a command of one of the ranks, and its clock
pub record BusPlace : Type 0 where
  pub rank : Rank
  pub clock : ℕ
  pub command : Command

-- the commands of both ranks, the newest first
abbrev pub BusLog : Type 0
BusLog = List BusPlace

abbrev pub other : Rank → Rank
other Zero = One
other One = Zero

abbrev pub is_same : Rank → Rank → Bool
is_same Zero Zero = true
is_same Zero One = false
is_same One Zero = false
is_same One One = true

-- the log of one rank
abbrev pub part : Rank → BusLog → Log
part rank [] = []
part rank (place ∷ bus) = if is_same rank place.rank then record { clock = place.clock; command = place.command } ∷ part rank bus else part rank bus

-- ---- How many clocks a command of the other rank comes behind this one, at the least

-- any command: as many as this one has words
abbrev pub gap_to_any : Command → ℕ
gap_to_any (Act bank row) = 2
gap_to_any (Rd bank column) = 2
gap_to_any (Wr bank column) = 2
gap_to_any (Mrw write) = 2
gap_to_any command = 1

-- an RD, and a WR: bursts do not meet
abbrev pub gap_to_read : Command → ℕ
gap_to_read (Rd bank column) = 10
gap_to_read (Wr bank column) = 8
gap_to_read command = gap_to_any command

abbrev pub gap_to_write : Command → ℕ
gap_to_write (Rd bank column) = 12
gap_to_write (Wr bank column) = 10
gap_to_write command = gap_to_any command

abbrev pub bus_gap : Command → Command → ℕ
bus_gap first (Rd bank column) = gap_to_read first
bus_gap first (Wr bank column) = gap_to_write first
bus_gap first second = gap_to_any first

-- those gaps are kept to each command of the other rank
abbrev pub shares : ℕ → Command → Log → Bool
shares clock command rest = list_all (λ place. nat_le (place.clock + bus_gap place.command command) clock) rest

-- that holds at each place
abbrev pub AllShare : BusLog → Type 0
AllShare [] = ⊤
AllShare (place ∷ bus) = AllShare bus × IsTrue (shares place.clock place.command (part (other place.rank) bus))

-- ---- Clocks of both ranks together

-- the clock is above the last one
abbrev pub is_later : ℕ → BusLog → Bool
is_later clock [] = true
is_later clock (place ∷ bus) = nat_lt place.clock clock

-- clocks rise strictly
abbrev pub ClocksRise : BusLog → Type 0
ClocksRise [] = ⊤
ClocksRise (place ∷ bus) = ClocksRise bus × IsTrue (is_later place.clock bus)

-- ---- When a command may come

-- the command may follow the log of its own rank, and share the bus with that of the other one, at this clock
pub record MayShare (h : Header) (clock : ℕ) (command : Command) (own rest : Log) : Type 0 where
  pub follows : MayFollow h.timing clock command own
  pub shares : IsTrue (shares clock command rest)

-- the least such clock that is not below `from`
pub record IsEarliest (h : Header) (own rest : Log) (from : ℕ) (command : Command) (clock : ℕ) : Type 0 where
  pub may : MayShare h clock command own rest
  pub not_before : from ≤ clock
  pub least : (later : ℕ) → from ≤ later → MayShare h later command own rest → clock ≤ later
