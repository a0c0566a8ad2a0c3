-- The parts of a bus, by rank.
use Rattle.std.proofs.Common.{◌≡◌, ℕ, refl, subst, None, ◌∷◌}
use Rattle.command_words.specs.declared.command.Command.{Command}
use Rattle.deadlines.specs.Standing.{AllInTime}
use Rattle.rank_bus.specs.Buses.{BusLog, other, part}
use Rattle.rank_bus.specs.declared.rank.Rank.{Rank}
use Rattle.rank_bus.specs.declared.rank.Rank.TheVariants.{Zero, One}
use Rattle.speed_bin.specs.Log.{Log, open_at}
use Rattle.speed_bin.specs.declared.header.Header.{Header}
use Rattle.rank_pair.specs.Under.{AllShut}

pub part_own : (rank : Rank) (clock : ℕ) (command : Command) (bus : BusLog) → part rank (record { rank = rank; clock = clock; command = command } ∷ bus) ≡ record { clock = clock; command = command } ∷ part rank bus
part_own Zero clock command bus = refl
part_own One clock command bus = refl

pub part_rest : (rank : Rank) (clock : ℕ) (command : Command) (bus : BusLog) → part (other rank) (record { rank = rank; clock = clock; command = command } ∷ bus) ≡ part (other rank) bus
part_rest Zero clock command bus = refl
part_rest One clock command bus = refl

-- what holds of both parts, from what holds of the own part and of the rest
pub for_each : (P : Rank → Log → Type 0) (rank : Rank) (clock : ℕ) (command : Command) (bus : BusLog)
    → P rank (record { clock = clock; command = command } ∷ part rank bus) → P (other rank) (part (other rank) bus)
    → (r : Rank) → P r (part r (record { rank = rank; clock = clock; command = command } ∷ bus))
for_each P Zero clock command bus own rest Zero = own
for_each P Zero clock command bus own rest One = rest
for_each P One clock command bus own rest Zero = rest
for_each P One clock command bus own rest One = own

-- the deadlines of the longer log of a rank
pub own_in_time : (h : Header) (rank : Rank) (clock : ℕ) (command : Command) (bus : BusLog) → AllInTime h (part rank (record { rank = rank; clock = clock; command = command } ∷ bus))
    → AllInTime h (record { clock = clock; command = command } ∷ part rank bus)
own_in_time h rank clock command bus all = subst (AllInTime h) (part_own rank clock command bus) all

pub shut_in : (log same : Log) → log ≡ same → AllShut log → AllShut same
shut_in log same e shut = λ b low. subst (λ (l : Log). open_at b l ≡ None) e (shut b low)
