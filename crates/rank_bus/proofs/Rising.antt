-- Clocks of both ranks rise together.
use Rattle.std.proofs.Common.{◌≡◌, ℕ, ◌+◌, ◌≤◌, ◌<◌, true, arith, [], ◌∷◌, lt-ltb, leb-true, nat_le, nat_lt, refl}
use Rattle.std.specs.Prelude.{IsTrue}
use Rattle.command_words.specs.declared.command.Command.{Command}
use Rattle.command_words.specs.declared.command.Command.TheVariants.{Act, Rd, Wr, Mrw}
use Rattle.speed_bin.specs.Log.{Issued, Log}
use Rattle.speed_bin.specs.Rules.{rule_1}
use Rattle.speed_bin.proofs.Tests.{both}
use Rattle.rank_bus.specs.Buses.{AllShare, BusLog, ClocksRise, bus_gap, gap_to_any, gap_to_read, gap_to_write, is_later, other, part, shares}
use Rattle.speed_bin.specs.declared.timing.Timing.{Timing}
use Rattle.timing_rules.specs.Spaced.{IsSpaced}
use Rattle.rank_bus.specs.declared.rank.Rank.{Rank}
use Rattle.rank_bus.specs.declared.rank.Rank.TheVariants.{Zero, One}

any_some : (first : Command) → 1 ≤ gap_to_any first
any_some (Act bank row) = omega arith
any_some (Rd bank column) = omega arith
any_some (Wr bank column) = omega arith
any_some (Mrw write) = omega arith
any_some first = omega arith

read_some : (first : Command) → 1 ≤ gap_to_read first
read_some (Rd bank column) = omega arith
read_some (Wr bank column) = omega arith
read_some first = any_some first

write_some : (first : Command) → 1 ≤ gap_to_write first
write_some (Rd bank column) = omega arith
write_some (Wr bank column) = omega arith
write_some first = any_some first

gap_some : (first second : Command) → 1 ≤ bus_gap first second
gap_some first (Rd bank column) = read_some first
gap_some first (Wr bank column) = write_some first
gap_some first second = any_some first

above_last : (clock : ℕ) (command : Command) (place : Issued) (rest : Log) → shares clock command (place ∷ rest) ≡ true → nat_lt place.clock clock ≡ true
above_last clock command place rest k =
    let p = both (nat_le (place.clock + bus_gap place.command command) clock) (shares clock command rest) k in
    let e : place.clock + bus_gap place.command command ≤ clock = leb-true _ _ p.0 in
    let some = gap_some place.command command in
    lt-ltb _ _ (omega arith)

by_ranks : (rank next : Rank) (clock then : ℕ) (command before : Command) (bus : BusLog)
    → IsTrue (shares clock command (part (other rank) (record { rank = next; clock = then; command = before } ∷ bus)))
    → IsTrue (rule_1 clock (part rank (record { rank = next; clock = then; command = before } ∷ bus))) → nat_lt then clock ≡ true
by_ranks Zero Zero clock then command before bus s r = r
by_ranks Zero One clock then command before bus s r = above_last clock command (record { clock = then; command = before }) (part One bus) s
by_ranks One Zero clock then command before bus s r = above_last clock command (record { clock = then; command = before }) (part Zero bus) s
by_ranks One One clock then command before bus s r = r

later_place : (rank : Rank) (clock : ℕ) (command : Command) (bus : BusLog) → IsTrue (shares clock command (part (other rank) bus)) → IsTrue (rule_1 clock (part rank bus)) → IsTrue (is_later clock bus)
later_place rank clock command [] s r = refl
later_place rank clock command (next ∷ bus) s r = by_ranks rank next.rank clock next.clock command next.command bus s r

each_rises : (t : Timing) (rank : Rank) (clock : ℕ) (command : Command) (bus : BusLog)
    → IsSpaced t (part Zero (record { rank = rank; clock = clock; command = command } ∷ bus)) → IsSpaced t (part One (record { rank = rank; clock = clock; command = command } ∷ bus))
    → IsSpaced t (part Zero bus) × IsSpaced t (part One bus) × IsTrue (rule_1 clock (part rank bus))
each_rises t Zero clock command bus zero one = (zero.0, one, zero.1.rises)
each_rises t One clock command bus zero one = (zero, one.0, one.1.rises)

pub rise_together : (t : Timing) (bus : BusLog) → AllShare bus → IsSpaced t (part Zero bus) → IsSpaced t (part One bus) → ClocksRise bus
rise_together t [] s zero one = tt
rise_together t (place ∷ bus) s zero one =
    let r = each_rises t place.rank place.clock place.command bus zero one in
    (rise_together t bus s.0 r.0 r.1, later_place place.rank place.clock place.command bus s.1 r.2)
