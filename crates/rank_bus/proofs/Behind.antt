-- A gap to each command of a log is kept exactly from some clock on.
use Rattle.std.proofs.Common.{◌≡◌, ℕ, ◌+◌, ◌≤◌, Bool, true, ◌&&◌, refl, arith, max, [], ◌∷◌, le-leb, leb-true, nat_le, ◌↔◌}
use Rattle.std.specs.List.{list_all}
use Rattle.command_words.specs.declared.command.Command.{Command}
use Rattle.command_words.specs.declared.command.Command.TheVariants.{Act, Rd, Wr, PrePb, PreSb, PreAb, RefAb, RefSb, RfmAb, RfmSb, Mrw, Ecs, Nop}
use Rattle.speed_bin.specs.declared.header.Header.{Header}
use Rattle.speed_bin.specs.Log.{Issued, Log}
use Rattle.speed_bin.specs.Rules.{MayFollow}
use Rattle.speed_bin.proofs.Tests.{both, joined}
use Rattle.rank_bus.specs.Buses.{gap_to_any, gap_to_read, gap_to_write, shares, MayShare, IsEarliest}
use Rattle.rank_bus.specs.Clearing.{behind, Leaves, IsLeftBy, kept_for}
use Rattle.rank_bus.specs.declared.clearance.Clearance.{Clearance}

behind_all : (gap : Command → ℕ) (clock : ℕ) (log : Log) → list_all (λ (place : Issued). nat_le (place.clock + gap place.command) clock) log ≡ true → behind gap log ≤ clock
behind_all gap clock [] k = omega arith
behind_all gap clock (place ∷ log) k =
    let p = both (nat_le (place.clock + gap place.command) clock) (list_all (λ (place : Issued). nat_le (place.clock + gap place.command) clock) log) k in
    let ih = behind_all gap clock log p.1 in
    let e : place.clock + gap place.command ≤ clock = leb-true _ _ p.0 in
    omega arith

all_behind : (gap : Command → ℕ) (clock : ℕ) (log : Log) → behind gap log ≤ clock → list_all (λ (place : Issued). nat_le (place.clock + gap place.command) clock) log ≡ true
all_behind gap clock [] k = refl
all_behind gap clock (place ∷ log) k = joined _ _ (le-leb _ _ (omega arith)) (all_behind gap clock log (omega arith))

by_clock : (gap : Command → ℕ) (kept clock : ℕ) (log : Log) → kept ≡ behind gap log → (list_all (λ (place : Issued). nat_le (place.clock + gap place.command) clock) log ≡ true ↔ (kept ≤ clock))
by_clock gap kept clock log e = (λ k. (let b = behind_all gap clock log k in omega arith), λ k. all_behind gap clock log (omega arith))

pub kept_is_least : (clearance : Clearance) (command : Command) (log : Log) → IsLeftBy clearance log → (clock : ℕ) → (shares clock command log ≡ true ↔ (kept_for clearance command ≤ clock))
unfolding IsLeftBy
kept_is_least clearance (Rd bank column) log s clock = by_clock gap_to_read clearance.read clock log s.read
kept_is_least clearance (Wr bank column) log s clock = by_clock gap_to_write clearance.write clock log s.write
kept_is_least clearance (Act bank row) log s clock = by_clock gap_to_any clearance.any clock log s.any
kept_is_least clearance (PrePb bank) log s clock = by_clock gap_to_any clearance.any clock log s.any
kept_is_least clearance (PreSb address) log s clock = by_clock gap_to_any clearance.any clock log s.any
kept_is_least clearance PreAb log s clock = by_clock gap_to_any clearance.any clock log s.any
kept_is_least clearance RefAb log s clock = by_clock gap_to_any clearance.any clock log s.any
kept_is_least clearance (RefSb address) log s clock = by_clock gap_to_any clearance.any clock log s.any
kept_is_least clearance RfmAb log s clock = by_clock gap_to_any clearance.any clock log s.any
kept_is_least clearance (RfmSb address) log s clock = by_clock gap_to_any clearance.any clock log s.any
kept_is_least clearance (Mrw write) log s clock = by_clock gap_to_any clearance.any clock log s.any
kept_is_least clearance Ecs log s clock = by_clock gap_to_any clearance.any clock log s.any
kept_is_least clearance Nop log s clock = by_clock gap_to_any clearance.any clock log s.any

-- the greatest of the two least clocks and `from`
pub earliest_of : (h : Header) (own rest : Log) (from clock earliest kept : ℕ) (command : Command) → ((t : ℕ) → (MayFollow h.timing t command own ↔ (earliest ≤ t))) → ((t : ℕ) → (shares t command rest ≡ true ↔ (kept ≤ t)))
    → clock ≡ max (max earliest kept) from → IsEarliest h own rest from command clock
earliest_of h own rest from clock earliest kept command first second e = record {
  may = record { follows = (first clock).1 (omega (arith, e)); shares = (second clock).1 (omega (arith, e)) };
  not_before = omega (arith, e);
  least = λ later by m. let a = (first later).0 m.follows in let b = (second later).0 m.shares in omega (arith, e, a, b, by);
}

-- there is one such clock
pub earliest_is_one : (h : Header) (own rest : Log) (from a b : ℕ) (command : Command) → IsEarliest h own rest from command a → IsEarliest h own rest from command b → a ≡ b
earliest_is_one h own rest from a b command p q =
    let x = p.least b q.not_before q.may in
    let y = q.least a p.not_before p.may in
    omega arith
