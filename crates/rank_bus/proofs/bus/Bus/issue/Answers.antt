use Rattle.std.proofs.Common.{ℕ, ◌<◌, ◌∷◌, ◌^◌, arith}
use Rattle.std.proofs.Math.Bridge.{le_prop}
use Rattle.std.proofs.Math.Logic.{∥∥₁_elim, ∥∥₁_map}
use Rattle.log_ledger.specs.Standing.{Follows}
use Rattle.command_words.specs.declared.command.Command.{Command}
use Rattle.speed_bin.specs.Log.{Log}
use Rattle.speed_bin.specs.declared.header.Header.{Header}
use Rattle.rank_bus.specs.Buses.{IsEarliest}
use Rattle.rank_bus.specs.Standing.{StandsFor, Suits, now_of}
use Rattle.rank_bus.proofs.bus.Bus.issue.Goals as goal

-- the rules 1 to 9, from those that the clock keeps and those that are asked for
follows : (h : Header) (own rest : Log) (from clock : ℕ) (command : Command) → IsEarliest h own rest from command clock → Suits h own clock command → Follows h clock command own
follows h own rest from clock command at suits = record { spaced = at.may.follows; fits = suits.fits; allowed = suits.allowed; counted = suits.counted }

pub returns-clause-small : goal.returns-clause-small
unfolding StandsFor now_of
returns-clause-small c =
    ∥∥₁_elim (rw (← c.self.view_is) at c.requires) le_prop (λ m. m.3.small c.earliest-clock.result (c.earliest-clock.ensures m.0 m.1 m.2.sides))

pub issue-requires-clause-small : goal.issue-requires-clause-small
unfolding StandsFor now_of
issue-requires-clause-small c =
    let small : c.earliest-clock.result < 2 ^ 47 = ∥∥₁_elim (rw (← c.self.view_is) at c.requires) le_prop (λ m. m.3.small c.earliest-clock.result (c.earliest-clock.ensures m.0 m.1 m.2.sides)) in
    omega (arith, small)

pub issue-requires-clause-may : goal.issue-requires-clause-may
unfolding StandsFor now_of
issue-requires-clause-may c =
    ∥∥₁_map (rw (← c.self.view_is) at c.requires)
    (λ m. let at = c.earliest-clock.ensures m.0 m.1 m.2.sides in
    (m.0, m.1, m.2.sides, follows m.0 _ _ _ _ _ at (m.3.suits c.earliest-clock.result at)))

pub overflow_add-self : goal.overflow_add-self
unfolding StandsFor now_of
overflow_add-self c =
    let small : c.earliest-clock.result < 2 ^ 47 = ∥∥₁_elim (rw (← c.self.view_is) at c.requires) le_prop (λ m. m.3.small c.earliest-clock.result (c.earliest-clock.ensures m.0 m.1 m.2.sides)) in
    omega (arith, small)

pub invariant_of-self : goal.invariant_of-self
unfolding StandsFor now_of
invariant_of-self c =
    ∥∥₁_map (rw (← c.self.view_is) at c.requires)
    (λ m. let at = c.earliest-clock.ensures m.0 m.1 m.2.sides in let small = m.3.small c.earliest-clock.result at in (
      m.0,
      record { rank = c.args.rank; clock = c.earliest-clock.result; command = c.args.command.now } ∷ m.1,
      record {
        sides = c.issue.ensures m.0 m.1 m.2.sides (follows m.0 _ _ _ _ _ at (m.3.suits c.earliest-clock.result at)) at.may.shares;
        small = omega (arith, small);
      },
    ))

pub returns-clause-earliest : goal.returns-clause-earliest
unfolding StandsFor now_of
returns-clause-earliest c = λ h log stands. let s = rw (← c.self.view_is) at stands in rw (← c.self.view_is) (c.earliest-clock.ensures h log s.sides)

pub returns-clause-stands : goal.returns-clause-stands
unfolding StandsFor now_of
returns-clause-stands c = λ h log stands suits.
    let s = rw (← c.self.view_is) at stands in
    let at = c.earliest-clock.ensures h log s.sides in
    let small : c.earliest-clock.result < 2 ^ 47 = ∥∥₁_elim (rw (← c.self.view_is) at c.requires) le_prop (λ m. m.3.small c.earliest-clock.result (c.earliest-clock.ensures m.0 m.1 m.2.sides)) in
    record {
      sides = c.issue.ensures h log s.sides (follows h _ _ _ _ _ at suits) at.may.shares;
      small = omega (arith, small);
    }
