use Rattle.std.proofs.Common.{◌≡◌, ℕ, ◌+◌, ◌<◌, ◌^◌, ◌∷◌, arith, subst, sym}
use Rattle.std.proofs.Math.Logic.{∥∥₁_map}
use Rattle.command_words.specs.declared.command.Command.{Command}
use Rattle.log_ledger.specs.Standing.{Follows}
use Rattle.speed_bin.specs.Log.{Log}
use Rattle.speed_bin.specs.declared.header.Header.{Header}
use Rattle.rank_bus.specs.Buses.{IsEarliest, other, part}
use Rattle.rank_bus.specs.Standing.{IsReady, StandsFor, Suits, now_of}
use Rattle.rank_bus.proofs.Behind.{earliest_is_one}
use Rattle.rank_bus.proofs.tests.step.Goals as goal

suits_of : (h : Header) (clock : ℕ) (command : Command) (own : Log) → Follows h clock command own → Suits h own clock command
suits_of h clock command own f = record { fits = f.fits; allowed = f.allowed; counted = f.counted }

-- the earliest clock is one, so what is known of it is known of each that is the earliest
ready_at : (h : Header) (own rest : Log) (from clock : ℕ) (command : Command) → IsEarliest h own rest from command clock → Follows h clock command own → clock < 2 ^ 47
    → IsReady h own rest from command
ready_at h own rest from clock command at f small = record {
  suits = λ later earliest. subst (λ (x : ℕ). Suits h own x command) (earliest_is_one h own rest from clock later command at earliest) (suits_of h clock command own f);
  small = λ later earliest. (let e : clock ≡ later = earliest_is_one h own rest from clock later command at earliest in omega (arith, e, small));
}

pub issue-requires : goal.issue-requires
issue-requires c =
    let small : c.earliest-clock.result < 2 ^ 47 = omega (arith, c.if-clock-ge1000000.false) in
    ∥∥₁_map c.requires
    (λ m. (
      m.0,
      m.1,
      m.2,
      ready_at m.0 (part c.args.rank m.1) (part (other c.args.rank) m.1) (now_of c.args.bus.now) c.earliest-clock.result c.args.command.now
          (c.earliest-clock.ensures m.0 m.1 m.2) (c.keeps_rules.ensures m.0 m.1 m.3 c.if-not-keeps_rules.false) small,
    ))

pub issue-requires-2-clause-may : goal.issue-requires-2-clause-may
issue-requires-2-clause-may c = ∥∥₁_map c.requires (λ m. (m.0, m.1, m.3, c.keeps_rules.ensures m.0 m.1 m.3 c.if-not-keeps_rules.false))

pub returns : goal.returns
returns c =
    ∥∥₁_map c.requires
    (λ m.
    let at = c.earliest-clock.ensures m.0 m.1 m.2 in
    let f = c.keeps_rules.ensures m.0 m.1 m.3 c.if-not-keeps_rules.false in
    let e = earliest_is_one m.0 (part c.args.rank m.1) (part (other c.args.rank) m.1) (now_of c.args.bus.now) c.issue.result c.earliest-clock.result c.args.command.now (c.issue.ensures.earliest m.0 m.1 m.2) at in (
      m.0,
      record { rank = c.args.rank; clock = c.earliest-clock.result; command = c.args.command.now } ∷ m.1,
      subst (λ (x : ℕ). StandsFor c.issue.new.self m.0 (record { rank = c.args.rank; clock = x; command = c.args.command.now } ∷ m.1)) e
          (c.issue.ensures.stands m.0 m.1 m.2
          (subst (λ (x : ℕ). Suits m.0 (part c.args.rank m.1) x c.args.command.now) (sym e) (suits_of m.0 c.earliest-clock.result c.args.command.now (part c.args.rank m.1) f))),
      c.issue-2.ensures m.0 m.1 m.3 f at.may.shares,
    ))
