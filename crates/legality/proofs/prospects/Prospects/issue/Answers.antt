use Rattle.std.proofs.Common.{length}
use Rattle.std.proofs.Math.Logic.{∥∥₁_map}
use Rattle.legality.specs.Standing.{StandsFor}
use Rattle.legality.proofs.Issuing.{allowed, counted, fits, may_count, spaced}
use Rattle.legality.proofs.prospects.Prospects.issue.Goals as goal

pub count-requires : goal.count-requires
unfolding StandsFor
count-requires c = ∥∥₁_map c.requires.may (λ m. (m.0, m.1, m.2.activity, m.2.banks, may_count m.0 c.args.clock c.args.command.now m.1 m.3))

pub issue-requires-clause-follows : goal.issue-requires-clause-follows
unfolding StandsFor
issue-requires-clause-follows c = ∥∥₁_map c.requires.may (λ m. (m.0.timing, m.1, m.2.gate, spaced m.0 c.args.clock c.args.command.now m.1 m.3))

pub issue-requires-2 : goal.issue-requires-2
unfolding StandsFor
issue-requires-2 c = ∥∥₁_map c.requires.may (λ m. (m.1, m.2.banks, fits m.0 c.args.clock c.args.command.now m.1 m.3))

pub issue-requires-3-clause-allowed : goal.issue-requires-3-clause-allowed
unfolding StandsFor
issue-requires-3-clause-allowed c = ∥∥₁_map c.requires.may (λ m. (m.0, m.1, m.2.plan, allowed m.0 c.args.clock c.args.command.now m.1 m.3))

pub issue-requires-4 : goal.issue-requires-4
unfolding StandsFor
issue-requires-4 c = ∥∥₁_map c.requires.may (λ m. (m.0, m.1, m.2.raa, counted m.0 c.args.clock c.args.command.now m.1 m.3))

pub returns : goal.returns
unfolding StandsFor
returns c = λ h log stands may.
    let clock = c.args.clock in
    let command = c.args.command.now in
    record {
      accepted = stands.accepted;
      gate = c.issue.ensures.stands h.timing log stands.gate (spaced h clock command log may);
      banks = c.issue-2.ensures clock log stands.banks (fits h clock command log may);
      plan = c.issue-3.ensures h log stands.plan (allowed h clock command log may);
      raa = c.issue-4.ensures h clock log stands.raa (counted h clock command log may);
      activity = c.count.ensures h log stands.activity stands.banks (may_count h clock command log may) stands.settings;
      settings = stands.settings;
      interval = stands.interval;
      window = stands.window;
      deadline = stands.deadline;
      writes = stands.writes;
      places = c.one_more-self.ensures (length log) stands.places;
    }
