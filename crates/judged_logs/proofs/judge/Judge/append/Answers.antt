use Rattle.std.proofs.Common.{length}
use Rattle.std.proofs.Math.Logic.{∥∥₁_map}
use Rattle.judged_logs.proofs.Issuing.{allowed, fits, may_count, short_after, short_enough, spaced}
use Rattle.judged_logs.proofs.Appending.{may_count_rows, may_plan}
use Rattle.judged_logs.proofs.judge.Judge.append.Goals as goal

pub count_next-requires : goal.count_next-requires
count_next-requires c = may_count_rows c.args.self.now c.args.clock c.args.command.now c.requires.may

pub plan_next-requires-clause-may : goal.plan_next-requires-clause-may
plan_next-requires-clause-may c = may_plan c.args.self.now c.args.clock c.args.command.now c.requires.may

pub issue-requires-clause-follows : goal.issue-requires-clause-follows
issue-requires-clause-follows c = ∥∥₁_map c.requires.may (λ m. (m.1.timing, m.2, m.3.gate, spaced m.0 m.1 c.args.clock c.args.command.now m.2 m.4))

pub issue-requires-2 : goal.issue-requires-2
issue-requires-2 c = ∥∥₁_map c.requires.may (λ m. (m.2, m.3.banks, fits m.0 m.1 c.args.clock c.args.command.now m.2 m.4))

pub returns-clause-parts : goal.returns-clause-parts
returns-clause-parts c = λ j h log parts may.
    let clock = c.args.clock in
    let command = c.args.command.now in
    record {
      timing = parts.timing;
      settings = parts.settings;
      writes = parts.writes;
      places = c.one_more-self.ensures (length log) parts.places;
      gate = c.issue.ensures.stands h.timing log parts.gate (spaced j h clock command log may);
      banks = c.issue-2.ensures clock log parts.banks (fits j h clock command log may);
      plan = c.plan_next.ensures j.refresh h log parts.plan (allowed j h clock command log may);
      rolling = c.issue-3.ensures h clock log parts.rolling (short_enough (length log) _ parts.short parts.in_time);
      activity = c.count_next.ensures j.backoff h log parts.activity parts.banks (may_count j h clock command log may) parts.settings;
      short = short_after clock command log parts.short (spaced j h clock command log may).rises;
      in_time = may.in_time;
    }
