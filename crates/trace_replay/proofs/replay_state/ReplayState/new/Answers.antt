use Rattle.std.proofs.Common.{[], refl, rules}
use Rattle.trace_replay.proofs.replay_state.ReplayState.new.Goals as goal

pub returns-clause-holds : goal.returns-clause-holds
returns-clause-holds c = record {
  follows = record {
    accepted = c.requires;
    geometry = c.geometry.ensures;
    traced = search rules;
    tally = record { lines = refl; clocks = refl };
    kept = c.in_ok-new-2.ensures;
    done = 0;
    now = 0;
    underway = c.begins_a_run.ensures.start c.args.header.now;
    past = search rules;
    ahead = c.in_ok-new.ensures.finished;
  };
  both = record {
    steps = [];
    are_of = record { controller = refl; device = refl };
    stands = c.in_ok-new.ensures.stands;
  };
  none_pending = c.in_ok-new.ensures.pending;
  last = refl;
  commands = refl;
  counts = c.new-3.ensures c.args.header.now;
}
