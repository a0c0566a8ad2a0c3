use Rattle.std.proofs.Common.{arith}
use Rattle.trace_replay.proofs.Taken.{now-below}
use Rattle.trace_replay.proofs.Issuing.{commands-below}
use Rattle.trace_replay.proofs.Finishing.{EndLaws, turned-of}
use Rattle.trace_replay.proofs.replay_state.ReplayState.turned.Goals as goal

pub turn-turn-requires-clause-bound : goal.turn-turn-requires-clause-bound
turn-turn-requires-clause-bound c =
    let r = c.requires.ready in
    let low = now-below c.agrees.ensures.controller c.limits.ensures.now r.0 c.args.self.now r.1 r.2 r.3 in
    omega (arith, low)

pub returns-clause-turned : goal.returns-clause-turned
returns-clause-turned c = λ h trace run k filled.
    let laws : EndLaws = record {
      issue_laws = record {
        agrees = c.agrees.ensures.controller;
        one_log = c.one_log.ensures.controller;
        log_is = c.gives_to_a_controller.ensures.log;
        known = c.in_order.ensures.known;
        few = c.bounds.ensures.few;
        within_is = c.bounds.ensures.within;
        serves_oldest = c.serves.ensures.served;
        serves_chosen = c.serves_what_is_chosen.ensures.serving;
        newest = c.passed.ensures.newest;
      };
      page = c.sound.ensures.open_page;
      acts = c.work.ensures.activations;
      soon = c.work.ensures.end;
      places_few = c.work.ensures.places;
      finishes = c.ends_a_run.ensures.finished;
      short = c.ends_a_run.ensures.short;
    } in
    turned-of laws h c.args.self.now c.turn-turn.new.self trace run c.turn-turn.result k filled c.spelled_by_words.ensures c.turn-turn.ensures.until c.turn-turn.ensures.finished (c.turn-turn.ensures.after h _ _ k.both.steps k.both.stands)

pub returns-clause-few : goal.returns-clause-few
returns-clause-few c =
    let r = c.requires.ready in
    commands-below c.agrees.ensures.controller c.gives_to_a_controller.ensures.log c.limits.ensures.places r.0 c.args.self.now r.1 r.2 r.3
