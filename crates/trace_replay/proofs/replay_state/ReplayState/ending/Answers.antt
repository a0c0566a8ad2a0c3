use Rattle.std.proofs.Common.{refl}
use Rattle.trace_replay.proofs.Closing.{ending-is, refused-where}
use Rattle.trace_replay.proofs.replay_state.ReplayState.ending.Goals as goal

pub returns-clause-lines : goal.returns-clause-lines
returns-clause-lines c = λ h trace run k.
    ending-is h c.args.self.now _ trace run refl c.now.ensures.value (record {
      one_log = c.one_log.ensures.device;
      device_log_is = c.gives_to_a_device.ensures.log h;
      peak_is = c.peak.ensures.peak h;
      scrub_is = c.scrub_counts.ensures h;
    }) c.refusal.ensures k

pub returns-clause-refusal : goal.returns-clause-refusal
returns-clause-refusal c = refused-where c.args.self.now.ahead c.args.self.now.tally.lines c.refusal.result c.refusal.ensures
