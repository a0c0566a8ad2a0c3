use Rattle.std.proofs.Common.{ap, ◌∙◌}
use Rattle.trace_replay.specs.declared.replay_state.Ahead.TheVariants.{NextLine}
use Rattle.trace_replay.proofs.Passed.{left-idled}
use Rattle.trace_replay.proofs.replay_state.ReplayState.pass_line.Goals as goal

pub returns-in-Idle-clause-fewer : goal.returns-in-Idle-clause-fewer
returns-in-Idle-clause-fewer g c = left-idled c.args.self.now c.idle.new.self c.in-Idle.clocks (c.requires.ahead ∙ ap NextLine c.in-Idle.is) c.idle.ensures.ahead c.idle.ensures.tally c.idle.ensures.commands c.idle.ensures.finished c.requires.rests.3.unfinished
