use Rattle.spare_device.specs.StandIn.{stood_steps}
use Rattle.spare_device.proofs.spare_loop.issue.Goals as goal

pub returns-clause-acts : goal.returns-clause-acts
returns-clause-acts g c = λ h script stands numbered. c.show_command.ensures.acts h script c.command-checked.new.self numbered (c.command-checked.ensures.judged h (stood_steps c.args.dead script.steps) stands.stands) stands.given
