use Rattle.std.proofs.Common.{Some, List, ℕ, ap, subst, sym}
use Rattle.spare_device.proofs.Acting.{acts_bytes}
use Rattle.device_exec.specs.Scripts.{Ready}
use Rattle.device_exec.specs.Standing.{StandsFor}
use Rattle.device_core.specs.Standing.{with_command}
use Rattle.spare_device.specs.StandIn.{stood_steps}
use Rattle.spare_device.proofs.spare_loop.write.Goals as goal

pub returns-in-Ok-clause-acts : goal.returns-in-Ok-clause-acts
returns-in-Ok-clause-acts c = λ h script place written whole stands is.
    acts_bytes c.args.dead h script c.args.bytes.now place c.write.new.self written is whole stands.given
    (subst (λ (bytes : List ℕ). StandsFor c.write.new.self h (with_command place.clock place.command (Some bytes) (stood_steps c.args.dead script.steps)) Ready) c.stood_in.ensures
    (c.in-Ok.ensures.stands h (stood_steps c.args.dead script.steps) place stands.stands))
