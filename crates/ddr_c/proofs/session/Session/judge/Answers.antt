use Rattle.ddr_c.proofs.Calls.{waits_for}
use Rattle.ddr_c.proofs.session.Session.judge.Goals as goal

pub write-requires : goal.write-requires
write-requires c = waits_for c.args.self.now.device c.command.new.self c.args.clock c.args.command.now c.requires.ready c.in-Awaits.ensures.judged
