use Rattle.backoff.proofs.Standing.{stands_after_rfm_all}
use Rattle.backoff.proofs.alert.Alert.after_rfm_all.Goals as goal

pub returns-clause-log : goal.returns-clause-log
returns-clause-log c = stands_after_rfm_all c.args.self.now
