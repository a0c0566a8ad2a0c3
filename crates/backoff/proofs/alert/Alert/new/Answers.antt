use Rattle.backoff.proofs.Standing.{stands_at_first}
use Rattle.backoff.proofs.alert.Alert.new.Goals as goal

pub returns-clause-log : goal.returns-clause-log
returns-clause-log c = stands_at_first
