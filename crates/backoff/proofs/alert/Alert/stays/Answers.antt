use Rattle.backoff.proofs.Standing.{stands_after_other}
use Rattle.backoff.proofs.alert.Alert.stays.Goals as goal

pub returns : goal.returns
returns c = record { log = stands_after_other }
