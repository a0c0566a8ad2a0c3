use Rattle.requests.proofs.Windows.{queue_is_window as the_law}
use Rattle.requests.proofs.laws.queue_is_window.Goals as goal

pub returns : goal.returns
returns c = record { window = the_law }
