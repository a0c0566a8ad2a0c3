use Rattle.std.proofs.Common.{sym, subst}
use Rattle.command_words.specs.Command.{bank_number}
use Rattle.speed_bin.specs.Log.{open_at}
use Rattle.requests.specs.Choice.{IsOldestHit}
use Rattle.requests.specs.Queue.{places}
use Rattle.scheduler.specs.Controller.{excused, StandsFor}
use Rattle.scheduler.proofs.laws.serves.Goals as goal

pub returns : goal.returns
unfolding StandsFor
returns c = record {
  served = λ h x offered idle log kind bank column id s inside hit.
      c.serves.ensures.served h offered log x.queue.items (excused x.task x.finished x.queue.items) kind bank column id s.requested inside
      (subst (λ ws. IsOldestHit ws (bank_number bank) (open_at (bank_number bank) (places log)) kind column id) (sym s.requested.waits) hit);
}
