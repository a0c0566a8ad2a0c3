use Rattle.deadlines.proofs.Following.{up_more}
use Rattle.scheduler.proofs.ledger.Ledger.wait_until.Goals as goal

pub returns-clause-stands : goal.returns-clause-stands
returns-clause-stands c = λ h log s. record {
  accepted = s.accepted;
  stands = s.stands;
  owed = s.owed;
  written = s.written;
  later = up_more c.args.self.now.from c.args.clock log c.requires s.later;
}
