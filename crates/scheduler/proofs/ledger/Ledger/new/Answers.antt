use Rattle.std.proofs.Common.{refl}
use Rattle.scheduler.proofs.First.{none_owed}
use Rattle.scheduler.proofs.ledger.Ledger.new.Goals as goal

pub returns-clause-stands : goal.returns-clause-stands
returns-clause-stands c = record {
  accepted = c.requires;
  stands = c.in_ok-new.ensures;
  owed = λ b low. none_owed 32 b;
  written = refl;
  later = tt;
}
