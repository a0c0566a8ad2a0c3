use Rattle.made_jobs.proofs.HeaderRead.{header_read, header_accepted}
use Rattle.made_jobs.proofs.laws.makes_a_header.Goals as goal

pub returns : goal.returns
returns c = record { stated = header_read; accepted = header_accepted }
