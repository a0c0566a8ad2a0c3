use Rattle.ddr_text.proofs.OpenedHeaders.{opens-accepted}
use Rattle.ddr_text.proofs.laws.opened_header_is_accepted.Goals as goal

pub returns : goal.returns
returns c = record { accepted = opens-accepted c.stated_headers_are_accepted.ensures.accepted }
