-- The laws of the crates below, and what follows from them.
use Rattle.audited_pairs.proofs.Ended.{Laws, audited}
use Rattle.audited_pairs.proofs.each_rank_is_ok.Goals as goal

pub returns : goal.returns
returns c =
    let laws : Laws = record { ended = c.ended_run_is_ok.ensures.finding; promises = c.headline.ensures.promises; told = c.tells_each_rank.ensures.all } in
    record { finding = λ h job text rest trace run clock rank opens. audited laws h job text rest trace run clock rank (c.opened_header_is_accepted.ensures.accepted h job text rest opens) opens }
