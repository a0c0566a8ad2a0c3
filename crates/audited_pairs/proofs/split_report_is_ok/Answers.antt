-- The laws of the crates below, and what follows from them.
use Rattle.audited_pairs.proofs.Ended.{Laws}
use Rattle.audited_pairs.proofs.Parts.{part_is_ok}
use Rattle.audited_pairs.proofs.split_report_is_ok.Goals as goal

pub returns : goal.returns
returns c =
    let laws : Laws = record { ended = c.ended_run_is_ok.ensures.finding; promises = c.headline.ensures.promises; told = c.tells_each_rank.ensures.all } in
    record { finding = λ h job text rest trace refusal lines rank opens. part_is_ok (record { laws = laws; device = c.gives_to_a_device.ensures.log; whole = c.each_rank_is_ok.ensures.finding }) h job text rest trace refusal lines rank (c.opened_header_is_accepted.ensures.accepted h job text rest opens) opens }
