-- The laws of the crates below, and what follows from them.
use Rattle.audited_reports.proofs.Audited.{Laws, ended}
use Rattle.audited_reports.proofs.ended_run_is_ok.Goals as goal

pub returns : goal.returns
returns c =
    let laws : Laws = record { grammar = c.report_lines.ensures; device = c.gives_to_a_device.ensures.log } in
    record { finding = λ h job text rest trace run clock refusal opens. ended laws h job text rest trace run clock refusal (c.opened_header_is_accepted.ensures.accepted h job text rest opens) opens }
