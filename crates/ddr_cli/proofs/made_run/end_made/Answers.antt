use Rattle.std.proofs.Common.{◌∙◌, refl}
use Rattle.ddr_cli.proofs.MadeJob.{Laws}
use Rattle.ddr_cli.proofs.MadeRun.{is_made_end, not_refused}
use Rattle.ddr_cli.proofs.made_run.end_made.Goals as goal

pub returns-in-Finished : goal.returns-in-Finished
returns-in-Finished c =
    let laws : Laws = record { stated = c.makes_a_header.ensures.stated; reads = c.makes_requests.ensures.reads; count = c.makes_requests.ensures.count } in
    is_made_end laws c.args.seed c.args.requests c.requires c.new-source.result c.in-Finished.ending _ _ _ (c.new-source.ensures ∙ c.in_ok-job.ensures) c.in-Finished.ensures.answer (λ h text trace job. c.in-Finished.ensures.complete _ h text trace refl job)

pub unreachable-requires : goal.unreachable-requires
unreachable-requires c =
    let laws : Laws = record { stated = c.makes_a_header.ensures.stated; reads = c.makes_requests.ensures.reads; count = c.makes_requests.ensures.count } in
    not_refused laws c.args.seed c.args.requests c.requires c.new-source.result (c.new-source.ensures ∙ c.in_ok-job.ensures) (λ h text trace job. c.in-Refused.ensures.complete _ h text trace refl job)
