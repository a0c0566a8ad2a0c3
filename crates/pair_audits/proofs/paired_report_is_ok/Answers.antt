-- The law on finished reports of two ranks, taken over to what `pair` writes.
use Rattle.pair_audits.proofs.Paired.{finished, refused}
use Rattle.pair_audits.proofs.paired_report_is_ok.Goals as goal

pub returns : goal.returns
returns c =
    record {
      finished = λ h job text rest lines left rank opens answers. finished c.split_report_is_ok.ensures.finding h job text rest lines left rank opens answers;
      refused = λ h job text rest lines left rank opens time answers. refused c.split_report_is_ok.ensures.finding h job text rest lines left rank opens time answers;
    }
