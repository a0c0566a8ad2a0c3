use Rattle.std.proofs.Common.{subst, sym}
use Rattle.speed_bin.specs.Log.{Log}
use Rattle.timing_rules.specs.Spaced.{IsSpaced}
use Rattle.rank_bus.specs.declared.rank.Rank.TheVariants.{Zero, One}
use Rattle.pair_reports.specs.Lines.{only}
use Rattle.pair_reports.specs.Runs.{bus_of, run_of}
use Rattle.pair_reports.proofs.Parts.{part_is_log, spaced}
use Rattle.pair_reports.proofs.laws.clocks_rise.Goals as goal

pub returns : goal.returns
returns c = record {
  together = λ h trace run begun.
      c.clocks_rise.ensures.together h.timing (bus_of run)
      (subst (λ (log : Log). IsSpaced h.timing log) (sym (part_is_log Zero run)) (spaced h (only Zero trace) (run_of Zero run) (begun.sound Zero)))
      (subst (λ (log : Log). IsSpaced h.timing log) (sym (part_is_log One run)) (spaced h (only One trace) (run_of One run) (begun.sound One)))
      begun.shares;
}
