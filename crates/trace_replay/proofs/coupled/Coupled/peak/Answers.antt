use Rattle.std.proofs.Common.{◌∙◌, ap, sym, subst}
use Rattle.speed_bin.specs.Counts.{peak}
use Rattle.speed_bin.specs.Log.{Log}
use Rattle.trace_replay.specs.Coupled.{device_steps, StandsFor}
use Rattle.trace_replay.specs.declared.ends.Ends.{Ends}
use Rattle.trace_replay.proofs.Agreeing.{device_log_is}
use Rattle.trace_replay.proofs.coupled.Coupled.peak.Goals as goal

pub returns-clause-peak : goal.returns-clause-peak
unfolding StandsFor
returns-clause-peak c = λ h offered idle steps stands.
    let s = subst (λ (x : Ends). StandsFor x h offered idle steps) (sym c.self.view_is) stands in
    c.peak.ensures.peak h (device_steps steps) s.device ∙ ap (λ (log : Log). peak h log) (device_log_is steps)
