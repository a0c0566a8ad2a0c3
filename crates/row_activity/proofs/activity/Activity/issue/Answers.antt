use Rattle.row_activity.specs.Standing.{StandsFor}
use Rattle.row_activity.proofs.activity.Activity.issue.Goals as goal

pub returns : goal.returns
unfolding StandsFor
returns c = λ h log stands rows here told.
    let tracked = c.track.ensures.tracks h log stands rows here told in
    record {
      accepted = stands.accepted;
      counted = (stands.counted, here);
      banks = c.track.ensures.banks;
      counts = tracked.counts;
      alert = tracked.alert;
      peak = c.peak_after-peak.ensures h log stands here;
    }
