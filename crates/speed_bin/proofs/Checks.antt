-- What the bound on activations needs of an accepted header. This file alone looks into `spare`.
use Rattle.std.proofs.Common.{suc, ◌+◌, ◌*◌, ◌<◌, ◌≤◌, arith}
use Rattle.speed_bin.specs.declared.header.Header.{Header}
use Rattle.speed_bin.specs.Header.{IsAccepted, spare}

pub record BoundChecks (h : Header) : Type 0 where
  pub some_row : 1 ≤ h.settings.rows
  pub few_rows : h.settings.rows ≤ 65536
  pub first_check : h.timing.nrp ≤ h.timing.nrc
  pub some_spare : 1 ≤ spare h
  pub few_spare : spare h ≤ 4
  pub window : h.timing.nabo < h.timing.nrp + spare h * h.timing.nrc
  pub above_cycle : suc (spare h) < h.settings.ath
  pub early : h.settings.eth ≤ h.settings.ath

-- the activations of a back-off cycle beyond the first are 1 to 4
pub spare_in_range : (h : Header) → IsAccepted h → (1 ≤ spare h) × (spare h ≤ 4)
unfolding spare
spare_in_range h ok = let low = ok.version.0 in let high = ok.version.1 in (omega (arith, low), omega (arith, high))

pub bound_checks : (h : Header) → IsAccepted h → BoundChecks h
bound_checks h ok =
    let range = spare_in_range h ok in
    let thresholds = ok.checks.thresholds in
    record {
      some_row = ok.settings.rows.0;
      few_rows = ok.settings.rows.1;
      first_check = ok.checks.precharge_within_cycle;
      some_spare = range.0;
      few_spare = range.1;
      window = ok.checks.window;
      above_cycle = thresholds.0;
      early = thresholds.1;
    }
