-- The whole report of a finished run: each of its lines is within its ranges and may stand where it stands.
use Rattle.std.proofs.Common.{◌≡◌, ℕ, ◌*◌, ◌^◌, ◌<◌, ◌≤◌, Option, Some, None, List, [], ◌∷◌, ◌++◌, length, refl, sym, ap, subst, arith, append_assoc}
use Rattle.command_words.specs.Geometry.{Shape}
use Rattle.ddr_text.specs.declared.lines.ReportLine.{ReportLine}
use Rattle.ddr_text.specs.declared.lines.ReportLine.TheVariants.{End as EndLine}
use Rattle.ddr_text.specs.declared.lines.TraceLine.{TraceLine}
use Rattle.device_core.specs.Steps.{log_of as device_log}
use Rattle.device_core.specs.Stored.{scrub_counts}
use Rattle.error_scrub.specs.declared.scrub.ScrubCounts.{ScrubCounts}
use Rattle.ddr_text.specs.declared.report_reader.Stage.TheVariants.{Body, Counts, Ended, Closed}
use Rattle.speed_bin.specs.Counts.{LogCounts, log_counts}
use Rattle.speed_bin.specs.Header.{IsAccepted, shape_of}
use Rattle.command_words.specs.Kinds.{is_act, is_rd, is_wr, is_precharge, is_ref_all, is_ref_same, is_rfm_all, is_rfm_same, is_scrub}
use Rattle.speed_bin.specs.declared.header.Header.{Header}
use Rattle.reports.specs.Delivered.{AreInside, device_steps}
use Rattle.reports.specs.Report.{report}
use Rattle.reports.specs.Runs.{Run, log_of}
use Rattle.reports.specs.Stats.{stat_lines, stats}
use Rattle.ddr_text.specs.ReportParts.{Refusal, refusal_lines}
use Rattle.reports.specs.Whole.{whole}
use Rattle.audited_reports.specs.Audited.{IsEnding, IsTold}
use Rattle.audited_reports.proofs.Counts.{commands-few, counts-few, scrubs-few}
use Rattle.audited_reports.proofs.Ranges.{AreBody, report-body}
use Rattle.audited_reports.proofs.Read.{MayStand}

-- ---- S lines

-- the numbers of the S lines are within their range
record AreLow (log : LogCounts) (scrub : ScrubCounts) : Type 0 where
  act : log.act < 2 ^ 64
  rd : log.rd < 2 ^ 64
  wr : log.wr < 2 ^ 64
  pre : log.pre < 2 ^ 64
  refab : log.refab < 2 ^ 64
  refsb : log.refsb < 2 ^ 64
  rfmab : log.rfmab < 2 ^ 64
  rfmsb : log.rfmsb < 2 ^ 64
  ecs : log.ecs < 2 ^ 64
  alert : log.alert < 2 ^ 64
  peak : log.peak < 2 ^ 64
  found : scrub.found < 2 ^ 64
  lost : scrub.lost < 2 ^ 64
  worst : scrub.worst < 2 ^ 64

counted : (n most : ℕ) → n ≤ most → most < 2 ^ 48 → n < 2 ^ 64
counted n most le few = omega (arith, le, few)

scrubbed : (n most : ℕ) → n ≤ 8 * most → most < 2 ^ 48 → n < 2 ^ 64
scrubbed n most le few = omega (arith, le, few)

low-stats : (h : Header) (trace : List TraceLine) (run : Run) → device_log (device_steps h trace run) ≡ log_of run → length (log_of run) < 2 ^ 48
    → AreLow (log_counts h (log_of run)) (scrub_counts h (device_steps h trace run))
low-stats h trace run same few =
    let log = log_of run in
    let n = length log in
    let c = counts-few h log in
    let s = scrubs-few h (device_steps h trace run) in
    let steps : length (device_log (device_steps h trace run)) < 2 ^ 48 = omega (arith, ap length same, few) in
    record {
      act = counted _ n (commands-few is_act log) few;
      rd = counted _ n (commands-few is_rd log) few;
      wr = counted _ n (commands-few is_wr log) few;
      pre = counted _ n (commands-few is_precharge log) few;
      refab = counted _ n (commands-few is_ref_all log) few;
      refsb = counted _ n (commands-few is_ref_same log) few;
      rfmab = counted _ n (commands-few is_rfm_all log) few;
      rfmsb = counted _ n (commands-few is_rfm_same log) few;
      ecs = counted _ n (commands-few is_scrub log) few;
      alert = counted _ n c.alert few;
      peak = counted _ n c.peak few;
      found = scrubbed _ _ s.found steps;
      lost = scrubbed _ _ s.lost steps;
      worst = scrubbed _ _ s.worst steps;
    }

-- ---- Places

body-stands : (g : Shape) (lines more : List ReportLine) → AreBody g lines → MayStand g Body more → MayStand g Body (lines ++ more)
body-stands g [] more body stands = stands
body-stands g (line ∷ lines) more body stands = (body.0, Body, body.1, body-stands g lines more body.2 stands)

stats-stand : (g : Shape) (log : LogCounts) (scrub : ScrubCounts) (more : List ReportLine) → AreLow log scrub → MayStand g Counts more → MayStand g Body (stat_lines log scrub ++ more)
unfolding stat_lines
stats-stand g log scrub more low stands = (
  low.act,
  Counts,
  refl,
  (
    low.rd,
    Counts,
    refl,
    (
      low.wr,
      Counts,
      refl,
      (
        low.pre,
        Counts,
        refl,
        (
          low.refab,
          Counts,
          refl,
          (
            low.refsb,
            Counts,
            refl,
            (
              low.rfmab,
              Counts,
              refl,
              (
                low.rfmsb,
                Counts,
                refl,
                (
                  low.ecs,
                  Counts,
                  refl,
                  (
                    low.alert,
                    Counts,
                    refl,
                    (
                      low.peak,
                      Counts,
                      refl,
                      (
                        low.found,
                        Counts,
                        refl,
                        (
                          low.lost,
                          Counts,
                          refl,
                          (
                            low.worst,
                            Counts,
                            refl,
                            stands,
                          ),
                        ),
                      ),
                    ),
                  ),
                ),
              ),
            ),
          ),
        ),
      ),
    ),
  ),
)

end-stands : (g : Shape) (clock : ℕ) (refusal : Option Refusal) → clock < 2 ^ 48 → IsTold refusal → MayStand g Counts (EndLine clock ∷ refusal_lines refusal)
end-stands g clock None low told = (low, Ended, refl, refl)
end-stands g clock (Some refusal) low told = (low, Ended, refl, (told, Closed, refl, refl))

pub whole-stands : (h : Header) (trace : List TraceLine) (run : Run) (clock : ℕ) (refusal : Option Refusal) → device_log (device_steps h trace run) ≡ log_of run → IsAccepted h → AreInside (shape_of h) trace → length trace ≤ 1048576 → IsTold refusal
    → IsEnding h trace run clock refusal → MayStand (shape_of h) Body (whole h trace run clock refusal)
whole-stands h trace run clock refusal same accepted inside few told r =
    let g = shape_of h in
    let last = EndLine clock ∷ refusal_lines refusal in
    subst (MayStand g Body) (sym (append_assoc (report h trace run) (stats h trace run) last))
    (body-stands g (report h trace run) (stats h trace run ++ last) (report-body h trace run accepted inside few r.sound)
    (stats-stand g (log_counts h (log_of run)) (scrub_counts h (device_steps h trace run)) last (low-stats h trace run same r.commands)
    (end-stands g clock refusal r.low told)))
