-- The bus and the log of each rank.
use Rattle.std.proofs.Common.{◌≡◌, refl, ap, List, [], ◌∷◌, if◌then◌else◌}
use Rattle.speed_bin.specs.Log.{Log}
use Rattle.speed_bin.specs.declared.header.Header.{Header}
use Rattle.speed_bin.proofs.Audits.{all_pass}
use Rattle.speed_bin.specs.Rules.{rules_at}
use Rattle.ddr_text.specs.declared.lines.TraceLine.{TraceLine}
use Rattle.device_core.specs.Stored.{also}
use Rattle.timing_rules.specs.Spaced.{IsSpaced}
use Rattle.rank_bus.specs.Buses.{BusLog, is_same, part}
use Rattle.rank_bus.specs.declared.rank.Rank.{Rank}
use Rattle.rank_bus.specs.declared.rank.Rank.TheVariants.{Zero, One}
use Rattle.reports.specs.Runs.{Step, Issues, Flips, Run, log_of}
use Rattle.reports.specs.Sound.{Sound}
use Rattle.pair_reports.specs.Runs.{PairRun, bus_of, place_of, run_of}

longer_part : (rank owner : Rank) (step : Step) (bus : BusLog) (run : Run) → part rank bus ≡ log_of run
    → part rank (also (place_of owner step) bus) ≡ log_of (if is_same rank owner then step ∷ run else run)
longer_part Zero Zero (Issues s) bus run same = ap (λ (log : Log). s.issued ∷ log) same
longer_part Zero Zero (Flips number) bus run same = same
longer_part Zero One (Issues s) bus run same = same
longer_part Zero One (Flips number) bus run same = same
longer_part One Zero (Issues s) bus run same = same
longer_part One Zero (Flips number) bus run same = same
longer_part One One (Issues s) bus run same = ap (λ (log : Log). s.issued ∷ log) same
longer_part One One (Flips number) bus run same = same

pub part_is_log : (rank : Rank) (run : PairRun) → part rank (bus_of run) ≡ log_of (run_of rank run)
part_is_log rank [] = refl
part_is_log rank (it ∷ run) = longer_part rank it.rank it.step (bus_of run) (run_of rank run) (part_is_log rank run)

-- the log of a sound run keeps the rules of spacing
pub spaced : (h : Header) (trace : List TraceLine) (run : Run) → Sound h trace run → IsSpaced h.timing (log_of run)
spaced h trace [] sound = tt
spaced h trace (Issues s ∷ run) sound =
    let k = all_pass 1 (rules_at h s.issued.clock s.issued.command (log_of run)) sound.0.rules in
    (spaced h trace run sound.1, record { rises = k.0; gaps = k.1.0; window = k.1.1.0 })
spaced h trace (Flips number ∷ run) sound = spaced h trace run sound.1
