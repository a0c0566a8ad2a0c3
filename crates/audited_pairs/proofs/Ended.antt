-- The run of each rank of a finished report of two ranks ended within what a report can hold.
use Rattle.std.proofs.Common.{◌≡◌, ℕ, suc, ◌+◌, ◌*◌, ◌/◌, ◌^◌, ◌<◌, ◌≤◌, Bool, true, false, refl, sym, ap, subst, arith, Option, None, List, [], ◌∷◌, ◌++◌, length, nat_lt, sum}
use Rattle.std.specs.List.{flat_map}
use Rattle.std.proofs.Math.Nat.{div-mul-le_self, mul-le-mul_left}
use Rattle.std.proofs.lemmas.Bool.{ltb-false, ltb-true}
use Rattle.audited_reports.specs.Audited.{IsAuditedOk, IsEnding, IsTold}
use Rattle.ddr_text.specs.Opening.{Accepts, opening_of}
use Rattle.ddr_text.specs.ReportParts.{Refusal}
use Rattle.ddr_text.specs.Spelling.{spelled}
use Rattle.ddr_text.specs.declared.lines.ReportLine.{ReportLine}
use Rattle.ddr_text.specs.declared.lines.TraceLine.{TraceLine}
use Rattle.rank_bus.specs.declared.rank.Rank.{Rank}
use Rattle.reports.specs.Barriers.{idle_clocks}
use Rattle.reports.specs.Delivered.{AreInside}
use Rattle.reports.specs.Requests.{requests}
use Rattle.reports.specs.Runs.{Run, log_of}
use Rattle.reports.specs.Whole.{whole}
use Rattle.speed_bin.specs.Gap.{n_close, n_max, n_tail}
use Rattle.speed_bin.specs.Header.{IsAccepted, shape_of}
use Rattle.speed_bin.specs.declared.header.Header.{Header}
use Rattle.pair_headline.proofs.Promised.{all_inside}
use Rattle.pair_reports.specs.Headline.{PairHeadline}
use Rattle.pair_reports.specs.Lines.{lines_of, only}
use Rattle.pair_reports.specs.Report.{told_of, whole_pair}
use Rattle.pair_reports.specs.Runs.{PairRun, run_of}
use Rattle.pair_reports.specs.Sound.{IsPairRun}
use Rattle.pair_reports.specs.declared.rank_line.RankLine.{RankLine}
use Rattle.audited_pairs.proofs.Lines.{asked-few, whole-few}

-- ---- Numbers

-- an interval is at least 6.5 nMax + 52
slow_refresh : (h : Header) → IsAccepted h → 104 + 13 * n_max h.timing ≤ 2 * h.timing.nrefi
unfolding n_tail n_close
slow_refresh h a = let k = a.checks.closing_within_two in omega (arith, k)

times : (a b c : ℕ) → b ≤ c → a * b ≤ a * c
times a b c le = mul-le-mul_left a le

-- refresh intervals that pass by the end of the largest job
few_intervals : (q r m n idle clock : ℕ) → q * r ≤ clock → 104 + 13 * m ≤ 2 * r → clock ≤ 2 * (idle + 12 * m * (n + 4)) → n ≤ 1048576 → idle ≤ 4294967296 → q < 170000000
few_intervals q r m n idle clock ticks slow end small short = go (nat_lt q 170000000) refl
  where
    go : (b : Bool) → nat_lt q 170000000 ≡ b → q < 170000000
    go true e = ltb-true q 170000000 e
    go false e =
        let many : 170000000 ≤ q = ltb-false q 170000000 e in
        let wide : q * (104 + 13 * m) ≤ q * (2 * r) = times q (104 + 13 * m) (2 * r) slow in
        let low : m * 170000000 ≤ m * q = times m 170000000 q many in
        let high : m * (n + 4) ≤ m * 1048580 = times m (n + 4) 1048580 (omega (arith, small)) in
        absurd (omega (arith, ticks, wide, low, high, end, many, short))

low_end : (r m n idle clock : ℕ) → 104 + 13 * m ≤ 2 * r → r < 65536 → clock ≤ 2 * (idle + 12 * m * (n + 4)) → n ≤ 1048576 → idle ≤ 4294967296 → clock < 2 ^ 48
low_end r m n idle clock slow short_interval end small short =
    let high : m * (n + 4) ≤ m * 1048580 = times m (n + 4) 1048580 (omega (arith, small)) in
    omega (arith, high, slow, short_interval, end, short)

-- ---- The run of a rank

pub own_length : (rank : Rank) (trace : List RankLine) → length (only rank trace) ≡ length trace
own_length rank [] = refl
own_length rank (it ∷ trace) = ap suc (own_length rank trace)

lines_length : (trace : List RankLine) → length (lines_of trace) ≡ length trace
lines_length [] = refl
lines_length (it ∷ trace) = ap suc (lines_length trace)

asked : (trace : List RankLine) → length trace ≤ 1048576 → length (requests (lines_of trace)) ≤ 1048576
asked trace few = let a = asked-few (lines_of trace) in let e = lines_length trace in omega (arith, a, e, few)

few_commands : (h : Header) (trace : List RankLine) (run : PairRun) (clock : ℕ) (rank : Rank) → IsAccepted h → length trace ≤ 1048576 → sum (idle_clocks (lines_of trace)) ≤ 4294967296 → IsPairRun h trace run clock
    → length (log_of (run_of rank run)) < 1000000000
few_commands h trace run clock rank accepted few idle it =
    let n = length (requests (lines_of trace)) in
    let small : n ≤ 1048576 = asked trace few in
    let q : clock / h.timing.nrefi < 170000000 = few_intervals (clock / h.timing.nrefi) h.timing.nrefi (n_max h.timing) n (sum (idle_clocks (lines_of trace))) clock (div-mul-le_self clock h.timing.nrefi) (slow_refresh h accepted) it.short.end small idle in
    let most = it.short.commands rank in
    omega (arith, small, q, most)

-- what is taken from laws of the crates below
pub record Laws : Type 0 where
  pub ended : (h : Header) (job text rest : List ℕ) (trace : List TraceLine) (run : Run) (clock : ℕ) (refusal : Option Refusal) → opening_of job ≡ Accepts h text rest → AreInside (shape_of h) trace → length trace ≤ 1048576 → IsTold refusal
      → IsEnding h trace run clock refusal → IsAuditedOk (text ++ flat_map spelled (whole h trace run clock refusal))
  pub promises : (h : Header) (trace : List RankLine) (run : PairRun) (clock : ℕ) → IsAccepted h → AreInside (shape_of h) (lines_of trace) → IsPairRun h trace run clock → PairHeadline h trace run clock
  pub told : (h : Header) (trace : List RankLine) (run : PairRun) (clock : ℕ) (rank : Rank) → told_of rank (whole_pair h trace run clock) ≡ whole h (only rank trace) (run_of rank run) clock None

pub ending : Laws → (h : Header) (trace : List RankLine) (run : PairRun) (clock : ℕ) (rank : Rank) → IsAccepted h → AreInside (shape_of h) (lines_of trace) → length trace ≤ 1048576 → sum (idle_clocks (lines_of trace)) ≤ 4294967296
    → IsPairRun h trace run clock → IsEnding h (only rank trace) (run_of rank run) clock None
ending laws h trace run clock rank accepted inside few idle it =
    let commands = few_commands h trace run clock rank accepted few idle it in
    record {
      sound = it.sound rank;
      rules = (laws.promises h trace run clock accepted inside it).rules rank;
      low = low_end h.timing.nrefi (n_max h.timing) (length (requests (lines_of trace))) (sum (idle_clocks (lines_of trace))) clock (slow_refresh h accepted) (let k = accepted.timing.nrefi.1 in omega (arith, k)) it.short.end (asked trace few) idle;
      commands = omega (arith, commands);
      lines = (let whole = whole-few h (only rank trace) (run_of rank run) clock (it.sound rank) in let e = own_length rank trace in omega (arith, whole, e, commands, few));
    }

pub audited : Laws → (h : Header) (job text rest : List ℕ) (trace : List RankLine) (run : PairRun) (clock : ℕ) (rank : Rank) → IsAccepted h → opening_of job ≡ Accepts h text rest → AreInside (shape_of h) (lines_of trace) → length trace ≤ 1048576
    → sum (idle_clocks (lines_of trace)) ≤ 4294967296 → IsPairRun h trace run clock → IsAuditedOk (text ++ flat_map spelled (told_of rank (whole_pair h trace run clock)))
audited laws h job text rest trace run clock rank accepted opens inside few idle it =
    subst (λ (lines : List ReportLine). IsAuditedOk (text ++ flat_map spelled lines)) (sym (laws.told h trace run clock rank))
    (laws.ended h job text rest (only rank trace) (run_of rank run) clock None opens (all_inside (shape_of h) rank trace inside) (let e = own_length rank trace in omega (arith, e, few)) tt
    (ending laws h trace run clock rank accepted inside few idle it))
