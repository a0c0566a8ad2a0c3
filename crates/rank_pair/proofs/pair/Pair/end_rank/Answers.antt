use Rattle.std.proofs.Common.{ℕ, [], ◌∷◌, ◌++◌, subst}
use Rattle.std.specs.List.{flat_map}
use Rattle.std.specs.Io.KnownBytes.{Appends}
use Rattle.ddr_io.specs.Sink.{AppendsPrefix}
use Rattle.ddr_text.proofs.Prefixes.{if_err-to, on_ok-to}
use Rattle.ddr_text.specs.declared.lines.ReportLine.TheVariants.{End as EndLine}
use Rattle.pair_reports.specs.Lines.{only}
use Rattle.pair_reports.specs.Report.{of_rank, spelled_for}
use Rattle.pair_reports.specs.Runs.{run_of}
use Rattle.rank_bus.specs.declared.rank.Rank.TheVariants.{Zero, One}
use Rattle.reports.specs.Stats.{stats}
use Rattle.rank_pair.proofs.pair.Pair.end_rank.Goals as goal

pub returns-in-Zero-clause-whole : goal.returns-in-Zero-clause-whole
returns-in-Zero-clause-whole g c =
    let a = g.K.Sink.written c.args.sink.now in
    let b = g.K.Sink.written c.put_end.new.sink in
    rw c.in-Zero.is (on_ok-to c.put_end.result _ _ (λ whole. λ h trace run s.
    subst (λ (n : ℕ). Appends a b (flat_map spelled_for (of_rank Zero (stats h (only Zero trace) (run_of Zero run) ++ EndLine n ∷ [])))) c.now.ensures.now
    (subst (λ r. Appends a b (flat_map spelled_for (of_rank r (stats h (only Zero trace) (run_of Zero run) ++ EndLine c.now.result ∷ [])))) c.in-Zero.is (whole h (only Zero trace) (run_of Zero run) s.zero))) c.put_end.ensures.whole)

pub returns-in-Zero-clause-writes_a_prefix : goal.returns-in-Zero-clause-writes_a_prefix
returns-in-Zero-clause-writes_a_prefix g c =
    let a = g.K.Sink.written c.args.sink.now in
    let b = g.K.Sink.written c.put_end.new.sink in
    rw c.in-Zero.is (if_err-to c.put_end.result _ _ (λ cut. λ h trace run s.
    subst (λ (n : ℕ). AppendsPrefix a b (flat_map spelled_for (of_rank Zero (stats h (only Zero trace) (run_of Zero run) ++ EndLine n ∷ [])))) c.now.ensures.now
    (subst (λ r. AppendsPrefix a b (flat_map spelled_for (of_rank r (stats h (only Zero trace) (run_of Zero run) ++ EndLine c.now.result ∷ [])))) c.in-Zero.is (cut h (only Zero trace) (run_of Zero run) s.zero))) c.put_end.ensures.writes_a_prefix)

pub returns-in-One-clause-whole : goal.returns-in-One-clause-whole
returns-in-One-clause-whole g c =
    let a = g.K.Sink.written c.args.sink.now in
    let b = g.K.Sink.written c.put_end-in-One.new.sink in
    rw c.in-One.is (on_ok-to c.put_end-in-One.result _ _ (λ whole. λ h trace run s.
    subst (λ (n : ℕ). Appends a b (flat_map spelled_for (of_rank One (stats h (only One trace) (run_of One run) ++ EndLine n ∷ [])))) c.now-in-One.ensures.now
    (subst (λ r. Appends a b (flat_map spelled_for (of_rank r (stats h (only One trace) (run_of One run) ++ EndLine c.now-in-One.result ∷ [])))) c.in-One.is (whole h (only One trace) (run_of One run) s.one))) c.put_end-in-One.ensures.whole)

pub returns-in-One-clause-writes_a_prefix : goal.returns-in-One-clause-writes_a_prefix
returns-in-One-clause-writes_a_prefix g c =
    let a = g.K.Sink.written c.args.sink.now in
    let b = g.K.Sink.written c.put_end-in-One.new.sink in
    rw c.in-One.is (if_err-to c.put_end-in-One.result _ _ (λ cut. λ h trace run s.
    subst (λ (n : ℕ). AppendsPrefix a b (flat_map spelled_for (of_rank One (stats h (only One trace) (run_of One run) ++ EndLine n ∷ [])))) c.now-in-One.ensures.now
    (subst (λ r. AppendsPrefix a b (flat_map spelled_for (of_rank r (stats h (only One trace) (run_of One run) ++ EndLine c.now-in-One.result ∷ [])))) c.in-One.is (cut h (only One trace) (run_of One run) s.one))) c.put_end-in-One.ensures.writes_a_prefix)
