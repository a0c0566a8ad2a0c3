use Rattle.std.proofs.Common.{List, [], ◌∷◌, ◌++◌, subst}
use Rattle.std.specs.List.{flat_map}
use Rattle.std.specs.Io.KnownBytes.{Appends}
use Rattle.std.proofs.KnownBytes.{Appends-trans}
use Rattle.ddr_io.specs.Sink.{AppendsPrefix}
use Rattle.ddr_text.proofs.Prefixes.{if_err, if_err-to, on_ok-to, prefix-behind, prefix-longer}
use Rattle.ddr_text.specs.declared.lines.ReportLine.{ReportLine}
use Rattle.ddr_text.specs.declared.lines.TraceLine.{TraceLine}
use Rattle.ddr_text.specs.declared.lines.ReportLine.TheVariants.{End as EndLine}
use Rattle.pair_reports.specs.Report.{of_rank, spelled_for}
use Rattle.reports.specs.Runs.{Run}
use Rattle.reports.specs.Stats.{stats}
use Rattle.speed_bin.specs.declared.header.Header.{Header}
use Rattle.rank_pair.specs.Pairs.{spelled_by}
use Rattle.rank_pair.specs.RankEnds.{EndStandsFor}
use Rattle.rank_pair.proofs.Endings.{end-text}
use Rattle.rank_pair.proofs.ending.put_end.Goals as goal

pub returns-clause-whole : goal.returns-clause-whole
returns-clause-whole g c =
    let a = g.K.Sink.written c.args.sink.now in
    let b = g.K.Sink.written c.put_all_for.new.sink in
    let d = g.K.Sink.written c.put_for.new.sink in
    on_ok-to c.put_for.result _ _ (λ more. λ h trace run s.
    subst (Appends a d) (end-text c.args.rank (stats h trace run) c.args.clock)
    (Appends-trans a b d (flat_map (spelled_by c.args.rank) (stats h trace run)) (spelled_by c.args.rank (EndLine c.args.clock))
    (subst (λ (lines : List ReportLine). Appends a b (flat_map (spelled_by c.args.rank) lines)) (c.counts_in.ensures h trace run s) c.in_ok-put_all_for.ensures.whole) more)) c.put_for.ensures.whole

pub returns-clause-writes_a_prefix : goal.returns-clause-writes_a_prefix
returns-clause-writes_a_prefix g c =
    let a = g.K.Sink.written c.args.sink.now in
    let b = g.K.Sink.written c.put_all_for.new.sink in
    let d = g.K.Sink.written c.put_for.new.sink in
    if_err-to c.put_for.result _ _ (λ more. λ h trace run s.
    subst (AppendsPrefix a d) (end-text c.args.rank (stats h trace run) c.args.clock)
    (prefix-behind a b d (flat_map (spelled_by c.args.rank) (stats h trace run)) (spelled_by c.args.rank (EndLine c.args.clock))
    (subst (λ (lines : List ReportLine). Appends a b (flat_map (spelled_by c.args.rank) lines)) (c.counts_in.ensures h trace run s) c.in_ok-put_all_for.ensures.whole) more)) c.put_for.ensures.writes_a_prefix

pub returns-in_err-put_all_for-clause-writes_a_prefix : goal.returns-in_err-put_all_for-clause-writes_a_prefix
returns-in_err-put_all_for-clause-writes_a_prefix g c =
    let a = g.K.Sink.written c.args.sink.now in
    let b = g.K.Sink.written c.put_all_for.new.sink in
    let cut : (h : Header) (trace : List TraceLine) (run : Run) → EndStandsFor c.args.end.now h trace run
    → AppendsPrefix a b (flat_map spelled_for (of_rank c.args.rank (stats h trace run ++ EndLine c.args.clock ∷ []))) =
    λ h trace run s.
    subst (AppendsPrefix a b) (end-text c.args.rank (stats h trace run) c.args.clock)
    (prefix-longer a b (flat_map (spelled_by c.args.rank) (stats h trace run)) (spelled_by c.args.rank (EndLine c.args.clock))
    (subst (λ (lines : List ReportLine). AppendsPrefix a b (flat_map (spelled_by c.args.rank) lines)) (c.counts_in.ensures h trace run s) c.in_err-put_all_for.ensures.writes_a_prefix)) in
    if_err _ _ cut
