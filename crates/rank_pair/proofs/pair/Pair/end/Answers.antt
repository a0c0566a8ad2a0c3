use Rattle.std.proofs.Common.{subst, sym}
use Rattle.std.specs.List.{flat_map}
use Rattle.std.specs.Io.KnownBytes.{Appends}
use Rattle.std.proofs.KnownBytes.{Appends-trans}
use Rattle.std.proofs.lemmas.Grind.{flat_map-append}
use Rattle.ddr_io.specs.Sink.{AppendsPrefix}
use Rattle.ddr_text.proofs.Prefixes.{if_err, if_err-to, on_ok-to, prefix-behind, prefix-longer}
use Rattle.pair_reports.specs.Report.{end_of, spelled_for}
use Rattle.rank_bus.specs.Standing.{now_of}
use Rattle.rank_bus.specs.declared.rank.Rank.TheVariants.{Zero, One}
use Rattle.rank_pair.proofs.pair.Pair.end.Goals as goal

pub returns-clause-whole : goal.returns-clause-whole
returns-clause-whole g c =
    let a = g.K.Sink.written c.args.sink.now in
    let b = g.K.Sink.written c.end_rank.new.sink in
    let d = g.K.Sink.written c.end_rank-2.new.sink in
    on_ok-to c.end_rank-2.result _ _ (λ more. λ h trace run s.
    let zero = end_of h trace run (now_of c.args.self.now.bus) Zero in
    let one = end_of h trace run (now_of c.args.self.now.bus) One in
    subst (Appends a d) (sym (flat_map-append spelled_for zero one))
    (Appends-trans a b d (flat_map spelled_for zero) (flat_map spelled_for one) (c.in_ok-end_rank.ensures.whole h trace run s) (more h trace run s))) c.end_rank-2.ensures.whole

pub returns-clause-writes_a_prefix : goal.returns-clause-writes_a_prefix
returns-clause-writes_a_prefix g c =
    let a = g.K.Sink.written c.args.sink.now in
    let b = g.K.Sink.written c.end_rank.new.sink in
    let d = g.K.Sink.written c.end_rank-2.new.sink in
    if_err-to c.end_rank-2.result _ _ (λ more. λ h trace run s.
    let zero = end_of h trace run (now_of c.args.self.now.bus) Zero in
    let one = end_of h trace run (now_of c.args.self.now.bus) One in
    subst (AppendsPrefix a d) (sym (flat_map-append spelled_for zero one))
    (prefix-behind a b d (flat_map spelled_for zero) (flat_map spelled_for one) (c.in_ok-end_rank.ensures.whole h trace run s) (more h trace run s))) c.end_rank-2.ensures.writes_a_prefix

pub returns-in_err-end_rank-clause-writes_a_prefix : goal.returns-in_err-end_rank-clause-writes_a_prefix
returns-in_err-end_rank-clause-writes_a_prefix g c =
    let a = g.K.Sink.written c.args.sink.now in
    let b = g.K.Sink.written c.end_rank.new.sink in
    if_err c.from_residual.result _ (λ h trace run s.
    let zero = end_of h trace run (now_of c.args.self.now.bus) Zero in
    let one = end_of h trace run (now_of c.args.self.now.bus) One in
    subst (AppendsPrefix a b) (sym (flat_map-append spelled_for zero one))
    (prefix-longer a b (flat_map spelled_for zero) (flat_map spelled_for one) (c.in_err-end_rank.ensures.writes_a_prefix h trace run s)))
