use Rattle.std.proofs.Common.{◌≡◌, length, slice_range, min, ap, arith, subst}
use Rattle.std.proofs.lemmas.List.{take_all}
use Rattle.ddr_io.specs.Line.{IsFeedAt, HasNoFeed}
use Rattle.ddr_io.proofs.Lines.{take-min, HasNoFeed-joined, IsFeedAt-later}
use Rattle.ddr_io.proofs.line_reader.LineReader.next_feed.Goals as goal

pub returns-in_err-at-clause-none : goal.returns-in_err-at-clause-none
returns-in_err-at-clause-none c =
    let held = c.args.self.now.held in
    let same : c.held-held.result.now ≡ held = c.held-held.ensures in
    let least : c.min-within.result ≡ min (length held) 512 = omega (arith, c.min-within.ensures, ap length same) in
    let rest : HasNoFeed (slice_range held c.args.clean c.min-within.result) = rw (← same) c.in_err-at.ensures.none in
    let joined = HasNoFeed-joined held c.args.clean c.min-within.result (omega (arith, least)) c.requires.searched rest in
    rw c.from_residual.ensures (subst HasNoFeed (take-min 512 c.min-within.result held least) joined)

pub returns-in_err-at-clause-none_held : goal.returns-in_err-at-clause-none_held
returns-in_err-at-clause-none_held c =
    let held = c.args.self.now.held in
    let same : c.held-held.result.now ≡ held = c.held-held.ensures in
    let least : c.min-within.result ≡ min (length held) 512 = omega (arith, c.min-within.ensures, ap length same) in
    let rest : HasNoFeed (slice_range held c.args.clean c.min-within.result) = rw (← same) c.in_err-at.ensures.none in
    let joined = HasNoFeed-joined held c.args.clean c.min-within.result (omega (arith, least)) c.requires.searched rest in
    λ short. rw c.from_residual.ensures (subst HasNoFeed (take_all c.min-within.result held (omega (arith, least))) joined)

pub returns-clause-found : goal.returns-clause-found
returns-clause-found c =
    let held = c.args.self.now.held in
    let same : c.held-held.result.now ≡ held = c.held-held.ensures in
    let least : c.min-within.result ≡ min (length held) 512 = omega (arith, c.min-within.ensures, ap length same) in
    let found : IsFeedAt (slice_range held c.args.clean c.min-within.result) c.in_ok-at.at = rw (← same) c.in_ok-at.ensures.found in
    IsFeedAt-later held c.args.clean c.min-within.result c.in_ok-at.at (omega (arith, least)) c.requires.searched found
