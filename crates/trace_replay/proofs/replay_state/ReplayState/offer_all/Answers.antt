use Rattle.std.proofs.Common.{ap, ◌≡◌, ◌∙◌, ℕ, None, arith}
use Rattle.ddr_io.specs.Line.{next_bytes}
use Rattle.trace_replay.specs.declared.trace_lines.Tally.{Tally}
use Rattle.trace_replay.specs.ReplayState.{IsKnown}
use Rattle.trace_replay.specs.declared.replay_state.Ahead.{Ahead}
use Rattle.trace_replay.specs.declared.replay_state.Ahead.TheVariants.{Unknown, NextLine, Passes, End, Refused}
use Rattle.trace_replay.specs.declared.replay_state.ReplayState.{ReplayState}
use Rattle.ddr_text.proofs.Prefixes.{if_err}
use Rattle.trace_replay.proofs.Under.{under-none, under-lines}
use Rattle.trace_replay.proofs.replay_state.ReplayState.offer_all.Goals as goal

-- a line that is refused is known
refused-known : (ahead : Ahead) (reason : ℕ) → ahead ≡ Refused reason → IsKnown ahead
refused-known Unknown reason e = λ f. cc
refused-known (NextLine line) reason e = λ f. cc
refused-known (Passes clocks) reason e = λ f. cc
refused-known End reason e = λ f. cc
refused-known (Refused own) reason e = λ f. cc

pub returns-in_err-look_ahead-clause-unasked : goal.returns-in_err-look_ahead-clause-unasked
returns-in_err-look_ahead-clause-unasked g c = λ reason e.
    let k = c.lines.invariant.unasked reason e in c.look_ahead.ensures.unasked (refused-known c.lines.self.ahead reason k.1) ∙ k.0

pub returns-then-not-offer_next-clause-unasked : goal.returns-then-not-offer_next-clause-unasked
returns-then-not-offer_next-clause-unasked g c = λ reason e.
    let k = c.lines.invariant.unasked reason e in c.look_ahead.ensures.unasked (refused-known c.lines.self.ahead reason k.1) ∙ k.0

pub returns-in_err-look_ahead-clause-begins_a_report : goal.returns-in_err-look_ahead-clause-begins_a_report
returns-in_err-look_ahead-clause-begins_a_report g c =
    if_err c.from_residual.result _ (λ h start before written u. c.in_err-look_ahead.ensures.begins_a_report h start before written (c.lines.invariant.under h start before written u))

pub offer_next-requires-clause-holds : goal.offer_next-requires-clause-holds
offer_next-requires-clause-holds g c =
    let k = c.lines.invariant.holds in
    let u = c.in_ok-look_ahead.ensures.under k.0 None None None (under-none k.0 c.lines.self k.1 k.2 (next_bytes c.lines.reader.held (g.S.Source.left c.lines.source)) k.3) in
    (k.0, u.trace, u.run, u.holds)

pub returns-then-not-offer_next-clause-ready : goal.returns-then-not-offer_next-clause-ready
returns-then-not-offer_next-clause-ready g c = λ h start before written u.
    let v = c.offer_next.ensures.under h start (next_bytes c.look_ahead.new.reader.held (g.S.Source.left c.look_ahead.new.source)) before written (c.in_ok-look_ahead.ensures.under h start before written (c.lines.invariant.under h start before written u)) in
    record { under = v; filled = c.offer_next.ensures.filled h v.trace v.run c.if-not-offer_next.true v.holds }

pub lines-smaller : goal.lines-smaller
lines-smaller g c =
    let k = c.lines.invariant.holds in
    let u = c.in_ok-look_ahead.ensures.under k.0 None None None (under-none k.0 c.lines.self k.1 k.2 (next_bytes c.lines.reader.held (g.S.Source.left c.lines.source)) k.3) in
    let v = c.offer_next.ensures.under k.0 None (next_bytes c.look_ahead.new.reader.held (g.S.Source.left c.look_ahead.new.source)) None None u in
    let most = under-lines k.0 c.offer_next.new.self None (next_bytes c.look_ahead.new.reader.held (g.S.Source.left c.look_ahead.new.source)) None None v in
    let one = c.offer_next.ensures.line c.if-not-offer_next.false in
    let same : c.look_ahead.new.self.tally.lines ≡ c.lines.self.tally.lines = ap (λ (t : Tally). t.lines) c.look_ahead.ensures.lines in
    omega (arith, one, same, most)

pub lines-preserved : goal.lines-preserved
lines-preserved g c =
    let k = c.lines.invariant.holds in
    let u = c.in_ok-look_ahead.ensures.under k.0 None None None (under-none k.0 c.lines.self k.1 k.2 (next_bytes c.lines.reader.held (g.S.Source.left c.lines.source)) k.3) in
    let v = c.offer_next.ensures.under k.0 None (next_bytes c.look_ahead.new.reader.held (g.S.Source.left c.look_ahead.new.source)) None None u in
    record {
      holds = (k.0, v.trace, v.run, v.holds);
      under = λ h start before written w. c.offer_next.ensures.under h start (next_bytes c.look_ahead.new.reader.held (g.S.Source.left c.look_ahead.new.source)) before written (c.in_ok-look_ahead.ensures.under h start before written (c.lines.invariant.under h start before written w));
      going_on = c.offer_next.ensures.goes_on c.look_ahead.new.reader.last c.in_ok-look_ahead.ensures.going_on;
      fewer = omega (arith, c.lines.invariant.fewer, c.look_ahead.ensures.fewer, c.offer_next.ensures.fewer);
      kept = c.in_ok-look_ahead.ensures.faults_kept ∙ c.lines.invariant.kept;
      unasked = λ reason e.
          let n = c.offer_next.ensures.refused reason (ap (λ (p : ReplayState). p.ahead) (c.look_ahead.ensures.known_still (refused-known c.lines.self.ahead reason (c.lines.invariant.unasked reason e).1)) ∙ (c.lines.invariant.unasked reason e).1) in
          let f = c.if-not-offer_next.false in cc;
    }

pub returns-in_err-look_ahead-clause-faults_never_fall : goal.returns-in_err-look_ahead-clause-faults_never_fall
returns-in_err-look_ahead-clause-faults_never_fall g c = omega (arith, c.look_ahead.ensures.faults_never_fall, c.lines.invariant.kept)

pub returns-then-not-offer_next-clause-faults_never_fall : goal.returns-then-not-offer_next-clause-faults_never_fall
returns-then-not-offer_next-clause-faults_never_fall g c = omega (arith, c.look_ahead.ensures.faults_never_fall, c.lines.invariant.kept)

pub returns-then-not-offer_next-clause-faults_kept : goal.returns-then-not-offer_next-clause-faults_kept
returns-then-not-offer_next-clause-faults_kept g c = c.in_ok-look_ahead.ensures.faults_kept ∙ c.lines.invariant.kept
