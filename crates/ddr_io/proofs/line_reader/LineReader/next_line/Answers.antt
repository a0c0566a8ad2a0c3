use Rattle.std.proofs.Common.{◌≤◌, ap, arith, rules, length, take, length-append}
use Rattle.std.proofs.lemmas.Grind.{common_steps}
use Rattle.ddr_io.specs.Line.{HasNoFeed}
use Rattle.ddr_io.proofs.Lines.{IsTooLong-held}
use Rattle.ddr_io.proofs.Taking.{Taken-none, Taken-more, Taken-end, Taken-ended, Taken-all, stops_at_end, stops_failed, stops_long, stops_text, stops_unended}
use Rattle.ddr_io.proofs.line_reader.LineReader.next_line.Goals as goal

pub returns-then-clean-ge-MAX_LINE-clause-found : goal.returns-then-clean-ge-MAX_LINE-clause-found
returns-then-clean-ge-MAX_LINE-clause-found g c =
    let same = c.held-clean.ensures in
    let clean : HasNoFeed (take 512 c.loop-at.self.held) = c.in_default.ensures.none in
    let long : 512 ≤ length c.loop-at.self.held = omega (arith, ap length same, c.if-clean-ge-MAX_LINE.true) in
    let kept = c.loop-at.invariant.kept in
    λ text. rw (c.stop-then-clean-ge-MAX_LINE.ensures.answer, c.stop-then-clean-ge-MAX_LINE.ensures.state) (IsTooLong-held _ _ _ kept long clean, kept)

pub loop-at-smaller : goal.loop-at-smaller
loop-at-smaller g c =
    let (bs, held, some, most, rest) = c.in-Bytes.ensures.bytes.bytes in
    omega (arith, ap length held, length-append c.loop-at.self.held bs, c.if-clean-ge-MAX_LINE.false, ap length c.held-clean.ensures)

pub loop-at-init : goal.loop-at-init
loop-at-init g c = record {
  going_on = search rules;
  kept = search rules;
  taken = Taken-none _ _;
  unread = search rules;
  counted = search rules;
  within = search rules;
  short = search rules;
  searched = search rules;
}

pub loop-at-preserved : goal.loop-at-preserved
loop-at-preserved g c =
    let (bs, held, some, most, rest) = c.in-Bytes.ensures.bytes.bytes in
    let clean : HasNoFeed c.loop-at.self.held = c.in_default.ensures.none_held (omega (arith, c.if-clean-ge-MAX_LINE.false, ap length c.held-clean.ensures)) in record {
      going_on = search rules;
      kept = grind (arith, common_steps);
      taken = Taken-more _ _ _ bs _ _ _ c.loop-at.invariant.taken clean held most rest;
      unread = search rules;
      counted = search rules;
      within = grind (arith, common_steps);
      short = search rules;
      searched = grind (arith, common_steps);
    }

pub returns-in-Some-clause-taken : goal.returns-in-Some-clause-taken
returns-in-Some-clause-taken g c = λ _ clean. Taken-all _ _ _ _ c.loop-at.invariant.taken clean

pub returns-then-clean-ge-MAX_LINE-clause-taken : goal.returns-then-clean-ge-MAX_LINE-clause-taken
returns-then-clean-ge-MAX_LINE-clause-taken g c = λ _ clean. Taken-all _ _ _ _ c.loop-at.invariant.taken clean

pub returns-in-End-clause-taken : goal.returns-in-End-clause-taken
returns-in-End-clause-taken g c = λ _ clean. Taken-end _ _ _ _ _ c.loop-at.invariant.taken c.in-End.ensures.bytes.bytes.2 clean

pub returns-in-End-2-clause-taken : goal.returns-in-End-2-clause-taken
returns-in-End-2-clause-taken g c = λ _ clean. Taken-end _ _ _ _ _ c.loop-at.invariant.taken c.in-End-2.ensures.bytes.bytes.2 clean

pub returns-in-Failed-clause-taken : goal.returns-in-Failed-clause-taken
returns-in-Failed-clause-taken g c = λ _ clean. Taken-end _ _ _ _ _ c.loop-at.invariant.taken c.in-Failed.ensures.bytes.bytes.1 clean

pub returns-in-Some-clause-at_stop : goal.returns-in-Some-clause-at_stop
returns-in-Some-clause-at_stop g c = λ _. stops_text _ _ _

pub returns-in-End-clause-at_stop : goal.returns-in-End-clause-at_stop
returns-in-End-clause-at_stop g c = λ _. rw c.stop-in-End.ensures.answer (stops_at_end _ _ _ (Taken-ended _ _ _ _ _ c.loop-at.invariant.taken c.in-End.ensures.bytes.bytes.1 c.in-End.ensures.bytes.bytes.2))

pub returns-in-End-2-clause-at_stop : goal.returns-in-End-2-clause-at_stop
returns-in-End-2-clause-at_stop g c = λ _. rw c.stop-in-End-2.ensures.answer (stops_unended _ _ _ (Taken-ended _ _ _ _ _ c.loop-at.invariant.taken c.in-End-2.ensures.bytes.bytes.1 c.in-End-2.ensures.bytes.bytes.2))

pub returns-in-Failed-clause-at_stop : goal.returns-in-Failed-clause-at_stop
returns-in-Failed-clause-at_stop g c = λ _. rw c.stop-in-Failed.ensures.answer (stops_failed _ _ _)

pub returns-then-clean-ge-MAX_LINE-clause-at_stop : goal.returns-then-clean-ge-MAX_LINE-clause-at_stop
returns-then-clean-ge-MAX_LINE-clause-at_stop g c =
    let same = c.held-clean.ensures in
    let long : 512 ≤ length c.loop-at.self.held = omega (arith, ap length same, c.if-clean-ge-MAX_LINE.true) in
    λ text. rw (c.stop-then-clean-ge-MAX_LINE.ensures.answer, c.stop-then-clean-ge-MAX_LINE.ensures.state) (stops_long _ _ _ long)
