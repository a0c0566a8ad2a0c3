use Rattle.std.proofs.Common.{◌≡◌, ◌≤◌, ◌++◌, if◌then◌else◌, false, true, length, refl, sym, ap, ◌∙◌, subst, arith}
use Rattle.std.proofs.KnownBytes.{Consumes-trans}
use Rattle.std.specs.Io.KnownBytes.{Consumes}
use Rattle.ddr_text.specs.Opening.{with_feed, is_large}
use Rattle.ddr_text.specs.Seen.{seen_role}
use Rattle.ddr_text.specs.declared.reason.Reason.TheVariants.{FaultySeparator, HeaderTooLong}
use Rattle.ddr_text.specs.Separator.{Ends, Faulty, Text, role_of_line}
use Rattle.ddr_text.proofs.OpeningLines.{taken-start, continues-none, before-start, before-line, unopened, found_separator, heads-again, faulty, too_much, continues-line, too_long, at_end, unended, within, taken-line}
use Rattle.ddr_text.proofs.opening.read_front.Goals as goal

pub returns-in_err-push_line-in-Ends-clause-taken : goal.returns-in_err-push_line-in-Ends-clause-taken
returns-in_err-push_line-in-Ends-clause-taken g c =
    let held = c.loop-reader.invariant in
    taken-line _ _ _ c.loop-reader.text c.next_line.new.self.line _ held.taken (c.in-Text.ensures.found held.going_on)

pub returns-in-Ends-clause-front : goal.returns-in-Ends-clause-front
returns-in-Ends-clause-front g c =
    let held = c.loop-reader.invariant in
    let is : role_of_line c.next_line.new.self.line ≡ Ends c.in-Ends.version = ap role_of_line (sym c.line-line.ensures) ∙ sym c.role_of.ensures ∙ ap seen_role c.in-Ends.is in
    let whole : c.push_line.new.self ≡ with_feed c.next_line.new.self.line = c.in_ok-push_line-in-Ends.ensures ∙ ap (λ l. l ++ with_feed c.line-line.result.now) c.new-separator.ensures ∙ ap with_feed c.line-line.ensures in
    found_separator _ _ _ c.loop-reader.text c.next_line.new.self.line c.push_line.new.self c.in-Ends.version whole held.taken held.continues (c.in-Text.ensures.found held.going_on) is

pub returns-in-Ends-clause-reason : goal.returns-in-Ends-clause-reason
returns-in-Ends-clause-reason g c =
    let is : role_of_line c.next_line.new.self.line ≡ Ends c.in-Ends.version = ap role_of_line (sym c.line-line.ensures) ∙ sym c.role_of.ensures ∙ ap seen_role c.in-Ends.is in
    let whole : c.push_line.new.self ≡ with_feed c.next_line.new.self.line = c.in_ok-push_line-in-Ends.ensures ∙ ap (λ l. l ++ with_feed c.line-line.result.now) c.new-separator.ensures ∙ ap with_feed c.line-line.ensures in
    (c.next_line.new.self.line, whole, is)

pub returns-in-Ends-clause-again : goal.returns-in-Ends-clause-again
returns-in-Ends-clause-again g c =
    let held = c.loop-reader.invariant in
    let next = c.in-Text.ensures.found held.going_on in
    let is : role_of_line c.next_line.new.self.line ≡ Ends c.in-Ends.version = ap role_of_line (sym c.line-line.ensures) ∙ sym c.role_of.ensures ∙ ap seen_role c.in-Ends.is in
    let whole : c.push_line.new.self ≡ with_feed c.next_line.new.self.line = c.in_ok-push_line-in-Ends.ensures ∙ ap (λ l. l ++ with_feed c.line-line.result.now) c.new-separator.ensures ∙ ap with_feed c.line-line.ensures in
    heads-again c.loop-reader.text c.next_line.new.self.line c.push_line.new.self c.in-Ends.version whole held.before next.1 next.0 is

pub returns-in-Faulty-clause-front : goal.returns-in-Faulty-clause-front
returns-in-Faulty-clause-front g c =
    let held = c.loop-reader.invariant in
    let is : role_of_line c.next_line.new.self.line ≡ Faulty = ap role_of_line (sym c.line-line.ensures) ∙ sym c.role_of.ensures ∙ ap seen_role c.in-Faulty.is in
    faulty _ _ _ c.loop-reader.text c.next_line.new.self.line c.faulty_reason.result held.continues (c.in-Text.ensures.found held.going_on) is
    (c.faulty_reason.ensures.reason ∙ ap (λ l. if is_large (c.loop-reader.text ++ with_feed l) then HeaderTooLong else FaultySeparator) c.line-line.ensures)

pub returns-then-is_too_much-clause-front : goal.returns-then-is_too_much-clause-front
returns-then-is_too_much-clause-front g c =
    let held = c.loop-reader.invariant in
    let is : role_of_line c.next_line.new.self.line ≡ Text = ap role_of_line (sym c.line-line.ensures) ∙ sym c.role_of.ensures ∙ ap seen_role c.in-Text-role_of.is in
    let large : is_large (c.loop-reader.text ++ with_feed c.next_line.new.self.line) ≡ true =
    ap (λ l. is_large (c.loop-reader.text ++ with_feed l)) (sym c.line-line.ensures) ∙ sym c.is_too_much.ensures ∙ c.if-is_too_much.true in
    too_much _ _ _ c.loop-reader.text c.next_line.new.self.line held.continues (c.in-Text.ensures.found held.going_on) is large

pub returns-in_err-push_line-in-Text-role_of-clause-taken : goal.returns-in_err-push_line-in-Text-role_of-clause-taken
returns-in_err-push_line-in-Text-role_of-clause-taken g c =
    let held = c.loop-reader.invariant in
    taken-line _ _ _ c.loop-reader.text c.next_line.new.self.line _ held.taken (c.in-Text.ensures.found held.going_on)

pub loop-reader-preserved : goal.loop-reader-preserved
loop-reader-preserved g c =
    let held = c.loop-reader.invariant in
    let line = c.next_line.new.self.line in
    let next = c.in-Text.ensures.found held.going_on in
    let is : role_of_line line ≡ Text = ap role_of_line (sym c.line-line.ensures) ∙ sym c.role_of.ensures ∙ ap seen_role c.in-Text-role_of.is in
    let small : is_large (c.loop-reader.text ++ with_feed line) ≡ false =
    ap (λ l. is_large (c.loop-reader.text ++ with_feed l)) (sym c.line-line.ensures) ∙ sym c.is_too_much.ensures ∙ c.if-is_too_much.false in
    let more : c.push_line-in-Text-role_of.new.self ≡ c.loop-reader.text ++ with_feed line = c.in_ok-push_line-in-Text-role_of.ensures ∙ ap (λ l. c.loop-reader.text ++ with_feed l) c.line-line.ensures in record {
      taken = subst (Consumes _ _) (sym more) (Consumes-trans _ _ _ c.loop-reader.text (with_feed line) held.taken next.2);
      continues = continues-line _ _ _ c.loop-reader.text line c.push_line-in-Text-role_of.new.self more held.continues next is small;
      before = before-line c.loop-reader.text line c.push_line-in-Text-role_of.new.self more held.before next.1 next.0 is small;
      few = subst (λ t. length t ≤ 65536) (sym more) (within (c.loop-reader.text ++ with_feed line) small);
      going_on = c.in-Text.ensures.last;
      counted = grind (arith, held.counted, c.in-Text.ensures.faults_kept);
    }

pub returns-in-TooLong-clause-front : goal.returns-in-TooLong-clause-front
returns-in-TooLong-clause-front g c =
    let held = c.loop-reader.invariant in
    too_long _ _ _ _ c.loop-reader.text c.next_line.new.self.line held.continues (c.in-TooLong.ensures.found held.going_on)

pub returns-in-End-clause-front : goal.returns-in-End-clause-front
returns-in-End-clause-front g c =
    let held = c.loop-reader.invariant in
    at_end _ _ _ _ c.loop-reader.text c.next_line.new.self.line held.continues (c.in-End.ensures.found held.going_on)

pub returns-in-Unended-clause-front : goal.returns-in-Unended-clause-front
returns-in-Unended-clause-front g c =
    let held = c.loop-reader.invariant in
    unended _ _ _ _ c.loop-reader.text c.next_line.new.self.line held.continues (c.in-Unended.ensures.found held.going_on)

pub loop-reader-init : goal.loop-reader-init
loop-reader-init g c = record {
  taken = taken-start _ _ c.new-text.ensures;
  continues = continues-none _ _ c.new-text.ensures;
  before = before-start _ c.new-text.ensures;
  few = subst (λ t. length t ≤ 65536) (sym c.new-text.ensures) (omega arith);
  going_on = c.requires;
  counted = refl;
}

pub returns-in-Failed-clause-unopened : goal.returns-in-Failed-clause-unopened
returns-in-Failed-clause-unopened g c = λ e.
    let held = c.loop-reader.invariant in
    unopened _ _ (g.S.Source.left c.next_line.new.source) c.loop-reader.text c.next_line.new.self.held held.taken (c.in-Failed.ensures.found held.going_on) (c.in-Failed.ensures.unfed held.going_on refl) held.before
