use Rattle.std.proofs.Common.{subst, sym, ◌≤◌}
use Rattle.ddr_text.proofs.Prefixes.{if_err}
use Rattle.trace_replay.specs.ReplayState.{IsUnder, left_of}
use Rattle.ddr_io.specs.Line.{next_bytes}
use Rattle.trace_replay.proofs.Under.{left-off, looked, left-next}
use Rattle.trace_replay.proofs.replay_state.ReplayState.look_ahead.Goals as goal

pub returns-in_err-next-in-Unknown-clause-begins_a_report : goal.returns-in_err-next-in-Unknown-clause-begins_a_report
returns-in_err-next-in-Unknown-clause-begins_a_report g c =
    if_err c.from_residual.result _ (λ h start before written u.
    left-off c.agrees.ensures.controller c.bounds.ensures.few c.counts_the_unserved.ensures.waiting h c.args.self.now start (next_bytes c.args.reader.now.held (g.S.Source.left c.args.source.now)) before written c.next_line.new.reader.held (g.S.Source.left c.next_line.new.source) c.in-Unknown.is u c.in_err-next-in-Unknown.ensures.unread)

pub returns-in_ok-next-in-Unknown-clause-under : goal.returns-in_ok-next-in-Unknown-clause-under
returns-in_ok-next-in-Unknown-clause-under g c = λ h start before written u.
    subst (λ a. IsUnder h (record c.args.self.now { ahead = a }) start (next_bytes c.next_line.new.reader.held (g.S.Source.left c.next_line.new.source)) before written) (sym c.found-self.ensures)
    (looked c.begins_a_run.ensures.ahead h c.args.self.now c.in_ok-next-in-Unknown.next start (next_bytes c.args.reader.now.held (g.S.Source.left c.args.source.now)) (next_bytes c.next_line.new.reader.held (g.S.Source.left c.next_line.new.source)) before written c.in-Unknown.is c.in_ok-next-in-Unknown.ensures.next c.in_ok-next-in-Unknown.ensures.may_stand u)

pub returns-in_ok-next-in-Unknown-clause-fewer : goal.returns-in_ok-next-in-Unknown-clause-fewer
returns-in_ok-next-in-Unknown-clause-fewer g c =
    subst (λ a. left_of (record c.args.self.now { ahead = a }) ≤ left_of c.args.self.now) (sym c.found-self.ensures) (left-next c.args.self.now c.in_ok-next-in-Unknown.next c.in-Unknown.is)

pub returns-in_err-next-in-Unknown-clause-unasked : goal.returns-in_err-next-in-Unknown-clause-unasked
returns-in_err-next-in-Unknown-clause-unasked g c = λ k. absurd (k c.in-Unknown.is)

pub returns-in_err-next-in-Unknown-clause-known_still : goal.returns-in_err-next-in-Unknown-clause-known_still
returns-in_err-next-in-Unknown-clause-known_still g c = λ k. absurd (k c.in-Unknown.is)

pub returns-in_ok-next-in-Unknown-clause-unasked : goal.returns-in_ok-next-in-Unknown-clause-unasked
returns-in_ok-next-in-Unknown-clause-unasked g c = λ k. absurd (k c.in-Unknown.is)

pub returns-in_ok-next-in-Unknown-clause-known_still : goal.returns-in_ok-next-in-Unknown-clause-known_still
returns-in_ok-next-in-Unknown-clause-known_still g c = λ k. absurd (k c.in-Unknown.is)
