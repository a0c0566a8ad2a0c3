use Rattle.std.proofs.Common.{◌∙◌, ◌∷◌, sym, ap, subst}
use Rattle.log_auditor.specs.Auditing.{is_end}
use Rattle.judged_logs.specs.Auditing.{Keeps, Kept, StandsFor, told_state}
use Rattle.judged_logs.specs.declared.judge.Judge.{Judge}
use Rattle.judged_logs.proofs.Taking.{fine_log, is_other, kept_end, kept_issued, kept_other, taken_end, taken_issued, taken_other}
use Rattle.judged_logs.proofs.judge.Judge.take.Goals as goal
use Rattle.judged_logs.proofs.judge.Judge.take.Goals.{in-Issued, in-End, in-Value, in-Flip, in-Stat, in-Refused}

pub returns-clause-kept : goal.returns-clause-kept
returns-clause-kept c =
    let old = c.args.self.now in
    let line = c.args.line.now in
    let sound = c.requires.sound in
    let going = c.requires.going_on in
    elim c.match-line.branch [
      | in-Issued w ↦ subst (Kept line old) (sym w.self-is) (kept_issued line w.in-Issued.clock w.in-Issued.command old w.take_command.new.self w.in-Issued.is sound going
          w.take_command.ensures.timing w.take_command.ensures.geometry w.take_command.ensures.judged w.take_command.ensures.stays w.take_command.ensures.going_on w.take_command.ensures.keeps)
      | in-End w ↦ subst (Kept line old) (sym w.self-is) (kept_end line w.in-End.clock old w.take_end.new.self w.in-End.is sound
          w.take_end.ensures.timing w.take_end.ensures.geometry w.take_end.ensures.judged w.take_end.ensures.stays w.take_end.ensures.shut)
      | in-Value w ↦ subst (Kept line old) (sym w.self-is) (kept_other line old (ap is_end w.in-Value.is) sound going)
      | in-Flip w ↦ subst (Kept line old) (sym w.self-is) (kept_other line old (ap is_end w.in-Flip.is) sound going)
      | in-Stat w ↦ subst (Kept line old) (sym w.self-is) (kept_other line old (ap is_end w.in-Stat.is) sound going)
      | in-Refused w ↦ subst (Kept line old) (sym w.self-is) (kept_other line old (ap is_end w.in-Refused.is) sound going)
    ]

pub returns-clause-taken : goal.returns-clause-taken
unfolding StandsFor
returns-clause-taken c = λ j h log stands. elim c.match-line.branch [
  | in-Issued w ↦ taken_issued c.args.line.now w.in-Issued.clock w.in-Issued.command c.match-line.self j h log c.verdict.result w.in-Issued.is
      (subst (λ (a : Judge). Keeps a j h (record { clock = w.in-Issued.clock; command = w.in-Issued.command } ∷ log)) (sym w.self-is) (w.take_command.ensures.keeps j h log stands))
      c.verdict.ensures
  | in-End w ↦ taken_end c.args.line.now w.in-End.clock c.match-line.self j h log c.verdict.result w.in-End.is (ap (λ (a : Judge). told_state a.state) w.self-is ∙ w.take_end.ensures.verdict j h log stands) c.verdict.ensures
  | in-Value w ↦ taken_other c.args.line.now c.match-line.self j h log c.verdict.result (subst (λ (a : Judge). Keeps a j h log) (sym w.self-is) stands) c.verdict.ensures (ap is_other w.in-Value.is)
  | in-Flip w ↦ taken_other c.args.line.now c.match-line.self j h log c.verdict.result (subst (λ (a : Judge). Keeps a j h log) (sym w.self-is) stands) c.verdict.ensures (ap is_other w.in-Flip.is)
  | in-Stat w ↦ taken_other c.args.line.now c.match-line.self j h log c.verdict.result (subst (λ (a : Judge). Keeps a j h log) (sym w.self-is) stands) c.verdict.ensures (ap is_other w.in-Stat.is)
  | in-Refused w ↦ taken_other c.args.line.now c.match-line.self j h log c.verdict.result (subst (λ (a : Judge). Keeps a j h log) (sym w.self-is) stands) c.verdict.ensures (ap is_other w.in-Refused.is)
]

pub returns-clause-bounded : goal.returns-clause-bounded
unfolding StandsFor
returns-clause-bounded c = λ j h log b row stands alerts fine low inside. c.bound.ensures.bounded h b row log stands.accepted low inside (fine_log c.match-line.self j h log stands alerts (sym c.verdict.ensures ∙ fine))
