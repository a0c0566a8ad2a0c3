use Rattle.std.proofs.Common.{◌≡◌, ◌∷◌, ap, Bool, Some, true, refl}
use Rattle.row_activity.specs.Counted.{MayCount}
use Rattle.speed_bin.specs.declared.settings.Settings.{Settings}
use Rattle.judged_logs.specs.Auditing.{ActivityWhere}
use Rattle.judged_logs.proofs.Issuing.{activity_left_out}
use Rattle.judged_logs.proofs.LeftOut.{by_activity}
use Rattle.judged_logs.proofs.parts.count_next.Goals as goal

pub returns-in-Some : goal.returns-in-Some
returns-in-Some c = λ judged h log stands rows may settings. by_activity judged c.in-Some.activity h log
    (λ (t : Bool). (t ≡ true → MayCount h c.args.clock c.args.command.now log) → ActivityWhere t (Some c.issue.new.self) h (record { clock = c.args.clock; command = c.args.command.now } ∷ log))
    (λ there counted. c.issue.ensures h log there rows (counted refl) (λ other. ap (λ (s : Settings). Some s) settings)) (rw c.in-Some.is at stands) may

pub returns-in-None : goal.returns-in-None
returns-in-None c = λ judged h log stands rows may settings. rw c.in-None.is (activity_left_out judged h log _ (rw c.in-None.is at stands))
