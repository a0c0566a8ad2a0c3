use Rattle.std.proofs.Common.{◌≡◌, ℕ, suc, Option, Some, None, length, refl}
use Rattle.speed_bin.specs.Rules.{broken, verdict, verdict_after}
use Rattle.requests.specs.Queue.{places}
use Rattle.scheduler.specs.Controller.{StandsFor}
use Rattle.scheduler.proofs.laws.sound.Goals as goal

pub returns-clause-rules : goal.returns-clause-rules
unfolding StandsFor
returns-clause-rules c = λ h x offered idle log s. s.sound

pub returns-clause-open_page : goal.returns-clause-open_page
unfolding StandsFor
returns-clause-open_page c = λ h x offered idle log s. s.requested.page

newest_of : (before : Option (ℕ × ℕ)) (place : ℕ) (fails : Option ℕ) → verdict_after before place fails ≡ None → fails ≡ None
newest_of (Some breach) place fails e = cc
newest_of None place None e = refl
newest_of None place (Some number) e = cc

pub returns-clause-newest : goal.returns-clause-newest
unfolding StandsFor
returns-clause-newest c = λ h x offered idle step log s. newest_of (verdict h (places log)) (suc (length (places log))) (broken h step.issued.clock step.issued.command (places log)) s.sound

pub returns-clause-accepted : goal.returns-clause-accepted
unfolding StandsFor
returns-clause-accepted c = λ h x offered idle log s. s.accepted

pub returns-clause-no_nop : goal.returns-clause-no_nop
unfolding StandsFor Rattle.deadlines.specs.Standing.Keeps
returns-clause-no_nop c = λ h x offered idle log s. s.deadlines.job.no_nop
