use Rattle.std.proofs.Common.{subst}
use Rattle.ddr_text.specs.Apart.{ApartAgain, IsApart, IsApartAnswer}
use Rattle.ddr_text.proofs.Parted.{joined, joined-again, joined-answer, taken-apart}
use Rattle.ddr_text.proofs.opening.open_job.Goals as goal

pub returns-in-Accepted-clause-opening : goal.returns-in-Accepted-clause-opening
returns-in-Accepted-clause-opening g c =
    joined _ _ c.in-Accepted.header c.in-Accepted.text c.in-Accepted.separator c.join.result (subst (IsApart _ _) c.in-Accepted.is c.in_ok-header.ensures.opening) c.join.ensures

pub returns-in-Accepted-clause-answer : goal.returns-in-Accepted-clause-answer
returns-in-Accepted-clause-answer g c =
    joined-answer c.in-Accepted.header c.in-Accepted.text c.in-Accepted.separator c.join.result (subst IsApartAnswer c.in-Accepted.is c.in_ok-header.ensures.answer) c.join.ensures

pub returns-in-Accepted-clause-taken : goal.returns-in-Accepted-clause-taken
returns-in-Accepted-clause-taken g c =
    taken-apart _ _ c.in-Accepted.header c.in-Accepted.text c.in-Accepted.separator c.join.result (subst (IsApart _ _) c.in-Accepted.is c.in_ok-header.ensures.opening)

pub returns-in-Accepted-clause-again : goal.returns-in-Accepted-clause-again
returns-in-Accepted-clause-again g c =
    joined-again c.in-Accepted.header c.in-Accepted.text c.in-Accepted.separator c.join.result (subst ApartAgain c.in-Accepted.is c.in_ok-header.ensures.again) c.join.ensures
