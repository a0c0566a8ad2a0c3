use Rattle.std.proofs.Common.{subst}
use Rattle.ddr_text.specs.Front.{HeadsAgain, IsFront}
use Rattle.ddr_text.proofs.Parted.{judged-again, judged-apart}
use Rattle.ddr_text.proofs.OpeningLines.{taken-front}
use Rattle.ddr_text.proofs.opening.open_apart.Goals as goal

pub returns-in-Text-clause-opening : goal.returns-in-Text-clause-opening
returns-in-Text-clause-opening g c =
    judged-apart _ _ c.in-Text.text c.in-Text.separator c.in-Text.version c.judge.result (subst (IsFront _ _) c.in-Text.is c.in_ok-text.ensures.front) c.judge.ensures.judged

pub returns-in-Text-clause-taken : goal.returns-in-Text-clause-taken
returns-in-Text-clause-taken g c =
    taken-front _ _ c.in-Text.text c.in-Text.separator c.in-Text.version c.judge.result (subst (IsFront _ _) c.in-Text.is c.in_ok-text.ensures.front)

pub returns-in-Text-clause-again : goal.returns-in-Text-clause-again
returns-in-Text-clause-again g c =
    judged-again c.in-Text.text c.in-Text.separator c.in-Text.version c.judge.result (subst HeadsAgain c.in-Text.is c.in_ok-text.ensures.again) c.judge.ensures.judged
