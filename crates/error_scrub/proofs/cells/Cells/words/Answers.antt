use Rattle.std.proofs.Common.{◌∙◌, Option, ap, sym}
use Rattle.error_scrub.specs.declared.stored.Stored.{Stored}
use Rattle.error_scrub.specs.Cells.{stored, word_in, zero_word}
use Rattle.error_scrub.proofs.ZeroWords.{four, zero_word-is}
use Rattle.error_scrub.proofs.cells.Cells.words.Goals as goal

pub returns-in-None : goal.returns-in-None
unfolding stored
returns-in-None c = λ device near.
    four (λ _. zero_word) _ _ _ _ _ (sym zero_word-is) (sym zero_word-is) (sym zero_word-is) (sym zero_word-is) device near
    ∙ ap (λ (w : Option Stored). word_in w device) c.in-None.ensures.value
