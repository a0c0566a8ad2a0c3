use Rattle.std.proofs.Common.{refl}
use Rattle.ddr_cli.proofs.OneWord.{found_at_last}
use Rattle.ddr_cli.proofs.form.form_of.Goals as goal

pub returns-else-is_word-6 : goal.returns-else-is_word-6
returns-else-is_word-6 c = found_at_last c.args.words.now c.longer_form.result c.longer_form.ensures.found c.longer_form.ensures.none_made c.longer_form.ensures.none_ported c.longer_form.ensures.none_spared (c.if-is_word.ensures.other refl) (c.if-is_word-2.ensures.other refl) (c.if-is_word-3.ensures.other refl) (c.if-is_word-4.ensures.other refl) (c.if-is_word-5.ensures.other refl) (c.if-is_word-6.ensures.other refl)
