use Rattle.std.proofs.Common.{◌∙◌, sym}
use Rattle.std.specs.Cmp.Lexicographic.{other_text}
use Rattle.ddr_cli.proofs.OneWord.{first_word}
use Rattle.ddr_cli.proofs.form.begins_with.Goals as goal

pub returns-in-len1-up-clause-other : goal.returns-in-len1-up-clause-other
returns-in-len1-up-clause-other c = λ no rest is.
    other_text _ _ (sym no ∙ c.eq.ensures) (c.as_str.ensures.value ∙ first_word c.args.words.now c.first-item.result c.args.word.now rest c.in-len1-up.len_at_least c.first-item.is is)
