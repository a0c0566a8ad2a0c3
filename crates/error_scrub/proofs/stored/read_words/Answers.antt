use Rattle.std.proofs.Common.{◌∙◌, Some, refl}
use Rattle.error_scrub.specs.declared.stored.Stored.TheVariants.{Words}
use Rattle.error_scrub.proofs.ZeroWords.{joined_is, read_is, worst_is}
use Rattle.error_scrub.proofs.stored.read_words.Goals as goal

pub returns : goal.returns
returns c =
    read_is (Some (Words c.args.words.now)) c.joined.result c.worse-3.result _ _ _ _ refl refl refl refl
    (c.joined.ensures
    ∙ joined_is _ _ _ _ _ _ _ _ c.read_word-first.ensures.bytes c.read_word-second.ensures.bytes c.read_word-third.ensures.bytes c.read_word-fourth.ensures.bytes)
    (worst_is _ _ _ _ _ _ _ _ _ _ _ c.worse-3.ensures c.worse.ensures c.worse-2.ensures
    c.read_word-first.ensures.state c.read_word-second.ensures.state c.read_word-third.ensures.state c.read_word-fourth.ensures.state)
