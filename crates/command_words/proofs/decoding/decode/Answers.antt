-- Words that spell a command in range are read as that command.
use Rattle.std.proofs.Common.{rules, ◌≡◌, ◌∙◌}
use Rattle.command_words.specs.Decode.{decode_of}
use Rattle.command_words.proofs.OwnWords.{decoded_from_spells}
use Rattle.command_words.proofs.decoding.decode.Goals as goal

pub returns-in_err-command-clause-only : goal.returns-in_err-command-clause-only
returns-in_err-command-clause-only c =
    let decoded : c.from_residual.result ≡ decode_of c.args.words = search rules in
    λ command in_range spells. decoded ∙ decoded_from_spells command c.args.words in_range spells

pub returns-clause-only : goal.returns-clause-only
returns-clause-only c =
    let decoded : c.judge.result ≡ decode_of c.args.words = search rules in
    λ command in_range spells. decoded ∙ decoded_from_spells command c.args.words in_range spells
