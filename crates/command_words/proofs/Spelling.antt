-- A command is spelled by its words alone.
use Rattle.std.proofs.Common.{◌≡◌, ◌∙◌, ap, ℕ, Option}
use Rattle.command_words.specs.Words.{Spells, words_of}
use Rattle.command_words.specs.declared.command.Command.{Command}
use Rattle.command_words.specs.declared.words.Words.{Words}

same_words : (a b : Words) → a.first ≡ b.first → a.second ≡ b.second → a ≡ b
same_words a b firsts seconds =
    let with_first : ℕ → Words = λ first. record { first = first; second = a.second } in
    let with_second : Option ℕ → Words = λ second. record { first = b.first; second = second } in
    ap with_first firsts ∙ ap with_second seconds

pub words_of-from_spells : (command : Command) (words : Words) → Spells command words → words ≡ words_of command
words_of-from_spells command words spells = same_words words (words_of command) spells.0 spells.1

pub spells-from_words_of : (command : Command) (words : Words) → words ≡ words_of command → Spells command words
spells-from_words_of command words same = (ap (λ (w : Words). w.first) same, ap (λ (w : Words). w.second) same)
