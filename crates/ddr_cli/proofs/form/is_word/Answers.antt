use Rattle.std.proofs.Common.{◌≡◌, ◌∙◌, ℕ, List, ap, map, string_bytes, [], ◌∷◌, sym}
use Rattle.std.specs.Cmp.Lexicographic.{other_text, same_text}
use Rattle.ddr_cli.proofs.OneWord.{only_one}
use Rattle.ddr_cli.proofs.form.is_word.Goals as goal

pub returns-in-len1-clause-same : goal.returns-in-len1-clause-same
returns-in-len1-clause-same c =
    let one = only_one c.args.words.now c.only-item.result c.in-len1.len_at_least c.in-len1.len_below c.only-item.is in
    let text = sym c.as_str.ensures.value ∙ same_text _ _ c.if-eq.ensures in
    λ _. ap (map string_bytes) one ∙ ap (λ bytes. bytes ∷ []) text

first_word : (a b : List ℕ) → a ∷ [] ≡ b ∷ [] → a ≡ b
first_word a b e = cc

pub returns-in_default-2-clause-other : goal.returns-in_default-2-clause-other
returns-in_default-2-clause-other c = λ _ is.
    let one = only_one c.args.words.now c.only-item.result c.in-len1.len_at_least c.in-len1.len_below c.only-item.is in
    other_text _ _ c.if-eq.ensures (c.as_str.ensures.value ∙ first_word _ _ (sym (ap (map string_bytes) one) ∙ is))
