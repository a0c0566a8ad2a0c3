-- The words that name a number: a cap, or a device.
use Rattle.std.proofs.Common.{◌≡◌, ◌∙◌, ◌≤◌, ◌<◌, ◌&&◌, ℕ, Bool, true, false, cond, Option, Some, None, List, [], ◌∷◌, String, Result, Ok, Err, inl, inr, refl, map, drop, IfSome, nat_le, string_bytes, sym, ap, arith}
use Rattle.std.proofs.lemmas.Bool.{leb-true}
use Rattle.std.specs.Prelude.{codes}
use Rattle.std.specs.declared.alloc.Global.{Global}
use Rattle.ddr_text.specs.Grammar.{number_of}
use Rattle.ddr_text.specs.declared.lines.LineFault.{LineFault}
use Rattle.ddr_cli.specs.Words.{AskForPorts, HasCap, HasNumber, IsListed, number_in, only_number}
use Rattle.ddr_cli.specs.declared.form.Form.TheVariants.{Merge, Ports}

within : (least most : ℕ) (r : Result ℕ LineFault) (found : ℕ) → number_in least most r ≡ Some found → (least ≤ found) × (found ≤ most)
within least most (Err fault) found e = cc
within least most (Ok number) found e = go (nat_le least number) refl (nat_le number most) refl e
  where
    go : (a : Bool) → nat_le least number ≡ a → (b : Bool) → nat_le number most ≡ b → cond (a && b) (Some number) None ≡ Some found → (least ≤ found) × (found ≤ most)
    go true f true g e =
        let same : number ≡ found = cc in
        let low = leb-true least number f in
        let high = leb-true number most g in
        (omega (arith, same, low), omega (arith, same, high))
    go true f false g e = cc
    go false f b g e = cc

-- the number is in the range
pub number_within : (least most : ℕ) (rest : List (List ℕ)) (found : ℕ) → only_number least most rest ≡ Some found → (least ≤ found) × (found ≤ most)
unfolding only_number
number_within least most [] found e = cc
number_within least most (word ∷ []) found e = within least most (number_of word) found e
number_within least most (word ∷ other ∷ more) found e = cc

-- a device is below 5
pub device_below : (rest : List (List ℕ)) (dead : ℕ) → only_number 0 4 rest ≡ Some dead → dead < 5
device_below rest dead e = let most : dead ≤ 4 = (number_within 0 4 rest dead e).1 in omega (arith, most)

-- words name one number
pub same_number : (least most : ℕ) (word : List ℕ) (words : List (String Global)) (number other : ℕ) → HasNumber least most word words number → HasNumber least most word words other → number ≡ other
same_number least most word words number other is more =
    let both : word ∷ is.0 ≡ word ∷ more.0 = sym is.1 ∙ more.1 in
    let rest : is.0 ≡ more.0 = cc in
    let same : Some number ≡ Some other = sym is.2 ∙ ap (only_number least most) rest ∙ more.2 in cc

-- words that ask for ports are of a form
pub asks_listed : (words : List (String Global)) → AskForPorts words → IsListed words
asks_listed words (cap, inl ported) = (Ports cap, ported)
asks_listed words (cap, inr merged) = (Merge cap, merged)

-- words that name a cap behind neither word ask for no ports
pub none_asked : (words : List (String Global)) → ((cap : ℕ) → HasCap (codes "ports") words cap → ⊥) → ((cap : ℕ) → HasCap (codes "merge") words cap → ⊥) → AskForPorts words → ⊥
none_asked words ports merge (cap, inl it) = ports cap it
none_asked words ports merge (cap, inr it) = merge cap it

-- ---- Behind a word

pub number-found : (least most : ℕ) (word : List ℕ) (words rest : List (String Global)) (found : Option ℕ) → map string_bytes words ≡ word ∷ map string_bytes (drop 1 words) → rest ≡ drop 1 words → found ≡ only_number least most (map string_bytes rest)
    → IfSome found (HasNumber least most word words)
number-found least most word words rest None first behind is = tt
number-found least most word words rest (Some number) first behind is = (map string_bytes (drop 1 words), first, ap (λ k. only_number least most (map string_bytes k)) (sym behind) ∙ sym is)

pub number-none : (least most : ℕ) (word : List ℕ) (words rest : List (String Global)) (found : Option ℕ) → map string_bytes words ≡ word ∷ map string_bytes (drop 1 words) → rest ≡ drop 1 words → found ≡ only_number least most (map string_bytes rest) → found ≡ None
    → (number : ℕ) → HasNumber least most word words number → ⊥
number-none least most word words rest found first behind is none number named =
    let both : word ∷ map string_bytes (drop 1 words) ≡ word ∷ named.0 = sym first ∙ named.1 in
    let same : map string_bytes (drop 1 words) ≡ named.0 = cc in
    let no : None ≡ Some number = sym none ∙ is ∙ ap (λ k. only_number least most (map string_bytes k)) behind ∙ ap (only_number least most) same ∙ named.2 in cc
