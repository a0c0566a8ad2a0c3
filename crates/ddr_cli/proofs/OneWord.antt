-- The words of the command line, one by one.
use Rattle.std.proofs.Common.{◌≡◌, ◌∙◌, ◌≤◌, ◌<◌, ℕ, List, [], ◌∷◌, String, Some, None, inl, inr, refl, length, get_or, map, string_bytes, sym, ap, arith}
use Rattle.std.specs.declared.alloc.Global.{Global}
use Rattle.std.specs.declared.option.Option.{Option}
use Rattle.ddr_cli.specs.Words.{AskForPorts, IsReplay, IsAudit, IsShow, IsUpgrade, IsExec, IsPair, IsSpare, Makes, IsOfForm, IsFoundIn}
use Rattle.ddr_cli.specs.declared.form.Form.{Form}
use Rattle.ddr_cli.specs.declared.form.Form.TheVariants.{Replay, Audit, Show, Upgrade, Gen, GenRun, Ports, Merge, Exec, Spare, Pair}

-- a list of one element
pub only_one : {X : Type 0} (xs : List X) (x : X) → 1 ≤ length xs → length xs < 2 → x ≡ get_or xs 0 x → xs ≡ x ∷ []
only_one [] x some few is = let no : ⊥ = omega (arith, some) in absurd no
only_one (y ∷ []) x some few is = ap (λ z. z ∷ []) (sym is)
only_one (y ∷ z ∷ xs) x some few is = let no : ⊥ = omega (arith, few) in absurd no

-- the bytes of the first word
pub first_word : (words : List (String Global)) (word : String Global) (bytes : List ℕ) (rest : List (List ℕ)) → 1 ≤ length words → word ≡ get_or words 0 word → map string_bytes words ≡ bytes ∷ rest → string_bytes word ≡ bytes
first_word [] word bytes rest some is e = let no : ⊥ = omega (arith, some) in absurd no
first_word (other ∷ words) word bytes rest some is e = ap string_bytes is ∙ cc

-- where no one word was found, all rests on the words that make a job, ask for ports, or name a dead device
pub found_at_last : (words : List (String Global)) (found : Option Form) → ((it : Form) → found ≡ Some it → IsOfForm words it) → (found ≡ None → ¬ (Makes words)) → (found ≡ None → ¬ (AskForPorts words)) → (found ≡ None → (dead : ℕ) → ¬ (IsSpare words dead))
    → ¬ (IsReplay words) → ¬ (IsAudit words) → ¬ (IsShow words) → ¬ (IsUpgrade words) → ¬ (IsExec words) → ¬ (IsPair words) → IsFoundIn words found
found_at_last words (Some it) is none none_ported none_spared replay audit show upgrade exec pair = is it refl
found_at_last words None is none none_ported none_spared replay audit show upgrade exec pair = λ listed. go listed.0 listed.1
  where
    go : (it : Form) → IsOfForm words it → ⊥
    go Replay it = replay it
    go Audit it = audit it
    go Show it = show it
    go Upgrade it = upgrade it
    go (Gen seed requests) it = none refl (seed, requests, inl it)
    go (GenRun seed requests) it = none refl (seed, requests, inr it)
    go (Ports cap) it = none_ported refl (cap, inl it)
    go (Merge cap) it = none_ported refl (cap, inr it)
    go Exec it = exec it
    go (Spare dead) it = none_spared refl dead it
    go Pair it = pair it
