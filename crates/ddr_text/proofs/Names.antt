-- The names of states and counts, read and written.
use Rattle.std.proofs.Common.{◌≡◌, ℕ, Bool, true, false, cond, not, bytes_eq, List, [], ◌∷◌, Option, Some, None, Ok, refl, sym, ap, ◌∙◌}
use Rattle.std.specs.List.{find, list_all}
use Rattle.std.proofs.lemmas.Bool.{and_parts, not-true}
use Rattle.std.proofs.lemmas.List.Elements.{All-nil, All-cons}
use Rattle.std.proofs.lemmas.Slice.Eq.{bytes_eq-Decides}
use Rattle.ondie_ecc.specs.declared.state.ReadState.{ReadState}
use Rattle.ondie_ecc.specs.declared.state.ReadState.TheVariants.{Clean, Fixed, Lost as LostState}
use Rattle.ddr_text.specs.declared.lines.StatName.{StatName}
use Rattle.ddr_text.specs.declared.lines.StatName.TheVariants.{Act, Rd, Wr, Pre, RefAb, RefSb, RfmAb, RfmSb, Ecs, Alert, Peak, Found, Lost, Worst}
use Rattle.ddr_text.specs.Spelling.{state_name, stat_name}
use Rattle.ddr_text.specs.Grammar.{is_space}
use Rattle.ddr_text.specs.ReportGrammar.{or_fields, state_of, stat_of, stat_names}
use Rattle.ddr_text.proofs.Parts.{Unspaced}

found-passes : {X : Type 0} (test : X → Bool) (xs : List X) (x : X) → find test xs ≡ Some x → test x ≡ true
found-passes test [] x h = cc h
found-passes test (y ∷ ys) x h =
    let go : (b : Bool) → test y ≡ b → cond b (Some y) (find test ys) ≡ Some x → test x ≡ true =
    λ b. elim b as (λ b. test y ≡ b → cond b (Some y) (find test ys) ≡ Some x → test x ≡ true) [
      | true ↦ λ e k. let same : y ≡ x = cc in ap test (sym same) ∙ e
      | false ↦ λ e k. found-passes test ys x k
    ] in
    go (test y) refl h

or-fields-Ok : {A : Type 0} (o : Option A) (a : A) → or_fields o ≡ Ok a → o ≡ Some a
or-fields-Ok (Some b) a h = let same : b ≡ a = cc in ap Some same
or-fields-Ok None a h = cc h

pub state-Ok : (field : List ℕ) (state : ReadState) → state_of field ≡ Ok state → field ≡ state_name state
unfolding state_of
state-Ok field state h =
    (bytes_eq-Decides field (state_name state)).0 (found-passes (λ s. bytes_eq field (state_name s)) (Clean ∷ Fixed ∷ LostState ∷ []) state (or-fields-Ok _ state h))

pub stat-Ok : (field : List ℕ) (name : StatName) → stat_of field ≡ Ok name → field ≡ stat_name name
unfolding stat_of
stat-Ok field name h =
    (bytes_eq-Decides field (stat_name name)).0 (found-passes (λ s. bytes_eq field (stat_name s)) stat_names name (or-fields-Ok _ name h))

pub state-in : (state : ReadState) → state_of (state_name state) ≡ Ok state
unfolding state_of
state-in Clean = refl
state-in Fixed = refl
state-in LostState = refl

pub stat-in : (name : StatName) → stat_of (stat_name name) ≡ Ok name
unfolding stat_of
stat-in Act = refl
stat-in Rd = refl
stat-in Wr = refl
stat-in Pre = refl
stat-in RefAb = refl
stat-in RefSb = refl
stat-in RfmAb = refl
stat-in RfmSb = refl
stat-in Ecs = refl
stat-in Alert = refl
stat-in Peak = refl
stat-in Found = refl
stat-in Lost = refl
stat-in Worst = refl

unspaced-test : (text : List ℕ) → list_all (λ byte. not (is_space byte)) text ≡ true → Unspaced text
unspaced-test [] h = All-nil (λ byte. is_space byte ≡ false)
unspaced-test (byte ∷ bytes) h =
    let parts = and_parts (not (is_space byte)) _ h in
    All-cons (λ b. is_space b ≡ false) byte bytes (not-true (is_space byte) parts.0) (unspaced-test bytes parts.1)

pub unspaced-state : (state : ReadState) → Unspaced (state_name state)
unspaced-state Clean = unspaced-test (state_name Clean) refl
unspaced-state Fixed = unspaced-test (state_name Fixed) refl
unspaced-state LostState = unspaced-test (state_name LostState) refl

pub unspaced-stat : (name : StatName) → Unspaced (stat_name name)
unspaced-stat Act = unspaced-test (stat_name Act) refl
unspaced-stat Rd = unspaced-test (stat_name Rd) refl
unspaced-stat Wr = unspaced-test (stat_name Wr) refl
unspaced-stat Pre = unspaced-test (stat_name Pre) refl
unspaced-stat RefAb = unspaced-test (stat_name RefAb) refl
unspaced-stat RefSb = unspaced-test (stat_name RefSb) refl
unspaced-stat RfmAb = unspaced-test (stat_name RfmAb) refl
unspaced-stat RfmSb = unspaced-test (stat_name RfmSb) refl
unspaced-stat Ecs = unspaced-test (stat_name Ecs) refl
unspaced-stat Alert = unspaced-test (stat_name Alert) refl
unspaced-stat Peak = unspaced-test (stat_name Peak) refl
unspaced-stat Found = unspaced-test (stat_name Found) refl
unspaced-stat Lost = unspaced-test (stat_name Lost) refl
unspaced-stat Worst = unspaced-test (stat_name Worst) refl
