-- No bank is open exactly where the count of open banks is 0.
use Rattle.std.proofs.Common.{◌≡◌, ◌∙◌, ℕ, zero, suc, ◌+◌, ◌<◌, Bool, true, false, cond, List, [], ◌∷◌, length, Option, Some, None, is_none, is_some, nat_eq, refl, sym, arith, eqb-true, eq-eqb}
use Rattle.std.proofs.lemmas.List.Sums.{sum_by-cons}
use Rattle.speed_bin.specs.Log.{Log, open_at}
use Rattle.speed_bin.specs.Rules.{all_closed}
use Rattle.bank_state.specs.Rows.{row_of, open_count}
use Rattle.bank_state.specs.Standing.{Keeps}
use Rattle.speed_bin.proofs.Tests.{all_below_at, all_below_from, none_from_test}

counted : (row : Option ℕ) (rows : List (Option ℕ)) → open_count (row ∷ rows) ≡ cond (is_some row) 1 0 + open_count rows
counted row rows = sum_by-cons (λ x. cond (is_some x) 1 0) row rows

pub closed_where_none : (rows : List (Option ℕ)) (b : ℕ) → open_count rows ≡ 0 → row_of rows b ≡ None
closed_where_none [] b h = refl
closed_where_none (None ∷ rows) zero h = refl
closed_where_none (Some row ∷ rows) zero h = let e = counted (Some row) rows in absurd (omega arith)
closed_where_none (row ∷ rows) (suc b) h = let e = counted row rows in closed_where_none rows b (omega arith)

pub none_where_closed : (rows : List (Option ℕ)) → ((b : ℕ) → b < length rows → row_of rows b ≡ None) → open_count rows ≡ 0
none_where_closed [] h = refl
none_where_closed (None ∷ rows) h = counted None rows ∙ (let e = none_where_closed rows (λ b low. h (suc b) (omega arith)) in omega arith)
none_where_closed (Some row ∷ rows) h = let e = h zero (omega arith) in cc

pub count_test : (rows : List (Option ℕ)) (log : Log) (n : ℕ) → n ≡ open_count rows → Keeps rows log → nat_eq n 0 ≡ all_closed log
count_test rows log n is keeps = go (nat_eq n 0) refl (all_closed log) refl
  where
    go : (t : Bool) → nat_eq n 0 ≡ t → (u : Bool) → all_closed log ≡ u → t ≡ u
    go true e true f = refl
    go false e false f = refl
    go true e false f =
        let none : open_count rows ≡ 0 = sym is ∙ eqb-true n 0 e in
        let all : all_closed log ≡ true = all_below_from 32 (λ b. is_none (open_at b log)) (λ b low. let o : open_at b log ≡ None = sym (keeps.open_rows b low) ∙ closed_where_none rows b none in rw o refl) in
        cc
    go false e true f =
        let banks = keeps.banks in
        let none : open_count rows ≡ 0 = none_where_closed rows (λ b low. keeps.open_rows b (omega arith) ∙ none_from_test (open_at b log) (all_below_at 32 (λ i. is_none (open_at i log)) b f (omega arith))) in
        let all : nat_eq n 0 ≡ true = eq-eqb n 0 (is ∙ none) in
        cc
