-- A turn keeps that each owed bank has a waiting request, and the counts of a job.
use Rattle.std.proofs.Common.{◌≡◌, ◌≢◌, ◌∙◌, ℕ, suc, ◌+◌, ◌≤◌, ◌<◌, ◌⊎◌, inl, inr, Bool, true, false, ◌&&◌, ◌||◌, ◌==◌, refl, sym, ap, arith, cond, List, [], ◌∷◌, ◌++◌, length, length-append, ne_eqb}
use Rattle.command_words.specs.Command.{bank_number, covers}
use Rattle.command_words.specs.declared.place.Bank.{Bank}
use Rattle.command_words.specs.declared.command.Command.{Command}
use Rattle.command_words.specs.declared.command.Command.TheVariants.{Act}
use Rattle.speed_bin.specs.declared.header.Header.{Header}
use Rattle.speed_bin.specs.Log.{Issued, Log}
use Rattle.command_words.specs.Kinds.{is_act, is_mrw, is_nop, effect, Leaves}
use Rattle.speed_bin.specs.Counts.{commands}
use Rattle.requests.specs.Owed.{is_column, owed_after, owed}
use Rattle.deadlines.specs.Counts.{Works, Job}
use Rattle.deadlines.specs.Turns.{has_request}
use Rattle.deadlines.proofs.OneMore.{one_more}
use Rattle.deadlines.proofs.Moves.{Queued}
use Rattle.deadlines.proofs.Stages.{owed_before, column_pays}
use Rattle.deadlines.proofs.Following.{column_other}
use Rattle.deadlines.proofs.Counting.{act_case, opens_other}

wanted_rest : (before after : List ℕ) (k b : ℕ) → b ≢ k → has_request (before ++ (k ∷ after)) b ≡ true → has_request (before ++ after) b ≡ true
unfolding has_request
wanted_rest [] after k b other w =
    let e : (k == b) ≡ false = ne_eqb k b (λ s. other (sym s)) in
    rw e at w
wanted_rest (own ∷ before) after k b other w = go (own == b) w (wanted_rest before after k b other)
  where
    go : (x : Bool) → (x || has_request (before ++ (k ∷ after)) b) ≡ true → (has_request (before ++ (k ∷ after)) b ≡ true → has_request (before ++ after) b ≡ true) → (x || has_request (before ++ after) b) ≡ true
    go true w ih = refl
    go false w ih = ih w

cases : (m n : ℕ) → (m ≡ n) ⊎ (m ≢ n)
cases m n = grind arith

pub job_next : (h : Header) (place : Issued) (log : Log) (waiting later : List ℕ) (n : ℕ) → Works h place log → Queued place waiting later → (is_mrw place.command ≡ true → commands is_mrw log < 8) → Job h log waiting n → Job h (place ∷ log) later n
job_next h place log waiting later n w q writes j = record {
  work = (w, j.work);
  owes = λ b low own. owes (is_column place.command) refl (is_act place.command) refl b low own;
  offered = rw (one_more is_column place log) (offered (is_column place.command) refl);
  writes = rw (one_more is_mrw place log) (written (is_mrw place.command) refl);
  no_nop = (let e = q.no_nop in rw (one_more is_nop place log, e) j.no_nop);
  some_raaimt = j.some_raaimt;
}
  where
    offered : (x : Bool) → is_column place.command ≡ x → cond x (suc (commands is_column log)) (commands is_column log) + length later ≤ n
    offered true e =
        let p = q.column e in
        let a : length waiting ≡ length (p.1 ++ (p.0 ∷ p.2)) = ap (λ (l : List ℕ). length l) p.3 in
        let b : length later ≡ length (p.1 ++ p.2) = ap (λ (l : List ℕ). length l) p.4 in
        let c = length-append p.1 (p.0 ∷ p.2) in
        let d = length-append p.1 p.2 in
        let f = j.offered in
        omega arith
    offered false e =
        let b : length later ≡ length waiting = ap (λ (l : List ℕ). length l) (q.other e) in
        let f = j.offered in
        omega arith

    written : (x : Bool) → is_mrw place.command ≡ x → cond x (suc (commands is_mrw log)) (commands is_mrw log) ≤ 8
    written true e = let k = writes e in omega arith
    written false e = j.writes

    owes : (x : Bool) → is_column place.command ≡ x → (y : Bool) → is_act place.command ≡ y → (b : ℕ) → b < 32 → owed b (place ∷ log) ≡ true → has_request later b ≡ true
    owes true e y f b low own =
        let p = q.column e in
        let old = owed_before b place log (column_other place.command e) own in
        let want : has_request (p.1 ++ (p.0 ∷ p.2)) b ≡ true = ap (λ (l : List ℕ). has_request l b) (sym p.3) ∙ j.owes b low old in
        let other : b ≢ p.0 = λ same. paid b p.0 same p.5 e own in
        ap (λ (l : List ℕ). has_request l b) p.4 ∙ wanted_rest p.1 p.2 p.0 b other want
      where
        paid : (b k : ℕ) → b ≡ k → covers place.command k ≡ true → is_column place.command ≡ true → owed b (place ∷ log) ≡ true → ⊥
        paid b k same cover column own =
            let c : covers place.command b ≡ true = ap (λ (i : ℕ). covers place.command i) same ∙ cover in
            let none = column_pays b place log column c in
            cc
    owes false e true f b low own =
        let p = act_case place.command f in
        let keep = q.other e in
        let want = q.act p.0 p.1 p.2 in
        let all : has_request waiting b ≡ true = go p want (cases b (bank_number p.0)) in
        ap (λ (l : List ℕ). has_request l b) keep ∙ all
      where
        go : (p : (bank : Bank) × (row : ℕ) × (place.command ≡ Act bank row)) → has_request waiting (bank_number p.0) ≡ true → (b ≡ bank_number p.0) ⊎ (b ≢ bank_number p.0) → has_request waiting b ≡ true
        go p want (inl same) = ap (λ (i : ℕ). has_request waiting i) same ∙ want
        go p want (inr other) =
            let leaves : effect b place.command ≡ Leaves = ap (λ (c : Command). effect b c) p.2 ∙ opens_other b p.0 p.1 other in
            j.owes b low (before leaves)
          where
            before : effect b place.command ≡ Leaves → owed b log ≡ true
            before leaves = let k : owed_after Leaves (is_column place.command && covers place.command b) (owed b log) ≡ true = rw leaves at own in rw e at k
    owes false e false f b low own =
        let keep = q.other e in
        ap (λ (l : List ℕ). has_request l b) keep ∙ j.owes b low (owed_before b place log f own)
