-- A trace has one run by the policy.
use Rattle.std.proofs.Common.{◌≡◌, ◌∙◌, ℕ, zero, suc, ◌+◌, ◌<◌, ◌≤◌, ◌⊎◌, inl, inr, List, [], ◌∷◌, ◌++◌, refl, sym, ap, subst, arith}
use Rattle.speed_bin.specs.declared.header.Header.{Header}
use Rattle.scheduler.specs.Policy.{Hidden}
use Rattle.scheduler.specs.declared.turn.Turn.TheVariants.{Done}
use Rattle.ddr_text.specs.declared.lines.TraceLine.{TraceLine}
use Rattle.reports.specs.Runs.{Run, Flips}
use Rattle.reports.specs.Underway.{issue}
use Rattle.scheduler.specs.Controller.{number_of}
use Rattle.policed_runs.specs.Progress.{Progress, lines_of, Turns, Goes, Offers, IssuesOne, Rests, TurnsBit, BeginsIdle, EndsIdle, EndsTrace, Reaches, IsByPolicy, EndsByPolicy}
use Rattle.policed_runs.proofs.OneStep.{OneAnswer, OneLeft, one_step, never_goes, hidden_is}

pub one_progress : OneAnswer → OneLeft → (steps : ℕ) (h : Header) (trace : List TraceLine) (p q : Progress) → Reaches steps h trace p → Reaches steps h trace q → p ≡ q
one_progress answer kept zero h trace p q x y = x ∙ sym y
one_progress answer kept (suc steps) h trace p q x y =
    let e = one_progress answer kept steps h trace x.0 y.0 x.1 y.1 in
    one_step answer kept h trace y.0 p q (subst (λ (b : Progress). Goes h trace b p) e x.2) y.2

-- a step leaves the run, or adds a place
record Grows (before after : Progress) : Type 0 where
  later : Run
  is : after.run ≡ later ++ before.run

grows : (h : Header) (trace : List TraceLine) (p q : Progress) → Goes h trace p q → Grows p q
grows h trace p q (Offers l ph at req room e) = record { later = []; is = ap (λ (x : Progress). x.run) e }
grows h trace p q (IssuesOne c k id n may turn e) = record { later = issue (lines_of trace p) c k (number_of id) ∷ []; is = ap (λ (x : Progress). x.run) e }
grows h trace p q (Rests n may turn e) = record { later = []; is = ap (λ (x : Progress). x.run) e }
grows h trace p q (TurnsBit l d b ph at e) = record { later = Flips (suc p.taken) ∷ []; is = ap (λ (x : Progress). x.run) e }
grows h trace p q (BeginsIdle c ph ps at e) = record { later = []; is = ap (λ (x : Progress). x.run) e }
grows h trace p q (EndsIdle c ph ps at e) = record { later = []; is = ap (λ (x : Progress). x.run) e }
grows h trace p q (EndsTrace ph at e) = record { later = []; is = ap (λ (x : Progress). x.run) e }

append_three : (xs ys zs : Run) → xs ++ (ys ++ zs) ≡ (xs ++ ys) ++ zs
append_three [] ys zs = refl
append_three (x ∷ xs) ys zs = ap (λ l. x ∷ l) (append_three xs ys zs)

-- what was reached goes through all that was reached in fewer steps
record Through (fewer : ℕ) (h : Header) (trace : List TraceLine) (q : Progress) : Type 0 where
  progress : Progress
  reached : Reaches fewer h trace progress
  later : Run
  is : q.run ≡ later ++ progress.run

through : (more fewer steps : ℕ) (h : Header) (trace : List TraceLine) (q : Progress) → steps ≡ more + fewer → Reaches steps h trace q → Through fewer h trace q
through zero fewer steps h trace q e r = let f : steps ≡ fewer = omega (arith, e) in record { progress = q; reached = subst (λ n. Reaches n h trace q) f r; later = []; is = refl }
through (suc more) fewer zero h trace q e r = absurd (omega (arith, e))
through (suc more) fewer (suc steps) h trace q e r =
    let k = through more fewer steps h trace r.0 (omega (arith, e)) r.1 in
    let g = grows h trace r.0 q r.2 in
    record { progress = k.progress; reached = k.reached; later = g.later ++ k.later; is = g.is ∙ ap (λ l. g.later ++ l) k.is ∙ append_three g.later k.later k.progress.run }

-- and takes a step from there, where they are fewer
record Leaves (fewer : ℕ) (h : Header) (trace : List TraceLine) : Type 0 where
  progress : Progress
  reached : Reaches fewer h trace progress
  after : Progress
  goes : Goes h trace progress after

leaves : (more fewer steps : ℕ) (h : Header) (trace : List TraceLine) (q : Progress) → steps ≡ suc more + fewer → Reaches steps h trace q → Leaves fewer h trace
leaves more fewer zero h trace q e r = absurd (omega (arith, e))
leaves zero fewer (suc steps) h trace q e r = let f : steps ≡ fewer = omega (arith, e) in record { progress = r.0; reached = subst (λ n. Reaches n h trace r.0) f r.1; after = q; goes = r.2 }
leaves (suc more) fewer (suc steps) h trace q e r = leaves more fewer steps h trace r.0 (omega (arith, e)) r.1

-- ---- The end

-- nothing is reached in more steps than the end
record Split (a b : ℕ) : Type 0 where
  more : ℕ
  is : a ≡ more + b

split : (a b : ℕ) → b ≤ a → Split a b
split a zero le = record { more = a; is = omega arith }
split zero (suc b) le = absurd (omega (arith, le))
split (suc a) (suc b) le = let k = split a b (omega (arith, le)) in let e = k.is in record { more = k.more; is = omega (arith, e) }

le_or_gt : (a b : ℕ) → (a ≤ b) ⊎ (b < a)
le_or_gt a b = grind arith

pub none_after : OneAnswer → OneLeft → (h : Header) (trace : List TraceLine) (run : Run) (clock : ℕ) (end : EndsByPolicy h trace run clock) (steps : ℕ) (p : Progress) → Reaches steps h trace p → steps ≤ end.so_far.steps
none_after answer kept h trace run clock end steps p r = go (le_or_gt steps end.so_far.steps)
  where
    go : (steps ≤ end.so_far.steps) ⊎ (end.so_far.steps < steps) → steps ≤ end.so_far.steps
    go (inl le) = le
    go (inr gt) =
        let k = split steps (suc end.so_far.steps) gt in
        let e = k.is in
        let l = leaves k.more end.so_far.steps steps h trace p (omega (arith, e)) r in
        let f = one_progress answer kept end.so_far.steps h trace l.progress end.so_far.progress l.reached end.so_far.reached in
        absurd (never_goes answer h trace end.so_far.progress l.after end.next end.may_turn end.is_done (subst (λ (x : Progress). Goes h trace x l.after) f l.goes))

pub goes_on : OneAnswer → OneLeft → (h : Header) (trace : List TraceLine) (run whole : Run) (clock : ℕ) → IsByPolicy h trace run → EndsByPolicy h trace whole clock → (later : Run) × (whole ≡ later ++ run)
goes_on answer kept h trace run whole clock x end =
    let le = none_after answer kept h trace whole clock end x.steps x.progress x.reached in
    let k = split end.so_far.steps x.steps le in
    let t = through k.more x.steps end.so_far.steps h trace end.so_far.progress k.is end.so_far.reached in
    let e = one_progress answer kept x.steps h trace t.progress x.progress t.reached x.reached in
    (t.later, sym end.so_far.is_run ∙ t.is ∙ ap (λ (y : Progress). t.later ++ y.run) e ∙ ap (λ (l : Run). t.later ++ l) x.is_run)

pub record Same (run other : Run) (clock end : ℕ) : Type 0 where
  pub runs : run ≡ other
  pub clocks : clock ≡ end

pub one_run : OneAnswer → OneLeft → (h : Header) (trace : List TraceLine) (run other : Run) (clock end : ℕ) → EndsByPolicy h trace run clock → EndsByPolicy h trace other end → Same run other clock end
one_run answer kept h trace run other clock end x y =
    let a = none_after answer kept h trace run clock x y.so_far.steps y.so_far.progress y.so_far.reached in
    let b = none_after answer kept h trace other end y x.so_far.steps x.so_far.progress x.so_far.reached in
    let n : x.so_far.steps ≡ y.so_far.steps = omega (arith, a, b) in
    let e = one_progress answer kept y.so_far.steps h trace x.so_far.progress y.so_far.progress (subst (λ (k : ℕ). Reaches k h trace x.so_far.progress) n x.so_far.reached) y.so_far.reached in
    let f = hidden_is kept h trace y.so_far.progress Done Done x.next y.next (subst (λ (p : Progress). Turns h trace p Done x.next) e x.is_done) y.is_done in record {
      runs = sym x.so_far.is_run ∙ ap (λ (p : Progress). p.run) e ∙ y.so_far.is_run;
      clocks = sym x.at_clock ∙ ap (λ (s : Hidden). s.from) f ∙ y.at_clock;
    }
