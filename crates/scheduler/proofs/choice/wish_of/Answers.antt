use Rattle.std.proofs.Common.{◌≡◌, ◌∙◌, ◌≤◌, arith, ℕ, true, List, Option, Some, None, ap, sym, refl, subst, slice_get}
use Rattle.std.proofs.Math.Bridge.{le_prop}
use Rattle.std.proofs.Math.Logic.{∥∥₁_elim, ∥∥₁_map}
use Rattle.command_words.specs.Command.{bank_number}
use Rattle.speed_bin.specs.Log.{Log, open_at}
use Rattle.requests.specs.declared.waiting.Waiting.{Waiting}
use Rattle.requests.specs.Queue.{in_bank}
use Rattle.scheduler.specs.Board.{first_at}
use Rattle.scheduler.proofs.First.{found, bank_is}
use Rattle.scheduler.proofs.choice.wish_of.Goals as goal

pub returns-in-Some-hit-clause-inside : goal.returns-in-Some-hit-clause-inside
returns-in-Some-hit-clause-inside c = ∥∥₁_elim c.requires.board le_prop (λ r. (found _ c.args.queue.now _ (sym (r.3.hit _ c.requires.low) ∙ c.in-Some-hit.is)).inside)

pub waiting_at-requires-clause-inside : goal.waiting_at-requires-clause-inside
waiting_at-requires-clause-inside c = ∥∥₁_elim c.requires.board le_prop (λ r. (found _ c.args.queue.now _ (sym (r.3.oldest _ c.requires.low) ∙ c.in-Some.is)).inside)

pub returns-in-Some-open_row-clause-inside : goal.returns-in-Some-open_row-clause-inside
returns-in-Some-open_row-clause-inside c = ∥∥₁_elim c.requires.board le_prop (λ r. (found _ c.args.queue.now _ (sym (r.3.oldest _ c.requires.low) ∙ c.in-Some.is)).inside)

pub returns-in-None-clause-inside : goal.returns-in-None-clause-inside
returns-in-None-clause-inside c = ∥∥₁_elim c.requires.board le_prop (λ r. (found _ c.args.queue.now _ (sym (r.3.oldest _ c.requires.low) ∙ c.in-Some.is)).inside)

row_here : (log : Log) (ws : List Waiting) (b at : ℕ) (w : Waiting) (o : Option ℕ) → first_at (in_bank b) ws ≡ Some at → slice_get ws at ≡ Some w → o ≡ open_at (bank_number w.place.bank) log → o ≡ open_at b log
row_here log ws b at w o e f g =
    let h = found (in_bank b) ws at e in
    let k : h.request ≡ w = cc (h.here, f) in
    let m = bank_is b w (subst (λ (x : Waiting). in_bank b x ≡ true) k h.holds) in
    g ∙ ap (λ n. open_at n log) m

some_is : (o p : Option ℕ) (x : ℕ) → o ≡ p → o ≡ Some x → Rattle.std.specs.Option.IsSome p
some_is o (Some y) x e f = refl
some_is o None x e f = cc

none_of : (o : Option ℕ) → ((x : ℕ) → o ≡ Some x → ⊥) → o ≡ None
none_of None h = refl
none_of (Some x) h = absurd (h x refl)

pub returns-in-Some-open_row-clause-some : goal.returns-in-Some-open_row-clause-some
returns-in-Some-open_row-clause-some c = λ h log s r.
    let e = sym (r.oldest c.args.number c.requires.low) ∙ c.in-Some.is in (
      some_is _ _ _ (row_here log c.args.queue.now c.args.number c.in-Some.at c.waiting_at.result c.open_row.result e c.waiting_at.ensures (c.open_row.ensures h log s.stands)) c.in-Some-open_row.is,
      sym (r.hit c.args.number c.requires.low) ∙ none_of _ c.in_default-hit.not-Some,
      e,
    )

pub returns-in-None-clause-some : goal.returns-in-None-clause-some
returns-in-None-clause-some c = λ h log s r.
    let e = sym (r.oldest c.args.number c.requires.low) ∙ c.in-Some.is in
    (sym (row_here log c.args.queue.now c.args.number c.in-Some.at c.waiting_at.result c.open_row.result e c.waiting_at.ensures (c.open_row.ensures h log s.stands)) ∙ c.in-None.is, e)

none_held : (o : Option ℕ) → ∥ (o ≡ None) ∥₁ → o ≡ None
none_held None held = refl
none_held (Some x) held = let never : 1 ≤ 0 = ∥∥₁_elim held le_prop (λ e. cc) in absurd (omega (arith, never))

pub returns-in_default-clause-none : goal.returns-in_default-clause-none
returns-in_default-clause-none c = none_held _ (∥∥₁_map c.requires.board (λ r. sym (r.3.oldest c.args.number c.requires.low) ∙ none_of _ c.in_default.not-Some))
