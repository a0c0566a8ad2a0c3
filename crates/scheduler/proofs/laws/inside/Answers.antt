use Rattle.std.proofs.Common.{◌≡◌, ℕ, suc, ◌<◌, Bool, true, false, Some, List, [], ◌∷◌, slice_get, sym, subst, cond}
use Rattle.requests.specs.Queue.{in_bank, oldest}
use Rattle.requests.specs.declared.waiting.Waiting.{Waiting}
use Rattle.scheduler.specs.Controller.{StandsFor, excused}
use Rattle.scheduler.proofs.laws.inside.Goals as goal

record At (ws : List Waiting) (w : Waiting) : Type 0 where
  index : ℕ
  here : slice_get ws index ≡ Some w

at_of : (test : Waiting → Bool) (ws : List Waiting) (w : Waiting) → oldest test ws ≡ Some w → At ws w
at_of test [] w e = cc
at_of test (v ∷ ws) w e = go (test v) e (λ f. at_of test ws w f)
  where
    go : (t : Bool) → cond t (Some v) (oldest test ws) ≡ Some w → (oldest test ws ≡ Some w → At ws w) → At (v ∷ ws) w
    go true f ih = record { index = 0; here = f }
    go false f ih = let k = ih f in record { index = suc k.index; here = k.here }

pub returns : goal.returns
unfolding StandsFor
returns c = record {
  row = λ h x offered idle log b row s own.
      let k = at_of (in_bank b) x.queue.items own.request (subst (λ ws. oldest (in_bank b) ws ≡ Some own.request) (sym s.requested.waits) own.oldest_of) in
      let i = c.queued.ensures.is_queued h offered log x.queue.items (excused x.task x.finished x.queue.items) k.index own.request s.requested k.here in
      subst (λ n. n < h.settings.rows) own.row_is i.inside.row;
  bank = λ h x offered idle log test w s is.
      let k = at_of test x.queue.items w (subst (λ ws. oldest test ws ≡ Some w) (sym s.requested.waits) is) in
      let i = c.queued.ensures.is_queued h offered log x.queue.items (excused x.task x.finished x.queue.items) k.index w s.requested k.here in
      i.own;
}
