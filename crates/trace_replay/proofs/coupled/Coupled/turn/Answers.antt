use Rattle.std.proofs.Common.{◌≡◌, ◌<◌, ◌^◌, None, sym, subst}
use Rattle.std.proofs.Math.Logic.{∥∥₁_map}
use Rattle.scheduler.specs.Controller.{from_of as controller_from}
use Rattle.trace_replay.specs.Coupled.{After, controller_steps, StandsFor, controller_of, pending_of, from_of, until_of, finished_of}
use Rattle.trace_replay.specs.declared.ends.Ends.{Ends}
use Rattle.trace_replay.proofs.Agreeing.{Laws, after_turn, stands_after, told, unpended}
use Rattle.trace_replay.proofs.coupled.Coupled.turn.Goals as goal

pub next-turn-requires-clause-told : goal.next-turn-requires-clause-told
unfolding StandsFor pending_of
next-turn-requires-clause-told c =
    let self = c.self.inside.ends in
    let none = subst (λ (x : Ends). pending_of x ≡ None) (sym c.self.view_is) c.requires.pending in
    ∥∥₁_map c.self.invariant (λ m. (m.0, m.1, m.2, controller_steps m.3, unpended self m.0 m.1 m.2 m.3 none m.4, told self m.0 m.1 m.2 m.3 m.4))

pub next-turn-requires-clause-bound : goal.next-turn-requires-clause-bound
unfolding controller_of
next-turn-requires-clause-bound c = subst (λ (x : Ends). controller_from x.controller < 2 ^ 47) (sym c.self.view_is) c.requires.bound

pub returns-clause-after : goal.returns-clause-after
unfolding StandsFor controller_of pending_of
returns-clause-after c = λ h offered idle steps stands.
    let self = c.self.inside.ends in
    let s = subst (λ (x : Ends). StandsFor x h offered idle steps) (sym c.self.view_is) stands in
    let none = subst (λ (x : Ends). pending_of x ≡ None) (sym c.self.view_is) c.requires.pending in
    let laws : Laws = record { inside = c.inside.ensures.row; own = c.inside.ensures.bank; newest = c.passed.ensures.newest; near = c.passed.ensures.below_the_limit } in
    subst (λ (x : Ends). After c.next-turn.result (from_of x) (until_of x) (finished_of x) h
    (record { controller = c.next-turn.new.self; device = self.device; pending = c.pending_in-self-inside.result; alert = self.alert }) offered idle steps) c.self.view_is
    (after_turn c.next-turn.result _ _ _ h self c.next-turn.new.self c.pending_in-self-inside.result offered idle steps laws none s
    (c.next-turn.ensures.after h offered idle (controller_steps steps) (unpended self h offered idle steps none s) (told self h offered idle steps s))
    c.pending_in-self-inside.ensures)

pub invariant_of-self : goal.invariant_of-self
unfolding StandsFor pending_of
invariant_of-self c =
    let self = c.self.inside.ends in
    let none = subst (λ (x : Ends). pending_of x ≡ None) (sym c.self.view_is) c.requires.pending in
    let laws : Laws = record { inside = c.inside.ensures.row; own = c.inside.ensures.bank; newest = c.passed.ensures.newest; near = c.passed.ensures.below_the_limit } in
    ∥∥₁_map c.self.invariant (λ m. (
      m.0,
      m.1,
      m.2,
      m.3,
      stands_after c.next-turn.result _ _ _ m.0 (record { controller = c.next-turn.new.self; device = self.device; pending = c.pending_in-self-inside.result; alert = self.alert }) m.1 m.2 m.3
          (after_turn c.next-turn.result _ _ _ m.0 self c.next-turn.new.self c.pending_in-self-inside.result m.1 m.2 m.3 laws none m.4
          (c.next-turn.ensures.after m.0 m.1 m.2 (controller_steps m.3) (unpended self m.0 m.1 m.2 m.3 none m.4) (told self m.0 m.1 m.2 m.3 m.4))
          c.pending_in-self-inside.ensures),
    ))
