use Rattle.std.proofs.Common.{◌≡◌, ◌∙◌, ◌+◌, ◌<◌, ◌≤◌, ◌^◌, [], ◌∷◌, ◌++◌, false, ap, arith, sym, subst, refl}
use Rattle.std.proofs.Math.Bridge.{le_prop}
use Rattle.std.proofs.Math.Logic.{∥∥₁_elim, ∥∥₁_map}
use Rattle.command_words.specs.Geometry.{Shape, lines_of}
use Rattle.speed_bin.specs.Header.{shape_of}
use Rattle.speed_bin.specs.declared.header.Header.{Header}
use Rattle.requests.specs.Queue.{waiting_as}
use Rattle.scheduler.specs.Controller.{BetweenTurns, StandsFor, finished_of, header_of}
use Rattle.scheduler.specs.declared.state.State.{State}
use Rattle.scheduler.proofs.Offered.{offered_more, few_offered}
use Rattle.scheduler.proofs.controller.Controller.offer.Goals as goal

pub overflow_add-self : goal.overflow_add-self
unfolding StandsFor
overflow_add-self c =
    let few : c.self.inside.state.offered ≤ 2 ^ 48 + 32 = ∥∥₁_elim c.self.invariant.1 le_prop (λ m. few_offered c.self.inside.state m.0 m.1 m.2 m.3 m.4) in
    omega (arith, few)

pub invariant_of-self : goal.invariant_of-self
unfolding StandsFor finished_of header_of
invariant_of-self c =
    let self = c.self.inside.state in
    let unfinished = subst (λ (x : State). x.finished ≡ false) (sym c.self.view_is) c.requires.unfinished in
    let inside = subst (λ (x : State). c.args.request.line < lines_of (shape_of x.header)) (sym c.self.view_is) c.requires.inside in (
      c.self.invariant.0,
      ∥∥₁_map c.self.invariant.1
          (λ m.
          let shape = c.geometry.ensures ∙ ap (λ (x : Header). shape_of x) m.4.header in (
            m.0,
            m.1 ++ c.args.request ∷ [],
            m.2,
            m.3,
            offered_more c.after_offer.ensures.requested c.after_excuse.ensures.requested c.offer.ensures.keeps self m.0 m.1 m.2 m.3 c.args.request c.new-waiting.result c.push.new.self (self.offered + 1) m.4 unfinished
                (subst (λ (x : Header). c.args.request.line < lines_of (shape_of x)) m.4.header inside)
                (λ full. let t = (c.is_full.ensures.full m.0 m.1 m.2 m.3 m.4).1 full in let e = c.if-is_full.false in cc) refl
                (c.new-waiting.ensures ∙ ap (λ (g : Shape). waiting_as g (self.offered + 1) c.args.request) shape) c.push.ensures.items,
          )),
    )

pub returns-clause-stands : goal.returns-clause-stands
unfolding StandsFor finished_of header_of
returns-clause-stands c = λ h offered idle log stands.
    let self = c.self.inside.state in
    let s = subst (λ (x : State). BetweenTurns h x offered idle log) (sym c.self.view_is) stands in
    let unfinished = subst (λ (x : State). x.finished ≡ false) (sym c.self.view_is) c.requires.unfinished in
    let inside = subst (λ (x : State). c.args.request.line < lines_of (shape_of x.header)) (sym c.self.view_is) c.requires.inside in
    let shape = c.geometry.ensures ∙ ap (λ (x : Header). shape_of x) s.header in
    offered_more c.after_offer.ensures.requested c.after_excuse.ensures.requested c.offer.ensures.keeps self h offered idle log c.args.request c.new-waiting.result c.push.new.self (self.offered + 1) s unfinished
    (subst (λ (x : Header). c.args.request.line < lines_of (shape_of x)) s.header inside)
    (λ full. let t = (c.is_full.ensures.full h offered idle log s).1 full in let e = c.if-is_full.false in cc) refl
    (c.new-waiting.ensures ∙ ap (λ (g : Shape). waiting_as g (self.offered + 1) c.args.request) shape) c.push.ensures.items
