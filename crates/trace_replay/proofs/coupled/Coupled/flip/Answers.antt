use Rattle.std.proofs.Common.{ℕ, List, ◌∷◌, OnErr, OnOk, sym, subst}
use Rattle.command_words.specs.Place.{IsInside}
use Rattle.speed_bin.specs.Header.{shape_of}
use Rattle.speed_bin.specs.declared.header.Header.{Header}
use Rattle.requests.specs.declared.request.Request.{Request}
use Rattle.scheduler.specs.Controller.{header_of as controller_header}
use Rattle.trace_replay.specs.Coupled.{Step, Flips, StandsFor, controller_of}
use Rattle.trace_replay.specs.declared.ends.Ends.{Ends}
use Rattle.trace_replay.proofs.Agreeing.{flipped, flipped_some, place_of_device, unchanged}
use Rattle.trace_replay.proofs.coupled.Coupled.flip.Goals as goal

pub flip-requires-clause-place : goal.flip-requires-clause-place
unfolding controller_of
flip-requires-clause-place c =
    let inside = subst (λ (x : Ends). IsInside c.args.place (shape_of (controller_header x.controller))) (sym c.self.view_is) c.requires.inside in
    place_of_device c.held.ensures.header c.list_is_legal.ensures.geometry c.self.inside.ends c.args.place inside c.self.invariant

pub flip-requires-clause-device : goal.flip-requires-clause-device
flip-requires-clause-device c = c.requires.of_four

pub flip-requires-clause-bit : goal.flip-requires-clause-bit
flip-requires-clause-bit c = c.requires.in_word

pub invariant_of-self : goal.invariant_of-self
invariant_of-self c =
    flipped_some c.flip.result c.unchanged_stands.ensures c.self.inside.ends c.flip.new.self c.args.place c.args.device c.args.bit c.flip.ensures.stands c.flip.ensures.unchanged c.self.invariant

pub returns-clause-stands : goal.returns-clause-stands
returns-clause-stands c =
    let self = c.self.inside.ends in
    subst (λ (x : Ends). OnOk c.flip.result ((h : Header) (offered : List Request) (idle : ℕ) (steps : List Step) → StandsFor x h offered idle steps
    → StandsFor (record { controller = self.controller; device = c.flip.new.self; pending = self.pending; alert = self.alert }) h offered idle (Flips c.args.place c.args.device c.args.bit ∷ steps))) c.self.view_is
    (flipped c.flip.result self c.flip.new.self c.args.place c.args.device c.args.bit c.flip.ensures.stands)

pub returns-clause-unchanged : goal.returns-clause-unchanged
returns-clause-unchanged c =
    let self = c.self.inside.ends in
    subst (λ (x : Ends). OnErr c.flip.result ((h : Header) (offered : List Request) (idle : ℕ) (steps : List Step) → StandsFor x h offered idle steps
    → StandsFor (record { controller = self.controller; device = c.flip.new.self; pending = self.pending; alert = self.alert }) h offered idle steps)) c.self.view_is
    (unchanged c.flip.result c.unchanged_stands.ensures self c.flip.new.self c.flip.ensures.unchanged)
