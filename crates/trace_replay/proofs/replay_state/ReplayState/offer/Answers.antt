use Rattle.std.proofs.Common.{ℕ, List, true, false, [], ◌∷◌, ◌++◌, ◌∙◌, ◌<◌, ap, subst, sym, arith, ◌≡◌}
use Rattle.command_words.specs.Geometry.{lines_of}
use Rattle.speed_bin.specs.Header.{shape_of}
use Rattle.requests.specs.declared.request.Request.{Request as Asked}
use Rattle.trace_replay.specs.Coupled.{Step, StandsFor, header_of}
use Rattle.trace_replay.specs.ReplayState.{IsUnder, taken}
use Rattle.trace_replay.specs.declared.replay_state.ReplayState.{ReplayState}
use Rattle.trace_replay.proofs.Taken.{Laws, asked-inside, next-few, room, offered-one, requests-one}
use Rattle.trace_replay.proofs.replay_state.ReplayState.offer.Goals as goal

laws_in : goal.After-push-arg-1 → Laws
laws_in c = record {
  takes = c.takes_a_request.ensures.stays_underway;
  offers = c.takes_a_request.ensures.offered;
  helds = c.takes_a_request.ensures.held;
  idle = c.takes_a_request.ensures.idle;
  inside = c.takes_a_request.ensures.inside;
  steps = c.gives_to_a_controller.ensures.same_in_a_longer_trace;
  device = c.rests_on_the_lines_so_far.ensures.device;
  report_is = c.rests_on_the_lines_so_far.ensures.report;
  parts = c.takes_from_the_held.ensures.parts;
  alike = c.gives_to_a_controller.ensures.served;
  ranked = c.gives_to_a_controller.ensures.rank;
  none_held = c.gives_to_a_controller.ensures.none;
  oldest = c.oldest_unserved.ensures.before;
  agrees = c.agrees.ensures.controller;
  known = c.in_order.ensures.known;
  within_is = c.bounds.ensures.within;
}

laws_after : goal.After-take_line → Laws
laws_after c = record {
  takes = c.takes_a_request.ensures.stays_underway;
  offers = c.takes_a_request.ensures.offered;
  helds = c.takes_a_request.ensures.held;
  idle = c.takes_a_request.ensures.idle;
  inside = c.takes_a_request.ensures.inside;
  steps = c.gives_to_a_controller.ensures.same_in_a_longer_trace;
  device = c.rests_on_the_lines_so_far.ensures.device;
  report_is = c.rests_on_the_lines_so_far.ensures.report;
  parts = c.takes_from_the_held.ensures.parts;
  alike = c.gives_to_a_controller.ensures.served;
  ranked = c.gives_to_a_controller.ensures.rank;
  none_held = c.gives_to_a_controller.ensures.none;
  oldest = c.oldest_unserved.ensures.before;
  agrees = c.agrees.ensures.controller;
  known = c.in_order.ensures.known;
  within_is = c.bounds.ensures.within;
}

pub offer-requires-clause-inside : goal.offer-requires-clause-inside
offer-requires-clause-inside c =
    let r = c.requires.holds in
    let own = header_of c.args.self.now.coupled in
    subst (λ (q : Asked). q.line < lines_of (shape_of own)) (sym c.again.ensures)
    (asked-inside r.0 c.args.self.now r.1 r.2 own c.args.request c.args.bytes (c.agrees.ensures.header c.args.self.now.coupled r.0 _ _ r.3.both.steps r.3.both.stands) r.3 c.requires.asked)

pub push-requires-clause-room : goal.push-requires-clause-room
push-requires-clause-room c =
    let k = c.requires.holds.3 in
    room (laws_in c) c.requires.holds.0 c.args.self.now c.requires.holds.1 c.requires.holds.2 k (λ full. let e : false ≡ true = (c.in-Ok.ensures.full c.requires.holds.0 _ _ _ k.both.stands).1 full in cc)

pub push-requires-clause-few : goal.push-requires-clause-few
push-requires-clause-few c = let k = next-few c.takes_from_the_held.ensures.parts c.requires.holds.0 c.args.self.now c.requires.holds.1 c.requires.holds.2 c.requires.holds.3.follows in omega (arith, k)

pub returns-in-Ok-clause-under : goal.returns-in-Ok-clause-under
returns-in-Ok-clause-under c = λ h start left before written u.
    let stands : (offers : List Asked) (idle : ℕ) (steps : List Step) → StandsFor c.args.self.now.coupled h offers idle steps → StandsFor c.offer.new.self h (offers ++ c.args.request ∷ []) idle steps = λ offers idle steps s. subst (λ (r : Asked). StandsFor c.offer.new.self h (offers ++ r ∷ []) idle steps) c.again.ensures (c.in-Ok.ensures.stands h offers idle steps s) in
    subst (λ (q : ReplayState). IsUnder h q start left before written) (sym (c.take_line.ensures ∙ ap (λ k. taken (record c.args.self.now { coupled = c.offer.new.self; held = k }) 0) c.push.ensures))
    (offered-one (laws_after c) requests-one h c.args.self.now c.offer.new.self c.requires.asked.line c.args.request c.args.bytes start left before written c.requires.asked.waits c.requires.asked.asks stands c.in-Ok.ensures.pending c.in-Ok.ensures.from c.in-Ok.ensures.finished u)

pub returns-in-Err-clause-under : goal.returns-in-Err-clause-under
returns-in-Err-clause-under c = λ h start left before written u. subst (λ k. IsUnder h (record c.args.self.now { coupled = k }) start left before written) (sym c.in-Err.ensures.unchanged) u
