use Rattle.std.proofs.Common.{◌≡◌, ◌<◌, List, Option, ℕ, ap, subst, sym}
use Rattle.std.specs.Io.KnownBytes.{Appends}
use Rattle.speed_bin.specs.declared.header.Header.{Header}
use Rattle.ddr_io.specs.Sink.{AppendsPrefix}
use Rattle.ddr_text.specs.Spelling.{spelled}
use Rattle.ddr_text.specs.declared.lines.ReportLine.TheVariants.{Flip as FlipLine}
use Rattle.trace_replay.specs.Coupled.{header_of}
use Rattle.trace_replay.specs.ReplayState.{IsUnder, IsAtRest, IsBegun, left_of}
use Rattle.trace_replay.specs.declared.replay_state.ReplayState.{ReplayState}
use Rattle.trace_replay.proofs.Fronts.{begun-of}
use Rattle.ddr_text.proofs.Prefixes.{on_ok-to, if_err-to}
use Rattle.trace_replay.proofs.Passed.{FlipLaws, flip-bit, flip-under, flip-begun, flip-more, left-taken}
use Rattle.trace_replay.proofs.replay_state.ReplayState.flip.Given as given
use Rattle.trace_replay.proofs.replay_state.ReplayState.flip.Goals as goal

laws_in : (g : given.Over) → goal.After-put_line g → FlipLaws
laws_in g c = record {
  kept = c.carries_out_a_flip.ensures.stays_underway;
  offers = c.carries_out_a_flip.ensures.offered;
  lines = c.carries_out_a_flip.ensures.lines;
  idle = c.carries_out_a_flip.ensures.idle;
  inside = c.takes_a_request.ensures.inside;
  steps = c.gives_to_a_controller.ensures.same_in_a_longer_trace;
  device = c.rests_on_the_lines_so_far.ensures.device;
  report_is = c.rests_on_the_lines_so_far.ensures.report;
  parts = c.takes_from_the_held.ensures.parts;
  none_held = c.gives_to_a_controller.ensures.none;
  turns = c.gives_to_a_device.ensures.turns;
}

pub flip-requires : goal.flip-requires
flip-requires g c =
    let r = c.requires.rests in
    let k = r.3.holds in
    flip-bit r.0 c.args.self.now r.1 r.2 (header_of c.args.self.now.coupled) c.map_line.result c.args.line c.args.device c.args.bit
    (c.agrees.ensures.header c.args.self.now.coupled r.0 _ _ k.both.steps k.both.stands) c.requires.ahead c.map_line.ensures.inside k.follows

pub returns-in-Ok-clause-under : goal.returns-in-Ok-clause-under
returns-in-Ok-clause-under g c =
    let old = g.K.Sink.written c.args.sink.now in
    let new = g.K.Sink.written c.put_line.new.sink in
    let last : c.take_line.new.self.last ≡ c.args.self.now.last = ap (λ (q : ReplayState). q.last) c.take_line.ensures in
    on_ok-to c.put_line.result
    (Appends old new (spelled (FlipLine c.take_line.new.self.last c.args.line c.args.device c.args.bit)))
    ((h : Header) (start left before : Option (List ℕ)) → IsAtRest h c.args.self.now start left before old → IsUnder h c.take_line.new.self start left before new)
    (λ w. λ h start left before a. subst (λ (q : ReplayState). IsUnder h q start left before new) (sym c.take_line.ensures)
    (flip-under (laws_in g c) h c.args.self.now c.flip.new.self c.map_line.result c.args.line c.args.device c.args.bit start left before old new
    c.requires.ahead c.map_line.ensures.place (c.in-Ok.ensures.stands h) c.in-Ok.ensures.pending c.in-Ok.ensures.from c.in-Ok.ensures.finished
    (subst (λ n. Appends old new (spelled (FlipLine n c.args.line c.args.device c.args.bit))) last w) a))
    c.put_line.ensures.whole

pub returns-in-Ok-clause-begins_a_report : goal.returns-in-Ok-clause-begins_a_report
returns-in-Ok-clause-begins_a_report g c =
    let old = g.K.Sink.written c.args.sink.now in
    let new = g.K.Sink.written c.put_line.new.sink in
    let last : c.take_line.new.self.last ≡ c.args.self.now.last = ap (λ (q : ReplayState). q.last) c.take_line.ensures in
    if_err-to c.put_line.result
    (AppendsPrefix old new (spelled (FlipLine c.take_line.new.self.last c.args.line c.args.device c.args.bit)))
    ((h : Header) (start left before : Option (List ℕ)) → IsAtRest h c.args.self.now start left before old → IsBegun h start before new)
    (λ w. λ h start left before a. flip-begun (laws_in g c) h c.args.self.now c.args.line c.args.device c.args.bit start left before old new c.requires.ahead
    (subst (λ n. AppendsPrefix old new (spelled (FlipLine n c.args.line c.args.device c.args.bit))) last w) a)
    c.put_line.ensures.writes_a_prefix

pub returns-in-Ok-clause-fewer : goal.returns-in-Ok-clause-fewer
returns-in-Ok-clause-fewer g c =
    let r = c.requires.rests in
    let more = flip-more r.0 c.args.self.now r.1 r.2 c.args.line c.args.device c.args.bit c.requires.ahead r.3.holds.follows in
    let fewer = left-taken c.args.self.now c.take_line.new.self (ap (λ (q : ReplayState). q.tally.lines) c.take_line.ensures) (ap (λ (q : ReplayState). q.commands) c.take_line.ensures) more.few in
    on_ok-to c.put_line.result _ (left_of c.take_line.new.self < left_of c.args.self.now) (λ w. fewer) c.put_line.ensures.whole

pub returns-in-Err-clause-begins_a_report : goal.returns-in-Err-clause-begins_a_report
returns-in-Err-clause-begins_a_report g c = λ h start left before a. begun-of h c.args.self.now start left before (g.K.Sink.written c.args.sink.now) a.under
