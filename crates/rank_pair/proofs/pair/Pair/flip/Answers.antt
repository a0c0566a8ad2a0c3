use Rattle.std.proofs.Common.{◌+◌, ◌<◌, [], ◌∷◌, ◌++◌, length, subst, sym}
use Rattle.std.specs.List.{flat_map}
use Rattle.command_words.specs.Geometry.{Shape, lines_of}
use Rattle.pair_deadlines.specs.Keeping.{Resting}
use Rattle.speed_bin.specs.Header.{shape_of}
use Rattle.rank_pair.specs.Accessing.{IsThere}
use Rattle.rank_pair.specs.Job.{IsPairTrace}
use Rattle.rank_pair.specs.Under.{IsCut}
use Rattle.ddr_text.proofs.Prefixes.{if_err-to, no-prefix, on_ok-to}
use Rattle.pair_reports.specs.Lines.{only}
use Rattle.pair_reports.specs.Report.{latest_of, spelled_for}
use Rattle.pair_reports.specs.Runs.{run_of}
use Rattle.pair_reports.specs.declared.rank_line.RankLine.{RankLine}
use Rattle.rank_pair.specs.Pairs.{end_in}
use Rattle.rank_pair.proofs.FlipLines.{flip_cut, flip_inside, flip_line, flip_text_cut, flip_written, may_turn, turns}
use Rattle.rank_pair.proofs.pair.Pair.flip.Goals as goal

pub map_line-requires : goal.map_line-requires
map_line-requires g c =
    let m = c.requires in
    subst (λ (s : Shape). c.args.line < lines_of s) (sym m.there.under.under.on_bus.stands.geometry) (flip_inside m.h m.front c.args.rank c.args.line c.args.device c.args.bit m.traced)

pub turn-requires : goal.turn-requires
turn-requires g c =
    let m = c.requires in (
      m.h,
      only c.args.rank (m.front ++ flip_line c.args.rank c.args.line c.args.device c.args.bit ∷ []),
      run_of c.args.rank m.there.under.run,
      length m.front + 1,
      c.args.line,
      may_turn c.args.self.now m.h m.front c.args.rank c.args.line c.args.device c.args.bit c.map_line.result m.before (g.K.Sink.written c.args.sink.now) m.there m.traced c.map_line.ensures.place,
    )

pub returns-in-Ok-clause-flipped : goal.returns-in-Ok-clause-flipped
returns-in-Ok-clause-flipped g c =
    let w = g.K.Sink.written c.args.sink.now in
    let v = g.K.Sink.written c.put_for.new.sink in
    on_ok-to c.put_for.result _ _ (λ wrote. λ h front it before t is traced.
    let within = subst (λ (x : RankLine). IsPairTrace (shape_of h) (front ++ x ∷ [])) is traced in
    let may = may_turn c.args.self.now h front c.args.rank c.args.line c.args.device c.args.bit c.map_line.result before w t within c.map_line.ensures.place in
    let own = c.in-Ok.ensures.turned h (only c.args.rank (front ++ flip_line c.args.rank c.args.line c.args.device c.args.bit ∷ [])) (run_of c.args.rank t.under.run) (length front + 1) c.args.line may in
    subst (λ (x : RankLine). IsThere c.turn.new.self h (front ++ x ∷ []) Resting before v) (sym is)
    (flip_written c.args.self.now c.turn.new.self h front c.args.rank c.args.line c.args.device c.args.bit c.last_clock.result before w v t within c.turn.ensures.rest own c.last_clock.ensures wrote)) c.put_for.ensures.whole

pub returns-in-Ok-clause-begins_a_report : goal.returns-in-Ok-clause-begins_a_report
returns-in-Ok-clause-begins_a_report g c =
    let w = g.K.Sink.written c.args.sink.now in
    let v = g.K.Sink.written c.put_for.new.sink in
    if_err-to c.put_for.result _ _ (λ cut. λ h front it before t is traced.
    let within = subst (λ (x : RankLine). IsPairTrace (shape_of h) (front ++ x ∷ [])) is traced in
    let may = may_turn c.args.self.now h front c.args.rank c.args.line c.args.device c.args.bit c.map_line.result before w t within c.map_line.ensures.place in
    let own = c.in-Ok.ensures.turned h (only c.args.rank (front ++ flip_line c.args.rank c.args.line c.args.device c.args.bit ∷ [])) (run_of c.args.rank t.under.run) (length front + 1) c.args.line may in
    subst (λ (x : RankLine). IsCut h (front ++ x ∷ []) before v) (sym is)
    (flip_cut c.args.self.now h front c.args.rank c.args.line c.args.device c.args.bit before w v t
    (flip_text_cut h front c.args.rank c.args.line c.args.device c.args.bit c.last_clock.result t.under.run (end_in c.args.rank c.turn.new.self) w v own c.last_clock.ensures cut))) c.put_for.ensures.writes_a_prefix

pub returns-in-Err-clause-begins_a_report : goal.returns-in-Err-clause-begins_a_report
returns-in-Err-clause-begins_a_report g c = λ h front it before t is traced.
    let w = g.K.Sink.written c.args.sink.now in
    subst (λ (x : RankLine). IsCut h (front ++ x ∷ []) before w) (sym is)
    (flip_cut c.args.self.now h front c.args.rank c.args.line c.args.device c.args.bit before w w t
    (no-prefix w (flat_map spelled_for (latest_of h (front ++ flip_line c.args.rank c.args.line c.args.device c.args.bit ∷ []) t.under.run (turns c.args.rank (length front + 1))))))
