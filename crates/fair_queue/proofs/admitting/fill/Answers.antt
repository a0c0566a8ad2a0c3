use Rattle.std.proofs.Common.{◌∙◌, refl, sym}
use Rattle.fair_queue.specs.Reading.{unread}
use Rattle.fair_queue.proofs.Filling.{continues-first, continues-look, continues-push, ends-taken, fewer, fills-stopped, kept-push, steady-look, steady-push, stops-full, stops-none}
use Rattle.fair_queue.proofs.admitting.fill.Goals as goal

pub filling-init : goal.filling-init
filling-init g c = record {
  going = continues-first c.args.queues.now c.args.lines.now (unread c.args.lines.now (g.S.Source.left c.args.source.now));
  ended = λ e. e;
  queues = record { four = c.requires; turn = refl };
  steady = refl;
  kept = refl;
}

pub filling-smaller : goal.filling-smaller
filling-smaller g c = fewer c.filling.lines c.look.new.self c.take.new.self c.in-Some.port c.in_ok-look.ensures.steady c.in_ok-look.ensures.few c.in-Some.ensures.port c.take.ensures.place

pub filling-preserved : goal.filling-preserved
filling-preserved g c =
    let i = c.filling.invariant in
    let start = unread c.args.lines.now (g.S.Source.left c.args.source.now) in
    let mid = unread c.look.new.self (g.S.Source.left c.look.new.source) in
    let looked = continues-look c.args.queues.now c.args.lines.now start c.filling.queues c.filling.lines c.look.new.self
    (unread c.filling.lines (g.S.Source.left c.filling.source)) mid i.going c.in_ok-look.ensures.same in
    record {
      going = continues-push c.args.queues.now c.args.lines.now start c.filling.queues c.look.new.self (g.S.Source.left c.look.new.source) c.in-Some.port c.take.result c.push.new.self c.take.new.self
          looked c.in-Some.ensures.port (sym c.has_room.ensures ∙ c.if-not-has_room.false) c.take.ensures.rest c.push.ensures c.take.ensures.place;
      ended = λ e. ends-taken start c.look.new.self c.take.new.self (unread c.take.new.self (g.S.Source.left c.look.new.source)) c.take.ensures.place;
      queues = kept-push c.args.queues.now c.filling.queues c.in-Some.port c.take.result c.push.new.self i.queues c.push.ensures;
      steady = steady-push c.args.queues.now c.args.lines.now c.filling.queues c.look.new.self c.in-Some.port c.take.result c.push.new.self c.take.new.self
          (steady-look c.args.queues.now c.args.lines.now c.filling.queues c.filling.lines c.look.new.self i.steady c.in_ok-look.ensures.steady) c.in-Some.ensures.port c.in-Some.ensures.within i.queues.four c.push.ensures c.take.ensures.place;
      kept = c.in_ok-look.ensures.faults_kept ∙ i.kept;
    }

pub returns-then-not-has_room-clause-filled : goal.returns-then-not-has_room-clause-filled
returns-then-not-has_room-clause-filled g c =
    let start = unread c.args.lines.now (g.S.Source.left c.args.source.now) in
    let mid = unread c.look.new.self (g.S.Source.left c.look.new.source) in
    let looked = continues-look c.args.queues.now c.args.lines.now start c.filling.queues c.filling.lines c.look.new.self
    (unread c.filling.lines (g.S.Source.left c.filling.source)) mid c.filling.invariant.going c.in_ok-look.ensures.same in
    fills-stopped c.args.queues.now c.args.lines.now start c.filling.queues c.look.new.self mid looked
    (stops-full c.filling.queues c.look.new.self.ahead c.in-Some.port c.in-Some.ensures.port (sym c.has_room.ensures ∙ c.if-not-has_room.true))

pub returns-in-None-clause-filled : goal.returns-in-None-clause-filled
returns-in-None-clause-filled g c =
    let start = unread c.args.lines.now (g.S.Source.left c.args.source.now) in
    let mid = unread c.look.new.self (g.S.Source.left c.look.new.source) in
    let looked = continues-look c.args.queues.now c.args.lines.now start c.filling.queues c.filling.lines c.look.new.self
    (unread c.filling.lines (g.S.Source.left c.filling.source)) mid c.filling.invariant.going c.in_ok-look.ensures.same in
    fills-stopped c.args.queues.now c.args.lines.now start c.filling.queues c.look.new.self mid looked (stops-none c.filling.queues c.look.new.self.ahead c.in-None.ensures.port c.in_ok-look.ensures.known)
