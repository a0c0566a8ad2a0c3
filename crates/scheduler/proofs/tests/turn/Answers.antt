use Rattle.std.proofs.Common.{arith}
use Rattle.requests.specs.Queue.{places}
use Rattle.scheduler.proofs.Taken.{taken_after, not_raised}
use Rattle.scheduler.proofs.tests.turn.Goals as goal

pub returns-clause-taken : goal.returns-clause-taken
returns-clause-taken c =
    let r = c.requires.taken in
    let few = c.requires.few in
    let h = c.args.header.now in
    let calm = c.unraised.ensures.raises_no_alert h c.args.controller.now r.0 r.1 r.2 r.3 (let le = r.4 in omega (arith, le, few)) in
    taken_after c.next.result _ _ _ h c.next.new.self r.0 r.1 r.2 c.args.taken (c.next.ensures.after h r.0 r.1 r.2 r.3 (not_raised h (places r.2) calm)) r.4

pub next-requires-clause-told : goal.next-requires-clause-told
next-requires-clause-told c =
    let r = c.requires.taken in
    let few = c.requires.few in
    let h = c.args.header.now in
    let calm = c.unraised.ensures.raises_no_alert h c.args.controller.now r.0 r.1 r.2 r.3 (let le = r.4 in omega (arith, le, few)) in
    ∣ (h, r.0, r.1, r.2, r.3, not_raised h (places r.2) calm) ∣₁
