use Rattle.std.proofs.Common.{◌<◌, ◌≡◌, false, sym, subst}
use Rattle.command_words.specs.Geometry.{lines_of}
use Rattle.speed_bin.specs.Header.{shape_of}
use Rattle.scheduler.specs.Controller.{header_of as controller_header, finished_of as controller_finished}
use Rattle.trace_replay.specs.Coupled.{controller_of}
use Rattle.trace_replay.specs.declared.ends.Ends.{Ends}
use Rattle.trace_replay.proofs.Agreeing.{offered_some}
use Rattle.trace_replay.proofs.coupled.Coupled.offer.Goals as goal

pub offer-requires-clause-unfinished : goal.offer-requires-clause-unfinished
unfolding controller_of
offer-requires-clause-unfinished c = subst (λ (x : Ends). controller_finished x.controller ≡ false) (sym c.self.view_is) c.requires.unfinished

pub offer-requires-clause-inside : goal.offer-requires-clause-inside
unfolding controller_of
offer-requires-clause-inside c = subst (λ (x : Ends). c.args.request.line < lines_of (shape_of (controller_header x.controller))) (sym c.self.view_is) c.requires.inside

pub invariant_of-self : goal.invariant_of-self
invariant_of-self c = offered_some c.offer.result c.self.inside.ends c.offer.new.self c.args.request c.offer.ensures.stands c.offer.ensures.unchanged c.self.invariant
