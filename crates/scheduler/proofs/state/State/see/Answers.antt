use Rattle.std.proofs.Common.{◌∙◌, sym, arith}
use Rattle.std.proofs.Math.Bridge.{le_prop}
use Rattle.std.proofs.Math.Logic.{∥∥₁_elim}
use Rattle.speed_bin.specs.Alert.{alert}
use Rattle.requests.specs.Queue.{places}
use Rattle.scheduler.specs.Controller.{StandsFor}
use Rattle.scheduler.proofs.Starting.{awake_raised, awake_of, some_before}
use Rattle.scheduler.proofs.state.State.see.Goals as goal

pub overflow_sub-self : goal.overflow_sub-self
unfolding StandsFor
overflow_sub-self c =
    ∥∥₁_elim c.requires le_prop
    (λ r. let before = some_before c.args.self.now r.0 r.1 r.2 r.3 r.4 (sym r.5 ∙ c.if-alert.true) in omega (arith, before))

pub after_precharge-requires : goal.after_precharge-requires
unfolding StandsFor
after_precharge-requires c =
    ∥∥₁_elim c.requires le_prop
    (λ r. let near = r.4.near in omega (arith, near))

pub returns-then-alert-clause-awake : goal.returns-then-alert-clause-awake
returns-then-alert-clause-awake c = λ h offered idle log s e.
    let self = c.args.self.now in
    awake_of self h offered idle log c.after_precharge.new.self s (c.after_precharge.ensures.value ∙ awake_raised self.alert self.ledger.from (alert h (places log)) s.seen (sym e ∙ c.if-alert.true))
