use Rattle.std.proofs.Common.{◌≡◌, ◌∙◌, Option, Some, Err, rules, subst, sym}
use Rattle.ddr_c.specs.Effects.{ended, is_in_time}
use Rattle.ddr_c.specs.Standing.{SessionFor}
use Rattle.ddr_c.specs.declared.session.Session.{Session}
use Rattle.ddr_c.proofs.Sitting.{ends_refused, same_session, sits_refused}
use Rattle.ddr_c.proofs.exports.ddr_end.Goals as goal

pub returns-in-Err-clause-sits : goal.returns-in-Err-clause-sits
returns-in-Err-clause-sits c =
    sits_refused c.args.slot.now.kept.session c.put.new.self.kept.session c.deref_mut.result.now c.end.new.self c.in-Err.refusal (λ h steps stage. ended (is_in_time c.args.clock) h steps stage c.args.clock)
    c.requires (search rules) (search rules) c.in-Err.ensures

pub returns-in-Err-clause-ends : goal.returns-in-Err-clause-ends
returns-in-Err-clause-ends c = λ it h steps stage same keeps.
    let held : c.args.slot.now.kept.session ≡ Some c.deref_mut.result.now = search rules in
    let own = subst (λ (s : Session). SessionFor s h steps stage) (same_session it c.deref_mut.result.now (sym same ∙ held)) keeps in
    (Err c.in-Err.refusal, search rules, ends_refused (ended (is_in_time c.args.clock) h steps stage c.args.clock) h steps stage c.put.new.self.kept.session c.end.new.self c.in-Err.refusal (search rules) (c.in-Err.ensures h steps stage own))
