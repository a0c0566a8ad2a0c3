use Rattle.std.proofs.Common.{ℕ, Option, ◌∷◌, sym, ap, subst}
use Rattle.command_words.specs.declared.command.Command.{Command}
use Rattle.backoff.specs.Standing.{StandsFor as AlertFor}
use Rattle.row_activity.specs.Standing.{StandsFor}
use Rattle.row_activity.specs.declared.activity.Activity.{Activity}
use Rattle.row_activity.proofs.BankLemmas.{is_the_rfm_all, rfm_is_no_precharge}
use Rattle.row_activity.proofs.activity.Activity.manage.Goals as goal

pub returns-then-is_rfm_all-clause-tracks : goal.returns-then-is_rfm_all-clause-tracks
unfolding StandsFor
returns-then-is_rfm_all-clause-tracks c = λ h log stands rows here same rfm.
    let before = subst (λ (a : Option ℕ). AlertFor a h log) (sym (ap (λ (it : Activity). it.alert) c.follow.ensures.rest)) stands.alert in
    record {
      counts = c.follow.ensures.follows h log stands rows here same;
      alert = subst (λ (command : Command). AlertFor c.after_rfm_all.new.self h (record { clock = c.args.clock; command = command } ∷ log)) (sym (is_the_rfm_all c.args.command.now (sym c.if-is_rfm_all.ensures))) (c.after_rfm_all.ensures.log h c.args.clock log before);
    }

pub returns-else-is_rfm_all-clause-tracks : goal.returns-else-is_rfm_all-clause-tracks
unfolding StandsFor
returns-else-is_rfm_all-clause-tracks c = λ h log stands rows here same rfm.
    let before = subst (λ (a : Option ℕ). AlertFor a h log) (sym (ap (λ (it : Activity). it.alert) c.follow.ensures.rest)) stands.alert in
    record {
      counts = c.follow.ensures.follows h log stands rows here same;
      alert = c.stays.ensures.log c.follow.new.self.alert h c.args.clock c.args.command.now log before (rfm_is_no_precharge c.args.command.now rfm) (sym c.if-is_rfm_all.ensures);
    }
