use Rattle.std.proofs.Common.{◌≡◌, ◌∙◌, ℕ, List, Option, Ok, sym, ap, subst}
use Rattle.command_words.specs.declared.command.Command.{Command}
use Rattle.mode_registers.specs.Held.{written}
use Rattle.device_core.specs.Legal.{IsLegal}
use Rattle.device_core.proofs.ToldLemmas.{accepted_write, told_write, told_else, no_write}
use Rattle.device_core.proofs.device.tell.Goals as goal

pub returns-in-Mrw : goal.returns-in-Mrw
returns-in-Mrw c = λ h clock log same accepted legal.
    let here = subst (λ (command : Command). IsLegal h clock command log) c.in-Mrw.is legal in
    let ok : c.apply-outcome.result ≡ Ok tt = c.apply-outcome.ensures.outcome ∙ accepted_write c.give_back.ensures.accepted h clock c.in-Mrw.write log accepted here in
    let new : c.apply-outcome.new.self ≡ written c.args.registers.now c.in-Mrw.write = rw ok at c.apply-outcome.ensures.is_written in
    new ∙ ap (λ (held : List (Option ℕ)). written held c.in-Mrw.write) same ∙ sym (told_write h clock c.in-Mrw.write log here)

pub returns-in_default : goal.returns-in_default
returns-in_default c = λ h clock log same accepted legal. same ∙ sym (told_else h clock c.args.command.now log (no_write c.args.command.now c.in_default.not-Mrw) legal)
