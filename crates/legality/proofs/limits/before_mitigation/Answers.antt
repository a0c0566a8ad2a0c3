use Rattle.std.proofs.Common.{◌∙◌, ℕ, sym, ap}
use Rattle.command_words.specs.Kinds.{is_act}
use Rattle.legality.proofs.Spans.{calm_is, raised_is, wait_of}
use Rattle.legality.proofs.limits.before_mitigation.Goals as goal

pub returns-in-Some-clause-within : goal.returns-in-Some-clause-within
returns-in-Some-clause-within c = λ h log stands window deadline clock small.
    raised_is h clock c.args.command.now log c.in-Some.raised c.wait.result c.saturating_add.result c.ending.result
    (sym (c.raised.ensures.log h log stands) ∙ c.in-Some.is) small
    (c.wait.ensures ∙ ap (λ (w : ℕ). wait_of (is_act c.args.command.now) w c.args.deadline) window ∙ ap (λ (d : ℕ). wait_of (is_act c.args.command.now) h.timing.nabo d) deadline)
    c.saturating_add.ensures (c.ending.ensures.within clock small)

pub returns-in-None-clause-within : goal.returns-in-None-clause-within
returns-in-None-clause-within c = λ h log stands window deadline clock small.
    calm_is h clock c.args.command.now log c.starting.result (sym (c.raised.ensures.log h log stands) ∙ c.in-None.is) (c.starting.ensures.within clock small)
