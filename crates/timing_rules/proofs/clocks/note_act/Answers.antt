use Rattle.std.proofs.Common.{◌∙◌, List, ℕ, take, sym, ap}
use Rattle.circular_buffer.specs.Buffer.{buffer}
use Rattle.timing_rules.specs.Gate.{act_clocks}
use Rattle.timing_rules.proofs.Window.{window_pushed, acts_more, acts_same}
use Rattle.timing_rules.proofs.clocks.note_act.Goals as goal

pub returns-then-is_act : goal.returns-then-is_act
returns-then-is_act c = λ log kept.
    c.push_front.ensures.items
    ∙ window_pushed c.args.window.now (act_clocks log) c.args.clock kept
    ∙ ap (λ (xs : List ℕ). buffer (take 4 xs) 4) (sym (acts_more c.args.clock c.args.command.now log (sym c.is_act.ensures ∙ c.if-is_act.true)))

pub returns-else-is_act : goal.returns-else-is_act
returns-else-is_act c = λ log kept.
    kept ∙ ap (λ (xs : List ℕ). buffer (take 4 xs) 4) (sym (acts_same c.args.clock c.args.command.now log (sym c.is_act.ensures ∙ c.if-is_act.false)))
