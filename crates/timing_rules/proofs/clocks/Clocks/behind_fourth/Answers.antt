use Rattle.std.proofs.Common.{ℕ, ◌≡◌, ◌∙◌, ap, slice_get}
use Rattle.circular_buffer.specs.Buffer.{Buffer}
use Rattle.timing_rules.specs.Gate.{act_clocks}
use Rattle.timing_rules.proofs.Window.{window_row, fourth_kept}
use Rattle.timing_rules.proofs.clocks.Clocks.behind_fourth.Goals as goal

pub returns : goal.returns
returns c = λ t log s command act clock.
    let kept : c.copied-first.result ≡ slice_get (act_clocks log) 3 = c.copied-first.ensures ∙ c.get.ensures ∙ ap (λ (b : Buffer ℕ). slice_get b.items 3) s.window ∙ fourth_kept (act_clocks log) in
    window_row c.args.self.now.timing log command c.copied-first.result c.behind.result s.small kept c.behind.ensures act clock
