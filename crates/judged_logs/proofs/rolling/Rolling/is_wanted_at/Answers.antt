use Rattle.std.proofs.Common.{◌∙◌, ap}
use Rattle.rfm_counts.specs.Held.{is_high_at}
use Rattle.judged_logs.proofs.Wanting.{high_is_wanted}
use Rattle.judged_logs.proofs.rolling.Rolling.is_wanted_at.Goals as goal

pub returns : goal.returns
returns c = λ h log stands. c.is_high_at.ensures ∙ ap (λ a. is_high_at c.args.self.now a) c.get.ensures.number ∙ high_is_wanted c.args.self.now h log c.args.address stands
