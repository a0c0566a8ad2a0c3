use Rattle.std.proofs.Common.{◌∙◌, ◌∷◌, [], ap, Bool}
use Rattle.speed_bin.specs.Rules.{first_failing}
use Rattle.judged_logs.proofs.rolling.Rolling.broken.Goals as goal

pub returns-in-Act : goal.returns-in-Act
returns-in-Act c = λ h log stands. rw c.in-Act.is (c.failing.ensures ∙ ap (λ (t : Bool). first_failing 9 (t ∷ [])) (c.may_activate.ensures h log c.in-Act.field-1 stands))
