use Rattle.std.proofs.Common.{refl}
use Rattle.ddr_cli.proofs.form.spare_form.Goals as goal

pub returns-in-None-clause-none : goal.returns-in-None-clause-none
returns-in-None-clause-none c = λ _ dead named. c.in-None.ensures.none refl dead named
