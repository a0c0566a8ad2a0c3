use Rattle.std.proofs.Common.{refl}
use Rattle.ddr_cli.proofs.NumberWords.{none_asked}
use Rattle.ddr_cli.proofs.form.ports_form.Goals as goal

pub returns-in-None-cap_behind-clause-none : goal.returns-in-None-cap_behind-clause-none
returns-in-None-cap_behind-clause-none c = λ same asks. none_asked c.args.words.now (c.in-None.ensures.none refl) (c.in-None-cap_behind.ensures.none refl) asks
