use Rattle.std.proofs.Common.{refl}
use Rattle.ddr_cli.proofs.NumberWords.{number-found, number-none}
use Rattle.ddr_cli.proofs.form.number_behind.Goals as goal

pub returns-then-not-begins_with-clause-none : goal.returns-then-not-begins_with-clause-none
returns-then-not-begins_with-clause-none c = λ none number named. c.if-not-begins_with.ensures.other refl named.0 named.1

pub returns-clause-found : goal.returns-clause-found
returns-clause-found c = number-found c.args.least c.args.most c.args.word.now c.args.words.now c.behind_first.result.now c.only_number.result (c.if-not-begins_with.ensures.same refl) c.behind_first.ensures c.only_number.ensures

pub returns-clause-none : goal.returns-clause-none
returns-clause-none c = number-none c.args.least c.args.most c.args.word.now c.args.words.now c.behind_first.result.now c.only_number.result (c.if-not-begins_with.ensures.same refl) c.behind_first.ensures c.only_number.ensures
