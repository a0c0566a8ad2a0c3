use Rattle.std.proofs.Common.{◌∙◌, ap, drop, map, refl, string_bytes, sym}
use Rattle.made_jobs.specs.Words.{seed_and_requests}
use Rattle.ddr_cli.proofs.MadeWords.{none_behind_run}
use Rattle.ddr_cli.proofs.form.made_form.Goals as goal

pub returns-in-None-clause-none : goal.returns-in-None-clause-none
returns-in-None-clause-none c = λ _.
    let words = c.args.words.now in
    let run = ap (map string_bytes) (sym c.behind_first-rest.ensures) ∙ c.if-begins_with.ensures.same refl in
    none_behind_run words (map string_bytes (drop 1 words)) _ (c.if-not-begins_with.ensures.same refl) run (sym c.in-None.is ∙ c.read_words.ensures ∙ ap (λ l. seed_and_requests (map string_bytes l)) c.behind_first.ensures)
