use Rattle.std.proofs.Common.{◌≡◌, ◌∙◌, ◌∷◌, sym, ap, true, codes}
use Rattle.std.specs.Option.{option_copied}
use Rattle.std.specs.Str.{bytes_eq}
use Rattle.ddr_text.specs.Fields.{fields_after}
use Rattle.ddr_text.specs.Grammar.{fields_of}
use Rattle.ddr_text.specs.Separator.{ends_or_faulty, version_in}
use Rattle.ddr_text.proofs.Separators.{role_some}
use Rattle.ddr_text.proofs.separator.role_of.Goals as goal

pub returns-in-Some : goal.returns-in-Some
returns-in-Some c =
    let same : bytes_eq c.cut.result.0.now (codes "---") ≡ true = sym c.is_dashes.ensures ∙ c.if-not-is_dashes.false in
    let rest = ap (λ o. fields_after (option_copied o)) c.in-Some.is in
    let is : fields_of c.args.line.now ≡ c.cut.result.0.now ∷ fields_of c.in-Some.field-0.now = c.cut.ensures ∙ ap (λ fields. c.cut.result.0.now ∷ fields) rest in
    c.ends_or_faulty.ensures ∙ ap ends_or_faulty (c.version_in.ensures ∙ ap version_in rest) ∙ sym (role_some c.args.line.now c.cut.result.0.now c.in-Some.field-0.now is same)
