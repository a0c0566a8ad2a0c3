-- A text that is no UTF-8 is no TOML; of others the table is the document that was read.
use Rattle.std.proofs.Common.{◌∙◌, sym, ap, inr}
use Rattle.toml.specs.Parse.{parse_document}
use Rattle.speed_bin.specs.Document.{header_of}
use Rattle.speed_bin.proofs.Stated.{stated_bad, stated_good}
use Rattle.speed_bin.proofs.read.read_header.Goals as goal

pub returns-in_default-clause-stated : goal.returns-in_default-clause-stated
returns-in_default-clause-stated c = inr (sym (stated_bad c.args.version c.args.text.now c.in_default.ensures.cases.0))

pub returns-in-Ok-table_from_str-clause-stated : goal.returns-in-Ok-table_from_str-clause-stated
returns-in-Ok-table_from_str-clause-stated c =
    let (same, utf8) = c.in-Ok.ensures.cases in
    inr (c.header_in.ensures.stated ∙ sym (stated_good c.args.version _ utf8 ∙ ap (header_of c.args.version) (ap parse_document (sym same) ∙ c.in-Ok-table_from_str.ensures.ok)))
