use Rattle.std.proofs.Common.{◌≡◌, [], ap, refl, sym, ◌∙◌, subst}
use Rattle.ddr_text.proofs.CheckNumbers.{refused_header, stated_ok}
use Rattle.ddr_text.specs.Opening.{Refuses, judged}
use Rattle.speed_bin.specs.Document.{header_stated}
use Rattle.ddr_text.proofs.opening.judge.Goals as goal

pub returns-in-Ok-clause-answer : goal.returns-in-Ok-clause-answer
returns-in-Ok-clause-answer c =
    let (line, whole, role) = c.requires in
    let read = stated_ok c.args.version c.bytes.result.now c.in-Ok.header _ c.in-Ok.is c.read_header.ensures.stated in
    let states = ap (header_stated c.args.version) (sym c.bytes.ensures) ∙ read in (
      c.in-Ok.ensures.accepted,
      record { text = c.args.text; separator = line; version = c.args.version },
      record { text_is = refl; separator_is = whole; stated = states },
      role,
    )

pub number-requires : goal.number-requires
number-requires c = (refused_header c.args.version c.bytes.result.now c.in-Err.fault c.in-Some.reason _ c.in-Err.is (sym c.of_header.ensures ∙ c.in-Some.is) c.read_header.ensures.stated).0.0

pub returns-in-Some-clause-judged : goal.returns-in-Some-clause-judged
returns-in-Some-clause-judged c =
    let told = refused_header c.args.version c.bytes.result.now c.in-Err.fault c.in-Some.reason _ c.in-Err.is (sym c.of_header.ensures ∙ c.in-Some.is) c.read_header.ensures.stated in
    subst (λ t. judged t [] (header_stated c.args.version t) ≡ Refuses c.number.result) c.bytes.ensures (told.1 ∙ ap Refuses (sym c.number.ensures))

pub returns-in-Some-clause-answer : goal.returns-in-Some-clause-answer
returns-in-Some-clause-answer c =
    let told = refused_header c.args.version c.bytes.result.now c.in-Err.fault c.in-Some.reason _ c.in-Err.is (sym c.of_header.ensures ∙ c.in-Some.is) c.read_header.ensures.stated in
    rw c.number.ensures told.0.1
