use Rattle.std.proofs.Common.{◌∙◌, [], ap, subst, sym}
use Rattle.ddr_io.specs.Line.{next_bytes}
use Rattle.ddr_io.specs.declared.status.Status.{Status}
use Rattle.ddr_text.specs.Io.{io}
use Rattle.ddr_text.specs.Apart.{IsApart, IsApartAnswer}
use Rattle.ddr_text.specs.Outcome.{AnswersAs}
use Rattle.ddr_text.specs.declared.opening.Apart.TheVariants.{Accepted}
use Rattle.ddr_text.specs.ReportReading.{Place}
use Rattle.ddr_cli.specs.Upgraded.{IsUpgraded}
use Rattle.ddr_cli.proofs.UpgradeLemmas.{apart_at, upgrades-accepted, upgrades-cut, upgrades-nothing, upgrades-refused}
use Rattle.ddr_cli.proofs.upgrading.upgrade.Goals as goal

pub returns-in-Ok-clause-answer : goal.returns-in-Ok-clause-answer
returns-in-Ok-clause-answer g c =
    let old = g.S.Source.left c.args.source.now in
    let mid = g.S.Source.left c.open_apart.new.source in
    let accepted = c.in-Ok-Accepted in
    let opened = apart_at c.new-reader.result old (next_bytes c.open_apart.new.reader.held mid) _ _ c.new-reader.ensures accepted.field-0-is accepted.ensures.opening in
    let held : IsApart (next_bytes [] old) (next_bytes c.new-lines.result.reader.held mid) (Accepted accepted.header accepted.text accepted.separator)
    = subst (λ (p : Place). IsApart (next_bytes [] old) (next_bytes p.reader.held mid) (Accepted accepted.header accepted.text accepted.separator)) (sym c.new-lines.ensures) opened in
    let known = subst IsApartAnswer accepted.field-0-is accepted.ensures.answer in
    upgrades-accepted c.report_lines.ensures c.write_behind.result old mid (g.S.Source.left c.write_behind.new.source) (g.K.Sink.written c.args.sink.now) (g.K.Sink.written c.put_heading.new.sink) (g.K.Sink.written c.write_behind.new.sink)
    c.new-lines.result.reader.held accepted.header accepted.text accepted.separator c.new-lines.result
    (ap (λ (p : Place). p.shape) c.new-lines.ensures ∙ c.geometry.ensures)
    (ap (λ (p : Place). p.stage) c.new-lines.ensures)
    (ap (λ (p : Place). p.number) c.new-lines.ensures)
    held (known.1, known.2) c.in-Ok.ensures.whole c.write_behind.ensures.written

pub returns-in-Ok-Accepted-clause-answer : goal.returns-in-Ok-Accepted-clause-answer
returns-in-Ok-Accepted-clause-answer g c =
    let old = g.S.Source.left c.args.source.now in
    let mid = next_bytes c.open_apart.new.reader.held (g.S.Source.left c.open_apart.new.source) in
    let accepted = c.in-Ok-Accepted in
    let opened = apart_at c.new-reader.result old mid _ _ c.new-reader.ensures accepted.field-0-is accepted.ensures.opening in
    let known = subst IsApartAnswer accepted.field-0-is accepted.ensures.answer in
    subst (λ (t : Status). AnswersAs (IsUpgraded old) t (io old (g.S.Source.left c.open_apart.new.source) (g.K.Sink.written c.args.sink.now) (g.K.Sink.written c.put_heading.new.sink))) (sym c.status.ensures)
    (upgrades-cut c.report_lines.ensures c.in-Err-put_heading.stop (g.K.Sink.faults c.args.sink.now) (g.K.Sink.faults c.put_heading.new.sink) old (g.S.Source.left c.open_apart.new.source) mid (g.K.Sink.written c.args.sink.now) (g.K.Sink.written c.put_heading.new.sink)
    accepted.header accepted.text accepted.separator opened (known.1, known.2) c.in-Err-put_heading.ensures.writes_a_prefix c.in-Err-put_heading.ensures.cause)

pub returns-in-Ok-Refused-clause-answer : goal.returns-in-Ok-Refused-clause-answer
returns-in-Ok-Refused-clause-answer g c =
    let old = g.S.Source.left c.args.source.now in
    let mid = next_bytes c.open_apart.new.reader.held (g.S.Source.left c.open_apart.new.source) in
    upgrades-refused c.refuse.result old mid (g.S.Source.left c.open_apart.new.source) (g.K.Sink.written c.args.sink.now) (g.K.Sink.written c.refuse.new.sink) c.in-Ok-Refused.reason
    (apart_at c.new-reader.result old mid _ _ c.new-reader.ensures c.in-Ok-Refused.field-0-is c.in-Ok-Refused.ensures.opening) c.refuse.ensures.written

pub returns-in-Ok-Failed-clause-answer : goal.returns-in-Ok-Failed-clause-answer
returns-in-Ok-Failed-clause-answer g c = upgrades-nothing (g.S.Source.left c.args.source.now) (g.K.Sink.written c.args.sink.now)

pub returns-clause-answer : goal.returns-clause-answer
returns-clause-answer g c = upgrades-nothing (g.S.Source.left c.args.source.now) (g.K.Sink.written c.args.sink.now)
