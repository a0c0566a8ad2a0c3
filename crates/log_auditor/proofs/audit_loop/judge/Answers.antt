use Rattle.std.proofs.Common.{◌∙◌, refl, sym}
use Rattle.log_auditor.specs.Findings.{log_of}
use Rattle.log_auditor.proofs.Auditions.{audited_broken, audited_other, audited_place, only_fine, place_open}
use Rattle.log_auditor.proofs.Taking.{goes_on, line_inside}
use Rattle.log_auditor.proofs.audit_loop.judge.Goals as goal

pub returns-then-not-is_fine : goal.returns-then-not-is_fine
returns-then-not-is_fine c = λ h stage after lines audited inside stands.
    audited_broken h stage after c.args.number c.args.finding c.args.auditor.now lines c.args.line.now audited stands (sym c.is_fine.ensures ∙ c.if-not-is_fine.true)

pub returns-then-not-is_place : goal.returns-then-not-is_place
returns-then-not-is_place c = λ h stage after lines audited inside stands.
    audited_other h stage after c.args.number c.args.finding c.args.auditor.now lines c.args.line.now audited stands (sym c.is_place.ensures ∙ c.if-not-is_place.true)

pub take-requires-clause-going_on : goal.take-requires-clause-going_on
take-requires-clause-going_on c =
    let m = c.requires in
    let fine = sym c.is_fine.ensures ∙ c.if-not-is_fine.false in
    let place = sym c.is_place.ensures ∙ c.if-not-is_place.false in
    goes_on c.args.auditor.now m.0 (log_of m.3) (m.4.stands (only_fine c.args.finding fine) (place_open m.1 m.2 c.args.line.now m.6 place))

pub take-requires-clause-inside : goal.take-requires-clause-inside
take-requires-clause-inside c =
    let m = c.requires in
    let fine = sym c.is_fine.ensures ∙ c.if-not-is_fine.false in
    let place = sym c.is_place.ensures ∙ c.if-not-is_place.false in
    line_inside c.args.auditor.now m.0 (log_of m.3) c.args.line.now (m.4.stands (only_fine c.args.finding fine) (place_open m.1 m.2 c.args.line.now m.6 place)) m.5

pub returns-in-Fine : goal.returns-in-Fine
returns-in-Fine c = λ h stage after lines audited inside stands.
    let fine = sym c.is_fine.ensures ∙ c.if-not-is_fine.false in
    let place = sym c.is_place.ensures ∙ c.if-not-is_place.false in
    audited_place h stage after c.args.number c.args.finding c.args.auditor.now c.take.new.self lines c.args.line.now _ _ audited stands fine place
    (c.in-Fine.ensures.taken h (log_of lines) (audited.stands (only_fine c.args.finding fine) (place_open stage after c.args.line.now stands place))) refl

pub returns-in-Breaks : goal.returns-in-Breaks
returns-in-Breaks c = λ h stage after lines audited inside stands.
    let fine = sym c.is_fine.ensures ∙ c.if-not-is_fine.false in
    let place = sym c.is_place.ensures ∙ c.if-not-is_place.false in
    audited_place h stage after c.args.number c.args.finding c.args.auditor.now c.take.new.self lines c.args.line.now _ _ audited stands fine place
    (c.in-Breaks.ensures.taken h (log_of lines) (audited.stands (only_fine c.args.finding fine) (place_open stage after c.args.line.now stands place))) refl
