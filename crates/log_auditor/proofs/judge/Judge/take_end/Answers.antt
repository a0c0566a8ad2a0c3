use Rattle.std.proofs.Common.{◌∙◌, sym}
use Rattle.log_auditor.proofs.Taking.{end_breaks, end_broken_before, end_fine, fine_so_far}
use Rattle.log_auditor.proofs.judge.Judge.take_end.Goals as goal

pub returns-in-Some-clause-verdict : goal.returns-in-Some-clause-verdict
returns-in-Some-clause-verdict c = λ h log keeps.
    let opened = sym c.is_open.ensures ∙ c.if-is_open.true in
    let parts = keeps.parts (fine_so_far c.args.self.now h log keeps opened) in
    end_breaks c.args.self.now h c.args.clock log c.in-Some.rule keeps opened (sym (c.broken_at_end.ensures h log parts) ∙ c.in-Some.is)

pub returns-in-None-clause-verdict : goal.returns-in-None-clause-verdict
returns-in-None-clause-verdict c = λ h log keeps.
    let opened = sym c.is_open.ensures ∙ c.if-is_open.true in
    let parts = keeps.parts (fine_so_far c.args.self.now h log keeps opened) in
    end_fine c.args.self.now h c.args.clock log keeps opened (sym (c.broken_at_end.ensures h log parts) ∙ c.in-None.is)

pub returns-else-is_open-clause-verdict : goal.returns-else-is_open-clause-verdict
returns-else-is_open-clause-verdict c = λ h log keeps. end_broken_before c.args.self.now h c.args.clock log keeps (sym c.is_open.ensures ∙ c.if-is_open.false)
