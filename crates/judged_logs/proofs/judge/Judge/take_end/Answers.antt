use Rattle.std.proofs.Common.{◌∙◌, sym}
use Rattle.judged_logs.proofs.Taking.{end_breaks, end_broken_before, end_fine, own_end, own_parts}
use Rattle.judged_logs.proofs.judge.Judge.take_end.Goals as goal

pub returns-in-Some-clause-verdict : goal.returns-in-Some-clause-verdict
returns-in-Some-clause-verdict c = λ j h log keeps.
    let opened = sym c.is_open.ensures ∙ c.if-is_open.true in
    let parts = own_parts c.args.self.now j h log keeps opened in
    end_breaks c.args.self.now j h c.args.clock log c.in-Some.rule keeps opened (own_end c.args.self.now j h c.args.clock log keeps ∙ sym (c.broken_at_end.ensures h log parts) ∙ c.in-Some.is)

pub returns-in-None-clause-verdict : goal.returns-in-None-clause-verdict
returns-in-None-clause-verdict c = λ j h log keeps.
    let opened = sym c.is_open.ensures ∙ c.if-is_open.true in
    let parts = own_parts c.args.self.now j h log keeps opened in
    end_fine c.args.self.now j h c.args.clock log keeps opened (own_end c.args.self.now j h c.args.clock log keeps ∙ sym (c.broken_at_end.ensures h log parts) ∙ c.in-None.is)

pub returns-else-is_open-clause-verdict : goal.returns-else-is_open-clause-verdict
returns-else-is_open-clause-verdict c = λ j h log keeps. end_broken_before c.args.self.now j h c.args.clock log keeps (sym c.is_open.ensures ∙ c.if-is_open.false)
