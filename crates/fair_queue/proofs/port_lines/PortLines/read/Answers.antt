use Rattle.std.proofs.Common.{◌≡◌, ◌∙◌, [], ap, refl, sym, subst}
use Rattle.ddr_io.specs.Line.{next_bytes}
use Rattle.ddr_io.specs.declared.line_reader.Line.TheVariants.{Text}
use Rattle.fair_queue.specs.Reading.{Place, EndsAt, MayGoOn, unread}
use Rattle.fair_queue.specs.declared.port_lines.Ahead.{Ahead}
use Rattle.fair_queue.specs.declared.port_lines.Ahead.TheVariants.{Unknown, Bad, End}
use Rattle.fair_queue.proofs.Parts.{ends_end, from-unread, unread-unknown, same_text, same_long, same_unended, same_end}
use Rattle.fair_queue.proofs.port_lines.PortLines.read.Goals as goal

pub returns-in-Text-clause-same : goal.returns-in-Text-clause-same
returns-in-Text-clause-same g c =
    let first : Place = record { reader = c.self.inside.reader; number = c.self.inside.number; ahead = c.self.inside.ahead } in
    let after : Place = record { reader = c.next_line.new.self; number = c.self.inside.number; ahead = c.self.inside.ahead } in
    let unknown : c.self.inside.ahead ≡ Unknown = ap (λ (p : Place). p.ahead) c.self.view_is ∙ c.requires in
    let last : c.self.inside.reader.last ≡ Text = subst (λ (a : Ahead). MayGoOn a c.self.inside.reader.last) unknown c.self.invariant.1 in
    rw (← c.self.view_is) (from-unread first c.judge.new.self (g.S.Source.left c.args.source.now) (unread c.judge.new.self (g.S.Source.left c.next_line.new.source)) unknown (same_text c.lines_are_parts.ensures first after c.judge.new.self (next_bytes c.self.inside.reader.held (g.S.Source.left c.args.source.now)) (g.S.Source.left c.next_line.new.source) unknown refl (c.in-Text.ensures.found last) c.judge.ensures))

pub returns-in-TooLong-clause-same : goal.returns-in-TooLong-clause-same
returns-in-TooLong-clause-same g c =
    let first : Place = record { reader = c.self.inside.reader; number = c.self.inside.number; ahead = c.self.inside.ahead } in
    let unknown : c.self.inside.ahead ≡ Unknown = ap (λ (p : Place). p.ahead) c.self.view_is ∙ c.requires in
    let last : c.self.inside.reader.last ≡ Text = subst (λ (a : Ahead). MayGoOn a c.self.inside.reader.last) unknown c.self.invariant.1 in
    rw (← c.self.view_is) (from-unread first (record { reader = c.next_line.new.self; number = c.self.inside.number; ahead = Bad }) (g.S.Source.left c.args.source.now) (next_bytes [] (g.S.Source.left c.next_line.new.source)) unknown (same_long c.lines_are_parts.ensures first c.next_line.new.self c.self.inside.number c.self.inside.reader.held (g.S.Source.left c.args.source.now) (g.S.Source.left c.next_line.new.source) c.next_line.new.self.line unknown (c.in-TooLong.ensures.found last) (c.in-TooLong.ensures.at_stop last)))

pub returns-in-Unended-clause-same : goal.returns-in-Unended-clause-same
returns-in-Unended-clause-same g c =
    let first : Place = record { reader = c.self.inside.reader; number = c.self.inside.number; ahead = c.self.inside.ahead } in
    let unknown : c.self.inside.ahead ≡ Unknown = ap (λ (p : Place). p.ahead) c.self.view_is ∙ c.requires in
    let last : c.self.inside.reader.last ≡ Text = subst (λ (a : Ahead). MayGoOn a c.self.inside.reader.last) unknown c.self.invariant.1 in
    rw (← c.self.view_is) (from-unread first (record { reader = c.next_line.new.self; number = c.self.inside.number; ahead = Bad }) (g.S.Source.left c.args.source.now) (next_bytes [] (g.S.Source.left c.next_line.new.source)) unknown (same_unended c.lines_are_parts.ensures first c.next_line.new.self c.self.inside.number c.self.inside.reader.held (g.S.Source.left c.args.source.now) (g.S.Source.left c.next_line.new.source) c.next_line.new.self.line unknown (c.in-Unended.ensures.found last) (c.in-Unended.ensures.at_stop last)))

pub returns-in-End-clause-same : goal.returns-in-End-clause-same
returns-in-End-clause-same g c =
    let first : Place = record { reader = c.self.inside.reader; number = c.self.inside.number; ahead = c.self.inside.ahead } in
    let unknown : c.self.inside.ahead ≡ Unknown = ap (λ (p : Place). p.ahead) c.self.view_is ∙ c.requires in
    let last : c.self.inside.reader.last ≡ Text = subst (λ (a : Ahead). MayGoOn a c.self.inside.reader.last) unknown c.self.invariant.1 in
    rw (← c.self.view_is) (from-unread first (record { reader = c.next_line.new.self; number = c.self.inside.number; ahead = End }) (g.S.Source.left c.args.source.now) (next_bytes c.next_line.new.self.held (g.S.Source.left c.next_line.new.source)) unknown (same_end c.lines_are_parts.ensures first c.next_line.new.self c.self.inside.number (next_bytes c.self.inside.reader.held (g.S.Source.left c.args.source.now)) (g.S.Source.left c.next_line.new.source) c.next_line.new.self.line unknown (c.in-End.ensures.found last)))

pub returns-in-End-clause-ended : goal.returns-in-End-clause-ended
returns-in-End-clause-ended g c =
    let first : Place = record { reader = c.self.inside.reader; number = c.self.inside.number; ahead = c.self.inside.ahead } in
    let unknown : c.self.inside.ahead ≡ Unknown = ap (λ (p : Place). p.ahead) c.self.view_is ∙ c.requires in
    let last : c.self.inside.reader.last ≡ Text = subst (λ (a : Ahead). MayGoOn a c.self.inside.reader.last) unknown c.self.invariant.1 in
    let after = next_bytes c.next_line.new.self.held (g.S.Source.left c.next_line.new.source) in
    rw (← c.self.view_is) (subst (λ b. EndsAt b End after) (sym (unread-unknown first (g.S.Source.left c.args.source.now) unknown))
    (ends_end (next_bytes c.self.inside.reader.held (g.S.Source.left c.args.source.now)) after c.next_line.new.self.line (c.in-End.ensures.found last)))
