use Rattle.std.proofs.Common.{ℕ, ◌∙◌, ap, set, Some, None, ◌≡◌}
use Rattle.bank_state.proofs.Steps.{stands_after, stands_act, stands_close, stands_close_all}
use Rattle.bank_state.proofs.open_rows.Banks.issue.Goals as goal

pub returns-in-Act : goal.returns-in-Act
returns-in-Act c =
    let rows : c.set_row.new.self ≡ _ = c.set_row.ensures ∙ ap (λ (n : ℕ). set c.args.self.now n (Some c.in-Act.row)) c.number.ensures.number in
    rw c.in-Act.is (stands_act c.args.self.now c.set_row.new.self c.in-Act.bank c.in-Act.row rows)

pub returns-in-PrePb : goal.returns-in-PrePb
returns-in-PrePb c =
    let rows : c.set_row-in-PrePb.new.self ≡ _ = c.set_row-in-PrePb.ensures ∙ ap (λ (n : ℕ). set c.args.self.now n None) c.number-in-PrePb.ensures.number in
    rw c.in-PrePb.is (stands_close c.args.self.now c.set_row-in-PrePb.new.self c.in-PrePb.bank rows)

pub returns-in-PreSb : goal.returns-in-PreSb
returns-in-PreSb c = rw c.in-PreSb.is (stands_after c.args.self.now c.close_at.new.self _ c.close_at.ensures.length (λ b low long. c.close_at.ensures.closes b low))

pub returns-in-PreAb : goal.returns-in-PreAb
returns-in-PreAb c = rw c.in-PreAb.is (stands_close_all c.args.self.now c.close_all.new.self c.close_all.ensures)
