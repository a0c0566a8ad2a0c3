use Rattle.bank_state.proofs.Fitting.{right, wrong, never_fits, same_fault}
use Rattle.bank_state.proofs.open_rows.Banks.fits.Goals as goal

pub returns-then-is_fit : goal.returns-then-is_fit
returns-then-is_fit c = record {
  fits = λ log stands. (λ ok. (right c.args.command.now log (c.if-is_fit.ensures log stands)).fits, λ fits. search);
  is_open = λ log stands. (λ e. absurd cc, λ p. absurd ((right c.args.command.now log (c.if-is_fit.ensures log stands)).four p.1));
  is_closed = λ log stands. (λ e. absurd cc, λ p. absurd ((right c.args.command.now log (c.if-is_fit.ensures log stands)).four p.1));
  not_all_closed = λ log stands. (λ e. absurd cc, λ e. absurd ((right c.args.command.now log (c.if-is_fit.ensures log stands)).five e));
}

pub returns-else-is_fit : goal.returns-else-is_fit
returns-else-is_fit c = record {
  fits = λ log stands. (λ ok. absurd cc, λ fits. absurd (never_fits c.args.command.now log (c.if-is_fit.ensures log stands) fits));
  is_open = λ log stands. same_fault _ c.args.command.now _ _ c.fault_of.ensures (wrong c.args.command.now log (c.if-is_fit.ensures log stands)).is_open;
  is_closed = λ log stands. same_fault _ c.args.command.now _ _ c.fault_of.ensures (wrong c.args.command.now log (c.if-is_fit.ensures log stands)).is_closed;
  not_all_closed = λ log stands. same_fault _ c.args.command.now _ _ c.fault_of.ensures (wrong c.args.command.now log (c.if-is_fit.ensures log stands)).not_all_closed;
}
