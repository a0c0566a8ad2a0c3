use Rattle.std.proofs.Common.{sym}
use Rattle.command_words.specs.Kinds.{is_mrw}
use Rattle.row_activity.specs.Standing.{StandsFor, bank_at}
use Rattle.row_activity.proofs.RowLemmas.{all_banks}
use Rattle.row_activity.proofs.BankLemmas.{later_spared, others_spare, no_rfm_all, must_be, mrw_alone}
use Rattle.row_activity.proofs.activity.Activity.track.Goals as goal

pub returns-in_default-clause-banks : goal.returns-in_default-clause-banks
returns-in_default-clause-banks c = all_banks c.args.self.now c.args.open_rows.now c.args.clock c.args.command.now c.requires

pub returns-in_default-clause-tracks : goal.returns-in_default-clause-tracks
unfolding StandsFor
returns-in_default-clause-tracks c = λ h log stands rows here told.
    let write = must_be (is_mrw c.args.command.now) (λ e. c.in_default.not-Some h.settings (told e)) in
    let alone = mrw_alone c.args.command.now write in
    record {
      counts = λ b low. later_spared c.stays-2.ensures.log (bank_at c.args.self.now.banks.items b) h b c.args.clock c.args.command.now log (stands.counts b low) (others_spare b c.args.command.now alone.0 alone.1);
      alert = c.stays.ensures.log c.args.self.now.alert h c.args.clock c.args.command.now log stands.alert alone.0 (no_rfm_all c.args.command.now alone.1);
    }

pub returns-else-is_rfm-clause-banks : goal.returns-else-is_rfm-clause-banks
returns-else-is_rfm-clause-banks c = all_banks c.args.self.now c.args.open_rows.now c.args.clock c.args.command.now c.requires

pub returns-else-is_rfm-clause-tracks : goal.returns-else-is_rfm-clause-tracks
unfolding StandsFor
returns-else-is_rfm-clause-tracks c = λ h log stands rows here told. record {
  counts = λ b low. later_spared c.stays-2.ensures.log (bank_at c.args.self.now.banks.items b) h b c.args.clock c.args.command.now log (stands.counts b low) (others_spare b c.args.command.now (sym c.if-is_precharge.ensures) (sym c.if-is_rfm.ensures));
  alert = c.stays.ensures.log c.args.self.now.alert h c.args.clock c.args.command.now log stands.alert (sym c.if-is_precharge.ensures) (no_rfm_all c.args.command.now (sym c.if-is_rfm.ensures));
}
