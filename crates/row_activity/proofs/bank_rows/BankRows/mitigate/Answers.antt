use Rattle.std.proofs.Common.{◌∷◌, ◌∙◌, nat_le, sym, ap, subst}
use Rattle.row_counts.specs.Held.{Held}
use Rattle.row_counts.specs.Standing.{StandsFor as CountsFor}
use Rattle.speed_bin.specs.declared.settings.Settings.{Settings}
use Rattle.row_activity.specs.Standing.{greatest_count}
use Rattle.row_activity.proofs.bank_rows.BankRows.mitigate.Goals as goal

pub returns-then-thresholds-greatest : goal.returns-then-thresholds-greatest
returns-then-thresholds-greatest c = λ h b clock command log stands same manages.
    let counts = c.mitigate.ensures.log h b clock command log stands.counts manages in
    record {
      counts = subst (λ (it : Held). CountsFor it h b (record { clock = clock; command = command } ∷ log)) (sym c.note_hot.ensures.counts) counts;
      is_hot = c.note_hot.ensures.hot h b (record { clock = clock; command = command } ∷ log) counts ∙ ap (λ (s : Settings). nat_le s.ath (greatest_count h b (record { clock = clock; command = command } ∷ log))) (sym same);
    }
