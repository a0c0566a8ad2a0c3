-- Tests of the numbers below a number, and what is hot.
use Rattle.std.proofs.Common.{◌≡◌, ◌∙◌, ℕ, zero, suc, ◌<◌, Bool, true, false, nat_le, refl, sym, ap, arith, List, length, leb-true, le-leb}
use Rattle.speed_bin.specs.declared.header.Header.{Header}
use Rattle.speed_bin.specs.Alert.{is_hot}
use Rattle.speed_bin.specs.Below.{any_below}
use Rattle.speed_bin.specs.Counters.{Counter, counters, count_of, tracked, cnt}
use Rattle.speed_bin.specs.Header.{IsAccepted}
use Rattle.speed_bin.specs.Log.{Log}
use Rattle.speed_bin.proofs.Rows.{tracked_greatest, tracked_inside}
use Rattle.speed_bin.proofs.Tests.{any_below_at, any_below_none, any_below_same}
use Rattle.row_activity.specs.Counted.{AllCounted}
use Rattle.row_activity.specs.Standing.{BankFor, bank_at, greatest_count}
use Rattle.row_activity.specs.declared.bank_rows.BankRows.{BankRows}
use Rattle.row_activity.proofs.Counting.{sound}

-- some counter is at least a threshold exactly where the greatest is
hot_counters : (ath : ℕ) (cs : List Counter) → 0 < length cs → any_below (length cs) (λ row. nat_le ath (count_of cs row)) ≡ nat_le ath (count_of cs (tracked cs))
hot_counters ath cs some = go (nat_le ath (count_of cs (tracked cs))) refl
  where
    go : (t : Bool) → nat_le ath (count_of cs (tracked cs)) ≡ t → any_below (length cs) (λ row. nat_le ath (count_of cs row)) ≡ t
    go true e = any_below_at (length cs) (λ row. nat_le ath (count_of cs row)) (tracked cs) (tracked_inside cs some) e
    go false e = any_below_none (length cs) (λ row. nat_le ath (count_of cs row)) (λ row low. cold row (nat_le ath (count_of cs row)) refl)
      where
        cold : (row : ℕ) (t : Bool) → nat_le ath (count_of cs row) ≡ t → t ≡ false
        cold row false k = refl
        cold row true k =
            let high = leb-true ath (count_of cs row) k in
            let top = tracked_greatest cs row in
            let contrary : nat_le ath (count_of cs (tracked cs)) ≡ true = le-leb ath (count_of cs (tracked cs)) (omega arith) in
            absurd (cc)

hot_bank : (h : Header) (b : ℕ) (log : Log) → IsAccepted h → AllCounted h log → b < 32 → any_below h.settings.rows (λ row. nat_le h.settings.ath (cnt h b row log)) ≡ nat_le h.settings.ath (greatest_count h b log)
hot_bank h b log accepted counted low =
    let long = (sound h b log accepted counted low).long in
    let rows = accepted.settings.rows.0 in
    ap (λ (n : ℕ). any_below n (λ row. nat_le h.settings.ath (cnt h b row log))) (sym long)
    ∙ hot_counters h.settings.ath (counters h b log) (omega arith)

-- some bank is hot exactly where one is known to be
pub hot_is : (banks : List BankRows) (h : Header) (log : Log) → IsAccepted h → AllCounted h log → ((b : ℕ) → b < 32 → BankFor (bank_at banks b) h b log) → any_below 32 (λ b. (bank_at banks b).is_hot) ≡ is_hot h log
hot_is banks h log accepted counted each =
    any_below_same 32 (λ b. (bank_at banks b).is_hot) (λ b. any_below h.settings.rows (λ row. nat_le h.settings.ath (cnt h b row log)))
    (λ b low. (each b low).is_hot ∙ sym (hot_bank h b log accepted counted low))
